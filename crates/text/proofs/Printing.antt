-- An entry is printed exactly where its text is set: what stands in the output byte by byte. Assumes nothing.
use mathlib.Core.Path.{◌≡◌, refl, sym, ap, ◌∙◌, subst}
use mathlib.Core.Bool.{Bool, true, false}
use mathlib.Core.List.{List, [], ◌∷◌}
use mathlib.Core.Logic.{inl, inr}
use Prim.Native.Nat.{ℕ, zero, suc, ◌+◌, ◌-◌, ◌/◌, ◌%◌, ◌^◌, ◌≤◌, ◌<◌}
use native.Mathlib.Omega.{arith}
use borrow.Author.Tests.{eqb-true, eqb-false, ltb-true, ltb-false}
use lib.Dec.{eqb, ltb}
use lib.ListN.{length, get_or, drop, set, length-set}
use lib.Seq.{get_or-set_same, get_or-set_other, ext_get_or, sets, length-sets}
use Rattle.model.specs.Strings.{t*, Trits}
use Rattle.words.specs.declared.Entry.{Entry}
use Rattle.words.specs.Words.{string, trit_of}
use Rattle.words.proofs.Codec.{string_length, string_at}
use Rattle.tables.specs.declared.Table.{Table}
use Rattle.tables.specs.Values.{entries_of, GoodTable}
use Rattle.codec.proofs.Rows.{sets_append}
use Rattle.text.specs.Text.{newline, character, entry_text, entries_text}
use Rattle.text.specs.Printing.{Elsewhere, Printed}
use Rattle.text.proofs.Writing.{entry_length, here, entries_from, entry_here, here_length}

-- ---- The text of an entry

character_here : (s : Trits) (i : ℕ) → i < length s → get_or (entry_text s) i 0 ≡ character (get_or s i t*)
unfolding entry_text
character_here [] i lt = absurd (omega arith)
character_here (t ∷ s) zero lt = refl
character_here (t ∷ s) (suc i) lt = character_here s i (omega arith)

newline_here : (s : Trits) → get_or (entry_text s) (length s) 0 ≡ newline
unfolding entry_text
newline_here [] = refl
newline_here (t ∷ s) = newline_here s

-- its byte at a position
pub character_at : (l i : ℕ) (e : Entry) → i < l
    → character (trit_of (e.care / 2 ^ i % 2) (e.value / 2 ^ i % 2)) ≡ get_or (entry_text (string l e)) i 0
character_at l i e lt =
    sym (character_here (string l e) i (rw (string_length l e) lt) ∙ ap character (string_at l i e lt))

-- its last byte
pub newline_at : (l : ℕ) (e : Entry) → newline ≡ get_or (entry_text (string l e)) l 0
newline_at l e =
    sym (ap (λ (k : ℕ). get_or (entry_text (string l e)) k 0) (sym (string_length l e)) ∙ newline_here (string l e))

-- ---- A text in an output

-- The first k bytes of a text stand in an output from the place `at` on, and every other byte holds what it held.
pub record Stands (text : List ℕ) (at : ℕ) (before after : List ℕ) (k : ℕ) : Type 0 where
  pub first : (i : ℕ) → i < k → get_or after (at + i) 0 ≡ get_or text i 0
  pub others : (i : ℕ) → Elsewhere at k i → get_or after i 0 ≡ get_or before i 0
  pub long : length after ≡ length before

pub stands_start : (text : List ℕ) (at : ℕ) (before : List ℕ) → Stands text at before before 0
stands_start text at before = record { first = λ i lt. absurd (omega arith); others = λ i e. refl; long = refl }

-- one byte more
next_stands : {text : List ℕ} {at : ℕ} {before after : List ℕ} {k : ℕ} → Stands text at before after k
    → at + k < length before → (x : ℕ) → x ≡ get_or text k 0 → Stands text at before (set after (at + k) x) (k + 1)
next_stands {text} {at} {before} {after} {k} w room x e = record {
  first = λ i lt. go i lt (eqb i k) refl;
  others = λ i o. get_or-set_other after (at + k) i x 0 (apart i o) ∙ w.others i (shorter i o);
  long = length-set after (at + k) x ∙ w.long;
}
  where
    go : (i : ℕ) → i < k + 1 → (b : Bool) → eqb i k ≡ b → get_or (set after (at + k) x) (at + i) 0 ≡ get_or text i 0
    go i lt true q = rw (eqb-true i k q) (get_or-set_same after (at + k) x 0 (omega (arith, w.long)) ∙ e)
    go i lt false q =
        let other = eqb-false i k q in
        get_or-set_other after (at + k) (at + i) x 0 (λ h. other (omega (arith, h))) ∙ w.first i (omega (arith, other))

    apart : (i : ℕ) → Elsewhere at (k + 1) i → i ≡ at + k → ⊥
    apart i (inl lt) h = omega arith
    apart i (inr le) h = omega arith

    shorter : (i : ℕ) → Elsewhere at (k + 1) i → Elsewhere at k i
    shorter i (inl lt) = inl lt
    shorter i (inr le) = inr (omega arith)

-- the same, at a place and a count that are these
pub stands_turn : {text : List ℕ} {at : ℕ} {before after : List ℕ} {k place next x : ℕ} → Stands text at before after k
    → place < length before → place ≡ at + k → next ≡ k + 1 → x ≡ get_or text k 0
    → Stands text at before (set after place x) next
stands_turn {x = x} w room p n e = rw (p, n) (next_stands w (omega arith) x e)

-- a byte outside of what is set
set_outside : (text out : List ℕ) (at i : ℕ) → Elsewhere at (length text) i → get_or (sets out at text) i 0 ≡ get_or out i 0
set_outside [] out at i e = refl
set_outside (x ∷ text) out at i e =
    set_outside text (set out at x) (suc at) i (later e) ∙ get_or-set_other out at i x 0 (apart e)
  where
    later : Elsewhere at (length (x ∷ text)) i → Elsewhere (suc at) (length text) i
    later (inl lt) = inl (omega arith)
    later (inr le) = inr (omega arith)

    apart : Elsewhere at (length (x ∷ text)) i → i ≡ at → ⊥
    apart (inl lt) h = omega arith
    apart (inr le) h = omega arith

-- a byte of what is set
set_inside : (text out : List ℕ) (at i : ℕ) → i < length text → at + length text ≤ length out
    → get_or (sets out at text) (at + i) 0 ≡ get_or text i 0
set_inside [] out at i lt room = absurd (omega arith)
set_inside (x ∷ text) out at zero lt room =
    set_outside text (set out at x) (suc at) (at + 0) (inl (omega arith))
    ∙ ap (λ (k : ℕ). get_or (set out at x) k 0) (omega arith)
    ∙ get_or-set_same out at x 0 (omega arith)
set_inside (x ∷ text) out at (suc i) lt room =
    ap (λ (k : ℕ). get_or (sets (set out at x) (suc at) text) k 0) (omega arith)
    ∙ set_inside text (set out at x) (suc at) i (omega arith) (omega (arith, length-set out at x))

-- what stands from a place on, with every other byte as it was, is the output with the text set there
stands_set : (text : List ℕ) {at : ℕ} {before after : List ℕ} → Stands text at before after (length text)
    → at + length text ≤ length before → after ≡ sets before at text
stands_set text {at} {before} {after} w room =
    ext_get_or 0 after (sets before at text) (w.long ∙ sym (length-sets before at text)) (λ i lt. go i (ltb i at) refl)
  where
    same : (i : ℕ) → Elsewhere at (length text) i → get_or after i 0 ≡ get_or (sets before at text) i 0
    same i e = w.others i e ∙ sym (set_outside text before at i e)

    within : (k : ℕ) → (b : Bool) → ltb k (length text) ≡ b → get_or after (at + k) 0 ≡ get_or (sets before at text) (at + k) 0
    within k true q =
        let lt = ltb-true k (length text) q in w.first k lt ∙ sym (set_inside text before at k lt room)
    within k false q = same (at + k) (inr (omega (arith, ltb-false k (length text) q)))

    go : (i : ℕ) → (b : Bool) → ltb i at ≡ b → get_or after i 0 ≡ get_or (sets before at text) i 0
    go i true q = same i (inl (ltb-true i at q))
    go i false q =
        let e : at + (i - at) ≡ i = omega (arith, ltb-false i at q) in
        subst (λ (k : ℕ). get_or after k 0 ≡ get_or (sets before at text) k 0) e
        (within (i - at) (ltb (i - at) (length text)) refl)

-- ---- An entry in an output

-- where all of its text stands, an entry is printed
pub printed_end : {s : Trits} {at : ℕ} {before after : List ℕ} → Stands (entry_text s) at before after (length s + 1)
    → Printed s at before after
printed_end {s} w = record {
  characters = λ i lt. w.first i (omega arith) ∙ character_here s i lt;
  ended = w.first (length s) (omega arith) ∙ newline_here s;
  others = w.others;
  long = w.long;
}

-- an entry is printed where its text is set
pub printed_set : {s : Trits} {at : ℕ} {before after : List ℕ} → Printed s at before after
    → at + (length s + 1) ≤ length before → after ≡ sets before at (entry_text s)
printed_set {s} {at} {before} {after} p room =
    stands_set (entry_text s) (rw (entry_length s) standing) (rw (entry_length s) room)
  where
    byte : (i : ℕ) → i < length s + 1 → (b : Bool) → eqb i (length s) ≡ b → get_or after (at + i) 0 ≡ get_or (entry_text s) i 0
    byte i lt true q = rw (eqb-true i (length s) q) (p.ended ∙ sym (newline_here s))
    byte i lt false q =
        let within : i < length s = omega (arith, eqb-false i (length s) q) in
        p.characters i within ∙ sym (character_here s i within)

    standing : Stands (entry_text s) at before after (length s + 1)
    standing = record {
      first = λ i lt. byte i lt (eqb i (length s)) refl;
      others = p.others;
      long = p.long;
    }

-- one entry of a table more
pub entries_turn : {t : Table} (good : GoodTable t) (i : ℕ) → i < t.n → {out out' : List ℕ} {at next : ℕ}
    → Printed (string t.l (record { care = get_or t.care i 0; value = get_or t.value i 0 })) at out out'
    → next ≡ at + (t.l + 1) → at + (t.l + 1) ≤ length out
    → sets out' next (entries_text (drop (i + 1) (entries_of t))) ≡ sets out at (entries_text (drop i (entries_of t)))
unfolding entries_text
entries_turn {t} good i lt {out} {out'} {at} p next room =
    let s = here good i lt in
    let printed : Printed s at out out' = subst (λ (s : Trits). Printed s at out out') (entry_here good i lt) p in
    let long = here_length good i lt in
    rw (printed_set printed (omega (arith, room, long, entry_length s)), next, entries_from good i lt, ← long)
    (sym (sets_append (entry_text s) (entries_text (drop (i + 1) (entries_of t))) out at))
