-- What one scan of a list says of a string: entries guard it, or none touches it. Assumes nothing.
use mathlib.Core.Path.{◌≡◌, refl, sym, ap, ◌∙◌, subst}
use mathlib.Core.Bool.{Bool, true, false, ◌||◌}
use mathlib.Core.List.{List}
use mathlib.Core.Logic.{◌⊎◌, inl, inr}
use Prim.Native.Nat.{ℕ, ◌+◌, ◌-◌, ◌≤◌, ◌<◌}
use native.Mathlib.Omega.{arith}
use borrow.Author.Tests.{eqb-true, eqb-false}
use lib.Bits.{bit_and, bit_or}
use lib.Dec.{T, eqb}
use lib.ListN.{length, get_or, take, length-take}
use Rattle.std.proofs.lemmas.List.{get_or-take}
use Rattle.model.specs.Strings.{Trits, subsumes, fixed, flipped}
use Rattle.model.specs.Growth.{Entries, subsumed}
use Rattle.model.specs.Widest.{EntryOf}
use Rattle.model.proofs.Entries.{above, entry_subsumes}
use Rattle.model.proofs.Tests.{and_both, true_of}
use Rattle.words.specs.Words.{word, has, fixed_word, subsumes_word, lone_lack, if_over}
use Rattle.words.proofs.WordBits.{has_and, has_none, fixed_left, fixed_right, lack_opens, over_fixes}
use Rattle.tables.specs.Lists.{some_from}
use Rattle.tables.proofs.Scans.{some_scan, scan_start, scan_turn, scan_end}
use Rattle.lists.specs.WorkingLists.{Holds}
use Rattle.lists.specs.Widening.{FixedIn, Scanned, Guarded, Untouched}
use Rattle.lists.proofs.Guards.{index_of, over_flipped}
use Rattle.lists.proofs.Holding.{holds_length}
use Rattle.lists.proofs.WordTests.{holds_subsumed}

-- ---- The loop

-- a scan that has come to index i
pub record ScannedSoFar (list : List ℕ) (n y lacks over : ℕ) (found : Bool) (i : ℕ) : Type 0 where
  pub lacking : (m : ℕ) → m < i → FixedIn (lone_lack (get_or list m 0) y) lacks
  pub holding : (m : ℕ) → m < i → FixedIn (if_over (get_or list m 0) y) over
  pub some : some_from 0 n (λ m. subsumes_word (get_or list m 0) y) ≡
      (found || some_from i (n - i) (λ m. subsumes_word (get_or list m 0) y))

pub scanned_start : (list : List ℕ) (n y : ℕ) → ScannedSoFar list n y 0 0 false 0
scanned_start list n y = record {
  lacking = λ m lt. absurd (omega arith);
  holding = λ m lt. absurd (omega arith);
  some = scan_start some_scan _ n;
}

-- one entry more, of each sum
sum_turn : (part : ℕ → ℕ) (sum i : ℕ) → ((m : ℕ) → m < i → FixedIn (part m) sum) → (p : ℕ) → p ≡ part i
    → (m : ℕ) → m < i + 1 → FixedIn (part m) (bit_or sum p)
sum_turn part sum i f p is m lt = go (eqb m i) refl
  where
    go : (b : Bool) → eqb m i ≡ b → FixedIn (part m) (bit_or sum p)
    go true e = λ k h. fixed_right k sum p (rw (is, ← eqb-true m i e) h)
    go false e = let other = eqb-false m i e in λ k h. fixed_left k sum p (f m (omega (arith, other)) k h)

module _ {list : List ℕ} {n y lacks over : ℕ} {found : Bool} {i : ℕ} (w : ScannedSoFar list n y lacks over found i) where
  pub scanned_turn : i < length (take n list) → {p q : ℕ} {b : Bool} → p ≡ lone_lack (get_or (take n list) i 0) y
      → q ≡ if_over (get_or (take n list) i 0) y → b ≡ subsumes_word (get_or (take n list) i 0) y
      → ScannedSoFar list n y (bit_or lacks p) (bit_or over q) (found || b) (i + 1)
  scanned_turn lt {p} {q} {b} is_p is_q is_b =
      let below : i < n = omega (arith, length-take n list) in
      let e = get_or-take n list i 0 below in record {
        lacking = sum_turn (λ m. lone_lack (get_or list m 0) y) lacks i w.lacking p (rw e at is_p);
        holding = sum_turn (λ m. if_over (get_or list m 0) y) over i w.holding q (rw e at is_q);
        some = scan_turn some_scan _ _ found i _ w.some below b (rw e at is_b);
      }

  pub scanned_end : n ≤ length list → length (take n list) ≤ i → Scanned list n y lacks over found
  scanned_end room all =
      let le : n ≤ i = omega (arith, length-take n list) in record {
        lacking = λ m lt. w.lacking m (omega arith);
        holding = λ m lt. w.holding m (omega arith);
        some = scan_end some_scan _ _ found i _ w.some le;
      }

-- ---- What it says

module _ {list : List ℕ} {n y lacks over : ℕ} {found : Bool} (w : Scanned list n y lacks over found)
    {l : ℕ} {τ : Entries} (s : Trits) (h : Holds l list n τ) (e : length s ≡ l) (is : y ≡ word s) where
  -- whether an entry subsumes s
  found_is : found ≡ subsumed τ s
  found_is = w.some ∙ holds_subsumed h s e is

  -- a position that an entry opens, which does not subsume s, is one of the edges
  edge_in : (d : Trits) (i : ℕ) → EntryOf τ d → subsumes d s ≡ false → T (fixed i s) → T (subsumes d (flipped i s))
      → T (has i (bit_and (fixed_word lacks) (fixed_word y)))
  edge_in d i k apart f o =
      let m = index_of τ d k in
      let lt : m.0 < n = omega (arith, h.count, m.1) in
      let long : length d ≡ l = subst (λ (r : Trits). length r ≡ l) m.2 (holds_length h m.0 lt) in
      let at = lack_opens d s (long ∙ sym e) (rw long h.short) i apart f o in
      let word_d : get_or list m.0 0 ≡ word d = h.here m.0 lt ∙ ap word m.2 in
      subst T (sym (has_and i (fixed_word lacks) (fixed_word y)))
      (and_both (has i (fixed_word lacks)) (has i (fixed_word y))
      (w.lacking m.0 lt i (rw (word_d, is) at.0)) (rw is at.1))

  -- a position that an entry fixes, which subsumes s, is one of those that `over` fixes
  over_in : (d : Trits) (i : ℕ) → EntryOf τ d → subsumes d s ≡ true → T (fixed i d) → T (has i (fixed_word over))
  over_in d i k above f =
      let m = index_of τ d k in
      let lt : m.0 < n = omega (arith, h.count, m.1) in
      let long : length d ≡ l = subst (λ (r : Trits). length r ≡ l) m.2 (holds_length h m.0 lt) in
      let word_d : get_or list m.0 0 ≡ word d = h.here m.0 lt ∙ ap word m.2 in
      w.holding m.0 lt i (rw (word_d, is) (over_fixes d s (long ∙ sym e) (rw long h.short) i above f))

  -- where no edge is fixed by an entry that subsumes s, these entries guard it
  pub survey_guards : found ≡ true → bit_and (bit_and (fixed_word lacks) (fixed_word y)) (fixed_word over) ≡ 0 → Guarded τ s
  survey_guards t none = record {
    guards = λ d. subsumes d s;
    over = λ d k g. g;
    one = let a = above τ s (subst T (sym t ∙ found_is) tt) in (a.y, a.entry, a.subsuming);
    shut = λ d i k f o. go d i k f o (subsumes d s) refl;
  }
    where
      edges : ℕ
      edges = bit_and (fixed_word lacks) (fixed_word y)

      apart : (i : ℕ) → T (has i edges) → ¬ (T (has i (fixed_word over)))
      apart i p q =
          has_none i (subst (λ (x : ℕ). T (has i x)) none
          (subst T (sym (has_and i edges (fixed_word over))) (and_both (has i edges) (has i (fixed_word over)) p q)))

      go : (d : Trits) (i : ℕ) → EntryOf τ d → T (fixed i s) → T (subsumes d (flipped i s)) → (b : Bool) → subsumes d s ≡ b
          → T b ⊎ ((r : Trits) → EntryOf τ r → T (subsumes r s) → T (subsumes r (flipped i s)))
      go d i k f o true q = inl tt
      go d i k f o false q = inr (λ r j g.
          over_flipped i r s (λ fixes. apart i (edge_in d i k q f o) (over_in r i j (true_of (subsumes r s) g) fixes)) g)

  -- where there is no edge and none subsumes s, none touches it
  pub survey_untouched : found ≡ false → bit_and (fixed_word lacks) (fixed_word y) ≡ 0 → Untouched τ s
  survey_untouched t none = (
    sym found_is ∙ t,
    λ i f o.
        let a = above τ (flipped i s) o in go a.y i f a.entry a.subsuming (subsumes a.y s) refl,
  )
    where
      go : (d : Trits) (i : ℕ) → T (fixed i s) → EntryOf τ d → T (subsumes d (flipped i s)) → (b : Bool) → subsumes d s ≡ b → ⊥
      go d i f k o true q = subst T (sym found_is ∙ t) (entry_subsumes τ d s k (rw q tt))
      go d i f k o false q =
          has_none i (subst (λ (x : ℕ). T (has i x)) none (edge_in d i k q f o))
