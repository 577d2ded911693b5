-- A pass over a part of the array, `&list[..n]`, `&list[from..n]` or `&list[UPPER..UPPER + k]`: which entry a turn is of, and
-- what the pass comes to, where it puts together what each entry says of a string or grows a list by each. Assumes nothing.
use mathlib.Core.Path.{◌≡◌, refl, sym, ap, ap₂, ◌∙◌}
use mathlib.Core.Bool.{Bool, true, false, ◌||◌, or-false}
use mathlib.Core.List.{List, [], ◌∷◌, ◌++◌}
use mathlib.Core.Option.{Option, some}
use Prim.Native.Nat.{ℕ, ◌+◌, ◌-◌, ◌≤◌, ◌<◌}
use native.Mathlib.Omega.{arith}
use borrow.Rule.Slice.PartMut.{mid_of}
use lib.Bits.{bit_or}
use lib.ListN.{length, get_or, take, drop, length-take, length-drop}
use lib.Seq.{get_or-drop, take-length}
use Rattle.std.proofs.lemmas.List.{get_or-take, take_more}
use Rattle.model.specs.Strings.{Trits, subsumes}
use Rattle.model.specs.Growth.{Entries, subsumed}
use Rattle.model.specs.Tables.{Wide}
use Rattle.model.proofs.Entries.{subsumed_append}
use Rattle.words.specs.Words.{word, set_word, openings, near, shade_word}
use Rattle.words.proofs.Codec.{set_word_or}
use Rattle.lists.specs.WorkingLists.{Grown}
use Rattle.lists.specs.WorkingLists.{Count, Full}
use Rattle.lists.specs.WorkingLists.{Holds, OfString, Makes}
use Rattle.lists.specs.Widening.{near_list, open_set, half, Shaded, OfWidened}
use Rattle.lists.proofs.Holding.{holds_length}
use Rattle.lists.proofs.NearEntries.{near_each}
use Rattle.lists.proofs.SoFar.{SoFar, so_far_step, so_far_stop}
use Rattle.lists.proofs.WideningByPasses.{open_snoc}

-- ---- Which entry a turn is of

-- y is the word of the entry at i, a string of l positions
pub record EntryAt (l y : ℕ) (τ : Entries) (i : ℕ) : Type 0 where
  pub below : i < length τ
  pub is : y ≡ word (get_or τ i [])
  pub long : length (get_or τ i []) ≡ l

module _ {l n : ℕ} {list : List ℕ} {τ : Entries} (h : Holds l list n τ) where
  -- the first n words are as many as the entries
  first_count : length (take n list) ≡ length τ
  first_count = omega (arith, h.count, h.room, h.good.few, length-take n list)

  pub entry_at : (i : ℕ) → i < length (take n list) → EntryAt l (get_or (take n list) i 0) τ i
  entry_at i lt =
      let below : i < n = omega (arith, first_count, h.count) in record {
        below = omega (arith, first_count);
        is = get_or-take n list i 0 below ∙ h.here i below;
        long = holds_length h i below;
      }

  -- no entry is left
  pub entry_end : (i : ℕ) → length (take n list) ≤ i → length τ ≤ i
  entry_end i all = omega (arith, first_count)

-- of a turn by the index
pub entry_here : {l n : ℕ} {list : List ℕ} {τ : Entries} → Holds l list n τ → (i : ℕ) → i < n → EntryAt l (get_or list i 0) τ i
entry_here h i lt = record { below = omega (arith, h.count); is = h.here i lt; long = holds_length h i lt }

-- along the entries from an index on, of `&list[from..n]`
module _ {l n : ℕ} {list : List ℕ} {τ : Entries} (h : Holds l list n τ) (from : ℕ) where
  rest_count : length (mid_of from (n - from) list) ≡ length (drop from τ)
  rest_count =
      omega (
        arith,
        h.count,
        h.room,
        h.good.few,
        length-take (n - from) (drop from list),
        length-drop from list,
        length-drop from τ,
      )

  pub rest_at : (i : ℕ) → i < length (mid_of from (n - from) list)
      → EntryAt l (get_or (mid_of from (n - from) list) i 0) (drop from τ) i
  rest_at i lt =
      let below : i < length (drop from τ) = omega (arith, rest_count) in
      let inside : from + i < n = omega (arith, h.count, length-drop from τ) in
      let e = get_or-drop from τ i [] in record {
        below = below;
        is = get_or-take (n - from) (drop from list) i 0 (omega arith)
            ∙ get_or-drop from list i 0
            ∙ h.here (from + i) inside
            ∙ ap word (sym e);
        long = rw e (holds_length h (from + i) inside);
      }

  pub rest_end : (i : ℕ) → length (mid_of from (n - from) list) ≤ i → length (drop from τ) ≤ i
  rest_end i all = omega (arith, rest_count)

-- y is the shade, for s, of the near entry at i
pub record ShadeAt (y : ℕ) (τ : Entries) (s : Trits) (i : ℕ) : Type 0 where
  pub below : i < length (near_list τ s)
  pub is : y ≡ shade_word (word (get_or (near_list τ s) i [])) (word s)
  pub long : length (get_or (near_list τ s) i []) ≡ length s
  pub close : near (get_or (near_list τ s) i []) s ≡ true

module _ {list : List ℕ} {k q : ℕ} (τ : Entries) (s : Trits) (g : Shaded s list k (near_list τ s)) (e : q ≡ k)
    (room : half + k ≤ length list) where
  -- the words of the part are as many as the near entries
  part_count : length (mid_of half q list) ≡ length (near_list τ s)
  part_count = omega (arith, g.count, length-take q (drop half list), length-drop half list)

  pub shade_at : Wide (length s) τ → (i : ℕ) → i < length (mid_of half q list) → ShadeAt (get_or (mid_of half q list) i 0) τ s i
  shade_at wide i lt =
      let below : i < length (near_list τ s) = omega (arith, part_count) in
      let each = near_each _ τ s wide i below in record {
        below = below;
        is = get_or-take q (drop half list) i 0 (omega (arith, g.count))
            ∙ get_or-drop half list i 0
            ∙ g.here i (omega (arith, g.count));
        long = each.0;
        close = each.1;
      }

  pub shade_end : (i : ℕ) → i ≤ length (mid_of half q list) → length (mid_of half q list) ≤ i → i ≡ length (near_list τ s)
  shade_end i most all = omega (arith, part_count)

-- ---- What a pass comes to

-- `all` of entries and a string puts together, by `join`, what `one` says of each entry
pub record Pass {X : Type 0} (none : X) (join : X → X → X) (one : Trits → Trits → X) (all : Entries → Trits → X) : Type 0 where
  pub nil : (t : Trits) → none ≡ all [] t
  pub snoc : (τ : Entries) (e t : Trits) → all (τ ++ (e ∷ [])) t ≡ join (all τ t) (one e t)

-- what the entries open
pub opened : Pass 0 bit_or (λ e t. set_word (openings e t)) (λ τ t. set_word (open_set τ t))
unfolding set_word open_set
opened = record {
  nil = λ t. refl;
  snoc = λ τ e t. ap set_word (open_snoc τ e t) ∙ set_word_or (open_set τ t) (openings e t);
}

-- whether one of them subsumes the string
pub subsuming : Pass false ◌||◌ subsumes subsumed
unfolding subsumed
subsuming = record {
  nil = λ t. refl;
  snoc = λ τ e t. subsumed_append τ (e ∷ []) t ∙ ap (λ (b : Bool). subsumed τ t || b) (or-false (subsumes e t));
}

module _ {X : Type 0} {none : X} {join : X → X → X} {one : Trits → Trits → X} {all : Entries → Trits → X}
    (P : Pass none join one all) where
  -- one entry more
  pass_turn : (τ : Entries) (t : Trits) (i : ℕ) → i < length τ → {found hit : X} → found ≡ all (take i τ) t
      → hit ≡ one (get_or τ i []) t → join found hit ≡ all (take (i + 1) τ) t
  pass_turn τ t i lt so_far e =
      ap₂ join so_far e
      ∙ sym (P.snoc (take i τ) (get_or τ i []) t)
      ∙ ap (λ (r : Entries). all r t) (sym (take_more τ i [] lt))

  -- all of them
  pass_end : (τ : Entries) (t : Trits) (i : ℕ) → i ≡ length τ → {found : X} → found ≡ all (take i τ) t → found ≡ all τ t
  pass_end τ t i e so_far =
      so_far ∙ ap (λ (k : ℕ). all (take k τ) t) e ∙ ap (λ (r : Entries). all r t) (take-length τ)

  -- ---- Along the entries

  -- `found` is of the entries before i
  abbrev pub EntriesSoFar : (list : List ℕ) (n z : ℕ) (found : X) (i : ℕ) → Type 0
  EntriesSoFar list n z found i = (l : ℕ) → OfString l list n z (λ τ t. found ≡ all (take i τ) t)

  pub entries_start : (list : List ℕ) (n z : ℕ) → EntriesSoFar list n z none 0
  entries_start list n z l τ t h e is = P.nil t

  module _ {list : List ℕ} {n z : ℕ} {found : X} {i : ℕ} (w : EntriesSoFar list n z found i) where
    pub entries_turn : i < length (take n list) → {hit : X}
        → ((e t : Trits) → length e ≡ length t → length e ≤ 32 → get_or (take n list) i 0 ≡ word e → z ≡ word t → hit ≡ one e t)
        → EntriesSoFar list n z (join found hit) (i + 1)
    entries_turn lt says l τ t h e is =
        let at = entry_at h i lt in
        pass_turn τ t i at.below (w l τ t h e is)
        (says (get_or τ i []) t (at.long ∙ sym e) (omega (arith, at.long, h.short)) at.is is)

    pub entries_end : i ≤ length (take n list) → length (take n list) ≤ i → (l : ℕ)
        → OfString l list n z (λ τ t. found ≡ all τ t)
    entries_end most rest l τ t h e is =
        pass_end τ t i (omega (arith, first_count h)) (w l τ t h e is)

  -- ---- Along the shades

  -- `found` is of the near entries before i
  abbrev pub ShadesSoFar : (list : List ℕ) (k y z : ℕ) (found : X) (i : ℕ) → Type 0
  ShadesSoFar list k y z found i =
      (τ : Entries) (s t : Trits) → Shaded s list k (near_list τ s)
      → OfWidened y z τ s t (found ≡ all (take i (near_list τ s)) t)

  pub shades_start : (list : List ℕ) (k y z : ℕ) → ShadesSoFar list k y z none 0
  shades_start list k y z τ s t g is_y is_z wide short long over = P.nil t

  module _ {list : List ℕ} {k q y z : ℕ} {found : X} {i : ℕ} (w : ShadesSoFar list k y z found i) (e : q ≡ k)
      (room : half + k ≤ length list) where
    pub shades_turn : i < length (mid_of half q list) → {hit : X}
        → ((e s t : Trits) → length e ≡ length s → length t ≡ length s → length s ≤ 32
        → get_or (mid_of half q list) i 0 ≡ shade_word (word e) (word s) → y ≡ word s → z ≡ word t → near e s ≡ true
        → subsumes t s ≡ true → hit ≡ one e t)
        → ShadesSoFar list k y z (join found hit) (i + 1)
    shades_turn lt says τ s t g is_y is_z wide short long over =
        let at = shade_at τ s g e room wide i lt in
        pass_turn (near_list τ s) t i at.below (w τ s t g is_y is_z wide short long over)
        (says (get_or (near_list τ s) i []) s t at.long long short at.is is_y is_z at.close over)

    pub shades_end : i ≤ length (mid_of half q list) → length (mid_of half q list) ≤ i
        → (τ : Entries) (s t : Trits) → Shaded s list k (near_list τ s) → OfWidened y z τ s t (found ≡ all (near_list τ s) t)
    shades_end most rest τ s t g is_y is_z wide short long over =
        pass_end (near_list τ s) t i (shade_end τ s g e room i most rest) (w τ s t g is_y is_z wide short long over)

-- ---- A list grown by each string in turn

module _ {l : ℕ} {step : Entries → Trits → Option Entries} {xs : Entries} {whole : Option Entries} {P : Entries → Type 0}
    {list : List ℕ} {n i : ℕ} (w : SoFar l step xs whole P list n i) {y : ℕ} (at : EntryAt l y xs i) {list' : List ℕ} {r : Grown}
    (made : (τ : Entries) (s : Trits) → Holds l list n τ → length s ≡ l → y ≡ word s → P τ → Makes l list' r (step τ s)) where
  made_here : Makes l list' r (step w.now (get_or xs i []))
  made_here = made w.now (get_or xs i []) w.held at.long at.is w.known

  -- the step gives a list, and what is known of that
  pub each_turn : {Q : Entries → Type 0} {m : ℕ} → r ≡ Count m
      → ((τ : Entries) (s : Trits) (κ : Entries) → Holds l list n τ → length s ≡ l → y ≡ word s → P τ → step τ s ≡ some κ → Q κ)
      → SoFar l step xs whole Q list' m (i + 1)
  each_turn is know =
      so_far_step w [] at.below made_here is (λ κ. know w.now (get_or xs i []) κ w.held at.long at.is w.known)

  -- the step is full
  pub each_stop : {l' : ℕ} {list'' : List ℕ} → r ≡ Full → Makes l' list'' Full whole
  each_stop is = so_far_stop w [] at.below made_here is
