-- What the two loops over the entries come to: the lowest entry that covers a group inside s with a variable of m, and these
-- groups together. Assumes nothing.
use mathlib.Core.Path.{◌≡◌, refl, sym, ap, ap₂, ◌∙◌, subst}
use mathlib.Core.Bool.{Bool, true, false, not, cond, false≢true}
use mathlib.Core.List.{List, [], map}
use mathlib.Core.Logic.{⊎_elim}
use Prim.Native.Nat.{ℕ, zero, suc, ◌≤◌, ◌<◌}
use native.Mathlib.Nat.{eq-or-lt_of_le, le_of_suc-le-suc}
use native.Mathlib.Omega.{arith}
use borrow.Author.Tests.{eq-eqb, ne_eqb}
use lib.Bits.{bit_and, bit_or}
use Rattle.std.specs.Prelude.{Some, None}
use lib.Dec.{T, eqb, eqb→eq, eqb_refl}
use lib.ListN.{length, get_or, length-map}
use Rattle.model.specs.Groups.{Bits, has, meets, or}
use Rattle.model.specs.Strings.{Trits, covers}
use Rattle.model.specs.Growth.{Entries, covered}
use Rattle.model.specs.Tables.{groups, Good}
use Rattle.model.specs.Reasons.{covers_inside, lowest, together, made_up}
use Rattle.model.proofs.Tests.{or_cases, or_left, or_right, same_test, decide, true_of, false_of, not_not}
use Rattle.model.proofs.Bits.{or_length, meets_nonzero}
use Rattle.model.proofs.Variables.{has_set_of, set_of_has, meets_has, has_meets}
use Rattle.model.proofs.Strings.{covers_length}
use Rattle.model.proofs.Reasons.{has_or, same_variables, together_exact, together_length, made_up_together}
use Rattle.model.proofs.Reasons.{lowest_is, lowest_none}
use Rattle.words.specs.Words.{word, set, set_word}
use Rattle.words.proofs.Codec.{set_word_or, set_set_word}
use Rattle.lists.specs.WorkingLists.{Holds, WordsOf}
use Rattle.tables.proofs.Arrays.{wide_at}
use Rattle.lists.proofs.Slices.{words_length}
use Rattle.covering.proofs.EveryGroup.{test}
use Rattle.covering.proofs.Pieces.{covered_at, covered_of}
use Rattle.reasons.specs.Entries.{rest, largest, largest_word, part_word, parts_word, found}
use Rattle.reasons.proofs.Largest.{largest_has, largest_all, largest_length, largest_is, none_word}
use Rattle.reasons.proofs.Largest.{reaches_word, none_has, apart_word}

module _ {l : ℕ} {list : List ℕ} {τ : Entries} (h : WordsOf l list τ) (r k : Bits) (whole : length r ≡ l)
    {s m : ℕ} (is_s : s ≡ set_word r) (is_m : m ≡ set_word k) where
  -- the code's test of entry j
  reach : (j : ℕ) → j < length list
      → eqb (bit_and (largest_word (get_or list j 0) s) m) 0 ≡ not (covers_inside l r k (get_or τ j []))
  reach j lt =
      rw (h.here j lt, is_s, is_m) (reaches_word l r k (get_or τ j []) whole (words_length h j lt) h.short)

  -- it fails
  unreached : (j : ℕ) → j < length list → bit_and (largest_word (get_or list j 0) s) m ≡ 0 → ¬ (T (covers_inside l r k (get_or τ j [])))
  unreached j lt e t =
      let d : true ≡ not (covers_inside l r k (get_or τ j [])) = sym (eq-eqb _ 0 e) ∙ reach j lt in
      false≢true (sym (d ∙ ap not (true_of (covers_inside l r k (get_or τ j [])) t)))

  -- it holds
  reached : (j : ℕ) → j < length list → ¬ (bit_and (largest_word (get_or list j 0) s) m ≡ 0) → T (covers_inside l r k (get_or τ j []))
  reached j lt e =
      not_not (covers_inside l r k (get_or τ j [])) (λ t.
      false≢true (sym (ne_eqb _ 0 e) ∙ reach j lt ∙ true_of (not (covers_inside l r k (get_or τ j []))) t))

  -- The first entry that passes.
  pub found_here : (i : ℕ) → i < length list → ((j : ℕ) → j < i → bit_and (largest_word (get_or list j 0) s) m ≡ 0)
      → ¬ (bit_and (largest_word (get_or list i 0) s) m ≡ 0) → found (Some i) ≡ lowest (covers_inside l r k) τ
  found_here i lt f here =
      sym (lowest_is (covers_inside l r k) τ i (omega (arith, lt, h.count)) (reached i lt here)
      (λ j below. unreached j (omega (arith, lt, below)) (f j below)))

  -- None does.
  pub found_nowhere : ((j : ℕ) → j < length list → bit_and (largest_word (get_or list j 0) s) m ≡ 0)
      → found None ≡ lowest (covers_inside l r k) τ
  found_nowhere f =
      sym (lowest_none (covers_inside l r k) τ (λ j below.
      let lt : j < length list = omega (arith, below, h.count) in
      unreached j lt (f j lt)))

-- ---- The groups together

-- no variable
none : Bits → Bits
none r = map (λ (b : Bool). false) r

-- the largest group of an entry, where it has a variable of m; else none
part : Bits → Bits → Trits → Bits
part r k e = cond (meets k (largest r e)) (largest r e) (none r)

-- those of the first i entries, together
parts : Bits → Bits → Entries → ℕ → Bits
parts r k τ zero = none r
parts r k τ (suc i) = or (parts r k τ i) (part r k (get_or τ i []))

-- a part has the variables of the largest group, if that has one of m
part_has : (r k : Bits) (e : Trits) (y : ℕ) → T (has (part r k e) y) → T (meets k (largest r e)) × T (has (largest r e) y)
unfolding part none
part_has r k e y h = go (decide (meets k (largest r e))) h
  where
    go : Dec (T (meets k (largest r e))) → T (has (part r k e) y) → T (meets k (largest r e)) × T (has (largest r e) y)
    go (yes t) h = (t, rw (true_of (meets k (largest r e)) t) at h)
    go (no n) h = absurd (none_has r y (rw (false_of (meets k (largest r e)) n) at h))

has_part : (r k : Bits) (e : Trits) (y : ℕ) → T (meets k (largest r e)) → T (has (largest r e) y) → T (has (part r k e) y)
unfolding part
has_part r k e y t h = rw (true_of (meets k (largest r e)) t) h

-- and so have the parts together
parts_has : (r k : Bits) (τ : Entries) (i y : ℕ) → T (has (parts r k τ i) y)
    → (j : ℕ) × (j < i) × T (meets k (largest r (get_or τ j []))) × T (has (largest r (get_or τ j [])) y)
unfolding parts none
parts_has r k τ zero y h = absurd (none_has r y h)
parts_has r k τ (suc i) y h =
    ⊎_elim (λ g. let w = parts_has r k τ i y g in (w.0, omega (arith, w.1), w.2, w.3))
    (λ g. let w = part_has r k (get_or τ i []) y g in (i, omega arith, w.0, w.1))
    (or_cases (has (parts r k τ i) y) (has (part r k (get_or τ i [])) y)
    (rw (has_or (parts r k τ i) (part r k (get_or τ i [])) y) at h))

has_parts : (r k : Bits) (τ : Entries) (i j y : ℕ) → j < i → T (meets k (largest r (get_or τ j [])))
    → T (has (largest r (get_or τ j [])) y) → T (has (parts r k τ i) y)
unfolding parts
has_parts r k τ zero j y lt t h = absurd (omega (arith, lt))
has_parts r k τ (suc i) j y lt t h =
    rw (has_or (parts r k τ i) (part r k (get_or τ i [])) y)
    (⊎_elim
    (λ e. or_right (has (parts r k τ i) y) (has (part r k (get_or τ i [])) y)
    (subst (λ (a : ℕ). T (has (part r k (get_or τ a [])) y)) e (has_part r k (get_or τ j []) y t h)))
    (λ below. or_left (has (parts r k τ i) y) (has (part r k (get_or τ i [])) y) (has_parts r k τ i j y below t h))
    (eq-or-lt_of_le (le_of_suc-le-suc lt)))

-- The first n words of a list are those of τ, a good list of strings of l positions: of an array the words up to its count
-- (`Holds`), of a slice all of them (`WordsOf`).
record FirstWords (l : ℕ) (list : List ℕ) (n : ℕ) (τ : Entries) : Type 0 where
  here : (i : ℕ) → i < n → get_or list i 0 ≡ word (get_or τ i [])
  count : n ≡ length τ
  good : Good l τ
  short : l ≤ 32

of_array : {l : ℕ} {list : List ℕ} {n : ℕ} {τ : Entries} → Holds l list n τ → FirstWords l list n τ
of_array h = record { here = h.here; count = h.count; good = h.good; short = h.short }

of_slice : {l : ℕ} {list : List ℕ} {τ : Entries} → WordsOf l list τ → FirstWords l list (length list) τ
of_slice h = record { here = h.here; count = h.count; good = h.good; short = h.short }

first_length : {l : ℕ} {list : List ℕ} {n : ℕ} {τ : Entries} → FirstWords l list n τ → (i : ℕ) → i < n
    → length (get_or τ i []) ≡ l
first_length {l = l} {τ = τ} h i lt = wide_at l τ i h.good.wide (omega (arith, h.count))

module _ {l : ℕ} {list : List ℕ} {n : ℕ} {τ : Entries} (h : FirstWords l list n τ) (r k : Bits) (whole : length r ≡ l) where
  part_length : (j : ℕ) → j < n → length (part r k (get_or τ j [])) ≡ l
  unfolding part none
  part_length j lt = go (meets k (largest r (get_or τ j [])))
    where
      go : (c : Bool) → length (cond c (largest r (get_or τ j [])) (none r)) ≡ l
      go true = largest_length r (get_or τ j []) (first_length h j lt ∙ sym whole) ∙ whole
      go false = length-map r (λ (b : Bool). false) ∙ whole

  parts_length : (i : ℕ) → i ≤ n → length (parts r k τ i) ≡ l
  unfolding parts none
  parts_length zero le = length-map r (λ (b : Bool). false) ∙ whole
  parts_length (suc i) le =
      or_length (parts r k τ i) (part r k (get_or τ i [])) l (parts_length i (omega (arith, le)))
      (part_length i (omega (arith, le)))

  -- The parts of all entries are the groups together.
  parts_together : parts r k τ n ≡ together l r k τ
  unfolding together groups
  parts_together =
      same_variables (together l r k τ) (parts r k τ n)
      (parts_length n (omega arith) ∙ sym (together_length l r whole k τ))
      (λ y t.
      let w = parts_has r k τ n y t in
      let e = get_or τ w.0 [] in
      let long : length e ≡ length r = first_length h w.0 w.1 ∙ sym whole in
      let g = largest_has r e long y w.3 in
      let m : T (meets k (rest r e)) = rw g.0 at w.2 in
      let d : T (has (rest r e) y) = rw g.0 at w.3 in
      let size : length (rest r e) ≡ l = covers_length e (rest r e) g.1 ∙ first_length h w.0 w.1 in
      set_of_has l _ y (rest r e) size d
      ((together_exact l r whole k τ y).1 (
        rest r e,
        (
          (size, meets_nonzero k (rest r e) m),
          test (covered_at τ (rest r e) w.0 (omega (arith, w.1, h.count)) (true_of (covers e (rest r e)) g.1)),
        ),
        g.2,
        (m, d),
      )))
      (λ y t.
      let w = (together_exact l r whole k τ y).0 (has_set_of l _ y t) in
      let c = covered_of τ w.0 (true_of (covered τ w.0) w.1.1) in
      let lt : c.0 < n = omega (arith, c.1, h.count) in
      let all = largest_all r (get_or τ c.0 []) w.0 (test c.2) w.2 in
      let q = meets_has k w.0 w.3.0 in
      has_parts r k τ n c.0 y lt
      (has_meets k (largest r (get_or τ c.0 [])) q.0 q.1 (all q.0 q.2)) (all y w.3.1))

  -- ---- As words

  module _ {s m : ℕ} (is_s : s ≡ set_word r) (is_m : m ≡ set_word k) where
    part_is : (j : ℕ) → j < n → part_word (get_or list j 0) s m ≡ set_word (part r k (get_or τ j []))
    unfolding part_word part none
    part_is j lt =
        let e = get_or τ j [] in
        let long = first_length h j lt in
        rw (h.here j lt, is_s, is_m, largest_is r e (long ∙ sym whole) (rw long h.short), apart_word k (largest r e))
        (go (meets k (largest r e)) (largest r e))
      where
        go : (c : Bool) (g : Bits) → cond (not c) 0 (set_word g) ≡ set_word (cond c g (none r))
        go true g = refl
        go false g = sym (none_word r)

    parts_is : (i : ℕ) → i ≤ n → parts_word list s m i ≡ set_word (parts r k τ i)
    unfolding parts_word parts none
    parts_is zero le = sym (none_word r)
    parts_is (suc i) le =
        rw (set_word_or (parts r k τ i) (part r k (get_or τ i [])))
        (ap₂ bit_or (parts_is i (omega (arith, le))) (part_is i (omega (arith, le))))

    all_parts : parts_word list s m n ≡ set_word (together l r k τ)
    all_parts = parts_is n (omega arith) ∙ ap set_word parts_together

-- What the parts of the entries come to, of an array up to its count.
module _ {l : ℕ} {list : List ℕ} {n : ℕ} {τ : Entries} (h : Holds l list n τ) (r k : Bits) (whole : length r ≡ l) where
  module _ {s m : ℕ} (is_s : s ≡ set_word r) (is_m : m ≡ set_word k) where
    pub together_is : parts_word list s m n ≡ set_word (together l r k τ)
    together_is = all_parts (of_array h) r k whole is_s is_m

-- The same of a slice: what the loop gathers.
module _ {l : ℕ} {list : List ℕ} {τ : Entries} (h : WordsOf l list τ) (r k : Bits) (whole : length r ≡ l) where
  module _ {s m : ℕ} (is_s : s ≡ set_word r) (is_m : m ≡ set_word k) where
    pub together_words : parts_word list s m (length list) ≡ set_word (together l r k τ)
    together_words = all_parts (of_slice h) r k whole is_s is_m

-- The groups make up s exactly where their word is that of s.
pub made_up_word : (l : ℕ) (s m : Bits) (τ : Entries) → length s ≡ l
    → eqb (set_word (together l s m τ)) (set_word s) ≡ made_up l s m τ
made_up_word l s m τ whole =
    let g = together l s m τ in
    let long : length g ≡ length s = together_length l s whole m τ ∙ sym whole in
    let made = made_up_together l s whole m τ in
    same_test (eqb (set_word g) (set_word s)) (made_up l s m τ)
    (λ h.
    made.1 (sym (set_set_word g) ∙ ap₂ set long (eqb→eq (set_word g) (set_word s) h) ∙ set_set_word s))
    (λ h. rw (made.0 h) (eqb_refl (set_word s)))
