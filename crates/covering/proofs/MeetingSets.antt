-- The questions of independence and groundness, entry by entry and by the first variable of a set. Assumes nothing.
use mathlib.Core.Bool.{Bool, true, false, not, ◌&&◌, ◌||◌, false≢true, and_self, and_comm}
use mathlib.Core.List.{[], ◌∷◌}
use mathlib.Core.Path.{◌≡◌, refl, sym, ap, ◌∙◌}
use Prim.Native.Nat.{ℕ, zero, suc, ◌+◌, ◌-◌, ◌<◌, ◌≤◌}
use native.Mathlib.Nat.{not-suc-le-zero}
use native.Mathlib.Numerals.{add-one}
use native.Mathlib.Omega.{arith}
use lib.ListN.{length, get_or, drop}
use lib.Seq.{drop-cons, drop-length}
use Rattle.model.specs.Groups.{Bits, meets, has}
use Rattle.model.specs.Strings.{Trits, covers, matches, meet, one_at}
use Rattle.model.specs.Growth.{Entries, covered}
use Rattle.model.specs.Tables.{Side, positive, negative}
use Rattle.model.specs.Questions.{every_group, stands_for, ground, independent}
use Rattle.model.proofs.Bits.{meets_nonzero}
use Rattle.model.proofs.Strings.{covers_length, meet_exact, both_match}
use Rattle.model.proofs.Tests.{true_of}
use Rattle.words.proofs.Codec.{set_inside}
use Rattle.covering.specs.Covering.{all_covered}
use Rattle.covering.specs.Sets.{greatest, first_string, apart}
use Rattle.covering.proofs.EveryGroup.{test, bool_ext, untrue, both, left, right, implies, implied}
use Rattle.covering.proofs.EveryGroup.{group_true, group_at, group_ext, group_and}
use Rattle.covering.proofs.FirstVariables.{only, only_meets, one_covers, first_of, first_meets, greatest_covered}
use Rattle.covering.proofs.FirstVariables.{meets_greatest}

-- ---- Independent, positive: entry by entry

-- neither of the two holds
deny_or : (c m x : Bool) → not ((c || m) && x) ≡ (not (c && x) && not (m && x))
deny_or true true true = refl
deny_or true true false = refl
deny_or true false true = refl
deny_or true false false = refl
deny_or false m x = refl

module _ (l : ℕ) (x y : Bits) where
  -- no group that s covers meets both sets
  clear : Trits → Bool
  clear s = every_group l (λ g. not (covers s g && (meets x g && meets y g)))

  -- that is so where the greatest does not
  clear_greatest : (s : Trits) → length s ≡ l → clear s ≡ not (meets x (greatest s) && meets y (greatest s))
  unfolding clear
  clear_greatest s n =
      let top = greatest s in
      let c = greatest_covered s in
      bool_ext _ _
      (λ h. ap not (untrue _ (λ m.
      false≢true (sym (ap not (both c m))
      ∙ group_at l _ h top (covers_length s top (test c) ∙ n)
      (true_of _ (meets_nonzero x top (test (left (meets x top) _ m))))))))
      (λ h. group_true l _ (λ g k z. ap not (untrue _ (λ m.
      let d = left (covers s g) _ m in
      let xy = right (covers s g) _ m in
      let u = meets_greatest x s g d (left (meets x g) _ xy) in
      let v = meets_greatest y s g d (right (meets x g) _ xy) in
      false≢true (sym (ap not (both u v)) ∙ h)))))

  -- an entry and the rest
  positive_cons : (s : Trits) (τ : Entries) → independent positive l (s ∷ τ) x y ≡ (clear s && independent positive l τ x y)
  unfolding independent clear stands_for covered
  positive_cons s τ =
      group_ext l _ _ (λ g e. deny_or (covers s g) (covered τ g) (meets x g && meets y g)) ∙ group_and l _ _

  -- the entry at an index, and those after it
  pub positive_next : (τ : Entries) (i : ℕ) → i < length τ → length (get_or τ i []) ≡ l → (b : Bool)
      → b ≡ (meets x (greatest (get_or τ i [])) && meets y (greatest (get_or τ i [])))
      → independent positive l (drop i τ) x y ≡ (not b && independent positive l (drop (i + 1) τ) x y)
  positive_next τ i lt n b e =
      rw (add-one, drop-cons τ i [] lt)
      (positive_cons (get_or τ i []) (drop (suc i) τ)
      ∙ ap (λ (u : Bool). u && independent positive l (drop (suc i) τ) x y) (clear_greatest (get_or τ i []) n ∙ ap not (sym e)))

  -- after the last entry nothing is left
  pub positive_end : (τ : Entries) → independent positive l (drop (length τ) τ) x y ≡ true
  unfolding independent stands_for covered
  positive_end τ = rw (drop-length τ) (group_true l _ (λ g e z. refl))

-- ---- Ground

-- a variable is ground where its set is independent of itself
pub ground_only : (side : Side) (l : ℕ) (τ : Entries) (x : ℕ) → 1 ≤ x → x ≤ l
    → independent side l τ (only l (x - 1)) (only l (x - 1)) ≡ ground side l τ x
unfolding independent ground has
ground_only side l τ zero h k = absurd (not-suc-le-zero h)
ground_only side l τ (suc i) h k =
    let e : suc i - 1 ≡ i = omega arith in
    rw e (group_ext l _ _ (λ g n. ap (λ (u : Bool). not (stands_for side τ g && u))
    (and_self (meets (only l i) g) ∙ only_meets l i g k)))

-- a negative table has no group that passes the test: every group that does is covered
deny : (x m : Bool) → (not x || m) ≡ not (not m && x)
deny true true = refl
deny true false = refl
deny false true = refl
deny false false = refl

-- a variable is ground where all with 1 there is covered
pub ground_one : (l : ℕ) (τ : Entries) (x : ℕ) → 1 ≤ x → x ≤ l → all_covered l τ (one_at l (x - 1)) ≡ ground negative l τ x
unfolding all_covered ground has stands_for
ground_one l τ zero h k = absurd (not-suc-le-zero h)
ground_one l τ (suc i) h k =
    let e : suc i - 1 ≡ i = omega arith in
    rw e (group_ext l _ _ (λ g n.
    ap (λ (u : Bool). not u || covered τ g) (one_covers l i g k n) ∙ deny (get_or g i false) (covered τ g)))

-- ---- By the first variable of a set

-- of the groups that pass the test, those whose first variable of k is at position i are covered
pub part : ℕ → Entries → (Bits → Bool) → Bits → ℕ → Bool
part l τ q k i = every_group l (λ g. not (q g && covers (first_string k i) g) || covered τ g)

module _ (l : ℕ) (τ : Entries) (q : Bits → Bool) (k : Bits) where
  -- of the groups that pass the test, those that meet k are covered
  whole : Bool
  whole = every_group l (λ g. not (q g && meets k g) || covered τ g)

  -- where all that meet k are covered, each part is
  part_of : (i : ℕ) → get_or k i false ≡ true → whole ≡ true → part l τ q k i ≡ true
  unfolding whole part
  part_of i b h =
      group_true l _ (λ g e z. implies (q g && covers (first_string k i) g) (covered τ g) (λ c.
      implied (q g && meets k g) (covered τ g) (group_at l _ h g e z)
      (both (left (q g) _ c) (first_meets k g i b (right (q g) _ c)))))

  -- so one part that is not decides
  whole_no : (i : ℕ) → get_or k i false ≡ true → part l τ q k i ≡ false → whole ≡ false
  whole_no i b f = untrue _ (λ h. false≢true (sym f ∙ part_of i b h))

  -- where each part is covered, all are
  whole_all : length k ≡ l → ((i : ℕ) → i < l → get_or k i false ≡ true → part l τ q k i ≡ true) → whole ≡ true
  unfolding whole part
  whole_all n f =
      group_true l _ (λ g e z. implies (q g && meets k g) (covered τ g) (λ c.
      let r = first_of k g (e ∙ sym n) (right (q g) _ c) in
      implied (q g && covers (first_string k r.0) g) (covered τ g)
      (group_at l _ (f r.0 (omega (arith, set_inside k r.0 r.1)) r.1) g e z)
      (both (left (q g) _ c) r.2)))

module _ (l : ℕ) (τ : Entries) (s : Trits) (k : Bits) where
  -- matching strings: what both cover is their meet
  pub part_meet : (i : ℕ) → matches s (first_string k i) ≡ true
      → all_covered l τ (meet s (first_string k i)) ≡ part l τ (covers s) k i
  unfolding part all_covered
  part_meet i m = group_ext l _ _ (λ g e. ap (λ (u : Bool). not u || covered τ g) (meet_exact s (first_string k i) g (test m)))

  -- others: nothing is covered by both
  pub part_none : (i : ℕ) → matches s (first_string k i) ≡ false → part l τ (covers s) k i ≡ true
  unfolding part
  part_none i m =
      group_true l _ (λ g e z. implies (covers s g && covers (first_string k i) g) (covered τ g) (λ c.
      absurd (false≢true (sym m ∙ true_of _ (both_match s (first_string k i) g (test (left (covers s g) _ c))
      (test (right (covers s g) _ c)))))))

  -- one part that is not covered decides
  pub apart_no : (i : ℕ) → get_or k i false ≡ true → part l τ (covers s) k i ≡ false → false ≡ apart l τ s k
  unfolding apart whole
  apart_no i b f = sym (whole_no l τ (covers s) k i b f)

  -- all parts are covered
  pub apart_all : length k ≡ l → ((i : ℕ) → i < l → get_or k i false ≡ true → part l τ (covers s) k i ≡ true)
      → true ≡ apart l τ s k
  unfolding apart whole
  apart_all n f = sym (whole_all l τ (covers s) k n f)

module _ (l : ℕ) (τ : Entries) (x y : Bits) where
  -- a part of the first set is apart from the second
  part_apart : (i : ℕ) → apart l τ (first_string x i) y ≡ part l τ (meets y) x i
  unfolding part apart
  part_apart i =
      group_ext l _ _ (λ g e. ap (λ (u : Bool). not u || covered τ g) (and_comm (covers (first_string x i) g) (meets y g)))

  -- all that meet both sets are covered: they are independent
  whole_independent : whole l τ (meets y) x ≡ independent negative l τ x y
  unfolding whole independent stands_for
  whole_independent =
      group_ext l _ _ (λ g e.
      ap (λ (u : Bool). not u || covered τ g) (and_comm (meets y g) (meets x g)) ∙ deny (meets x g && meets y g) (covered τ g))

  -- one part that is not apart decides
  pub independent_no : (i : ℕ) → get_or x i false ≡ true → apart l τ (first_string x i) y ≡ false
      → false ≡ independent negative l τ x y
  independent_no i b f = sym (whole_no l τ (meets y) x i b (sym (part_apart i) ∙ f)) ∙ whole_independent

  -- all parts are apart
  pub independent_all : length x ≡ l → ((i : ℕ) → i < l → get_or x i false ≡ true → apart l τ (first_string x i) y ≡ true)
      → true ≡ independent negative l τ x y
  independent_all n f =
      sym (whole_all l τ (meets y) x n (λ i lt b. sym (part_apart i) ∙ f i lt b)) ∙ whole_independent
