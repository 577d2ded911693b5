-- Whether all groups that a string covers are covered, by the ways through `covered`: no entry matches, or the string falls
-- into pieces. Assumes nothing.
use mathlib.Core.Bool.{Bool, true, false, not, ◌&&◌, ◌||◌, false≢true}
use mathlib.Core.List.{[], ◌∷◌}
use mathlib.Core.Path.{◌≡◌, refl, sym, ap, ◌∙◌}
use Prim.Native.Nat.{ℕ, zero, suc, ◌+◌, ◌<◌, suc-le-suc, zero-le}
use native.Mathlib.Omega.{arith}
use borrow.Author.Count.{below_more}
use borrow.Author.Tests.{not-true}
use lib.Dec.{T}
use lib.ListN.{length, get_or}
use Rattle.model.specs.Groups.{Bits, nonzero}
use Rattle.model.specs.Strings.{t0, t1, t*, Trits, covers, matches, subsumes, all_zero, fixed, opposed}
use Rattle.model.specs.Growth.{Entries, covered}
use Rattle.model.specs.Questions.{every_group}
use Rattle.model.proofs.Positions.{opposed_length}
use Rattle.model.proofs.Strings.{covers_length, some_covered, subsumes_covers, zero_covers, both_match}
use Rattle.model.proofs.Tests.{true_of}
use Rattle.words.specs.Words.{word}
use Rattle.covering.specs.Covering.{agreed, all_covered}
use Rattle.covering.proofs.EveryGroup.{test, left, right, bool_ext, implies, implied, group_true, group_at, group_ext}
use Rattle.covering.proofs.EveryGroup.{group_and}
use Rattle.covering.proofs.Splitting.{split_covers, agreed_length, agreed_matches, agreed_keeps, agreed_fixes}
use Rattle.covering.proofs.Splitting.{subsumes_fixed}

-- ---- A list covers g where an entry does

-- the second of two tests is true
or_right : (p q : Bool) → q ≡ true → (p || q) ≡ true
or_right true q h = refl
or_right false q h = h

-- an entry that covers g
pub covered_at : (τ : Entries) (g : Bits) (i : ℕ) → i < length τ → covers (get_or τ i []) g ≡ true → covered τ g ≡ true
unfolding covered
covered_at [] g i n h = absurd (omega arith)
covered_at (s ∷ τ) g zero n h = ap (λ (b : Bool). b || covered τ g) h
covered_at (s ∷ τ) g (suc i) n h = or_right (covers s g) _ (covered_at τ g i (omega arith) h)

-- and the other way round
pub covered_of : (τ : Entries) (g : Bits) → covered τ g ≡ true → (i : ℕ) × (i < length τ) × (covers (get_or τ i []) g ≡ true)
unfolding covered
covered_of [] g h = absurd (false≢true h)
covered_of (s ∷ τ) g h = go (covered_of τ g) (covers s g) refl h
  where
    go : (covered τ g ≡ true → (i : ℕ) × (i < length τ) × (covers (get_or τ i []) g ≡ true)) → (b : Bool) → covers s g ≡ b
        → (b || covered τ g) ≡ true → (i : ℕ) × (i < suc (length τ)) × (covers (get_or (s ∷ τ) i []) g ≡ true)
    go more true c k = (0, suc-le-suc zero-le, c)
    go more false c k = let r = more k in (suc r.0, suc-le-suc r.1, r.2)

-- ---- A string that is not all zero covers a group

-- it has a 1 or a `*`, which covers 1
some_group : (s : Trits) → all_zero s ≡ false → (g : Bits) × T (covers s g) × (nonzero g ≡ true)
unfolding all_zero covers nonzero
some_group [] z = absurd (false≢true (sym z))
some_group (t0 ∷ s) z = let r = some_group s z in (false ∷ r.0, r.1, r.2)
some_group (t1 ∷ s) z = let r = some_covered s in (true ∷ r.0, r.1, refl)
some_group (t* ∷ s) z = let r = some_covered s in (true ∷ r.0, r.1, refl)

-- ---- The ways through `covered`

-- what follows from the one or the other follows from each
pub imply_or : (p q m : Bool) → (not (p || q) || m) ≡ ((not p || m) && (not q || m))
imply_or true true true = refl
imply_or true true false = refl
imply_or true false true = refl
imply_or true false false = refl
imply_or false q m = refl

module _ (l : ℕ) (τ : Entries) where
  -- no entry matches
  pub covered_none : (s : Trits) → length s ≡ l → ((i : ℕ) → i < length τ → matches (get_or τ i []) s ≡ false)
      → all_zero s ≡ all_covered l τ s
  unfolding all_covered
  covered_none s n none =
      bool_ext (all_zero s) _
      (λ z. group_true l _ (λ g e o. implies (covers s g) _ (λ c. absurd (zero_covers s g (test z) (test c) (test o)))))
      (λ h. go (all_zero s) refl h)
    where
      go : (b : Bool) → all_zero s ≡ b → every_group l (λ g. not (covers s g) || covered τ g) ≡ true → b ≡ true
      go true z h = refl
      go false z h =
          let r = some_group s z in
          let g = r.0 in
          let in_List = implied (covers s g) _ (group_at l _ h g (covers_length s g r.1 ∙ n) r.2) (true_of _ r.1) in
          let m = covered_of τ g in_List in
          absurd (false≢true (sym (none m.0 m.1) ∙ true_of _ (both_match _ s g (test m.2) r.1)))

  -- an entry subsumes s
  covered_whole : (s : Trits) (i : ℕ) → i < length τ → subsumes (get_or τ i []) s ≡ true → true ≡ all_covered l τ s
  unfolding all_covered
  covered_whole s i h e =
      sym (group_true l _ (λ g _ o. implies (covers s g) _
      (λ c. covered_at τ g i h (true_of _ (subsumes_covers (get_or τ i []) s g (test e) (test c))))))

  -- s falls into two strings
  covered_split : (i : ℕ) (v s : Trits) → length s ≡ length v → fixed i s ≡ false → fixed i v ≡ true
      → all_covered l τ s ≡ (all_covered l τ (opposed i v s) && all_covered l τ (agreed i v s))
  unfolding all_covered
  covered_split i v s n k f =
      group_ext l _ _
      (λ g _. ap (λ (b : Bool). not b || covered τ g) (split_covers i v s g n k f)
      ∙ imply_or (covers (opposed i v s) g) (covers (agreed i v s) g) (covered τ g))
      ∙ group_and l _ _

-- ---- The loop of `covered`

-- What is left of s once the pieces before position i are known to be covered: z is its word, and it is fixed wherever the
-- matching string v is fixed before i.
pub record Left (l i : ℕ) (τ : Entries) (v s : Trits) (z : ℕ) : Type 0 where
  pub rest : Trits
  pub is : z ≡ word rest
  pub long : length rest ≡ l
  pub match : matches v rest ≡ true
  pub agree : (k : ℕ) → k < i → fixed k v ≡ true → fixed k rest ≡ true
  pub same : all_covered l τ s ≡ all_covered l τ rest

-- before the first position all is left
pub left_start : (l : ℕ) (τ : Entries) (v s : Trits) (y : ℕ) → length s ≡ l → y ≡ word s → matches v s ≡ true
    → Left l 0 τ v s y
left_start l τ v s y n e m =
    record { rest = s; is = e; long = n; match = m; agree = λ k h. absurd (omega arith); same = refl }

-- what is not split is fixed in both or open in v
no_split : (p q : Bool) → (p && not q) ≡ false → p ≡ true → q ≡ true
no_split true true h e = refl
no_split true false h e = sym h
no_split false q h e = absurd (false≢true e)

-- nothing to split at i
pub left_skip : (l i : ℕ) (τ : Entries) (v s : Trits) (z : ℕ) (a : Left l i τ v s z)
    → (fixed i v && not (fixed i a.rest)) ≡ false → Left l (i + 1) τ v s z
left_skip l i τ v s z a h = record {
  rest = a.rest;
  is = a.is;
  long = a.long;
  match = a.match;
  agree = below_more _ i a.agree (no_split _ _ h);
  same = a.same;
}

-- a split at i
module _ (l i : ℕ) (τ : Entries) (v s : Trits) (z : ℕ) (a : Left l i τ v s z) (long : length v ≡ l)
    (split : (fixed i v && not (fixed i a.rest)) ≡ true) where
  -- v is fixed there
  in_v : fixed i v ≡ true
  in_v = left _ _ split

  -- what is left is not
  in_rest : fixed i a.rest ≡ false
  in_rest = not-true _ (right (fixed i v) _ split)

  -- both have l positions
  alike : length a.rest ≡ length v
  alike = a.long ∙ sym long

  -- what is left falls into two
  two : all_covered l τ s ≡ (all_covered l τ (opposed i v a.rest) && all_covered l τ (agreed i v a.rest))
  two = a.same ∙ covered_split l τ i v a.rest alike in_rest in_v

  -- from what `opposed` and `covered` ensure: r is the answer for the piece
  pub answer : (piece : ℕ) (r : Bool)
      → (length a.rest ≡ length v → fixed i a.rest ≡ false → fixed i v ≡ true → piece ≡ word (opposed i v a.rest))
      → ((u : Trits) → length u ≡ l → piece ≡ word u → r ≡ all_covered l τ u) → all_covered l τ (opposed i v a.rest) ≡ r
  answer piece r made called =
      sym (called (opposed i v a.rest) (opposed_length i v a.rest ∙ a.long) (made alike in_rest in_v))

  -- a piece that is not covered decides
  pub left_fail : all_covered l τ (opposed i v a.rest) ≡ false → false ≡ all_covered l τ s
  left_fail h = sym (two ∙ ap (λ (b : Bool). b && all_covered l τ (agreed i v a.rest)) h)

  -- a piece that is covered is left out
  pub left_next : (w : ℕ)
      → (length a.rest ≡ length v → fixed i a.rest ≡ false → fixed i v ≡ true → w ≡ word (agreed i v a.rest))
      → all_covered l τ (opposed i v a.rest) ≡ true → Left l (i + 1) τ v s w
  left_next w made h = record {
    rest = agreed i v a.rest;
    is = made alike in_rest in_v;
    long = agreed_length i v a.rest ∙ a.long;
    match = agreed_matches i v a.rest a.match;
    agree = below_more _ i (λ k b f. agreed_keeps i k v a.rest in_v (a.agree k b f))
        (λ f. agreed_fixes i v a.rest alike f);
    same = two ∙ ap (λ (b : Bool). b && all_covered l τ (agreed i v a.rest)) h;
  }

-- at the end v subsumes what is left
pub left_done : (l at : ℕ) (τ : Entries) (s : Trits) (z : ℕ) → at < length τ → length (get_or τ at []) ≡ l
    → Left l l τ (get_or τ at []) s z → true ≡ all_covered l τ s
left_done l at τ s z h long a =
    covered_whole l τ a.rest at h
    (subsumes_fixed _ a.rest (long ∙ sym a.long) a.match (λ k b. a.agree k (omega (arith, long))))
    ∙ sym a.same
