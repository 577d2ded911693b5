-- From the groups that describe bindings to the goals on their terms, and what keeps bindings described. Assumes nothing.
use mathlib.Core.Path.{◌≡◌, refl, ap, ◌∙◌}
use mathlib.Core.Bool.{Bool, true, false, cond}
use mathlib.Core.List.{List, [], ◌∷◌, map}
use mathlib.Core.Logic.{◌⊎◌, inl, inr, ◌↔◌, ⊎_elim}
use Prim.Native.Nat.{ℕ, zero, suc, ◌≤◌, ◌<◌}
use native.Mathlib.Nat.{not-suc-le-zero, suc-ne-zero}
use native.Mathlib.Omega.{arith}
use borrow.Author.Tests.{ne_eqb}
use lib.Dec.{T}
use lib.ListN.{length}
use Rattle.model.specs.Groups.{Bits, Groups, nonzero, has, cut, Projected, Joined, Among, Listed}
use Rattle.model.specs.Tables.{kept}
use Rattle.model.specs.Questions.{Equal, Ground, Independent}
use Rattle.model.specs.Terms.{Term, var, head, nil, occurs, occurs_row}
use Rattle.model.specs.Bindings.{Bindings, bound, string_of, Describes}
use Rattle.model.specs.Goals.{ShareNone, NoVariable, renumbered}
use Rattle.model.proofs.Tests.{false_of, decide}
use Rattle.model.proofs.Given.{Each}
use Rattle.model.proofs.Projection.{cut_nonzero}
use Rattle.model.proofs.Variables.{meets_has, has_meets}
use Rattle.model.proofs.Sharing.{has_bound, described_group}
use Rattle.model.proofs.Demand3.{describes_more}

-- ---- Goals

module _ (S : Groups) (θ : Bindings) (d : Describes S θ) where
  -- Goals on independent sets of program variables share no run-time variable.
  pub independent_shares_none : (a b : Bits) → Independent S a b → ShareNone θ a b
  independent_shares_none a b i v (p, q) =
      i (string_of θ v) (described_group S θ d v p.x (rw has_bound p.inside)) (
        has_meets a (string_of θ v) p.x p.member (rw has_bound p.inside),
        has_meets b (string_of θ v) q.x q.member (rw has_bound q.inside),
      )

  -- The term of a ground program variable has no run-time variable.
  pub ground_no_variable : (x : ℕ) → Ground S x → NoVariable θ x
  ground_no_variable x f v h =
      let k : T (has (string_of θ v) x) = rw has_bound h in
      f (string_of θ v) (described_group S θ d v x k) k

-- ---- Groups that describe the same bindings

-- Sets with the same groups describe the same bindings.
pub describes_equal : (S R : Groups) (θ : Bindings) → Equal S R → Describes S θ ↔ Describes R θ
describes_equal S R θ e = (describes_more S R θ (λ g. (e g).0), describes_more R S θ (λ g. (e g).1))

-- The union describes what either set describes.
pub describes_joined : (S R : Groups) (θ : Bindings) → Describes S θ ⊎ Describes R θ → Describes (Joined S R) θ
describes_joined S R θ = ⊎_elim (describes_more S (Joined S R) θ (λ g. inl)) (describes_more R (Joined S R) θ (λ g. inr))

-- the groups of a row are of the length of its strings
among_long : (l : ℕ) (gs : List Bits) → Each (λ (g : Bits). length g ≡ l) gs → (g : Bits) → Among gs g → length g ≡ l
unfolding Among Each
among_long l [] w g a = absurd a
among_long l (h ∷ gs) w g (inl e) = ap length e ∙ w.0
among_long l (h ∷ gs) w g (inr a) = among_long l gs w.1 g a

-- The groups among a row of strings of l positions describe exactly what the row itself does.
pub describes_listed : (l : ℕ) (gs : List Bits) → Each (λ (g : Bits). length g ≡ l) gs → (θ : Bindings)
    → Describes (Listed l gs) θ ↔ Describes (Among gs) θ
describes_listed l gs w θ =
    (describes_more (Listed l gs) (Among gs) θ (λ g p. p.1), λ d v. go (string_of θ v) (decide (nonzero (string_of θ v))) (d v))
  where
    go : (g : Bits) → Dec (T (nonzero g)) → (nonzero g ≡ false) ⊎ Among gs g → (nonzero g ≡ false) ⊎ Listed l gs g
    go g n (inl z) = inl z
    go g (no n) (inr a) = inl (false_of (nonzero g) n)
    go g (yes n) (inr a) = inr ((among_long l gs w g a, n), a)

-- ---- Projection

-- the string of v among the kept terms
string_cut : (k : Bits) (θ : Bindings) (v : ℕ) → string_of (cut k θ) v ≡ cut k (string_of θ v)
unfolding cut string_of
string_cut [] θ v = refl
string_cut (c ∷ k) [] v = refl
string_cut (true ∷ k) (u ∷ θ) v = ap (λ (g : Bits). occurs v u ∷ g) (string_cut k θ v)
string_cut (false ∷ k) (u ∷ θ) v = string_cut k θ v

-- The projected groups describe the terms of the kept variables.
pub describes_projected : (k : Bits) (S : Groups) (θ : Bindings) → Describes S θ → Describes (Projected k S) (cut k θ)
describes_projected k S θ d v =
    rw (string_cut k θ v) (go (string_of θ v) (decide (nonzero (cut k (string_of θ v)))) (d v))
  where
    go : (g : Bits) → Dec (T (nonzero (cut k g))) → (nonzero g ≡ false) ⊎ S g
        → (nonzero (cut k g) ≡ false) ⊎ Projected k S (cut k g)
    go g (no n) s = inl (false_of (nonzero (cut k g)) n)
    go g (yes n) (inl z) = absurd (rw z at (cut_nonzero k g n))
    go g (yes n) (inr s) = inr (n, (g, s, refl))

-- ---- The bindings after a projection, by their numbers

-- A kept variable gets a number from 1 to as many as are kept.
pub renumbered_range : (k : Bits) (x : ℕ) → T (has k x) → (0 < renumbered k x) × (renumbered k x ≤ kept k)
unfolding has renumbered kept cut
renumbered_range k zero h = absurd h
renumbered_range [] (suc x) h = absurd h
renumbered_range (true ∷ k) (suc zero) h = (omega arith, omega arith)
renumbered_range (false ∷ k) (suc zero) h = absurd h
renumbered_range (true ∷ k) (suc (suc x)) h = let r = renumbered_range k (suc x) h in (omega arith, omega (arith, r.1))
renumbered_range (false ∷ k) (suc (suc x)) h = renumbered_range k (suc x) h

-- some kept variable gets the number y
abbrev Numbered : Bits → ℕ → Type 0
Numbered k y = (x : ℕ) × T (has k x) × (renumbered k x ≡ y)

-- one position further
later : (c : Bool) (k : Bits) (y z : ℕ) → ((x : ℕ) → renumbered k x ≡ y → renumbered (c ∷ k) (suc x) ≡ z)
    → Numbered k y → Numbered (c ∷ k) z
unfolding has
later c k y z f (zero, h, e) = absurd h
later c k y z f (suc x, h, e) = (suc (suc x), h, f (suc x) e)

-- Each number from 1 to as many as are kept is that of a kept variable.
pub renumbered_onto : (k : Bits) (y : ℕ) → 0 < y → y ≤ kept k → (x : ℕ) × T (has k x) × (renumbered k x ≡ y)
unfolding renumbered kept cut has
renumbered_onto k zero p q = absurd (omega (arith, p))
renumbered_onto [] (suc y) p q = absurd (not-suc-le-zero q)
renumbered_onto (true ∷ k) (suc zero) p q = (1, tt, refl)
renumbered_onto (true ∷ k) (suc (suc y)) p q =
    later true k (suc y) (suc (suc y)) (λ x e. ap suc e) (renumbered_onto k (suc y) (omega arith) (omega (arith, q)))
renumbered_onto (false ∷ k) (suc y) p q = later false k (suc y) (suc y) (λ x e. e) (renumbered_onto k (suc y) p q)

-- where there are no terms
bound_none : (x : ℕ) → bound [] x ≡ head 0 nil
unfolding bound
bound_none zero = refl
bound_none (suc x) = refl

-- one term further
bound_next : (u : Term) (θ : Bindings) (x : ℕ) → 0 < x → bound (u ∷ θ) (suc x) ≡ bound θ x
unfolding bound
bound_next u θ zero p = absurd (omega (arith, p))
bound_next u θ (suc x) p = refl

-- The term of a kept variable is its term under its new number.
pub cut_bound : (k : Bits) (θ : Bindings) (x : ℕ) → T (has k x) → bound (cut k θ) (renumbered k x) ≡ bound θ x
unfolding cut renumbered kept bound has
cut_bound k θ zero h = absurd h
cut_bound [] θ (suc x) h = absurd h
cut_bound (c ∷ k) [] (suc x) h = bound_none (renumbered (c ∷ k) (suc x))
cut_bound (true ∷ k) (u ∷ θ) (suc zero) h = refl
cut_bound (false ∷ k) (u ∷ θ) (suc zero) h = absurd h
cut_bound (true ∷ k) (u ∷ θ) (suc (suc x)) h =
    bound_next u (cut k θ) (renumbered k (suc x)) (renumbered_range k (suc x) h).0 ∙ cut_bound k θ (suc x) h
cut_bound (false ∷ k) (u ∷ θ) (suc (suc x)) h = cut_bound k θ (suc x) h

-- ---- And back: for each group there are bindings that have just it

-- One run-time variable, in the terms of just the program variables of g.
abbrev pub only : Bits → Bindings
only g = map (λ b. cond b (var 0) (head 0 nil)) g

-- its string is g, and that of any other run-time variable all zero
only_string : (g : Bits) → string_of (only g) 0 ≡ g
unfolding string_of occurs occurs_row
only_string [] = refl
only_string (true ∷ g) = ap (λ (h : Bits). true ∷ h) (only_string g)
only_string (false ∷ g) = ap (λ (h : Bits). false ∷ h) (only_string g)

only_others : (g : Bits) (v : ℕ) → nonzero (string_of (only g) (suc v)) ≡ false
unfolding string_of occurs occurs_row nonzero
only_others [] v = refl
only_others (true ∷ g) v = rw (ne_eqb (suc v) 0 (suc-ne-zero v)) (only_others g v)
only_others (false ∷ g) v = only_others g v

-- a set with the group g describes these bindings
only_described : (S : Groups) (g : Bits) → S g → Describes S (only g)
only_described S g s zero = inr (rw (only_string g) s)
only_described S g s (suc v) = inl (only_others g v)

-- and a set that describes them has it
only_group : (S : Groups) (g : Bits) → T (nonzero g) → Describes S (only g) → S g
only_group S g n d = ⊎_elim (λ z. absurd (rw z at n)) (λ s. s) (rw (only_string g) at (d 0))

-- the run-time variable occurs in the terms of g's variables
only_inside : (g : Bits) (x : ℕ) → T (has g x) → T (occurs 0 (bound (only g) x))
only_inside g x h = rw (← has_bound 0 (only g) x, only_string g) h

-- Sets are independent where, for all bindings that are described, goals on them share no run-time variable.
pub shares_none_independent : (S : Groups) (a b : Bits) → ((θ : Bindings) → Describes S θ → ShareNone θ a b) → Independent S a b
shares_none_independent S a b f g s (p, q) =
    let x = meets_has a g p in
    let y = meets_has b g q in
    f (only g) (only_described S g s) 0 (
      record { x = x.0; member = x.1; inside = only_inside g x.0 x.2 },
      record { x = y.0; member = y.1; inside = only_inside g y.0 y.2 },
    )

-- A variable is ground where, for all bindings that are described, its term has no run-time variable.
pub no_variable_ground : (S : Groups) (x : ℕ) → ((θ : Bindings) → Describes S θ → NoVariable θ x) → Ground S x
no_variable_ground S x f g s h = f (only g) (only_described S g s) 0 (only_inside g x h)

-- Sets of groups are equal where they describe the same bindings.
pub same_described_equal : (S R : Groups) → ((g : Bits) → S g → T (nonzero g)) → ((g : Bits) → R g → T (nonzero g))
    → ((θ : Bindings) → Describes S θ ↔ Describes R θ) → Equal S R
same_described_equal S R s r f g = (
  λ h. only_group R g (s g h) ((f (only g)).0 (only_described S g h)),
  λ h. only_group S g (r g h) ((f (only g)).1 (only_described R g h)),
)
