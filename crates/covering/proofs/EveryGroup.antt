-- What holds of every string of 0 and 1, and of every group. Assumes nothing.
use mathlib.Core.Bool.{Bool, true, false, not, ◌&&◌, ◌||◌, false≢true, or-and_distrib_left}
use mathlib.Core.List.{[], ◌∷◌}
use mathlib.Core.Path.{◌≡◌, refl, sym, ap, ap₂, ◌∙◌}
use Prim.Native.Nat.{ℕ, zero, suc}
use native.Mathlib.Omega.{arith}
use lib.Dec.{T}
use lib.ListN.{length}
use Rattle.model.specs.Groups.{Bits, nonzero}
use Rattle.model.specs.Questions.{every, every_group}

-- ---- Tests

-- a true test as a proposition
pub test : {p : Bool} → p ≡ true → T p
test e = rw e tt

-- two tests that follow from one another are equal
pub bool_ext : (p q : Bool) → (p ≡ true → q ≡ true) → (q ≡ true → p ≡ true) → p ≡ q
bool_ext true q f g = sym (f refl)
bool_ext false true f g = g refl
bool_ext false false f g = refl

-- a test that cannot be true is false
pub untrue : (p : Bool) → (p ≡ true → ⊥) → p ≡ false
untrue true f = absurd (f refl)
untrue false f = refl

-- two tests that are true are so together
pub both : {p q : Bool} → p ≡ true → q ≡ true → (p && q) ≡ true
both e f = rw (e, f)

-- and each is true by itself
pub left : (p q : Bool) → (p && q) ≡ true → p ≡ true
left true q h = refl
left false q h = h

pub right : (p q : Bool) → (p && q) ≡ true → q ≡ true
right true q h = h
right false q h = absurd (false≢true h)

-- `not p || q` says that p implies q
pub implies : (p q : Bool) → (p ≡ true → q ≡ true) → (not p || q) ≡ true
implies true q f = f refl
implies false q f = refl

pub implied : (p q : Bool) → (not p || q) ≡ true → p ≡ true → q ≡ true
implied true q h e = h
implied false q h e = absurd (false≢true e)

-- ---- Every string

-- what holds of each string
every_true : (l : ℕ) (p : Bits → Bool) → ((g : Bits) → length g ≡ l → p g ≡ true) → every l p ≡ true
unfolding every
every_true zero p f = f [] refl
every_true (suc l) p f =
    both (every_true l (λ g. p (false ∷ g)) (λ g e. f (false ∷ g) (ap suc e)))
    (every_true l (λ g. p (true ∷ g)) (λ g e. f (true ∷ g) (ap suc e)))

-- and the other way round
every_at : (l : ℕ) (p : Bits → Bool) → every l p ≡ true → (g : Bits) → length g ≡ l → p g ≡ true
unfolding every
every_at zero p h [] e = h
every_at zero p h (x ∷ g) e = absurd (omega arith)
every_at (suc l) p h [] e = absurd (omega arith)
every_at (suc l) p h (false ∷ g) e = every_at l (λ g. p (false ∷ g)) (left _ _ h) g (omega arith)
every_at (suc l) p h (true ∷ g) e = every_at l (λ g. p (true ∷ g)) (right (every l (λ g. p (false ∷ g))) _ h) g (omega arith)

-- the middle two of four tests exchanged
four : (a b c d : Bool) → ((a && b) && (c && d)) ≡ ((a && c) && (b && d))
four true true c d = refl
four true false true d = refl
four true false false d = refl
four false b c d = refl

-- two claims together
every_and : (l : ℕ) (p q : Bits → Bool) → every l (λ g. p g && q g) ≡ (every l p && every l q)
unfolding every
every_and zero p q = refl
every_and (suc l) p q =
    ap₂ ◌&&◌ (every_and l (λ g. p (false ∷ g)) (λ g. q (false ∷ g))) (every_and l (λ g. p (true ∷ g)) (λ g. q (true ∷ g)))
    ∙ four (every l (λ g. p (false ∷ g))) (every l (λ g. q (false ∷ g))) _ _

-- claims that agree on each string
every_ext : (l : ℕ) (p q : Bits → Bool) → ((g : Bits) → length g ≡ l → p g ≡ q g) → every l p ≡ every l q
unfolding every
every_ext zero p q e = e [] refl
every_ext (suc l) p q e =
    ap₂ ◌&&◌ (every_ext l _ _ (λ g n. e (false ∷ g) (ap suc n))) (every_ext l _ _ (λ g n. e (true ∷ g) (ap suc n)))

-- ---- Every group

module _ (l : ℕ) (p : Bits → Bool) where
  -- what holds of each group
  pub group_true : ((g : Bits) → length g ≡ l → nonzero g ≡ true → p g ≡ true) → every_group l p ≡ true
  unfolding every_group
  group_true f = every_true l _ (λ g e. implies (nonzero g) (p g) (f g e))

  -- and the other way round
  pub group_at : every_group l p ≡ true → (g : Bits) → length g ≡ l → nonzero g ≡ true → p g ≡ true
  unfolding every_group
  group_at h g e s = implied (nonzero g) (p g) (every_at l _ h g e) s

  -- claims that agree on each string
  pub group_ext : (q : Bits → Bool) → ((g : Bits) → length g ≡ l → p g ≡ q g) → every_group l p ≡ every_group l q
  unfolding every_group
  group_ext q e = every_ext l _ _ (λ g n. ap (λ (u : Bool). not (nonzero g) || u) (e g n))

  -- two claims together
  pub group_and : (q : Bits → Bool) → every_group l (λ g. p g && q g) ≡ (every_group l p && every_group l q)
  unfolding every_group
  group_and q = ap (every l) (λ i g. or-and_distrib_left (not (nonzero g)) (p g) (q g) i) ∙ every_and l _ _
