-- Laws of tests. Assumes nothing.
use mathlib.Core.Path.{◌≡◌, refl}
use mathlib.Core.Bool.{Bool, true, false, ◌||◌, ◌&&◌, not}
use mathlib.Core.Logic.{◌⊎◌, inl, inr}
use lib.Dec.{T}

pub or_cases : (a b : Bool) → T (a || b) → T a ⊎ T b
or_cases true b t = inl tt
or_cases false b t = inr t

pub or_left : (a b : Bool) → T a → T (a || b)
or_left true b t = tt
or_left false b t = absurd t

pub or_right : (a b : Bool) → T b → T (a || b)
or_right true b t = tt
or_right false b t = t

pub and_first : (a b : Bool) → T (a && b) → T a
and_first true b t = tt
and_first false b t = absurd t

pub and_second : (a b : Bool) → T (a && b) → T b
and_second true b t = t
and_second false b t = absurd t

pub and_both : (a b : Bool) → T a → T b → T (a && b)
and_both true b s t = t
and_both false b s t = absurd s

pub true_of : (b : Bool) → T b → b ≡ true
true_of true t = refl
true_of false t = absurd t

pub false_of : (b : Bool) → ¬ (T b) → b ≡ false
false_of true n = absurd (n tt)
false_of false n = refl

-- Two tests that imply one another are equal.
pub same_test : (a b : Bool) → (T a → T b) → (T b → T a) → a ≡ b
same_test true true f g = refl
same_test true false f g = absurd (f tt)
same_test false true f g = absurd (g tt)
same_test false false f g = refl

pub decide : (b : Bool) → Dec (T b)
decide true = yes tt
decide false = no (λ t. t)

pub not_not : (b : Bool) → ¬ (T (not b)) → T b
not_not true n = tt
not_not false n = absurd (n tt)

pub nor : (a b : Bool) → ¬ (T a) → ¬ (T b) → ¬ (T (a || b))
nor true b m n t = m tt
nor false b m n t = n t

pub nand : (a b : Bool) → ¬ (T (a && b)) → ¬ (T a) ⊎ ¬ (T b)
nand true b n = inr n
nand false b n = inl (λ t. t)

pub ruleset tests = (or_left, or_right, and_first, and_second, and_both)
