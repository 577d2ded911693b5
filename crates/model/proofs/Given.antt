-- What holds of the list that a procedure gives, wherever it gives one. Assumes nothing.
use mathlib.Core.Path.{◌≡◌, refl, subst}
use mathlib.Core.List.{List, [], ◌∷◌, ◌++◌}
use mathlib.Core.Option.{Option, some, none}
use Rattle.model.specs.Growth.{◌>>=◌, fold}

-- P holds of what o gives, where o gives anything.
pub data Given {A : Type 0} (P : A → Type 0) : Option A → Type 0 where
  nothing : Given P none
  given : {a : A} → P a → Given P (some a)

module _ {A : Type 0} {P : A → Type 0} where
  of_some : {a : A} → Given P (some a) → P a
  of_some (given p) = p

  pub given_at : {o : Option A} → Given P o → (a : A) → o ≡ some a → P a
  given_at g a e = of_some (subst (Given P) e g)

  pub given_map : {Q : A → Type 0} {o : Option A} → ((a : A) → P a → Q a) → Given P o → Given Q o
  given_map f nothing = nothing
  given_map f (given {a} p) = given (f a p)

  pub given_both : {Q : A → Type 0} {o : Option A} → Given P o → Given Q o → Given (λ a. P a × Q a) o
  given_both nothing nothing = nothing
  given_both (given p) (given q) = given (p, q)

  pub given_then : {B : Type 0} {Q : B → Type 0} {o : Option A} (k : A → Option B) → Given P o → ((a : A) → P a → Given Q (k a))
      → Given Q (o >>= k)
  unfolding ◌>>=◌
  given_then k nothing f = nothing
  given_then k (given {a} p) f = f a p

-- each x of a list
module _ {X : Type 0} where
  unfoldable pub Each : (X → Type 0) → List X → Type 0
  Each J [] = Unit {0}
  Each J (x ∷ xs) = J x × Each J xs

  pub each : {J : X → Type 0} → ((x : X) → J x) → (xs : List X) → Each J xs
  unfolding Each
  each f [] = tt
  each f (x ∷ xs) = (f x, each f xs)

  -- What holds of each x, weakened.
  pub each_to : {J K : X → Type 0} → ((x : X) → J x → K x) → (xs : List X) → Each J xs → Each K xs
  unfolding Each
  each_to f [] e = tt
  each_to f (x ∷ xs) e = (f x e.0, each_to f xs e.1)

  -- Two lists appended.
  pub each_append : (J : X → Type 0) (xs ys : List X) → Each J xs → Each J ys → Each J (xs ++ ys)
  unfolding Each
  each_append J [] ys d e = e
  each_append J (x ∷ xs) ys d e = (d.0, each_append J xs ys d.1 e)

-- what a step keeps, its fold keeps
module _ {S X : Type 0} {I : S → Type 0} {J : X → Type 0} where
  pub fold_keeps : (step : S → X → Option S) → ((s : S) (x : X) → I s → J x → Given I (step s x))
      → (s : S) (xs : List X) → I s → Each J xs → Given I (fold step s xs)
  unfolding fold Each
  fold_keeps step keep s [] i j = given i
  fold_keeps step keep s (x ∷ xs) i j =
      given_then (λ t. fold step t xs) (keep s x i j.0) (λ t k. fold_keeps step keep t xs k j.1)

-- one list after another
module _ {S X : Type 0} (step : S → X → Option S) where
  pub fold_append : (s : S) (xs ys : List X) → fold step s (xs ++ ys) ≡ (fold step s xs >>= λ t. fold step t ys)
  unfolding fold ◌>>=◌
  fold_append s [] ys = refl
  fold_append s (x ∷ xs) ys = go (step s x) (λ t. fold_append t xs ys)
    where
      go : (o : Option S) → ((t : S) → fold step t (xs ++ ys) ≡ (fold step t xs >>= λ u. fold step u ys))
          → (o >>= λ t. fold step t (xs ++ ys)) ≡ ((o >>= λ t. fold step t xs) >>= λ u. fold step u ys)
      go none f = refl
      go (some t) f = f t
