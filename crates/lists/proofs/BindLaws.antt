-- What goes on from a step that gives a list or nothing, and from one that makes it. Assumes nothing.
use mathlib.Core.Path.{◌≡◌, refl}
use mathlib.Core.List.{List}
use mathlib.Core.Option.{Option, some, none}
use Prim.Native.Nat.{ℕ}
use Rattle.model.specs.Growth.{◌>>=◌, Entries}
use Rattle.lists.specs.WorkingLists.{Grown}
use Rattle.lists.specs.WorkingLists.{Count, Full}
use Rattle.lists.specs.WorkingLists.{Holds, Makes, stops}
use Rattle.lists.proofs.Holding.{makes_count, makes_full}

module _ {A B : Type 0} where
  -- going on alike
  pub then_same : (o : Option A) {f g : A → Option B} → ((a : A) → f a ≡ g a) → (o >>= f) ≡ (o >>= g)
  then_same o p = λ i. o >>= λ a. p a i

  pub then_none : (o : Option A) → ◌>>=◌ {B = B} o (λ a. none) ≡ none
  unfolding ◌>>=◌
  then_none none = refl
  then_none (some a) = refl

  pub then_then : {C : Type 0} (o : Option A) (f : A → Option B) (g : B → Option C) → ((o >>= f) >>= g) ≡ (o >>= λ a. f a >>= g)
  unfolding ◌>>=◌
  then_then none f g = refl
  then_then (some a) f g = refl

-- to go on to what is given
pub then_some : {A : Type 0} (o : Option A) → (o >>= λ a. some a) ≡ o
unfolding ◌>>=◌
then_some none = refl
then_some (some a) = refl

module _ {l : ℕ} {list : List ℕ} {g : Grown} {o : Option Entries} (made : Makes l list g o)
    (k : Entries → Option Entries) {l' : ℕ} {list' : List ℕ} where
  pub makes_then : {n : ℕ} {r : Grown} → g ≡ Count n → ((τ : Entries) → Holds l list n τ → Makes l' list' r (k τ))
      → Makes l' list' r (o >>= k)
  unfolding ◌>>=◌
  makes_then e next = let t = makes_count made e in rw t.1 (next t.0 t.2)

  pub stops_then : g ≡ Full → Makes l' list' Full (o >>= k)
  unfolding ◌>>=◌
  stops_then e = rw (makes_full made e) stops
