-- Unbound variables: each program variable is bound to a run-time variable of its own. The table of the strings with a single 1
-- is good and describes these bindings, for any number of variables. Assumes nothing.
use mathlib.Core.Path.{◌≡◌, refl, ap, ◌∙◌}
use mathlib.Core.Bool.{Bool, true, false}
use mathlib.Core.List.{[], ◌∷◌, map}
use mathlib.Core.Logic.{◌⊎◌, inl, inr, ⊎_map}
use Prim.Native.Nat.{ℕ, zero, suc, ◌≤◌, ◌<◌}
use native.Mathlib.Decide.{ℕ_discrete}
use native.Mathlib.Omega.{arith}
use lib.Dec.{T, eqb, eqb→eq, eqb_refl}
use lib.ListN.{length, replicate, length-replicate, length-map}
use Rattle.model.specs.Groups.{Bits, nonzero}
use Rattle.model.specs.Strings.{Trits, t0, t1, covers}
use Rattle.model.specs.Growth.{Entries, limit, covered}
use Rattle.model.specs.Tables.{positive, Good, groups, Wide}
use Rattle.model.specs.Terms.{var, occurs}
use Rattle.model.specs.Bindings.{Bindings, string_of, Describes}
use Rattle.model.proofs.Tests.{true_of, false_of}

-- ---- The bindings and their table

-- The run-time variables from i on, n of them, each for a program variable.
abbrev pub unbound_from : ℕ → ℕ → Bindings
unbound_from i zero = []
unbound_from i (suc n) = var i ∷ unbound_from (suc i) n

-- Each of X1 to Xl is bound to a run-time variable of its own.
abbrev pub unbound : ℕ → Bindings
unbound l = unbound_from 1 l

-- The strings of l positions with a single 1, at each position in turn.
abbrev pub singles : ℕ → Entries
singles zero = []
singles (suc l) = (t1 ∷ replicate l t0) ∷ map (λ (s : Trits). t0 ∷ s) (singles l)

-- ---- The table is good

-- strings that are one position wider, with 0 first
zero_wide : (l : ℕ) (τ : Entries) → Wide l τ → Wide (suc l) (map (λ (s : Trits). t0 ∷ s) τ)
unfolding Wide
zero_wide l [] w = tt
zero_wide l (s ∷ τ) w = (ap suc w.0, zero_wide l τ w.1)

singles_wide : (l : ℕ) → Wide l (singles l)
unfolding Wide
singles_wide zero = tt
singles_wide (suc l) = (ap suc (length-replicate l t0), zero_wide l (singles l) (singles_wide l))

singles_length : (l : ℕ) → length (singles l) ≡ l
singles_length zero = refl
singles_length (suc l) = ap suc (length-map (singles l) (λ (s : Trits). t0 ∷ s) ∙ singles_length l)

-- The table of these strings is good.
pub singles_good : (l : ℕ) → l ≤ limit → Good l (singles l)
singles_good l h = record { wide = singles_wide l; few = omega (arith, singles_length l) }

-- ---- It describes the bindings

other : (v n : ℕ) → ¬ (v ≡ n) → eqb v n ≡ false
other v n d = false_of (eqb v n) (λ k. d (eqb→eq v n k))

-- a run-time variable before the first has 0 everywhere
before_covers : (n i v : ℕ) → v < i → covers (replicate n t0) (string_of (unbound_from i n) v) ≡ true
unfolding covers string_of occurs
before_covers zero i v h = refl
before_covers (suc n) i v h = rw (other v i (λ e. omega arith)) (before_covers n (suc i) v (omega arith))

-- a 0 before every string
zero_covered : (τ : Entries) (g : Bits) → covered (map (λ (s : Trits). t0 ∷ s) τ) (false ∷ g) ≡ covered τ g
unfolding covered covers
zero_covered [] g = refl
zero_covered (s ∷ τ) g = rw (zero_covered τ g)

-- the string of a run-time variable is all zero, or has a single 1
single_covered : (n i v : ℕ) → (nonzero (string_of (unbound_from i n) v) ≡ false)
    ⊎ T (covered (singles n) (string_of (unbound_from i n) v))
unfolding nonzero string_of occurs covered covers
single_covered zero i v = inl refl
single_covered (suc n) i v = go (ℕ_discrete v i) (single_covered n (suc i) v)
  where
    rest : Bits
    rest = string_of (unbound_from (suc i) n) v

    go : Dec (v ≡ i) → (nonzero rest ≡ false) ⊎ T (covered (singles n) rest)
        → (nonzero (string_of (unbound_from i (suc n)) v) ≡ false)
        ⊎ T (covered (singles (suc n)) (string_of (unbound_from i (suc n)) v))
    go (yes e) h =
        let same : eqb v i ≡ true = rw e (true_of (eqb i i) (eqb_refl i)) in
        inr (rw (same, before_covers n (suc i) v (omega arith)) tt)
    go (no d) h =
        ⊎_map (λ z. rw (other v i d) z) (λ c. rw (other v i d, zero_covered (singles n) rest) c) h

unbound_length : (n i v : ℕ) → length (string_of (unbound_from i n) v) ≡ n
unfolding string_of
unbound_length zero i v = refl
unbound_length (suc n) i v = ap suc (unbound_length n (suc i) v)

-- It describes unbound variables.
pub unbound_described : (l : ℕ) → Describes (groups positive l (singles l)) (unbound l)
unfolding groups
unbound_described l v = go (nonzero (string_of (unbound l) v)) refl (single_covered l 1 v)
  where
    go : (b : Bool) → nonzero (string_of (unbound l) v) ≡ b
        → (nonzero (string_of (unbound l) v) ≡ false) ⊎ T (covered (singles l) (string_of (unbound l) v))
        → (nonzero (string_of (unbound l) v) ≡ false) ⊎ groups positive l (singles l) (string_of (unbound l) v)
    go false e h = inl e
    go true e h = ⊎_map (λ z. z) (λ c. ((unbound_length l 1 v, rw e tt), c)) h
