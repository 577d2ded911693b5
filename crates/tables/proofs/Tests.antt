-- Tests of words and of pairs. Assumes nothing.
use mathlib.Core.Path.{◌≡◌, refl, sym, ◌∙◌}
use mathlib.Core.Bool.{Bool, true, false, ◌&&◌, true≢false}
use Prim.Native.Nat.{ℕ, ◌-◌, ◌^◌, ◌<◌}
use native.Mathlib.Omega.{arith}
use borrow.Author.Tests.{lt-ltb, le-ltb, leb-true, leb-false, eqb-true, ne_eqb}
use lib.Bits.{bit_or, or_add_and, and_le_l, and_le_r}
use lib.Dec.{ltb, leb, eqb}
use lib.Pow.{pow_pos}

-- at most the word of l ones, or below 2 to the l
pub below_full : (l w full : ℕ) → full ≡ 2 ^ l - 1 → leb w full ≡ ltb w (2 ^ l)
below_full l w full e = go (leb w full) refl
  where
    p : 0 < 2 ^ l
    p = pow_pos l

    go : (b : Bool) → leb w full ≡ b → b ≡ ltb w (2 ^ l)
    go true h = let k = leb-true w full h in sym (lt-ltb w (2 ^ l) (omega (arith, p)))
    go false h = let k = leb-false w full h in sym (le-ltb w (2 ^ l) (omega (arith, p)))

-- both parts of a test that holds
pub both_true : (a b : Bool) → (a && b) ≡ true → (a ≡ true) × (b ≡ true)
both_true true b h = (refl, h)
both_true false b h = absurd (let z : ◌≡◌ {A = ℕ} 0 1 = cc in omega arith)

-- two words together are 0 where each is
pub both_zero : (a b : ℕ) → eqb (bit_or a b) 0 ≡ (eqb a 0 && eqb b 0)
both_zero a b = go (eqb a 0 && eqb b 0) refl
  where
    go : (t : Bool) → (eqb a 0 && eqb b 0) ≡ t → eqb (bit_or a b) 0 ≡ t
    go true h =
        let z = both_true (eqb a 0) (eqb b 0) h in
        rw (eqb-true a 0 z.0, eqb-true b 0 z.1)
    go false h =
        ne_eqb (bit_or a b) 0
        (λ none.
        let sum = or_add_and a b in
        let left : a ≡ 0 = omega (arith, none, sum, and_le_r a b) in
        let right : b ≡ 0 = omega (arith, none, sum, and_le_l a b) in
        true≢false (sym (rw (left, right)) ∙ h))
