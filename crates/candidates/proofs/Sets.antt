-- Sets of variables as words: the string with 0 at all of them, and how many they are. Assumes nothing.
use mathlib.Core.Path.{◌≡◌, refl, sym, ap, ◌∙◌}
use mathlib.Core.Bool.{true, false}
use mathlib.Core.List.{[], ◌∷◌}
use Prim.Native.Nat.{ℕ, ◌+◌, ◌*◌, ◌%◌, ◌^◌, ◌<◌}
use native.Mathlib.Omega.{arith}
use lib.Count.{ones, ones_cat}
use lib.Pow.{shl_exact}
use Rattle.model.specs.Groups.{Bits, cut}
use Rattle.model.specs.Strings.{zeros}
use Rattle.model.specs.Tables.{kept}
use Rattle.words.specs.Words.{word, set_word}
use Rattle.words.proofs.Codec.{bit_lt}
use Rattle.words.proofs.Words.{zeros_word}

-- as `(m as u64) << 32` comes into a goal
pub zeros_shl : (k : Bits) {m : ℕ} → m < 2 ^ 32 → m ≡ set_word k → (m * 2 ^ 32) % 2 ^ 64 ≡ word (zeros k)
zeros_shl k h is = shl_exact 32 32 64 h (omega arith) ∙ ap (λ (w : ℕ). w * 2 ^ 32) is ∙ sym (zeros_word k)

-- as many positions are kept as the set has variables
pub kept_ones : (k : Bits) → ones (set_word k) ≡ kept k
unfolding set_word kept cut ones
kept_ones [] = refl
kept_ones (true ∷ k) = ones_cat 1 (set_word k) 1 (bit_lt true) ∙ ap (λ (n : ℕ). n + 1) (kept_ones k) ∙ omega arith
kept_ones (false ∷ k) = ones_cat 1 (set_word k) 0 (bit_lt false) ∙ ap (λ (n : ℕ). n + 0) (kept_ones k) ∙ omega arith
