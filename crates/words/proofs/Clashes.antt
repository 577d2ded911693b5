-- The bits in both halves of two strings' words together: there are as many as positions at which the strings are opposed.
-- Assumes nothing.
use Rattle.std.proofs.Common.{◌≡◌, ℕ, suc, ◌+◌, ◌^◌, ◌<◌, ◌≤◌, Bool, true, false, cond, ltb, length, refl, ap, ◌∙◌, arith}
use lib.Bits.{bit_and, bit_or, and_lt, or_lt}
use lib.Count.{ones}
use Rattle.model.specs.Strings.{Trit, Trits, match_digit}
use Rattle.model.specs.Widest.{opposed_count}
use Rattle.words.specs.Words.{zero_bit, value_bit, zeros_of, value_of, word, clash_word, lone}
use Rattle.words.proofs.Digits.{paired, nine}
use Rattle.words.proofs.Halves.{value_half, zeros_half}
use Rattle.words.proofs.Words.{clashing, word_clash}
use Rattle.words.proofs.LackedBits.{ones_on, lone_ones}

-- the positions in both halves
abbrev both : Trits → Trits → ℕ
both s t = bit_and (bit_or (zeros_of s) (zeros_of t)) (bit_or (value_of s) (value_of t))

-- there are as many as positions that are opposed
clash_ones : (s t : Trits) → length s ≡ length t → ones (both s t) ≡ opposed_count s t
unfolding opposed_count ones
clash_ones =
    paired _ (unfold zeros_of value_of in refl)
    (λ t u s r e ih.
    ones_on _ clashing t u s r ∙ go (match_digit t u) (ones (both s r)) _ (opposed_count s r) ih (digit t u))
  where
    digit : (t u : Trit)
        → ones (bit_and (bit_or (zero_bit t) (zero_bit u)) (bit_or (value_bit t) (value_bit u))) ≡ cond (match_digit t u) 0 1
    digit = nine _ refl refl refl refl refl refl refl refl refl

    go : (b : Bool) (p c n : ℕ) → p ≡ n → c ≡ cond b 0 1 → p + c ≡ cond b n (suc n)
    go true p c n e k = omega arith
    go false p c n e k = omega arith

-- at most one bit is in both halves exactly where at most one position is opposed
pub word_opposed_once : (s t : Trits) → length s ≡ length t → length s ≤ 32
    → lone (clash_word (word s) (word t)) ≡ ltb (opposed_count s t) 2
word_opposed_once s t e short =
    let short_too : length t ≤ 32 = rw (← e) short in
    let small : both s t < 2 ^ 32 = and_lt 32 _ _ (or_lt 32 _ _ (zeros_half s short) (zeros_half t short_too))
    (or_lt 32 _ _ (value_half s short) (value_half t short_too)) in
    ap lone (word_clash s t e short) ∙ lone_ones 32 (both s t) small ∙ ap (λ (x : ℕ). ltb x 2) (clash_ones s t e)
