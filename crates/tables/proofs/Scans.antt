-- Scans of the indexes below k, by `and` and by `or`: what was found so far, and what is left. Assumes nothing.
use mathlib.Core.Path.{◌≡◌, refl, sym, ap, ◌∙◌}
use mathlib.Core.Bool.{Bool, true, false, ◌&&◌, ◌||◌, and_assoc, and-true, or_assoc, or-false, or-true, true≢false}
use Prim.Native.Nat.{ℕ, zero, suc, ◌+◌, ◌-◌, ◌≤◌, ◌<◌}
use native.Mathlib.Nat.{zero-add, add-zero}
use native.Mathlib.Numerals.{add-one}
use native.Mathlib.Omega.{arith}
use Rattle.tables.specs.Lists.{some_from}
use Rattle.tables.specs.Values.{all_from}

-- `from` joins a test of the indexes from one on by `op`
pub record Scan (from : ℕ → ℕ → (ℕ → Bool) → Bool) (op : Bool → Bool → Bool) : Type 0 where
  pub none : Bool
  pub nil : (i : ℕ) (p : ℕ → Bool) → from i 0 p ≡ none
  pub cons : (i n : ℕ) (p : ℕ → Bool) → from i (suc n) p ≡ op (p i) (from (suc i) n p)
  pub assoc : (a b c : Bool) → op (op a b) c ≡ op a (op b c)
  pub unit : (a : Bool) → op a none ≡ a

pub all_scan : Scan all_from ◌&&◌
unfolding all_from
all_scan = record { none = true; nil = λ i p. refl; cons = λ i n p. refl; assoc = and_assoc; unit = and-true }

pub some_scan : Scan some_from ◌||◌
unfolding some_from
some_scan = record { none = false; nil = λ i p. refl; cons = λ i n p. refl; assoc = or_assoc; unit = or-false }

module _ {from : ℕ → ℕ → (ℕ → Bool) → Bool} {op : Bool → Bool → Bool} (S : Scan from op) (p : ℕ → Bool) where
  pub scan_whole : (i n k : ℕ) → k ≡ i + n → from i n p ≡ from i (k - i) p
  scan_whole i n k e = ap (λ (m : ℕ). from i m p) (let z : n ≡ k - i = omega (arith, e) in z)

  pub scan_start : (k : ℕ) → from 0 k p ≡ from 0 (k - 0) p
  scan_start k = scan_whole 0 k k (omega arith)

  module _ (whole so_far : Bool) (i k : ℕ) (h : whole ≡ op so_far (from i (k - i) p)) where
    pub scan_turn : i < k → (hit : Bool) → hit ≡ p i → whole ≡ op (op so_far hit) (from (i + 1) (k - (i + 1)) p)
    scan_turn lt hit e =
        h
        ∙ ap (λ (m : ℕ). op so_far (from i m p)) (let s : k - i ≡ suc (k - (i + 1)) = omega arith in s)
        ∙ ap (op so_far) (S.cons i (k - (i + 1)) p)
        ∙ sym (S.assoc so_far (p i) (from (suc i) (k - (i + 1)) p))
        ∙ rw (e, add-one)

    pub scan_end : k ≤ i → so_far ≡ whole
    scan_end le =
        sym (h
        ∙ ap (λ (m : ℕ). op so_far (from i m p)) (let z : k - i ≡ 0 = omega arith in z)
        ∙ ap (op so_far) (S.nil i p)
        ∙ S.unit so_far)

-- ---- Blocks of a scan by `or`

module _ (p : ℕ → Bool) where
  some_split : (i m n : ℕ) → some_from i (m + n) p ≡ (some_from i m p || some_from (i + m) n p)
  unfolding some_from
  some_split i zero n = rw (zero-add n, add-zero i)
  some_split i (suc m) n =
      let s : suc m + n ≡ suc (m + n) = omega arith in
      let t : i + suc m ≡ suc i + m = omega arith in
      rw (s, t)
      (ap (λ (b : Bool). p i || b) (some_split (suc i) m n) ∙ sym (or_assoc (p i) (some_from (suc i) m p) _))

  -- the indexes below k, cut at i
  some_parts : (i k : ℕ) → i ≤ k → some_from 0 k p ≡ (some_from 0 i p || some_from i (k - i) p)
  some_parts i k h =
      ap (λ (m : ℕ). some_from 0 m p) (let z : k ≡ i + (k - i) = omega arith in z)
      ∙ some_split 0 i (k - i)
      ∙ rw (zero-add i)

  -- one is found in a block
  pub block_found : (i end k : ℕ) → i ≤ end → end ≤ k → some_from i (end - i) p ≡ true → some_from 0 k p ≡ true
  block_found i end k h le e = some_parts end k le ∙ rw (some_parts i end h, e, or-true)

  -- none is in the next block either
  pub block_none : (i end : ℕ) → i ≤ end → some_from 0 i p ≡ false → some_from i (end - i) p ≡ false
      → some_from 0 end p ≡ false
  block_none i end h none e = some_parts i end h ∙ rw (none, e)

  -- the last block, which may start before i, decides
  pub block_last : (last i k : ℕ) → last ≤ i → last ≤ k → some_from 0 i p ≡ false
      → some_from last (k - last) p ≡ some_from 0 k p
  block_last last i k h le none =
      sym (some_parts last k le
      ∙ ap (λ (b : Bool). b || some_from last (k - last) p)
      (neither (some_from 0 last p) _ (sym (some_parts last i h) ∙ none)))
    where
      neither : (a b : Bool) → (a || b) ≡ false → a ≡ false
      neither true b q = absurd (true≢false q)
      neither false b q = refl
