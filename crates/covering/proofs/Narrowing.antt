-- A string narrowed to what an entry does not cover (unit propagation): its word, and that nothing else is lost.
-- Assumes nothing.
use mathlib.Core.Bool.{Bool, true, false, ◌&&◌, false≢true, cond}
use mathlib.Core.List.{[], ◌∷◌}
use mathlib.Core.Path.{◌≡◌, refl, sym, ap, ap₂, ◌∙◌}
use Prim.Native.Nat.{ℕ, suc, ◌-◌, ◌<◌, ◌≤◌}
use native.Mathlib.Nat.{suc-ne-zero}
use native.Mathlib.Omega.{arith}
use borrow.Author.Tests.{eq-eqb, ltb-true}
use lib.Bits.{bit_and, bit_or, bit_xor, or_block, and_lt, xor_lt, and_shr, xor_shr, and_mod, xor_mod}
use lib.ListN.{length, get_or}
use Rattle.model.specs.Groups.{Bits}
use Rattle.model.specs.Strings.{Trit, t0, t1, t*, Trits, flip, covers_digit, subsumes_digit, covers, subsumes}
use Rattle.model.specs.Growth.{Entries, covered, subsumed}
use Rattle.model.proofs.Growth.{subsumed_covered}
use Rattle.model.proofs.Strings.{subsumes_covers}
use Rattle.model.proofs.Subsuming.{subsumes_same, subsumes_trans}
use Rattle.model.proofs.Tests.{true_of}
use Rattle.words.specs.Words.{zero_bit, value_bit, zeros_of, value_of, word, high, low, halves, lacks_word, lone, lack_count}
use Rattle.words.specs.Words.{opposite_word, near}
use Rattle.words.proofs.Digits.{zero_l, value_l, zero_r, value_r, and_of, or_of, xor_of, on_cons, digits_equal, paired, nine}
use Rattle.words.proofs.Halves.{value_half, zeros_half, high_word, low_word}
use Rattle.covering.specs.Covering.{Narrows, all_covered}
use Rattle.words.proofs.LackedBits.{word_near}
use Rattle.covering.proofs.EveryGroup.{test, bool_ext, both, left, right, untrue, implies, implied}
use Rattle.covering.proofs.EveryGroup.{group_true, group_at}
use Rattle.covering.proofs.Pieces.{covered_at}

-- ---- The opposite of v where y is `*`, else y

-- one position
narrow_digit : Trit → Trit → Trit
narrow_digit t t0 = t0
narrow_digit t t1 = t1
narrow_digit t t* = flip t

-- each position
unfoldable narrow : Trits → Trits → Trits
narrow [] y = []
narrow (t ∷ v) [] = []
narrow (t ∷ v) (u ∷ y) = narrow_digit t u ∷ narrow v y

-- it is as long as y
narrow_length : (v y : Trits) → length v ≡ length y → length (narrow v y) ≡ length y
unfolding narrow
narrow_length = paired _ refl (λ t u v y e ih. ap suc ih)

-- y subsumes it
narrow_inside : (v y : Trits) → length v ≡ length y → subsumes y (narrow v y) ≡ true
unfolding narrow narrow_digit subsumes
narrow_inside = paired _ refl (λ t u v y e ih. both (digit t u) ih)
  where
    digit : (t u : Trit) → subsumes_digit u (narrow_digit t u) ≡ true
    digit t t0 = refl
    digit t t1 = refl
    digit t t* = refl

-- where v subsumes y it is y
narrow_same : (v y : Trits) → length v ≡ length y → subsumes v y ≡ true → narrow v y ≡ y
unfolding narrow narrow_digit subsumes
narrow_same = paired _ (λ h. refl) (λ t u v y e ih h.
    ap₂ {C = Trits} (λ a r. a ∷ r) (digit t u (left _ _ h)) (ih (right (subsumes_digit t u) _ h)))
  where
    clash : {a b : Trit} → false ≡ true → a ≡ b
    clash h = absurd (false≢true h)

    digit : (t u : Trit) → subsumes_digit t u ≡ true → narrow_digit t u ≡ u
    digit = nine _ (λ h. refl) clash clash clash (λ h. refl) clash (λ h. refl) (λ h. refl) (λ h. refl)

-- ---- Its word: y with the opposite of what it lacks of v

-- the high half
narrow_zeros : (v y : Trits) → length v ≡ length y
    → bit_or (bit_xor (bit_and (value_of v) (value_of y)) (value_of v)) (zeros_of y) ≡ zeros_of (narrow v y)
unfolding narrow narrow_digit zeros_of value_of
narrow_zeros =
    paired _ refl (λ t u v y e ih.
    on_cons _ (or_of _ _ (xor_of _ _ (and_of _ _ value_l value_r) value_l) zero_r) t u v y ∙ digits_equal ih (digit t u))
  where
    digit : (t u : Trit)
        → bit_or (bit_xor (bit_and (value_bit t) (value_bit u)) (value_bit t)) (zero_bit u) ≡ zero_bit (narrow_digit t u)
    digit = nine _ refl refl refl refl refl refl refl refl refl

-- the low half
narrow_values : (v y : Trits) → length v ≡ length y
    → bit_or (bit_xor (bit_and (zeros_of v) (zeros_of y)) (zeros_of v)) (value_of y) ≡ value_of (narrow v y)
unfolding narrow narrow_digit zeros_of value_of
narrow_values =
    paired _ refl (λ t u v y e ih.
    on_cons _ (or_of _ _ (xor_of _ _ (and_of _ _ zero_l zero_r) zero_l) value_r) t u v y ∙ digits_equal ih (digit t u))
  where
    digit : (t u : Trit)
        → bit_or (bit_xor (bit_and (zero_bit t) (zero_bit u)) (zero_bit t)) (value_bit u) ≡ value_bit (narrow_digit t u)
    digit = nine _ refl refl refl refl refl refl refl refl refl

-- both
narrow_word : (v y : Trits) → length v ≡ length y → length v ≤ 32
    → bit_or (opposite_word (lacks_word (word v) (word y))) (word y) ≡ word (narrow v y)
unfolding opposite_word lacks_word word
narrow_word v y n short =
    let short_y : length y ≤ 32 = rw (← n) short in
    let a = bit_xor (bit_and (zeros_of v) (zeros_of y)) (zeros_of v) in
    let b = bit_xor (bit_and (value_of v) (value_of y)) (value_of v) in
    let lacks = lacks_word (word v) (word y) in
    let up : high lacks ≡ a =
    xor_shr (bit_and (word v) (word y)) (word v) 32
    ∙ ap₂ bit_xor (and_shr (word v) (word y) 32 ∙ ap₂ bit_and (high_word v short) (high_word y short_y)) (high_word v short) in
    let down : low lacks ≡ b =
    xor_mod (bit_and (word v) (word y)) (word v) 32
    ∙ ap₂ bit_xor (and_mod (word v) (word y) 32 ∙ ap₂ bit_and (low_word v short) (low_word y short_y)) (low_word v short) in
    let zv = zeros_half v short in
    ap (λ (x : ℕ). bit_or x (word y)) (ap₂ halves down up)
    ∙ or_block 32 b (zeros_of y) a (value_of y) (xor_lt 32 _ _ (and_lt 32 _ _ zv (zeros_half y short_y)) zv)
    (value_half y short_y)
    ∙ ap₂ halves (narrow_zeros v y n) (narrow_values v y n)

-- ---- What it covers

-- a string that lacks nothing of v is subsumed
lacks_none : (v y : Trits) → length v ≡ length y → lack_count v y ≡ 0 → subsumes v y ≡ true
unfolding lack_count subsumes
lacks_none = paired _ (λ z. refl) (λ t u v y e ih z. go (subsumes_digit t u) (lack_count v y) z ih)
  where
    go : (b : Bool) (n : ℕ) {c : Bool} → cond b n (suc n) ≡ 0 → (n ≡ 0 → c ≡ true) → (b && c) ≡ true
    go true n z ih = ih z
    go false n z ih = absurd (suc-ne-zero _ z)

-- a digit that y covers and v does not
lost_digit : (t u : Trit) (b : Bool) → covers_digit u b ≡ true → covers_digit t b ≡ false
    → covers_digit (narrow_digit t u) b ≡ true
unfolding narrow_digit
lost_digit t t0 b c f = c
lost_digit t t1 b c f = c
lost_digit t0 t* true c f = refl
lost_digit t0 t* false c f = sym f
lost_digit t1 t* true c f = sym f
lost_digit t1 t* false c f = refl
lost_digit t* t* b c f = refl

-- where v subsumes y, a digit that y covers is covered by both
kept_digit : (t u : Trit) (b : Bool) → subsumes_digit t u ≡ true → covers_digit u b ≡ true
    → (covers_digit t b ≡ true) × (covers_digit (narrow_digit t u) b ≡ true)
unfolding narrow_digit
kept_digit t0 t0 b h c = (c, c)
kept_digit t0 t1 b h c = absurd (false≢true h)
kept_digit t0 t* b h c = absurd (false≢true h)
kept_digit t1 t0 b h c = absurd (false≢true h)
kept_digit t1 t1 b h c = (c, c)
kept_digit t1 t* b h c = absurd (false≢true h)
kept_digit t* t0 b h c = (refl, c)
kept_digit t* t1 b h c = (refl, c)
kept_digit t* t* b h c = (refl, refl)

-- of two tests of which the second is true, the first fails
not_here : (p q : Bool) → q ≡ true → (p && q) ≡ false → p ≡ false
not_here true q e f = sym e ∙ f
not_here false q e f = refl

-- y lacks one position of v at most: what y covers and v does not has the opposite of v there
narrow_covers : (v y : Trits) (g : Bits) → length v ≡ length y → lack_count v y < 2 → covers y g ≡ true → covers v g ≡ false
    → covers (narrow v y) g ≡ true
unfolding narrow covers lack_count
narrow_covers [] [] g n k c f = c
narrow_covers [] (u ∷ y) g n k c f = absurd (omega arith)
narrow_covers (t ∷ v) [] g n k c f = absurd (omega arith)
narrow_covers (t ∷ v) (u ∷ y) [] n k c f = c
narrow_covers (t ∷ v) (u ∷ y) (b ∷ g) n k c f = go (subsumes_digit t u) refl k (narrow_covers v y g)
  where
    alike : length v ≡ length y
    alike = omega arith

    rest : covers y g ≡ true
    rest = right (covers_digit u b) _ c

    go : (h : Bool) → subsumes_digit t u ≡ h → cond h (lack_count v y) (suc (lack_count v y)) < 2
        → (length v ≡ length y → lack_count v y < 2 → covers y g ≡ true → covers v g ≡ false → covers (narrow v y) g ≡ true)
        → (covers_digit (narrow_digit t u) b && covers (narrow v y) g) ≡ true
    go true e few ih =
        let kept = kept_digit t u b e (left _ _ c) in
        both kept.1 (ih alike few rest (sym (ap (λ (x : Bool). x && covers v g) kept.0) ∙ f))
    go false e few ih =
        let all = lacks_none v y alike (omega arith) in
        both (lost_digit t u b (left _ _ c) (not_here _ _ (true_of _ (subsumes_covers v y g (test all) (test rest))) f))
        (ap (λ (s : Trits). covers s g) (narrow_same v y alike all) ∙ rest)

-- ---- Narrowing by an entry, by a list

-- nothing is narrowed
pub narrows_same : (p : Bits → Bool) (t : Trits) {y : ℕ} → y ≡ word t → Narrows p t y
narrows_same p t e = record { string = t; is = e; long = refl; inside = true_of _ (subsumes_same t); rest = λ g c _. c }

-- y lacks one position at most; as the code makes it
pub narrows_one : (v y o : ℕ) (s t : Trits) → length s ≡ length t → length s ≤ 32 → v ≡ word s → y ≡ word t
    → bit_and (bit_xor (bit_and v y) v) (bit_xor (bit_and v y) v - 1) ≡ 0 → o ≡ opposite_word (bit_xor (bit_and v y) v)
    → Narrows (covers s) t (bit_or o y)
unfolding lone near lacks_word
narrows_one v y o s t n short es et k eo =
    let one : bit_and (lacks_word (word s) (word t)) (lacks_word (word s) (word t) - 1) ≡ 0 = rw (es, et) at k in
    let few = ltb-true (lack_count s t) 2 (sym (word_near s t n short) ∙ eq-eqb _ 0 one) in
    record {
      string = narrow s t;
      is = rw (eo, es, et) (narrow_word s t n short);
      long = narrow_length s t n;
      inside = narrow_inside s t n;
      rest = λ g c f. narrow_covers s t g n few c f;
    }

-- one entry more
pub narrows_more : (τ : Entries) {t : Trits} {x r : ℕ} (i : ℕ) → i < length τ → (a : Narrows (covered τ) t x)
    → Narrows (covers (get_or τ i [])) a.string r → Narrows (covered τ) t r
narrows_more τ {t = t} i h a b = record {
  string = b.string;
  is = b.is;
  long = b.long ∙ a.long;
  inside = true_of _ (subsumes_trans t a.string b.string (test a.inside) (test b.inside));
  rest = λ g c u. b.rest g (a.rest g c u) (untrue _ (λ k. false≢true (sym u ∙ covered_at τ g i h k)));
}

-- ---- Two more ways through `covered`

module _ (l : ℕ) (τ : Entries) (s : Trits) where
  -- an entry subsumes s
  pub covered_subsumed : subsumed τ s ≡ true → true ≡ all_covered l τ s
  unfolding all_covered
  covered_subsumed h =
      sym (group_true l _ (λ g _ o. implies (covers s g) _ (λ c. true_of _ (subsumed_covered τ s g (test h) (test c)))))

  -- s narrowed
  pub covered_narrowed : {r : ℕ} (f : Narrows (covered τ) s r) → all_covered l τ f.string ≡ all_covered l τ s
  unfolding all_covered
  covered_narrowed f =
      bool_ext _ _
      (λ h. group_true l _ (λ g e o. implies (covers s g) _ (λ c. go g c (covered τ g) refl
      (implied _ _ (group_at l _ h g e o)))))
      (λ h. group_true l _ (λ g e o. implies (covers f.string g) _ (λ c.
      implied (covers s g) _ (group_at l _ h g e o) (true_of _ (subsumes_covers s f.string g (test f.inside) (test c))))))
    where
      go : (g : Bits) → covers s g ≡ true → (b : Bool) → covered τ g ≡ b
          → (covers f.string g ≡ true → covered τ g ≡ true) → b ≡ true
      go g c true e more = refl
      go g c false e more = sym e ∙ more (f.rest g c e)
