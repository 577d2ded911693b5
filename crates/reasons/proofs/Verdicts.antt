-- The parts of a verdict as the code makes them: a group in the table, a relevant group, the kind of the
-- equation. Assumes nothing.
use mathlib.Core.Path.{◌≡◌, refl, sym, ap, ap₂, ◌∙◌}
use mathlib.Core.Bool.{Bool, true, false, not, ◌||◌, cond}
use mathlib.Core.List.{[], ◌∷◌}
use Prim.Native.Nat.{ℕ, ◌^◌, ◌<◌}
use native.Mathlib.Omega.{arith}
use borrow.Author.Tests.{ltb-true, eq-eqb, ne_eqb, not-true, not-false}
use lib.Bits.{bit_and, bit_or}
use lib.Dec.{eqb, ltb}
use Rattle.model.specs.Groups.{Bits, meets, or}
use Rattle.model.specs.Strings.{Trits, covers, subsumes, exactly}
use Rattle.model.specs.Growth.{Entries, covered, subsumed}
use Rattle.model.specs.Equations.{Equation, Kind}
use Rattle.model.proofs.Tests.{same_test}
use Rattle.model.proofs.Strings.{subsumes_exact, exactly_covers, exactly_one}
use Rattle.words.specs.Words.{set_word}
use Rattle.words.proofs.Codec.{set_word_or, apart_words}
use Rattle.tables.specs.declared.Refusal.TheVariants as R
use Rattle.tables.specs.Refusals as A
use Rattle.terms.specs.declared.Kind as K
use Rattle.terms.specs.declared.Equation as E
use Rattle.terms.specs.EquationKinds.{kind_named, Told}
use Rattle.reasons.specs.Verdicts.{verdict_of_kind, verdict, check_group}

-- ---- A group in the table

-- an entry subsumes the string that covers just s exactly where it covers s
subsumes_group : (e : Trits) (s : Bits) → subsumes e (exactly s) ≡ covers e s
subsumes_group e s =
    same_test (subsumes e (exactly s)) (covers e s) (λ h. (subsumes_exact e (exactly s)).0 h s (exactly_covers s))
    (λ h. (subsumes_exact e (exactly s)).1 (λ g k. rw (exactly_one s g k) h))

pub subsumed_group : (τ : Entries) (s : Bits) → subsumed τ (exactly s) ≡ covered τ s
unfolding subsumed covered
subsumed_group [] s = refl
subsumed_group (e ∷ τ) s = ap₂ ◌||◌ (subsumes_group e s) (subsumed_group τ s)

-- ---- A relevant group

module _ (x t k : Bits) {mx mt s : ℕ} (is_x : mx ≡ set_word x) (is_t : mt ≡ set_word t) (is_s : s ≡ set_word k) where
  -- it has a variable of one of two sets
  relevant_word : eqb (bit_and (bit_or mx mt) s) 0 ≡ not (meets (or x t) k)
  relevant_word =
      rw (is_x, is_t, is_s) (ap (λ (m : ℕ). eqb (bit_and m (set_word k)) 0) (sym (set_word_or x t)) ∙ apart_words (or x t) k)

  pub irrelevant_test : bit_and (bit_or mx mt) s ≡ 0 → meets (or x t) k ≡ false
  irrelevant_test e = not-true (meets (or x t) k) (sym relevant_word ∙ eq-eqb (bit_and (bit_or mx mt) s) 0 e)

  pub relevant_test : ¬ (bit_and (bit_or mx mt) s ≡ 0) → meets (or x t) k ≡ true
  relevant_test n = not-false (meets (or x t) k) (sym relevant_word ∙ ne_eqb (bit_and (bit_or mx mt) s) 0 n)

-- ---- The kind

-- The verdict is that of the kind which the code's value tells.
pub by_kind : {l : ℕ} {q : E.Equation} {e : Equation} (τ : Entries) (s : Bits) → Told l q e → {k : K.Kind} → q.kind ≡ k
    → verdict l e τ s ≡ verdict_of_kind (kind_named k) l e τ s
unfolding verdict
by_kind {l} {q} {e} τ s t p = ap (λ (k : Kind). verdict_of_kind k l e τ s) (sym t.same_kind ∙ ap kind_named p)

-- ---- A group that was checked

-- it has no bit above l, and is not 0
pub group_below : (l s : ℕ) → check_group l s ≡ A.Accepted → (s < 2 ^ l) × (0 < s)
unfolding check_group
group_below l s e = go (ltb s (2 ^ l)) (ltb 0 s) refl refl e
  where
    go : (b c : Bool) → ltb s (2 ^ l) ≡ b → ltb 0 s ≡ c
        → cond b (cond c A.Accepted (A.Refused R.Keep)) (A.Refused R.Stray) ≡ A.Accepted → (s < 2 ^ l) × (0 < s)
    go true true p q e = (ltb-true s (2 ^ l) p, ltb-true 0 s q)
    go true false p q e = absurd (let z : ◌≡◌ {A = ℕ} 0 1 = cc in omega arith)
    go false c p q e = absurd (let z : ◌≡◌ {A = ℕ} 0 1 = cc in omega arith)
