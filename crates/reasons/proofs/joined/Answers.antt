-- The tests come in the order of the definition: the x entry, the t entry, whether the groups together are s.
use mathlib.Core.Path.{◌≡◌, sym, ◌∙◌}
use mathlib.Core.Bool.{Bool, true, false}
use mathlib.Core.Option.{some}
use Prim.Native.Nat.{ℕ}
use borrow.Author.Tests.{eq-eqb, ne_eqb}
use lib.Bits.{bit_or}
use lib.Dec.{eqb}
use lib.ListN.{length}
use Rattle.model.specs.Groups.{Bits, or}
use Rattle.model.specs.Growth.{Entries}
use Rattle.model.specs.Reasons.{together, made_up}
use Rattle.model.proofs.Bits.{or_length}
use Rattle.words.specs.Words.{set_word}
use Rattle.words.proofs.Codec.{set_word_or}
use Rattle.lists.specs.WorkingLists.{WordsOf}
use Rattle.reasons.specs.Verdicts.{joins, touched}
use Rattle.reasons.proofs.Searching.{made_up_word}
use Rattle.reasons.proofs.joined.Goals as goal
use Rattle.reasons.proofs.joined.Goals.{After-together}

-- the word of two sets together
or_word : (x t : Bits) {mx mt : ℕ} → mx ≡ set_word x → mt ≡ set_word t → bit_or mx mt ≡ set_word (or x t)
or_word x t is_x is_t = rw (is_x, is_t) (sym (set_word_or x t))

-- whether the groups make up the set, by the code's test of the words
made_up_test : {l : ℕ} (k g : Bits) (τ : Entries) → length k ≡ l → {r s : ℕ} → r ≡ set_word (together l k g τ)
    → s ≡ set_word k → {b : Bool} → eqb r s ≡ b → made_up l k g τ ≡ b
made_up_test {l} k g τ whole is_r is_s e = sym (made_up_word l k g τ whole) ∙ rw (← is_r, ← is_s) e

-- both entries are there, and the last test decides
both_found : (c : After-together) → let a = c.args in
    (l : ℕ) (τ : Entries) (x t k : Bits) → WordsOf l a.list.now τ → length x ≡ l → length t ≡ l → length k ≡ l
    → a.mx ≡ set_word x → a.mt ≡ set_word t → a.s ≡ set_word k → (b : Bool) → eqb c.together.result a.s ≡ b
    → joins (some c.in-Some.i) (some c.in-Some-lowest.j) b ≡ touched l x t τ k
unfolding touched
both_found c l τ x t k h nx nt nk is_x is_t is_s b e =
    let m = c.together.ensures l τ k (or x t) h nk (or_length x t l nx nt) is_s (or_word x t is_x is_t) in
    rw (
      sym (c.in-Some.ensures.entry l τ k x h nk nx is_s is_x),
      sym (c.in-Some-lowest.ensures.entry l τ k t h nk nt is_s is_t),
      made_up_test k (or x t) τ nk m is_s e,
    )

pub returns-in_default : goal.returns-in_default
unfolding touched joins
returns-in_default c =
    λ l τ x t k h nx nt nk is_x is_t is_s.
    rw (sym (c.in_default.ensures.entry l τ k x h nk nx is_s is_x))

pub returns-in_default-lowest : goal.returns-in_default-lowest
unfolding touched joins
returns-in_default-lowest c =
    λ l τ x t k h nx nt nk is_x is_t is_s.
    rw (
      sym (c.in-Some.ensures.entry l τ k x h nk nx is_s is_x),
      sym (c.in_default-lowest.ensures.entry l τ k t h nk nt is_s is_t),
    )

pub returns-then-together-s : goal.returns-then-together-s
unfolding joins
returns-then-together-s c =
    λ l τ x t k h nx nt nk is_x is_t is_s.
    both_found (goal.at.returns-then-together-s c).After-together l τ x t k h nx nt nk is_x is_t is_s false
    (ne_eqb _ _ c.if-together-s.true)

pub returns : goal.returns
unfolding joins
returns c =
    λ l τ x t k h nx nt nk is_x is_t is_s.
    both_found (goal.at.returns c).After-together l τ x t k h nx nt nk is_x is_t is_s true
    (eq-eqb _ _ c.if-together-s.false)
