use mathlib.Core.Bool.{false≢true}
use mathlib.Core.Path.{◌≡◌, sym, ◌∙◌}
use Prim.Native.Nat.{◌≤◌, ◌<◌}
use native.Mathlib.Omega.{arith}
use lib.ListN.{length}
use Rattle.model.proofs.Candidates.{meet_length}
use Rattle.covering.specs.Sets.{first_string}
use Rattle.covering.proofs.FirstVariables.{first_length}
use Rattle.covering.proofs.MeetingSets.{part_meet, part_none, apart_no, apart_all}
use borrow.Author.Count.{below_more}
use Rattle.covering.proofs.independence.apart_negative.Goals as goal
use Rattle.covering.proofs.independence.apart_negative.Goals.{then-in_set+then-matches+else-not-covered}
use Rattle.covering.proofs.independence.apart_negative.Goals.{then-in_set+else-matches, else-in_set}

pub returns-then-not-covered : goal.returns-then-not-covered
returns-then-not-covered c =
    λ τ s h e d k n b.
    let j = c.loop-j.j in
    let z = c.first_at-z.ensures k (omega arith) (omega arith) b in
    let same : length s ≡ length (first_string k j) = e ∙ sym n ∙ sym (first_length k j) in
    let short : length s ≤ 32 = rw e h.short in
    let m = sym (c.matches.ensures.strings s _ same short d z)
    ∙ c.if-matches.true in
    apart_no _ τ s k j (sym (c.in_set.ensures k b) ∙ c.if-in_set.true)
    (sym (part_meet _ τ s k j m)
    ∙ sym (c.covered.ensures τ _ h (meet_length _ s _ e (sym same ∙ e))
    (c.meet.ensures.strings s _ same short d z m))
    ∙ c.if-not-covered.true)

pub loop-j-preserved : goal.loop-j-preserved
loop-j-preserved c =
    λ τ s h e d k n b.
    let l = c.args.l in
    let j = c.loop-j.j in
    let here : j < length k = omega arith in
    let few : length k ≤ 32 = omega arith in
    let same : length s ≡ length (first_string k j) = e ∙ sym n ∙ sym (first_length k j) in
    let short : length s ≤ 32 = rw e h.short in
    below_more _ _ (c.loop-j.invariant τ s h e d k n b) (λ t.
    elim c.if-in_set.branch [
      | then-in_set+then-matches+else-not-covered p ↦
          let z = p.first_at-z.ensures k here few b in
          let m = sym (p.matches.ensures.strings s _ same short d z) ∙ p.if-matches.true in
          sym (part_meet l τ s k j m)
          ∙ sym (p.covered.ensures τ _ h (meet_length _ s _ e (sym same ∙ e))
          (p.meet.ensures.strings s _ same short d z m))
          ∙ p.if-not-covered.false
      | then-in_set+else-matches p ↦
          part_none l τ s k j
          (sym (p.matches.ensures.strings s _ same short d (p.first_at-z.ensures k here few b)) ∙ p.if-matches.false)
      | else-in_set p ↦ absurd (false≢true (sym p.if-in_set.false ∙ c.in_set.ensures k b ∙ t))
    ])

pub returns : goal.returns
returns c =
    λ τ s h e d k n b.
    apart_all _ τ s k n (λ i lt. c.loop-j.invariant τ s h e d k n b i (omega arith))
