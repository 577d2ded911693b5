-- Lists of either side stand for the same groups exactly where each is within the other (`equal_within`).
use mathlib.Core.Bool.{Bool, ◌&&◌}
use mathlib.Core.Path.{sym, ap, ◌∙◌}
use Rattle.covering.specs.Covering.{within}
use Rattle.covering.proofs.Inclusion.{equal_within}
use Rattle.covering.proofs.equality.equal.Goals as goal

pub returns-then-not-included : goal.returns-then-not-included
returns-then-not-included c =
    λ side α β ha hb.
    let l = c.args.l in
    ap (λ (b : Bool). b && within l β α) (sym (c.if-not-included.true) ∙ c.included.ensures α β ha hb)
    ∙ equal_within side l α β

pub returns : goal.returns
returns c =
    λ side α β ha hb.
    let l = c.args.l in
    c.included-2.ensures β α hb ha
    ∙ ap (λ (b : Bool). b && within l β α)
    (sym (c.if-not-included.false) ∙ c.included.ensures α β ha hb)
    ∙ equal_within side l α β
