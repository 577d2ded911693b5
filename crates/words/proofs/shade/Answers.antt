-- The low half goes by whether y lacks something of e (`opens_all`, `opens_one`); with the high half it is `shade_made`.
use Rattle.std.proofs.Common.{◌≡◌, ◌∙◌}
use Rattle.words.specs.Words.{lacks_word, opens_word}
use Rattle.words.proofs.Shades.{opens_all, opens_one, shade_made}
use Rattle.words.proofs.shade.Goals as goal
use Rattle.words.proofs.shade.Goals.{then-w-eq0, else-w-eq0}

pub returns : goal.returns
unfolding lacks_word
returns c =
    let e = c.args.e in
    let y = c.args.y in
    let he = c.ranges.e.fits in
    let hy = c.ranges.y.fits in
    let f = c.fixed-fixes.ensures.words in
    let opens : c.if-w-eq0.opens ≡ opens_word e y =
    elim c.if-w-eq0.branch [
      | then-w-eq0 u ↦ u.opens-is ∙ rw f (opens_all e y u.if-w-eq0.true)
      | else-w-eq0 u ↦ u.opens-is ∙ u.fixed-opens.ensures.words ∙ opens_one e y u.if-w-eq0.false
    ] in
    rw (f, opens) (shade_made e y he hy)
