-- Each pair of bits is one of the three characters.
use Rattle.text.proofs.Writing.{fixed_zero, fixed_one}
use Rattle.text.proofs.lines.character.Goals as goal

pub returns-then-value-eq0 : goal.returns-then-value-eq0
returns-then-value-eq0 c = fixed_zero c.args.care c.args.value c.if-care-eq0.false c.if-value-eq0.true

pub returns-else-value-eq0 : goal.returns-else-value-eq0
returns-else-value-eq0 c = fixed_one c.args.care c.args.value c.if-care-eq0.false c.if-value-eq0.false
