-- What came of the conversion, with the table all zero where it is refused, is the answer.
use Rattle.operations.proofs.convert.Goals as goal

pub answered-requires : goal.answered-requires
answered-requires c = c.convert_list-came.ensures.bounded

pub returns : goal.returns
returns c =
    let comes = c.convert_list-came.ensures.comes in
    c.answered.ensures _ (rw c.zero.ensures comes)
