-- What is copied lies between what stands before and after it (`sets-eq`).
use Rattle.std.proofs.Common.{◌≡◌, ◌+◌, ◌-◌, length, append_assoc}
use native.Mathlib.Omega.{arith}
use Rattle.std.proofs.lemmas.List.{drop-drop}
use Rattle.std.proofs.lemmas.List.Edits.{sets-eq}
use Rattle.text.proofs.lines.write.Goals as goal

pub returns : goal.returns
returns c =
    let word = c.args.word.now in
    let at = c.args.at in
    let size : at + length word - at ≡ length word = omega arith in
    rw (size, c.copy_from_slice.ensures.after, sets-eq word c.args.out.now at c.requires, append_assoc, drop-drop)
