-- Loop: the bytes of the first i words are written (`write_turn`).
use Rattle.std.proofs.Common.{◌≡◌, take}
use Rattle.std.proofs.lemmas.List.Edits.{sets}
use Rattle.codec.specs.Numbers.{bytes}
use Rattle.codec.proofs.write_words.Given as goal

abbrev pub invariant-loop-i : goal.invariant-loop-i
invariant-loop-i l = l.b ≡ sets l.initial.b l.at (bytes l.k (take l.i l.w-items))
