-- Storing the text of the entries that are left gives that of all; a turn stores one entry, and there is room for the rest.
use mathlib.Core.Path.{◌≡◌}
use Prim.Native.Nat.{◌+◌, ◌≤◌}
use lib.ListN.{length, drop}
use lib.Seq.{sets}
use Rattle.tables.specs.Values.{entries_of}
use Rattle.text.specs.Text.{entries_text}
use Rattle.text.proofs.lines.write_entries.Given as goal

abbrev pub invariant-loop-care : goal.invariant-loop-care
invariant-loop-care l = let left = entries_text (drop (length l.yielded) (entries_of l.fn.t)) in
    (sets l.out l.here left ≡ sets l.initial.out l.at (entries_text (entries_of l.fn.t)))
    × (l.here + length left ≤ length l.out)
    × (length l.out ≡ length l.initial.out)
