-- Loop (`SoFar`): the list is grown by the entries before i, and to go on with the others gives the whole.
use mathlib.Core.List.{[]}
use Prim.Native.Nat.{◌≤◌}
use Rattle.model.specs.Growth.{grow, grow_all}
use Rattle.lists.proofs.SoFar.{SoFar, Any}
use Rattle.forms.specs.declared.Layout.TheVariants.{Plain}
use Rattle.forms.specs.TableForms.{written_entries}
use Rattle.forms.proofs.entries.grow_plain.Given as goal

abbrev pub invariant-loop-i : goal.invariant-loop-i
invariant-loop-i l = let ρ = written_entries Plain l.l l.n l.b in
    (l.k ≤ 256) × SoFar l.l grow ρ (grow_all [] ρ) Any l.list l.k l.i
