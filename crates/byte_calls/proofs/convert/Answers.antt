-- The output is that of what came of the conversion.
use mathlib.Core.Path.{◌≡◌, ap}
use mathlib.Core.Bool.{true}
use mathlib.Core.List.{List}
use Prim.Native.Nat.{ℕ}
use native.Mathlib.Omega.{arith}
use Rattle.tables.specs.declared.Table.{Table}
use Rattle.tables.specs.declared.Answered.{Answered}
use Rattle.tables.specs.Refusals.{answer_number}
use Rattle.tables.specs.Values.{accepts, good_width}
use Rattle.operations.specs.Operations.{convert_call}
use Rattle.forms.proofs.Tests.{held}
use Rattle.byte_calls.proofs.Written.{came_writable}
use Rattle.byte_calls.proofs.convert.Goals as goal

-- a conversion that is accepted has a good width
accepted_wide : (l : ℕ) (ws : List ℕ) (t : Table) → convert_call l ws ≡ accepts t → good_width l ≡ true
unfolding convert_call
accepted_wide l ws t e =
    (held (good_width l) _ _ (accepts t) e
    (λ q. let clash : ◌≡◌ {A = ℕ} 2 0 = ap (λ (x : Answered). answer_number x.answer) q in absurd (omega arith))).0

pub write_came-requires : goal.write_came-requires
write_came-requires c =
    let a = c.args in
    came_writable c.convert_list-came.ensures.comes (accepted_wide a.l a.groups.now)

pub returns : goal.returns
returns c =
    let w = c.write_came.ensures _ c.convert_list-came.ensures.comes in record { number = w.0; bytes = w.1 }
