-- A long list is left as it is; of another the near entries are gathered and shaded.
use native.Mathlib.Omega.{arith}
use Rattle.lists.proofs.widening.prepare.Goals as goal

pub returns-then-n-gt-UPPER : goal.returns-then-n-gt-UPPER
returns-then-n-gt-UPPER c =
    record {
      few = omega arith;
      made = λ l τ s h e y. record { held = h; shades = λ few. absurd (omega arith); long = e };
    }

pub returns : goal.returns
returns c =
    record {
      few = omega arith;
      made = λ l τ s h e y.
          let g = c.gather-k.ensures.made l τ s h e y in
          let k = c.shade_each.ensures l _ τ _ s (omega arith) g.0 g.1 y in
          record { held = k.0; shades = λ few. k.1; long = e };
    }
