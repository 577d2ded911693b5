-- By whether there is room: `append_room`, `append_full`.
use native.Mathlib.Omega.{arith}
use Rattle.lists.specs.WorkingLists.{makes, stops}
use Rattle.lists.proofs.Holding.{holds_append}
use Rattle.lists.proofs.Growing.{append_room, append_full}
use Rattle.lists.proofs.growth.append.Goals as goal

pub returns-then-n-lt-ENTRIES : goal.returns-then-n-lt-ENTRIES
returns-then-n-lt-ENTRIES c =
    record {
      within = omega arith;
      made = λ l τ s h e y. rw (append_room τ s (omega (arith, h.count))) (makes (holds_append h s e y (omega arith)));
    }

pub returns-else-n-lt-ENTRIES : goal.returns-else-n-lt-ENTRIES
returns-else-n-lt-ENTRIES c =
    record {
      within = tt;
      made = λ l τ s h e y. rw (append_full τ s (omega (arith, h.count))) stops;
    }
