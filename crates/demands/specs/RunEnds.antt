-- How a run ends (01, "Refusals"): a full equation ends it, with the table and the number of equations before it.
use Rattle.std.specs.Prelude.{◌≡◌, ℕ, ◌<◌}
use Rattle.running.specs.declared.Running.{Running}

-- The end of a run of so many equations, once its whole input has passed its checks: accepted (0) with all of them applied, or
-- full (8) with fewer.
pub data Ends (r : Running) (count : ℕ) : Type 0 where
  through : r.code ≡ 0 → r.applied ≡ count → Ends r count
  full : r.code ≡ 8 → r.applied < count → Ends r count
