use native.Mathlib.Omega.{arith}
use Rattle.lists.proofs.NearEntries.{put_back_holds, put_back_shades}
use Rattle.lists.proofs.widening.shade_each.Goals as goal

pub returns : goal.returns
returns c =
    λ l n τ ν s few h g is.
    let w = c.loop-shade in (
      put_back_holds _ _ (omega arith) c.requires c.told-list w.auto.shade-items h few,
      put_back_shades _ _ (omega arith) c.requires c.told-list w.auto.shade-items s g is (λ m lt. w.invariant.0 m (omega arith)),
    )
