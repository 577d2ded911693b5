-- To take v away is to append the pieces of what matches to what does not (`take_away_matched`, `take_away_none`).
use mathlib.Core.Path.{◌≡◌, sym, ◌∙◌}
use Prim.Native.Nat.{◌-◌}
use native.Mathlib.Omega.{arith}
use Rattle.lists.specs.WorkingLists.{makes}
use Rattle.sides.proofs.MatchedEntries.{take_away_matched, take_away_none}
use Rattle.sides.proofs.take_away.Goals as goal

pub returns-then-m-eq0 : goal.returns-then-m-eq0
returns-then-m-eq0 c =
    record {
      within = omega arith;
      made = λ τ t h e is σ k.
          let taken = c.take-m.ensures in
          let none = c.if-m-eq0.true in
          let n = c.args.n in
          let all : n - c.take-m.result ≡ n = omega arith in
          rw (take_away_none k t (sym (taken.taken _ τ t h e is).count ∙ none)) (makes (rw all at (taken.left _ τ t h e is)));
    }

pub returns : goal.returns
returns c =
    let taken = c.take-m.ensures in
    let p = c.pieces_each.ensures in record {
      within = p.within;
      made = λ τ t h e is σ k.
          let left = taken.left _ τ t h e is in
          rw (take_away_matched k t)
          (p.made _ _ _ t left (taken.taken _ τ t h e is) (c.edge_row-k.ensures.made _ _ t left e is) e is);
    }
