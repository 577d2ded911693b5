-- By what was made of the list: `made_counted`, `full_turned`.
use Rattle.lists.proofs.Holding.{within_count}
use Rattle.lists.proofs.TableValues.{made_counted, full_turned}
use Rattle.lists.proofs.values.came_of.Goals as goal

pub returns-in-Some : goal.returns-in-Some
returns-in-Some c =
    let e = c.in-Some.is in
    record {
      bounded = within_count c.requires e;
      comes = λ l t list o made. made_counted made t e;
    }

pub returns-in-None : goal.returns-in-None
returns-in-None c =
    record {
      bounded = tt;
      comes = λ l t list o made. full_turned made t c.in-None.is;
    }
