-- Names for an `unfolding` line: each opens all the definitions on its own line. They say nothing by themselves.
use Rattle.model.specs.Groups.{nonzero, has, meets, or, cut}
use Rattle.model.specs.Strings.{covers, matches, meet, or_strings, subsumes, all_zero, exactly, stars, fixed, fixed_count}
use Rattle.model.specs.Strings.{flipped, starred, opposed, one_at, zeros, rising, ones, pieces}
use Rattle.model.specs.Growth.{◌>>=◌, fold, covered, subsumed, remove, append, widen_at, widen_from, widen}
use Rattle.model.specs.Growth.{absorbed, grow, grow_all, convert}
use Rattle.model.specs.Tables.{meet_if, meets_with, meets_of, ors, unmatched, pieces_of, relevant, irrelevant, cross}
use Rattle.model.specs.Tables.{close_with, close, take_away, change_side, positive_equation, negative_equation}
use Rattle.model.specs.Tables.{no_groups, equation_of_sets, positive_projection, projection}
use Rattle.model.specs.Terms.{occurs, occurs_row, set_of, variables}
use Rattle.model.specs.Equations.{holding, kind, equation_of_kind, equation}

unfoldable pub strings : Unit {0}
unfolding nonzero has meets or cut covers matches meet or_strings subsumes all_zero exactly stars fixed fixed_count flipped starred
strings = tt

unfoldable pub candidates : Unit {0}
unfolding strings opposed one_at zeros rising ones pieces meet_if meets_with meets_of ors unmatched pieces_of
candidates = tt

unfoldable pub growth : Unit {0}
unfolding ◌>>=◌ fold covered subsumed remove append widen_at widen_from widen absorbed grow grow_all convert
growth = tt

unfoldable pub tables : Unit {0}
unfolding relevant irrelevant cross close_with close take_away change_side positive_equation positive_projection projection
tables = tt

unfoldable pub equations : Unit {0}
unfolding occurs occurs_row set_of variables holding kind no_groups equation_of_kind equation
equations = tt

unfoldable pub procedures : Unit {0}
unfolding candidates growth tables negative_equation equation_of_sets equations
procedures = tt
