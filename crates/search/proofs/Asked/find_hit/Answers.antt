-- `Asked::find_hit` meets its contract: the rest of the start's own line, then the lines after it. Assumes nothing.
use Rattle.std.proofs.Common.{◌+◌, ◌-◌, ◌/◌, ◌%◌, ◌≤◌, ◌<◌, ◌∙◌, arith}
use Rattle.std.specs.Prelude.{Some}
use Rattle.scope.proofs.Limits.{cells_few}
use Rattle.search.specs.Inner.{FirstHit}
use Rattle.search.proofs.Cells.{distance_next, own_line, rest_found, rest_none}
use Rattle.search.proofs.Asked.find_hit.Goals as goal
use Rattle.search.proofs.Asked.find_hit.Goals.{After-first_right-to, Start}

-- the start's own line
line_in : (c : Start) → let a = c.args in a.self.run.first + a.start.0 / a.self.run.window ≤ a.self.run.last
line_in c = own_line c.args.self.valid.0 c.requires

-- where the first point at or right of the start is within the window, it is the first hit
found : (c : After-first_right-to) → c.first_right-to.result < c.args.self.run.window → let a = c.args in FirstHit a.self.run a.self.source a.start.0 (Some (record { 0 = a.start.0 - a.start.0 % a.self.run.window + c.first_right-to.result }))
found c inside =
    rest_found c.args.self.valid.0 c.requires c.args.self.valid.1 c.distance-here.ensures c.first_right-to.ensures inside

pub distance-here-requires : goal.distance-here-requires
distance-here-requires c = let l = line_in (goal.at.distance-here-requires c).Start in omega (arith, c.args.self.valid.0.ends)

pub overflow_add-result : goal.overflow_add-result
overflow_add-result c = record { fits = omega (arith, (found (goal.at.overflow_add-result c).After-first_right-to (omega arith)).0, cells_few ((goal.at.overflow_add-result c).Start).args.self.valid.0) }

pub returns-then-to-window : goal.returns-then-to-window
returns-then-to-window c = found (goal.at.returns-then-to-window c).After-first_right-to (omega arith)

pub find_from-requires : goal.find_from-requires
find_from-requires c =
    let a = c.args in
    let here = distance_next a.self.run a.self.valid.1 (a.self.run.first + a.start.0 / a.self.run.window) c.distance-here.ensures in
    let l = line_in (goal.at.find_from-requires c).Start in
    record { is = c.distance_after.ensures ∙ here; begun = omega arith; short = omega arith }

pub returns : goal.returns
returns c = rest_none c.args.self.valid.0 c.requires c.args.self.valid.1 c.distance-here.ensures c.first_right-to.ensures _ (omega arith) c.find_from.ensures
