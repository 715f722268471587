-- `map::add_rows` meets its contract. The loop's invariant: the lines before this one are done, and `start` is the source's distance on
-- it. Assumes nothing.
use native.Mathlib.Omega.{arith}
use native.Mathlib.Nat.{mod-lt, mod-eq_of_lt}
use mathlib.Core.Path.{sym, ◌∙◌}
use Prim.Native.Nat.{◌+◌, ◌*◌}
use Rattle.scope.specs.Run.{ceiling, cells_of, lines_of}
use Rattle.scope.proofs.Hits.{origin}
use Rattle.map.specs.Promise.{added}
use Rattle.map.proofs.Raised.{ends, raised_move}
use Rattle.map.proofs.Rows.{rows_start, no_line_left, start_below, next_row, wraps, row_gain_lem}
use Rattle.map.proofs.add_rows.Goals as goal
use Rattle.map.proofs.add_rows.Goals.{then-period-start, else-period-start}

pub loop-line-init : goal.loop-line-init
unfolding cells_of
loop-line-init c =
    let v = c.requires.0 in
    let source = c.requires.1.source in
    let low = mod-lt (c.args.run.interval * c.args.run.first + origin c.args.run c.args.entry.source) source.ticks in
    let first = c.from.ensures in
    rows_start _ _ (lines_of c.args.run) c.requires.2 (omega arith) (mod-lt _ source.ticks) (omega (arith, rw first at c.distance-start.ensures)) (λ i. omega (arith, c.type_inv.map i))

pub loop-line-preserved : goal.loop-line-preserved
loop-line-preserved c =
    let rows = c.loop-line.invariant in
    next_row rows c.loop-line-test.true
    (elim c.if-period-start.branch [
      | then-period-start w ↦ w.start-is ∙ wraps (start_below rows) rows.moves w.if-period-start.true
      | else-period-start w ↦ w.start-is ∙ sym (mod-eq_of_lt w.if-period-start.false)
    ])
    c.add_line.ensures

pub returns : goal.returns
unfolding added
returns c =
    let rows = c.loop-line.invariant in
    let a = c.args in
    let distance = rw c.from.ensures at c.distance-start.ensures in
    ends rows.done (no_line_left rows (omega arith)) ∙ raised_move ceiling _ _ 0 0 _ (λ i h. row_gain_lem a.run a.entry.source c.requires.1.source a.entry.weight _ (0 + i) distance)
