-- `map::add_blocks` meets its contract. The loop's invariant: the lines before `first` are done. The measure is how many
-- lines are left. Assumes nothing.
use mathlib.Core.Path.{◌≡◌}
use mathlib.Core.List.{List}
use Prim.Native.Nat.{ℕ, suc, ◌-◌, ◌*◌, ◌≤◌}
use Rattle.scope.specs.declared.Run.{Run}
use Rattle.scope.specs.Run.{ceiling}
use Rattle.sources.specs.declared.Entry.{Entry}
use Rattle.map.specs.declared.Start.{Start}
use Rattle.map.specs.Promise.{weight_at}
use Rattle.map.specs.Inner.{RaisedFrom, start_of, chosen}
use Rattle.map.proofs.add_blocks.Given as goal

pub record Blocks (run : Run) (sources : List Entry) (start : Start) (old map : List ℕ) (first : ℕ) : Type 0 where
  pub from : run.first ≤ first
  pub to : first ≤ suc run.last
  pub cells : ℕ
  pub cells_are : cells ≡ (first - run.first) * run.window
  pub done : RaisedFrom ceiling (weight_at run sources) (start_of start old) old 0 cells map

abbrev pub invariant-loop-first : goal.invariant-loop-first
invariant-loop-first l = Blocks l.run (chosen 0 l.high l.sources) l.start l.initial.map l.map l.first

abbrev pub decreases-loop-first : goal.decreases-loop-first
decreases-loop-first l = suc l.run.last - l.first
