-- Demand 3: "Cut a run's lines into consecutive blocks, in whatever way, with the same window and interval".
use Rattle.std.specs.Prelude.{ℕ, suc, ◌≤◌, ◌≡◌, List, [], ◌∷◌}
use Rattle.scope.specs.declared.Run.{Run}

-- A block of the cut: "with the same window and interval", from this line on, and no earlier than that to its end.
pub record Piece (run : Run) (line : ℕ) (block : Run) : Type 0 where
  pub window : block.window ≡ run.window
  pub interval : block.interval ≡ run.interval
  pub begins : block.first ≡ line
  pub ordered : block.first ≤ block.last

-- "consecutive": the first block begins at this line, each next one line after the end of the one before, and after the
-- last one no line of the run is left.
abbrev pub CutFrom : Run → ℕ → List Run → Type 0
CutFrom run line [] = line ≡ suc run.last
CutFrom run line (block ∷ blocks) = Piece run line block × CutFrom run (suc block.last) blocks

-- The blocks are a cut of the run. That each is a valid run is concluded from the run's being one.
abbrev pub Cut : Run → List Run → Type 0
Cut run blocks = CutFrom run run.first blocks
