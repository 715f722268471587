-- Document 01, "The list program", and request E5: when a text has the form, what one that is accepted says, and what is printed.
use Rattle.std.specs.Prelude.{ℕ, ◌≤◌, List, length, take}
use Rattle.text.specs.Promise.{most_sources, most_cells}
use Rattle.scope.specs.declared.Run.{Run}
use Rattle.scope.specs.Run.{ValidRun, ceiling, cells_of}
use Rattle.sources.specs.Lists.{ValidEntries}
use Rattle.text.specs.Form.{SrcLine, InForm, Content}
use Rattle.report.specs.declared.Output.{Output}

-- "one line `run I T first last`, then `src` .. lines, none or more", each with a phase or without: the text has the form, whatever it
-- says.
abbrev pub HasForm : List ℕ → Type 0
HasForm text = (run : Run) × (srcs : List SrcLine) × InForm text run srcs

-- A run and sources within the limits: those of the table of ranges, and 12's "more than 64 sources, or a run of more than
-- 65,536 cells" kept.
pub record ValidContent (content : Content) : Type 0 where
  pub valid : ValidRun content.run
  pub within : ValidEntries ceiling content.entries
  pub sources : length content.entries ≤ most_sources
  pub cells : cells_of content.run ≤ most_cells

-- What an output prints: of its bytes as many as it counts.
abbrev pub printed_by : Output → List ℕ
printed_by output = take output.length output.bytes
