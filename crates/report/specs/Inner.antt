-- What the inner steps of the report ask of each other.
use Rattle.std.specs.Prelude.{ℕ, ◌≤◌, ◌≡◌, List}
use Rattle.std.proofs.Math.Option.{Option, none}
use Rattle.rooms.specs.Lists.{zeros}
use Rattle.decimal.specs.declared.Page.{Page}
use Rattle.decimal.specs.Inner.{Writes}
use Rattle.scope.specs.Run.{ValidRun, ceiling, cells_of}
use Rattle.scope.specs.Refusal.{complaint}
use Rattle.sources.specs.Entry.{list_tests}
use Rattle.text.specs.declared.Input.{Input}
use Rattle.text.specs.Form.{Content}
use Rattle.text.specs.Promise.{Reads, most_sources, most_cells, sources_in}
use Rattle.report.specs.Report.{report_of}
use Rattle.report.specs.Promise.{room_bytes}

-- A run and sources that a text may say: nothing of them is refused.
pub record ValidInput (input : Input) : Type 0 where
  pub valid : ValidRun input.run
  pub few : cells_of input.run ≤ most_cells
  pub counted : input.count ≤ most_sources
  pub sound : complaint (list_tests ceiling 1 (sources_in input)) ≡ none

-- A page that begins with a room for the longest report, in which nothing stands.
pub record Blank (page : Page) : Type 0 where
  pub begins : page.at ≡ 0
  pub blank : page.room.now ≡ zeros room_bytes

-- What is printed of the text was written on a page.
pub record WritesReport (text : List ℕ) (before after : Page) : Type 0 where
  pub content : Option Content
  pub reads : Reads text content
  pub writes : Writes before (report_of content) after
