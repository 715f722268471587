-- The promise of the report, and what the list program hands on.
use Rattle.std.specs.Prelude.{ℕ, ◌≡◌, List, length}
use Rattle.std.proofs.Math.Option.{Option}
use Rattle.rooms.specs.Lists.{padded}
use Rattle.text.specs.Form.{Content}
use Rattle.text.specs.Promise.{Reads}
use Rattle.report.specs.declared.Output.{Output}
use Rattle.report.specs.Report.{report_of}

-- A room that the longest report fits into.
abbrev pub room_bytes : ℕ
room_bytes = 921600

-- The room begins with these bytes, and the rest of it is 0; their number is told.
pub record Prints (bytes : List ℕ) (output : Output) : Type 0 where
  pub counts : output.length ≡ length bytes
  pub begins : output.bytes ≡ padded room_bytes bytes

-- The promise of the report: the output is what is printed of the text.
pub record ReportPromise (text : List ℕ) (output : Output) : Type 0 where
  pub content : Option Content
  pub reads : Reads text content
  pub says : Prints (report_of content) output

-- These bytes are what is printed of the text.
pub record PrintedOf (text bytes : List ℕ) : Type 0 where
  pub content : Option Content
  pub reads : Reads text content
  pub is : bytes ≡ report_of content
