-- The promise of reading a text: what it replies and stores, by what the text says. No way of reading is named.
use Rattle.std.specs.Prelude.{ℕ, ◌≡◌, List, [], Result, Ok, Err, ltb, length, take}
use Rattle.std.proofs.Math.Option.{Option, some, none}
use Rattle.rooms.specs.Lists.{padded}
use Rattle.scope.specs.declared.Run.{Run}
use Rattle.scope.specs.Run.{ceiling, cells_of}
use Rattle.scope.specs.Refusal.{Tests, ◌when◌, ◌and_then◌, complaint, number, run_tests}
use Rattle.scope.specs.declared.Reason.TheVariants.{TooMany, Text}
use Rattle.scope.specs.declared.Place.TheVariants.{Nowhere}
use Rattle.scope.specs.declared.Refusal.{Refusal}
use Rattle.scope.specs.Reply.{Said, refused, answered, reply, stored}
use Rattle.sources.specs.declared.Entry.{Entry}
use Rattle.sources.specs.Entry.{entries_of, list_tests}
use Rattle.sources.specs.Lists.{periods_of, weights_of, phases_of}
use Rattle.text.specs.Form.{Content, Spells}
use Rattle.text.specs.declared.Input.{Input}

-- What a text says, or that it has not the form.
abbrev pub Reads : List ℕ → Option Content → Type 0
Reads text (some content) = Spells text content
Reads text none = (content : Content) → Spells text content → ⊥

-- "12: more than 64 sources".
abbrev pub most_sources : ℕ
most_sources = 64

-- "12: .. or a run of more than 65,536 cells".
abbrev pub most_cells : ℕ
most_cells = 65536

-- "Text: 11, 1, 2, 3, 12, then each source 4 before 7", after 11, with 17, 18 for 2 (E1, E2) and "22 .. after 7 in each source" (E5).
unfoldable pub text_tests : Content → Tests
text_tests content =
    run_tests content.run and_then
    TooMany when ltb most_sources (length content.entries) and_then
    TooMany when ltb most_cells (cells_of content.run) and_then
    list_tests ceiling 1 content.entries

-- What the reply is to be. "Anything else in the text is refused 11."
abbrev pub reply_to : Option Content → Said Run
reply_to none = refused (number Text) Nowhere
reply_to (some content) = reply (complaint (text_tests content)) content.run

-- The sources that go with it: after a refusal none.
abbrev pub handed : Option Content → List Entry
handed none = []
handed (some content) = stored (complaint (text_tests content)) [] content.entries

-- What a reply to a text says: the run, or a refusal's number and place.
abbrev pub says_text : Result Input Refusal → Said Run
says_text (Ok input) = answered input.run
says_text (Err refusal) = refused (number refusal.reason) refusal.place

-- The sources that go with a run are these: so many are counted, their numbers are at the beginning of the three lists, and all the
-- rest is 0.
pub record HasSources (entries : List Entry) (input : Input) : Type 0 where
  pub counts : input.count ≡ length entries
  pub periods : input.periods ≡ padded most_sources (periods_of entries)
  pub weights : input.weights ≡ padded most_sources (weights_of entries)
  pub phases : input.phases ≡ padded most_sources (phases_of entries)

-- These sources are handed out; with a refusal nothing is.
abbrev pub Hands : List Entry → Result Input Refusal → Type 0
Hands entries (Ok input) = HasSources entries input
Hands entries (Err refusal) = Unit {0}

-- The promise of reading a text: its reply, and the sources that go with it.
pub record TextPromise (text : List ℕ) (reply : Result Input Refusal) : Type 0 where
  pub content : Option Content
  pub reads : Reads text content
  pub says : says_text reply ≡ reply_to content
  pub hands : Hands (handed content) reply

-- "`src` .. lines, none or more": the sources that go with a run, as many as are counted.
abbrev pub sources_in : Input → List Entry
sources_in input = entries_of (take input.count input.periods) (take input.count input.weights) (take input.count input.phases)

-- The sources that a reply hands out.
abbrev pub sources_of : Result Input Refusal → List Entry
sources_of (Ok input) = sources_in input
sources_of (Err refusal) = []
