-- Document 01, "The refusal numbers", and request E5, as propositions: what the table says of a text, in its order.
use Rattle.std.specs.Prelude.{ℕ, ◌<◌, ◌⊎◌, List, [], ◌∷◌, ◌++◌, length}
use Rattle.std.proofs.Math.Option.{none}
use Rattle.scope.specs.Run.{cells_of}
use Rattle.scope.specs.declared.Place.{Place}
use Rattle.scope.specs.Table.{Row, ◌given◌, Says, run_table}
use Rattle.sources.specs.Table.{sources_table}
use Rattle.text.specs.Form.{Content, Spells}
use Rattle.text.specs.Promise.{most_sources, most_cells, Reads}

-- "Text: 11, 1, 2, 3, 12, then each source 4 before 7", with 17, 18 for 2 (E1, E2) and 22 after 7 (E5): what follows 11, of what the
-- text says.
abbrev pub text_table : Content → List Row
text_table content =
    run_table content.run ++
    12 given ((most_sources < length content.entries) ⊎ (most_cells < cells_of content.run)) ∷
    sources_table 1 content.entries

-- The table of a text says n, at a place. "Anything else in the text is refused 11": no run and sources are what it says; else what the
-- table of its content says.
abbrev pub SaysOfText : List ℕ → ℕ → Place → Type 0
SaysOfText text n place = Says (11 given Reads text none ∷ []) n place ⊎ ((content : Content) × Spells text content × Says (text_table content) n place)
