-- The tests of what a text says are those of its table, row by row. Assumes nothing.
use lib.ListN.{length}
use Rattle.scope.specs.Run.{cells_of}
use Rattle.scope.proofs.Rendered.{Renders, ◌next◌, one, either, then_two}
use Rattle.scope.proofs.Table.{below, run_renders}
use Rattle.sources.proofs.Table.{sources_renders}
use Rattle.text.specs.Form.{Content}
use Rattle.text.specs.Promise.{most_sources, most_cells, text_tests}
use Rattle.text.specs.Table.{text_table}

-- "Text: 11, 1, 2, 3, 12, then each source 4 before 7", after 11, with 17, 18 for 2, and 22 after 7
pub text_renders : (content : Content) → Renders (text_tests content) (text_table content)
unfolding text_tests
text_renders content =
    then_two (run_renders content.run next either (one (below most_sources (length content.entries))) (one (below most_cells (cells_of content.run)))) next
    sources_renders 1 content.entries
