-- Document 01, "The list program": its example, line by line, and one with a phase; what is printed has the phase since E5.
use Rattle.std.specs.Prelude.{ℕ, List, [], ◌∷◌, ◌++◌}
use Rattle.words.specs.Line.{line}
use Rattle.text.specs.Form.{run_word, src_word}
use Rattle.report.specs.Report.{map_word, end_word}

-- "The input".
unfoldable pub example_input : List ℕ
example_input =
    line run_word (4 ∷ 10 ∷ 1 ∷ 5 ∷ []) ++
    line src_word (7 ∷ 60 ∷ []) ++
    line src_word (3 ∷ 200 ∷ [])

-- "gives, whole", and in each `src` line "the phase before the hit count" (E5).
unfoldable pub example_output : List ℕ
example_output =
    line run_word (4 ∷ 10 ∷ 1 ∷ 5 ∷ 20 ∷ []) ++
    line src_word (1 ∷ 7 ∷ 60 ∷ 0 ∷ 3 ∷ []) ++
    line src_word (2 ∷ 3 ∷ 200 ∷ 0 ∷ 7 ∷ []) ++
    line map_word (0 ∷ 200 ∷ []) ++
    line map_word (3 ∷ 200 ∷ []) ++
    line map_word (5 ∷ 255 ∷ []) ++
    line map_word (10 ∷ 200 ∷ []) ++
    line map_word (12 ∷ 255 ∷ []) ++
    line map_word (15 ∷ 200 ∷ []) ++
    line map_word (17 ∷ 200 ∷ []) ++
    line map_word (19 ∷ 60 ∷ []) ++
    line end_word (8 ∷ [])

-- A source with a phase, and one without, which means phase 0 (E5), from line 0 on.
unfoldable pub phased_input : List ℕ
phased_input =
    line run_word (4 ∷ 10 ∷ 0 ∷ 5 ∷ []) ++
    line src_word (7 ∷ 60 ∷ 2 ∷ []) ++
    line src_word (3 ∷ 200 ∷ [])

-- What is printed of it.
unfoldable pub phased_output : List ℕ
phased_output =
    line run_word (4 ∷ 10 ∷ 0 ∷ 5 ∷ 24 ∷ []) ++
    line src_word (1 ∷ 7 ∷ 60 ∷ 2 ∷ 4 ∷ []) ++
    line src_word (2 ∷ 3 ∷ 200 ∷ 0 ∷ 8 ∷ []) ++
    line map_word (0 ∷ 60 ∷ []) ++
    line map_word (2 ∷ 200 ∷ []) ++
    line map_word (4 ∷ 200 ∷ []) ++
    line map_word (7 ∷ 255 ∷ []) ++
    line map_word (9 ∷ 200 ∷ []) ++
    line map_word (14 ∷ 255 ∷ []) ++
    line map_word (16 ∷ 200 ∷ []) ++
    line map_word (19 ∷ 200 ∷ []) ++
    line map_word (21 ∷ 255 ∷ []) ++
    line end_word (9 ∷ [])
