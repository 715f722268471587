-- Document 01, "The list program", and requests E1 and E5: what it prints.
use Rattle.std.specs.Prelude.{ℕ, suc, ◌+◌, cond, List, [], ◌∷◌, ◌++◌, eqb, length}
use Rattle.std.proofs.Math.Option.{Option}
use Rattle.scope.specs.declared.Run.{Run}
use Rattle.scope.specs.Run.{ceiling, cells_of}
use Rattle.scope.specs.Hit.{hits_from}
use Rattle.scope.specs.declared.Place.{Place}
use Rattle.scope.specs.declared.Place.TheVariants.{Nowhere, AtSource}
use Rattle.scope.specs.Reply.{Said, refused, answered}
use Rattle.sources.specs.declared.Entry.{Entry}
use Rattle.decimal.specs.Digits.{digits}
use Rattle.words.specs.Line.{line}
use Rattle.text.specs.Form.{run_word, src_word, run_numbers, Content}
use Rattle.text.specs.Promise.{reply_to, handed}
use Rattle.map.specs.Promise.{made}

-- The word `map`.
abbrev pub map_word : List ℕ
map_word = 109 ∷ 97 ∷ 112 ∷ []

-- The word `end`.
abbrev pub end_word : List ℕ
end_word = 101 ∷ 110 ∷ 100 ∷ []

-- The word `refused`.
abbrev pub refused_word : List ℕ
refused_word = 114 ∷ 101 ∷ 102 ∷ 117 ∷ 115 ∷ 101 ∷ 100 ∷ []

-- The word `source`.
abbrev pub source_word : List ℕ
source_word = 115 ∷ 111 ∷ 117 ∷ 114 ∷ 99 ∷ 101 ∷ []

-- "the list program prints `refused N` or `refused N source K`" (E1).
unfoldable pub refusal_report : ℕ → Place → List ℕ
refusal_report n Nowhere = line refused_word (n ∷ [])
refusal_report n (AtSource k) = refused_word ++ (32 ∷ digits n ++ (32 ∷ line source_word (k ∷ [])))

-- "`run` repeats the run and adds its cells".
unfoldable pub run_report : Run → List ℕ
run_report run = line run_word (run_numbers run ++ (cells_of run ∷ []))

-- "`src` is place, period, weight, hits", and "gains the phase before the hit count" (E5): the line of the source at place k.
unfoldable pub entry_report : Run → ℕ → Entry → List ℕ
entry_report run k entry =
    line src_word (k ∷ entry.source.period ∷ entry.weight ∷ entry.source.phase ∷ length (hits_from run entry.source 0) ∷ [])

-- The same of all sources, the first of them at place k.
unfoldable pub src_report : Run → ℕ → List Entry → List ℕ
src_report run k [] = []
src_report run k (entry ∷ entries) = entry_report run k entry ++ src_report run (suc k) entries

-- "`map` is cell number and value, for cells above 0": of the cell x with this value.
unfoldable pub cell_report : ℕ → ℕ → List ℕ
cell_report x value = cond (eqb value 0) [] (line map_word (x ∷ value ∷ []))

-- The same of all cells from number x on.
unfoldable pub map_report : ℕ → List ℕ → List ℕ
map_report x [] = []
map_report x (value ∷ cells) = cell_report x value ++ map_report (suc x) cells

-- How many cells are above 0.
unfoldable pub above : List ℕ → ℕ
above [] = 0
above (value ∷ cells) = cond (eqb value 0) 0 1 + above cells

-- "`end` counts the map lines".
unfoldable pub end_report : List ℕ → List ℕ
end_report cells = line end_word (above cells ∷ [])

-- "from a cleared map": the map of the run and its sources, as the plain call makes it (E6).
unfoldable pub reported_map : Run → List Entry → List ℕ
reported_map run entries = made ceiling run entries

-- Its lines, and the line that counts them.
unfoldable pub cells_report : Run → List Entry → List ℕ
cells_report run entries = map_report 0 (reported_map run entries) ++ end_report (reported_map run entries)

-- The whole report on a run and its sources.
unfoldable pub whole_report : Run → List Entry → List ℕ
whole_report run entries = run_report run ++ (src_report run 1 entries ++ cells_report run entries)

-- It prints the refusal "and nothing more", or the whole report.
unfoldable pub printed : Said Run → List Entry → List ℕ
printed (refused n place) entries = refusal_report n place
printed (answered run) entries = whole_report run entries

-- What is printed of a text, by what it says.
unfoldable pub report_of : Option Content → List ℕ
report_of content = printed (reply_to content) (handed content)
