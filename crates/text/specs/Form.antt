-- Document 01, "The list program", and request E5: the text that it reads. A text is a list of bytes.
use Rattle.std.specs.Prelude.{ℕ, ◌≤◌, ◌≡◌, List, [], ◌∷◌, ◌++◌, length}
use Rattle.rooms.specs.Lists.{UpTo}
use Rattle.decimal.specs.Digits.{largest}
use Rattle.words.specs.Line.{line}
use Rattle.scope.specs.declared.Run.{Run}
use Rattle.sources.specs.declared.Entry.{Entry}
use Rattle.sources.specs.Entry.{entry_with}

-- The word `run`.
abbrev pub run_word : List ℕ
run_word = 114 ∷ 117 ∷ 110 ∷ []

-- The word `src`.
abbrev pub src_word : List ℕ
src_word = 115 ∷ 114 ∷ 99 ∷ []

-- "`run I T first last`": the numbers of the line.
abbrev pub run_numbers : Run → List ℕ
run_numbers run = run.window ∷ run.interval ∷ run.first ∷ run.last ∷ []

-- "`src period weight phase`, and a line without it means phase 0" (E5): a `src` line as it is written.
pub data SrcLine : Type 0 where
  with_phase : (period weight phase : ℕ) → SrcLine
  without_phase : (period weight : ℕ) → SrcLine

-- The numbers of the line.
abbrev pub src_numbers : SrcLine → List ℕ
src_numbers (with_phase period weight phase) = period ∷ weight ∷ phase ∷ []
src_numbers (without_phase period weight) = period ∷ weight ∷ []

-- The source that it means, and its weight.
abbrev pub meant : SrcLine → Entry
meant (with_phase period weight phase) = entry_with period weight phase
meant (without_phase period weight) = entry_with period weight 0

-- "then `src` .. lines, none or more".
unfoldable pub src_lines : List SrcLine → List ℕ
src_lines [] = []
src_lines (src ∷ srcs) = line src_word (src_numbers src) ++ src_lines srcs

-- The sources that these lines mean, one for each.
unfoldable pub sources_meant : List SrcLine → List Entry
sources_meant [] = []
sources_meant (src ∷ srcs) = meant src ∷ sources_meant srcs

-- "one line `run I T first last`, then `src` .. lines": the text with this run and these lines.
unfoldable pub text_of : Run → List SrcLine → List ℕ
text_of run srcs = line run_word (run_numbers run) ++ src_lines srcs

-- "decimal numbers up to 4,294,967,295", in each of these lines.
abbrev pub SrcsSmall : List SrcLine → Type 0
SrcsSmall [] = Unit {0}
SrcsSmall (src ∷ srcs) = UpTo largest (src_numbers src) × SrcsSmall srcs

-- The text has the form, with this run and these lines: numbers that are not too large, and "at most 4,096 bytes".
pub record InForm (text : List ℕ) (run : Run) (srcs : List SrcLine) : Type 0 where
  pub spelled : text ≡ text_of run srcs
  pub run_small : UpTo largest (run_numbers run)
  pub srcs_small : SrcsSmall srcs
  pub short : length text ≤ 4096

-- What a text says: a run and sources with their weights.
pub record Content : Type 0 where
  pub run : Run
  pub entries : List Entry

-- The text has the form, and this is what it says.
pub record Spells (text : List ℕ) (content : Content) : Type 0 where
  pub srcs : List SrcLine
  pub formed : InForm text content.run srcs
  pub means : sources_meant srcs ≡ content.entries
