-- Document 01, "The refusal numbers", and requests E1 and E5, as propositions: the rows of a list of sources.
use Rattle.std.specs.Prelude.{ℕ, suc, ◌<◌, ◌≡◌, ◌⊎◌, ◌≢◌, List, [], ◌∷◌, ◌++◌, length, get_or}
use Rattle.scope.specs.Run.{ceiling}
use Rattle.scope.specs.declared.Place.{Place}
use Rattle.scope.specs.Table.{Row, ◌given◌, ◌at◌given◌, Says, Silent, BadPeriod, BadPhase}
use Rattle.sources.specs.declared.Entry.{Entry}
use Rattle.sources.specs.Entry.{entry_with, entries_of}

-- "7: weight 0 or above 255".
abbrev pub BadWeight : ℕ → Type 0
BadWeight weight = (weight ≡ 0) ⊎ (ceiling < weight)

-- "4 before 7"; "22 phase not below period, after 7 in each source" (E5): the rows of the source at place k.
abbrev pub source_table : ℕ → Entry → List Row
source_table k entry =
    4 at k given BadPeriod entry.source.period ∷
    7 at k given BadWeight entry.weight ∷
    22 at k given BadPhase entry.source ∷ []

-- "source by source"; "Where a source in a list is at fault .. its place, counted from 1" (E1): the first of these at place k.
abbrev pub sources_table : ℕ → List Entry → List Row
sources_table k [] = []
sources_table k (entry ∷ entries) = source_table k entry ++ sources_table (suc k) entries

-- "10, then source by source"; "10 covers the third list" (E5): the rows of three lists.
abbrev pub source_lists_table : (periods weights phases : List ℕ) → List Row
source_lists_table periods weights phases =
    10 given ((length periods ≢ length weights) ⊎ (length periods ≢ length phases)) ∷
    sources_table 1 (entries_of periods weights phases)

-- The source with so many before it, in three lists of one length.
abbrev pub entry_after : (periods weights phases : List ℕ) → ℕ → Entry
entry_after periods weights phases j = entry_with (get_or periods j 0) (get_or weights j 0) (get_or phases j 0)

-- What the table says of three lists of one length: of so many sources before it none breaks 4, 7 or 22, and this one does; n is the
-- first of these that it breaks. Its place is one more than the number of sources before it.
pub record AtFault (periods weights phases : List ℕ) (n : ℕ) (place : Place) : Type 0 where
  pub before : ℕ
  pub inside : before < length periods
  pub least : (j : ℕ) → j < before → Silent (source_table (suc j) (entry_after periods weights phases j))
  pub breaks : Says (source_table (suc before) (entry_after periods weights phases before)) n place
