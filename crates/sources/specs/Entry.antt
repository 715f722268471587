-- Document 01 and request E5: lists of sources with their weights.
use Rattle.std.specs.Prelude.{ℕ, suc, not, List, [], ◌∷◌, eqb, length}
use Rattle.scope.specs.Refusal.{Tests, ◌when◌, ◌and_then◌, of_source, nothing, period_tests, weight_tests, phase_tests}
use Rattle.scope.specs.declared.Reason.TheVariants.{Lists}
-- "A source has a period p and a weight", and "a third number, its phase" (E5): an entry of a list.
use Rattle.sources.specs.declared.Entry.{Entry}

-- The entry with these three numbers, in the order of the lists.
abbrev pub entry_with : (period weight phase : ℕ) → Entry
entry_with period weight phase = record { source = record { period = period; phase = phase }; weight = weight }

-- "a list of periods, a list of weights"; "The source lists carry phases beside periods and weights" (E5): an entry for each place that
-- all three lists have.
unfoldable pub entries_of : (periods weights phases : List ℕ) → List Entry
entries_of [] weights phases = []
entries_of (period ∷ periods) [] phases = []
entries_of (period ∷ periods) (weight ∷ weights) [] = []
entries_of (period ∷ periods) (weight ∷ weights) (phase ∷ phases) = entry_with period weight phase ∷ entries_of periods weights phases

-- "4 before 7"; "22 .. after 7 in each source" (E5): of one entry.
unfoldable pub entry_tests : ℕ → Entry → Tests
entry_tests c entry =
    period_tests entry.source.period and_then
    weight_tests c entry.weight and_then
    phase_tests entry.source

-- "source by source", the first of them at place k.
unfoldable pub list_tests : ℕ → ℕ → List Entry → Tests
list_tests c k [] = nothing
list_tests c k (entry ∷ entries) = of_source k (entry_tests c entry) and_then list_tests c (suc k) entries

-- "10: period and weight lists of unequal length", "10 covers the third list" (E5): a list that stands beside the list of periods has
-- not its length.
unfoldable pub length_tests : (periods beside : List ℕ) → Tests
length_tests periods beside = Lists when not (eqb (length periods) (length beside))

-- "10, then source by source", and "10 covers the third list" (E5): the tests of three lists.
unfoldable pub source_lists_tests : ℕ → (periods weights phases : List ℕ) → Tests
source_lists_tests c periods weights phases =
    length_tests periods weights and_then
    length_tests periods phases and_then
    list_tests c 1 (entries_of periods weights phases)
