-- Document 01: "a list of periods, a list of weights", and request E5: "phases beside periods and weights", of list entries.
use Rattle.std.specs.Prelude.{ℕ, ◌≤◌, ◌≡◌, List, [], ◌∷◌, map, length}
use Rattle.scope.specs.Run.{ValidSource}
use Rattle.sources.specs.declared.Entry.{Entry}

-- "10 covers the third list" (E5): the three lists are of one length.
abbrev pub OneLength : (periods weights phases : List ℕ) → Type 0
OneLength periods weights phases = (length periods ≡ length weights) × (length periods ≡ length phases)

-- The list of periods of some entries.
unfoldable pub periods_of : List Entry → List ℕ
periods_of entries = map (λ entry. entry.source.period) entries

-- The list of weights of some entries.
unfoldable pub weights_of : List Entry → List ℕ
weights_of entries = map (λ entry. entry.weight) entries

-- The list of phases of some entries.
unfoldable pub phases_of : List Entry → List ℕ
phases_of entries = map (λ entry. entry.source.phase) entries

-- The table of ranges, of one entry: those of its source, and "weight: 1 to 255", of any ceiling c.
pub record ValidEntry (c : ℕ) (e : Entry) : Type 0 where
  pub source : ValidSource e.source
  pub some : 1 ≤ e.weight
  pub fits : e.weight ≤ c

-- Every entry is within the limits.
abbrev pub ValidEntries : ℕ → List Entry → Type 0
ValidEntries c [] = Unit {0}
ValidEntries c (entry ∷ entries) = ValidEntry c entry × ValidEntries c entries
