-- Request E3, what a blanking list tells its reader, by the map's definition alone: which lines a room lists, and which lines have a
-- guard cell whose hits' weights sum to the threshold or more.
use Rattle.std.specs.Prelude.{ℕ, ◌+◌, ◌*◌, ◌≤◌, ◌<◌, List, get_or}
use Rattle.scope.specs.declared.Run.{Run}
use Rattle.sources.specs.declared.Entry.{Entry}
use Rattle.map.specs.Promise.{weight_at}
use Rattle.blanking.specs.declared.Guard.{Guard}
use Rattle.blanking.specs.Stretches.{GuardCell}

-- Line j is in one of the first `count` stretches of a room: "first and last line as two 32-bit numbers each".
abbrev pub ListedIn : (room : List ℕ) → (count : ℕ) → ℕ → Type 0
ListedIn room count j = (k : ℕ) × (k < count) × (get_or room (2 * k) 0 ≤ j) × (j ≤ get_or room (2 * k + 1) 0)

-- Some guard cell of line j is hit by sources whose weights sum to the threshold or more.
pub record Disturbed (run : Run) (sources : List Entry) (threshold : ℕ) (guard : Guard) (j : ℕ) : Type 0 where
  pub cell : ℕ
  pub guarded : GuardCell run guard j cell
  pub sums : threshold ≤ weight_at run sources cell
