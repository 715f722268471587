-- What the inner steps of the map calls speak of besides 01's words.
use Rattle.std.specs.Prelude.{ℕ, ◌+◌, ◌%◌, ◌≤◌, ◌<◌, ◌≡◌, true, false, cond, List, [], ◌∷◌, ltb, leb, eqb, length, get_or, ◌<ℤ◌, Result}
use Rattle.std.proofs.Math.Option.{none}
use Rattle.rooms.specs.Lists.{zeros}
use Rattle.scope.specs.declared.Run.{Run}
use Rattle.scope.specs.declared.Source.{Source}
use Rattle.scope.specs.Run.{ValidRun, ValidSource, ceiling, cells_of, offset_of}
use Rattle.scope.specs.Hit.{is_hit}
use Rattle.scope.specs.declared.Refusal.{Refusal}
use Rattle.scope.specs.Refusal.{complaint}
use Rattle.sources.specs.declared.Entry.{Entry}
use Rattle.sources.specs.Entry.{entries_of, list_tests}
use Rattle.walk.specs.declared.Walk.{Walk}
use Rattle.walk.specs.declared.LineHit.{LineHit}
use Rattle.walk.specs.Inner.{Leads, Stands}
use Rattle.map.specs.declared.Start.{Start}
use Rattle.map.specs.declared.Start.TheVariants.{Clean, AsLent}
use Rattle.map.specs.Sum.{capped}
use Rattle.map.specs.Promise.{weight_at, added, MapCallAt}

-- What is looked at before the first store: the run, the sources and the map's length are in order.
pub record ValidCall (run : Run) (sources : List Entry) (map : List ℕ) : Type 0 where
  pub valid : ValidRun run
  pub sound : complaint (list_tests ceiling 1 sources) ≡ none
  pub whole : length map ≡ cells_of run

-- The cells that a call starts from: zeros, or the cells as they were lent.
abbrev pub start_of : Start → List ℕ → List ℕ
start_of Clean map = zeros (length map)
start_of AsLent map = map

-- What `map_call` keeps: the new cells are what the sources make of what the map starts from.
abbrev pub CallFrom : Start → Run → (periods weights phases map : List ℕ) → Result (Unit {0}) Refusal → List ℕ → Type 0
CallFrom start run periods weights phases map answer after = MapCallAt ceiling run periods weights phases map (added ceiling run (entries_of periods weights phases) (start_of start map)) answer after

-- The entries whose period is at least `low` and below `high`.
unfoldable pub chosen : ℕ → ℕ → List Entry → List Entry
chosen low high [] = []
chosen low high (entry ∷ entries) =
    let more = chosen low high entries in
    cond (leb low entry.source.period) (cond (ltb entry.source.period high) (entry ∷ more) more) more

-- What the cell at distance d from the left edge of a line gains from a source whose first hit there is at distance `start`.
unfoldable pub spaced : ℕ → ℕ → ℕ → ℕ → ℕ
spaced period start weight d = cond (eqb (d % period) start) weight 0

-- One source, as a list of entries.
abbrev pub only : Source → ℕ → List Entry
only source weight = record { source = source; weight = weight } ∷ []

-- The cells with numbers from x to before y have what they gain on top of what they start from, and all others are as they were.
pub record RaisedFrom (c : ℕ) (gain : ℕ → ℕ) (start old : List ℕ) (x y : ℕ) (cells : List ℕ) : Type 0 where
  pub as_long : length cells ≡ length old
  pub below : (i : ℕ) → i < x → get_or cells i 0 ≡ get_or old i 0
  pub within : (i : ℕ) → x ≤ i → i < y → i < length old → get_or cells i 0 ≡ capped c (get_or start i 0 + gain i)
  pub above : (i : ℕ) → y ≤ i → get_or cells i 0 ≡ get_or old i 0

-- The same where they start from what they were.
abbrev pub RaisedIn : ℕ → (ℕ → ℕ) → List ℕ → (x y : ℕ) → List ℕ → Type 0
RaisedIn c gain old x y cells = RaisedFrom c gain old old x y cells

-- A walk over the map of a run, of a source with at most one hit on a line, at a hit or past the run.
pub record Crosses (run : Run) (source : Source) (walk : Walk) (at : LineHit) (map : List ℕ) : Type 0 where
  pub valid : ValidRun run
  pub source_valid : ValidSource source
  pub wide : run.window ≤ source.period
  pub leads : Leads run source walk
  pub stands : at.cell.0 < cells_of run → Stands run source at
  pub whole : length map ≡ cells_of run

-- The same, of some run and source.
pub record Crossing (walk : Walk) (at : LineHit) (map : List ℕ) : Type 0 where
  pub run : Run
  pub source : Source
  pub is : Crosses run source walk at map

-- The hits from `from` to before `to` are added. Those are all that the step to the left leads to, one after the other, and no
-- more: after a hit to the left of `low` there is none of them, and `to` comes next after such a hit, or lies past the map.
pub record AddedLeft (run : Run) (source : Source) (walk : Walk) (weight : ℕ) (from to : LineHit) (map after : List ℕ) : Type 0 where
  pub on : from.cell.0 ≤ to.cell.0
  pub done : RaisedIn ceiling (weight_at run (only source weight)) map from.cell.0 to.cell.0 after
  pub stands : to.cell.0 < cells_of run → Stands run source to
  pub turns : (x y : ℕ) → from.cell.0 ≤ x → x < y → y < to.cell.0 → is_hit run source x ≡ true → offset_of run x <ℤ walk.low → is_hit run source y ≡ false
  pub stops : to.cell.0 < length map → (x : ℕ) × (from.cell.0 ≤ x) × (x < to.cell.0) × (is_hit run source x ≡ true) × (offset_of run x <ℤ walk.low) × ((z : ℕ) → x < z → z < to.cell.0 → is_hit run source z ≡ false)

-- The same, for every run and source that the walk is for.
abbrev pub AddsLeft : Walk → ℕ → LineHit → LineHit → List ℕ → List ℕ → Type 0
AddsLeft walk weight from to map after = (run : Run) (source : Source) → Crosses run source walk from map → AddedLeft run source walk weight from to map after
