-- Document 01, "Map": a run, a list of periods, a list of weights, and a lent map; "phases beside periods and weights" (E5). Since E6
-- there are two calls: "The plain map call shall clear first. Adding onto a lent map becomes a call of its own under the old rule."
use Rattle.std.specs.Prelude.{ℕ, ◌+◌, ◌≡◌, cond, not, List, [], ◌∷◌, eqb, length, Result, Ok, Err}
use Rattle.scope.specs.declared.Run.{Run}
use Rattle.scope.specs.Run.{ceiling, cells_of}
use Rattle.scope.specs.Hit.{is_hit}
use Rattle.scope.specs.declared.Refusal.{Refusal}
use Rattle.scope.specs.Refusal.{Tests, ◌when◌, ◌and_then◌, number, complaint, run_tests}
use Rattle.scope.specs.declared.Reason.TheVariants.{Room}
use Rattle.sources.specs.declared.Entry.{Entry}
use Rattle.sources.specs.Entry.{entries_of, source_lists_tests}
use Rattle.scope.specs.Reply.{Said, refused, answered, reply, stored}
use Rattle.map.specs.Sum.{raised, summed}

-- "Map: 1, 2, 3, 10, then source by source 4 before 7, then 9", with 17, 18 for 2 (E1, E2) and "22 .. after 7 in each source" (E5), of
-- both calls. "9: map .. not of the exact length".
unfoldable pub map_tests : ℕ → Run → (periods weights phases map : List ℕ) → Tests
map_tests c run periods weights phases map =
    run_tests run and_then
    source_lists_tests c periods weights phases and_then
    Room when not (eqb (length map) (cells_of run))

-- "weights of all list entries that hit it", of cell x. "A period listed twice counts twice."
unfoldable pub weight_at : Run → List Entry → ℕ → ℕ
weight_at run [] x = 0
weight_at run (entry ∷ entries) x = cond (is_hit run entry.source x) entry.weight 0 + weight_at run entries x

-- The adding call, `add_to_map`, "under the old rule" (E6): "Every cell becomes the smaller of 255 and old value + weights of all list
-- entries that hit it." "An empty list changes nothing."
unfoldable pub added : ℕ → Run → List Entry → List ℕ → List ℕ
added c run entries cells = raised c (weight_at run entries) 0 cells

-- The plain call, `make_map`, "shall clear first" (E6): every cell becomes the smaller of 255 and "weights of all list entries that hit
-- it", whatever it held; "an empty list now clears the map there".
unfoldable pub made : ℕ → Run → List Entry → List ℕ
made c run entries = summed c (weight_at run entries) 0 (cells_of run)

-- What a reply of a map call says: that it is done, or a refusal's number and place.
abbrev pub says_map : Result (Unit {0}) Refusal → Said (Unit {0})
says_map (Ok done) = answered done
says_map (Err refusal) = refused (number refusal.reason) refusal.place

-- What both calls promise at a ceiling c, `new` being the cells that each makes: what the reply says, and what every cell holds afterwards.
pub record MapCallAt (c : ℕ) (run : Run) (periods weights phases map new : List ℕ) (answer : Result (Unit {0}) Refusal) (after : List ℕ) : Type 0 where
  pub says : says_map answer ≡ reply (complaint (map_tests c run periods weights phases map)) tt
  pub stores : after ≡ stored (complaint (map_tests c run periods weights phases map)) map new

-- The promise of the plain call at a ceiling c.
abbrev pub MakingPromiseAt : ℕ → Run → (periods weights phases map : List ℕ) → Result (Unit {0}) Refusal → List ℕ → Type 0
MakingPromiseAt c run periods weights phases map answer after = MapCallAt c run periods weights phases map (made c run (entries_of periods weights phases)) answer after

-- The promise of the adding call at a ceiling c.
abbrev pub AddingPromiseAt : ℕ → Run → (periods weights phases map : List ℕ) → Result (Unit {0}) Refusal → List ℕ → Type 0
AddingPromiseAt c run periods weights phases map answer after = MapCallAt c run periods weights phases map (added c run (entries_of periods weights phases) map) answer after

-- The promise of the plain call, `make_map`: at 01's ceiling.
abbrev pub MakingPromise : Run → (periods weights phases map : List ℕ) → Result (Unit {0}) Refusal → List ℕ → Type 0
MakingPromise run periods weights phases map answer after = MakingPromiseAt ceiling run periods weights phases map answer after

-- The promise of the adding call, `add_to_map`: at 01's ceiling.
abbrev pub AddingPromise : Run → (periods weights phases map : List ℕ) → Result (Unit {0}) Refusal → List ℕ → Type 0
AddingPromise run periods weights phases map answer after = AddingPromiseAt ceiling run periods weights phases map answer after
