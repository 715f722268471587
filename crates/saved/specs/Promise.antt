-- What saving and reading promise, each in one definition of the inputs, the reply and what is lent afterwards.
use Rattle.std.specs.Prelude.{ℕ, ◌≡◌, List, Result, Ok, Err}
use Rattle.scope.specs.declared.Run.{Run}
use Rattle.scope.specs.declared.Refusal.{Refusal}
use Rattle.scope.specs.Refusal.{number, complaint}
use Rattle.scope.specs.Reply.{Said, refused, answered, reply, stored}
use Rattle.saved.specs.File.{file_of, run_of, map_of, saving_tests, reading_tests}

-- What a reply says: what it answers with, or a refusal's number and place.
abbrev pub says : {A : Type 0} → Result A Refusal → Said A
says (Ok answer) = answered answer
says (Err refusal) = refused (number refusal.reason) refusal.place

-- What a reply to saving says: that it is done, or a refusal's number and place.
abbrev pub says_saving : Result (Unit {0}) Refusal → Said (Unit {0})
says_saving = says

-- What a reply to reading says: the run, or a refusal's number and place.
abbrev pub says_reading : Result Run Refusal → Said Run
says_reading = says

-- Saving: a run and its map are stored in the file room, or it is refused and the room is as it was.
pub record SavingPromise (run : Run) (map file : List ℕ) (answer : Result (Unit {0}) Refusal) (after : List ℕ) : Type 0 where
  pub says : says_saving answer ≡ reply (complaint (saving_tests run map file)) tt
  pub stores : after ≡ stored (complaint (saving_tests run map file)) file (file_of run map)

-- "Reading answers with the run and fills a lent map", or it is refused and the map is as it was.
pub record ReadingPromise (file map : List ℕ) (answer : Result Run Refusal) (after : List ℕ) : Type 0 where
  pub says : says_reading answer ≡ reply (complaint (reading_tests file map)) (run_of file)
  pub stores : after ≡ stored (complaint (reading_tests file map)) map (map_of file)
