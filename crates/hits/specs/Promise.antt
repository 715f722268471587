-- Document 01, "First hit from a cell on" and "Listing", and request E5: what the two calls reply and store, for every input.
use Rattle.std.specs.Prelude.{ℕ, min, ◌≡◌, List, [], ◌∷◌, ◌++◌, leb, eqb, length, take, drop, Option as Option·code, Some, None, Result, Ok, Err}
use Rattle.std.proofs.Math.Option.{Option, some, none}
use Rattle.scope.specs.declared.Run.{Run}
use Rattle.scope.specs.declared.Source.{Source}
use Rattle.scope.specs.declared.RunCell.{RunCell}
use Rattle.scope.specs.Run.{cells_of}
use Rattle.scope.specs.Hit.{hits_from}
use Rattle.scope.specs.Refusal.{Tests, ◌when◌, ◌and_then◌, number, complaint, run_tests, source_tests}
use Rattle.scope.specs.declared.Reason.TheVariants.{Start, Room}
use Rattle.scope.specs.Reply.{Said, refused, answered, reply, stored}
use Rattle.scope.specs.declared.Refusal.{Refusal}
use Rattle.hits.specs.declared.Listing.{Listing}

-- "First hit and listing: 1, 2, 3, 4, 8", with 17, 18 for 2 (E1, E2) and "22 .. after 4 where no weight is given" (E5). "8: starting
-- cell not in the run".
unfoldable pub first_hit_tests : Run → Source → RunCell → Tests
first_hit_tests run source start =
    run_tests run and_then
    source_tests source and_then
    Start when leb (cells_of run) start.0

-- The same, then 9. "9: listing room 0".
unfoldable pub listing_tests : Run → Source → RunCell → List ℕ → Tests
listing_tests run source start room =
    first_hit_tests run source start and_then
    Room when eqb (length room) 0

-- The first of a list, if it has one.
abbrev pub first : List ℕ → Option ℕ
first [] = none
first (x ∷ xs) = some x

-- The number of a cell, if there is one.
abbrev pub cell_number : Option·code RunCell → Option ℕ
cell_number (Some cell) = some cell.0
cell_number None = none

-- What a reply of the first-hit call says: a cell, "none", or a refusal's number and place.
abbrev pub says_first_hit : Result (Option·code RunCell) Refusal → Said (Option ℕ)
says_first_hit (Ok found) = answered (cell_number found)
says_first_hit (Err refusal) = refused (number refusal.reason) refusal.place

-- "the reply is the smallest hit cell not below it, or none": the first of the hits from the start on.
unfoldable pub FirstHitPromise : Run → Source → RunCell → Result (Option·code RunCell) Refusal → Type 0
FirstHitPromise run source start r =
    says_first_hit r ≡ reply (complaint (first_hit_tests run source start)) (first (hits_from run source start.0))

-- "The answer is the count written and either done or more from x, x being the next hit itself."
pub record Listed : Type 0 where
  pub count : ℕ
  pub next : Option ℕ

-- What a reply of the listing call says: the answer, or a refusal's number and place.
abbrev pub says_listing : Result Listing Refusal → Said Listed
says_listing (Ok listing) = answered (record { count = listing.count; next = cell_number listing.next })
says_listing (Err refusal) = refused (number refusal.reason) refusal.place

-- "until there are no more, or .. the lent room is full": of these hits, as many as the room holds are written and counted,
-- and the first of the others is the next. "More is said exactly if such a hit is left, else done."
unfoldable pub listed : List ℕ → List ℕ → Listed
listed hits room = record { count = min (length room) (length hits); next = first (drop (length room) hits) }

-- "Hit cells .. are written in rising order"; "room past what is written is untouched".
unfoldable pub written : List ℕ → List ℕ → List ℕ
written hits room = take (length room) hits ++ drop (length hits) room

-- The promise of the listing call: the reply, and what the room holds after.
pub record ListingPromise (run : Run) (source : Source) (start : RunCell) (room : List ℕ) (r : Result Listing Refusal) (after : List ℕ) : Type 0 where
  pub says : says_listing r ≡ reply (complaint (listing_tests run source start room)) (listed (hits_from run source start.0) room)
  pub stores : after ≡ stored (complaint (listing_tests run source start room)) room (written (hits_from run source start.0) room)
