-- What the inner step of the listing call tells it.
use Rattle.std.specs.Prelude.{ℕ, ◌≡◌, List, Ok}
use Rattle.scope.specs.declared.Run.{Run}
use Rattle.scope.specs.declared.Source.{Source}
use Rattle.scope.specs.Hit.{hits_from}
use Rattle.scope.specs.Reply.{answered}
use Rattle.hits.specs.declared.Listing.{Listing}
use Rattle.hits.specs.Promise.{says_listing, listed, written}

-- The listing from a start within the run, as its promise has it where nothing is refused.
pub record ListsFrom (run : Run) (source : Source) (start : ℕ) (room : List ℕ) (r : Listing) (after : List ℕ) : Type 0 where
  pub says : says_listing (Ok r) ≡ answered (listed (hits_from run source start) room)
  pub stores : after ≡ written (hits_from run source start) room
