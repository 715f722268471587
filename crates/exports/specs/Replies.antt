-- The numbers that tell each operation's reply. A refusal has its number, its place where the operation takes a list of sources or a
-- text, and zeros beside them; any other reply has 0 for the refusal and for the place.
use Rattle.std.specs.Prelude.{ℕ, pos, Option, Some, None, Result, Ok, Err}
use Rattle.rooms.specs.Lists.{zeros}
use Rattle.scope.specs.declared.Refusal.{Refusal}
use Rattle.scope.specs.Refusal.{number}
use Rattle.scope.specs.declared.Run.{Run}
use Rattle.scope.specs.declared.RunCell.{RunCell}
use Rattle.scope.specs.declared.Place.{Place}
use Rattle.scope.specs.declared.Place.TheVariants.{Nowhere, AtSource}
use Rattle.vectors.specs.declared.Steps.{Steps}
use Rattle.vectors.specs.declared.Steps.TheVariants.{Pair, Single, Refused}
use Rattle.hits.specs.declared.Listing.{Listing}
use Rattle.text.specs.declared.Input.{Input}
use Rattle.text.specs.Promise.{most_sources}
use Rattle.exports.specs.declared.StepsReply.{StepsReply}
use Rattle.exports.specs.declared.FirstHitReply.{FirstHitReply}
use Rattle.exports.specs.declared.ListingReply.{ListingReply}
use Rattle.exports.specs.declared.MappedReply.{MappedReply}
use Rattle.exports.specs.declared.BlankingReply.{BlankingReply}
use Rattle.exports.specs.declared.RunReply.{RunReply}
use Rattle.exports.specs.declared.TextReply.{TextReply}

-- "its place, counted from 1" (E1), and 0 where there is none.
abbrev pub tell_place : Place → ℕ
tell_place Nowhere = 0
tell_place (AtSource k) = k

-- The step vectors: a pair is two vectors, the one that leads left first, and a single vector is one.
abbrev pub tell_steps : Steps → StepsReply
tell_steps (Pair left right) = record { refusal = 0; vectors = 2; alpha = left.offset; beta = left.line; gamma = right.offset; delta = right.line }
tell_steps (Single only) = record { refusal = 0; vectors = 1; alpha = only.offset; beta = only.line; gamma = pos 0; delta = 0 }
tell_steps (Refused reason place) = record { refusal = number reason; vectors = 0; alpha = pos 0; beta = 0; gamma = pos 0; delta = 0 }

-- The first hit: whether there is one, and its cell.
abbrev pub tell_first : Result (Option RunCell) Refusal → FirstHitReply
tell_first (Ok (Some cell)) = record { refusal = 0; found = 1; cell = cell.0 }
tell_first (Ok None) = record { refusal = 0; found = 0; cell = 0 }
tell_first (Err refusal) = record { refusal = number refusal.reason; found = 0; cell = 0 }

-- How a listing of so many hits ended: whether one is left, and that one.
abbrev pub tell_end : ℕ → Option RunCell → ListingReply
tell_end count None = record { refusal = 0; more = 0; count = count; next = 0 }
tell_end count (Some cell) = record { refusal = 0; more = 1; count = count; next = cell.0 }

-- The listing: how many hits were written, whether one is left, and that one.
abbrev pub tell_listing : Result Listing Refusal → ListingReply
tell_listing (Ok listing) = tell_end listing.count listing.next
tell_listing (Err refusal) = record { refusal = number refusal.reason; more = 0; count = 0; next = 0 }

-- A map call: the refusal's number and its place.
abbrev pub tell_mapped : Result (Unit {0}) Refusal → MappedReply
tell_mapped (Ok done) = record { refusal = 0; place = 0 }
tell_mapped (Err refusal) = record { refusal = number refusal.reason; place = tell_place refusal.place }

-- The blanking list: how many stretches were written.
abbrev pub tell_blanking : Result ℕ Refusal → BlankingReply
tell_blanking (Ok count) = record { refusal = 0; count = count }
tell_blanking (Err refusal) = record { refusal = number refusal.reason; count = 0 }

-- Saving: the refusal's number alone.
abbrev pub tell_saved : Result (Unit {0}) Refusal → ℕ
tell_saved (Ok done) = 0
tell_saved (Err refusal) = number refusal.reason

-- Reading a file: the run.
abbrev pub tell_loaded : Result Run Refusal → RunReply
tell_loaded (Ok run) = record { refusal = 0; window = run.window; interval = run.interval; first = run.first; last = run.last }
tell_loaded (Err refusal) = record { refusal = number refusal.reason; window = 0; interval = 0; first = 0; last = 0 }

-- Reading a text: the run, as from a file, and the sources; or the refusal, as from a file, its place, and zeros.
abbrev pub tell_text : Result Input Refusal → TextReply
tell_text (Ok input) = record { run = tell_loaded (Ok input.run); place = 0; count = input.count; periods = input.periods; weights = input.weights; phases = input.phases }
tell_text (Err refusal) = record { run = tell_loaded (Err refusal); place = tell_place refusal.place; count = 0; periods = zeros most_sources; weights = zeros most_sources; phases = zeros most_sources }
