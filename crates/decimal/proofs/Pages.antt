-- What is written on a page piece by piece. Assumes nothing.
use Prim.Native.Nat.{ℕ, ◌≤◌}
use mathlib.Core.Path.{◌≡◌, refl, ◌∙◌, subst}
use mathlib.Core.List.{List, [], ◌++◌}
use lib.ListN.{length}
use Rattle.rooms.proofs.Written.{written_none, written_append}
use Rattle.rooms.proofs.Writing.{Writing, writing_starts, writing_more, writing_ends, writing_last, piece_fits, last_fits, fits_same}
use Rattle.decimal.specs.declared.Page.{Page}
use Rattle.decimal.specs.Inner.{Fits, Writes}

-- to write nothing changes nothing
pub writes_none : (page : Page) → page.at ≤ length page.room.now → Writes page [] page
writes_none page h = record { same_room = refl; written = written_none page.room.now page.at h }

-- two pieces one after the other are one piece
pub writes_append : {before between after : Page} {bytes more : List ℕ} → Writes before bytes between → Writes between more after → Writes before (bytes ++ more) after
writes_append w v = record { same_room = v.same_room ∙ w.same_room; written = written_append w.written v.written }

-- what is written may be said in another way
pub writes_same : {before after : Page} {bytes others : List ℕ} → bytes ≡ others → Writes before bytes after → Writes before others after
writes_same {before} {after} e w = subst (λ l. Writes before l after) e w

-- from a page that is known by another name
pub writes_from : {page before : Page} {bytes : List ℕ} {after : Page} → page ≡ before → Writes page bytes after → Writes before bytes after
writes_from {bytes = bytes} {after} e w = subst (λ p. Writes p bytes after) e w

pub fits_others : (page : Page) {bytes others : List ℕ} → bytes ≡ others → Fits page others → Fits page bytes
fits_others page e h = fits_same page.at _ _ e h

-- of the whole all but the rest is written
pub record OnPage (before : Page) (whole rest : List ℕ) (page : Page) : Type 0 where
  pub same_room : page.room.ghost_name ≡ before.room.ghost_name
  pub writing : Writing before.room.now before.at whole rest page.at page.room.now

pub page_starts : (page : Page) (whole : List ℕ) → Fits page whole → OnPage page whole whole page
page_starts page whole h = record { same_room = refl; writing = writing_starts page.room.now page.at whole h }

module _ {before page : Page} {whole rest : List ℕ} (w : OnPage before whole rest page) where
  -- a piece of the rest fits
  pub page_fits : (piece left : List ℕ) → rest ≡ piece ++ left → Fits page piece
  page_fits piece left e = piece_fits w.writing piece left e

  pub page_fits_last : (piece : List ℕ) → piece ≡ rest → Fits page piece
  page_fits_last piece e = last_fits w.writing piece e

  -- it is written
  pub page_more : {piece left : List ℕ} {after : Page} → rest ≡ piece ++ left → Writes page piece after → OnPage before whole left after
  page_more e v = record { same_room = v.same_room ∙ w.same_room; writing = writing_more w.writing e v.written }

  -- nothing is left
  pub page_ends : rest ≡ [] → Writes before whole page
  page_ends e = record { same_room = w.same_room; written = writing_ends w.writing e }

  -- the last piece is written
  pub page_last : {after : Page} → Writes page rest after → Writes before whole after
  page_last v = record { same_room = v.same_room ∙ w.same_room; written = writing_last w.writing v.written }
