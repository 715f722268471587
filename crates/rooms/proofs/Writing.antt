-- Bytes that are written piece by piece: what is written and what is left make the whole. Assumes nothing.
use Prim.Native.Nat.{ℕ, ◌+◌, ◌≤◌}
use native.Mathlib.Omega.{arith}
use mathlib.Core.Path.{◌≡◌, refl, sym, ap, ◌∙◌, subst}
use mathlib.Core.List.{List, [], ◌++◌, append_assoc, append-nil}
use lib.ListN.{length, length-append}
use Rattle.rooms.specs.Inner.{Written}
use Rattle.rooms.proofs.Written.{written_none, written_append, written_length}

-- up to `next` the room has all of the whole but the rest
pub record Writing (before : List ℕ) (at : ℕ) (whole rest : List ℕ) (next : ℕ) (room : List ℕ) : Type 0 where
  pub done : List ℕ
  pub writes : Written before at done next room
  pub makes : done ++ rest ≡ whole
  pub fits : at + length whole ≤ length before

pub writing_starts : (room : List ℕ) (at : ℕ) (whole : List ℕ) → at + length whole ≤ length room → Writing room at whole whole at room
writing_starts room at whole h = record { done = []; writes = written_none room at (omega arith); makes = refl; fits = h }

module _ {before : List ℕ} {at : ℕ} {whole rest : List ℕ} {next : ℕ} {room : List ℕ} (w : Writing before at whole rest next room) where
  -- the rest fits
  writing_fits : next + length rest ≤ length before
  writing_fits = omega (arith, w.writes.ends, w.fits, length-append w.done rest, ap length w.makes)

  pub writing_long : length room ≡ length before
  writing_long = written_length w.writes

  -- of the rest a piece is written
  pub writing_more : {piece left : List ℕ} {end : ℕ} {after : List ℕ} → rest ≡ piece ++ left → Written room next piece end after
      → Writing before at whole left end after
  writing_more {piece} {left} e v =
      record {
        done = w.done ++ piece;
        writes = written_append w.writes v;
        makes = append_assoc w.done piece left ∙ rw (← e) w.makes;
        fits = w.fits;
      }

  -- a piece fits
  pub piece_fits : (piece left : List ℕ) → rest ≡ piece ++ left → next + length piece ≤ length room
  piece_fits piece left e = omega (arith, writing_fits, writing_long, ap length e, length-append piece left)

  pub last_fits : (piece : List ℕ) → piece ≡ rest → next + length piece ≤ length room
  last_fits piece e = omega (arith, writing_fits, writing_long, ap length e)

  -- nothing is left
  pub writing_ends : rest ≡ [] → Written before at whole next room
  writing_ends e = subst (λ all. Written before at all next room) (sym (append-nil w.done) ∙ ap (λ r. w.done ++ r) (sym e) ∙ w.makes) w.writes

  -- the last piece is written
  pub writing_last : {end : ℕ} {after : List ℕ} → Written room next rest end after → Written before at whole end after
  writing_last {end} {after} v = subst (λ all. Written before at all end after) w.makes (written_append w.writes v)

pub fits_same : (at : ℕ) {n : ℕ} (bytes others : List ℕ) → bytes ≡ others → at + length others ≤ n → at + length bytes ≤ n
fits_same at bytes others e h = omega (arith, ap length e)
