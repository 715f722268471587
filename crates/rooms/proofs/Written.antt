-- The laws of `Written`: storing one number, writing nothing, a part of the room that was lent and came back, two pieces one after the other;
-- what the room then holds. Assumes nothing.
use Prim.Native.Nat.{ℕ, ◌+◌, ◌-◌, ◌<◌, ◌≤◌}
use mathlib.Core.Path.{◌≡◌, refl, sym, ap, ◌∙◌}
use mathlib.Core.List.{List, [], ◌∷◌, ◌++◌, append_assoc, append-nil}
use native.Mathlib.Nat.{add-zero}
use native.Mathlib.Numerals.{add-one}
use native.Mathlib.Omega.{arith}
use lib.ListN.{length, take, drop, set, length-append, length-drop, take-append-drop}
use lib.Seq.{length-take-le, take_at, drop_at, drop-drop, drop-length, set_split}
use borrow.Rule.Slice.PartMut.{put_mid, Post-is}
use Rattle.rooms.specs.Inner.{Written}

-- to write nothing changes nothing
pub written_none : (room : List ℕ) (at : ℕ) → at ≤ length room → Written room at [] at room
written_none room at h =
    record { ends = sym (add-zero at); within = h; kept = sym (simp (append-nil, take-append-drop)) }

-- to write one number is to store it
pub written_one : (room : List ℕ) (at b : ℕ) → at < length room → Written room at (b ∷ []) (at + 1) (set room at b)
written_one room at b h =
    record { ends = refl; within = omega arith; kept = set_split room at b h ∙ simp (add-one, append_assoc) }

-- to write a part is to lend it and to get it back
written_lent : (room : List ℕ) (at end : ℕ) (part : List ℕ) → at ≤ end → end ≤ length room → length part ≡ end - at
    → Written room at part end (put_mid at (end - at) room part)
written_lent room at end part h l e =
    record {
      ends = omega (arith, e);
      within = l;
      kept = sym (append_assoc (take at room) part _) ∙ ap (λ r. take at room ++ part ++ r) (Post-is at end room h);
    }

module _ {room : List ℕ} {at : ℕ} {bytes : List ℕ} {next : ℕ} {after : List ℕ} (w : Written room at bytes next after) where
  length_front : length (take at room ++ bytes) ≡ next
  length_front = simp (length-append, length-take-le at room (omega (arith, w.ends, w.within))) (sym w.ends)

  -- up to `next`: what stood before `at`, then the bytes
  written_front : take next after ≡ take at room ++ bytes
  written_front = ap (take next) w.kept ∙ take_at (take at room ++ bytes) (drop next room) next length_front

  -- from `next` on: what stood there
  written_back : drop next after ≡ drop next room
  written_back = ap (drop next) w.kept ∙ drop_at (take at room ++ bytes) (drop next room) next length_front

  -- a room keeps its length
  pub written_length : length after ≡ length room
  written_length =
      ap length w.kept
      ∙ length-append (take at room ++ bytes) (drop next room)
      ∙ omega (arith, w.within, length_front, length-drop next room)

  -- two pieces one after the other are one piece
  pub written_append : {more : List ℕ} {end : ℕ} {last : List ℕ} → Written after next more end last → Written room at (bytes ++ more) end last
  written_append {more} {end} {last} v =
      let skip : drop end after ≡ drop end room =
      ap (λ k. drop k after) v.ends ∙ sym (drop-drop (length more) next after)
      ∙ ap (drop (length more)) written_back
      ∙ drop-drop (length more) next room
      ∙ ap (λ k. drop k room) (sym v.ends) in
      record {
        ends = v.ends ∙ omega (arith, w.ends, length-append bytes more);
        within = omega (arith, v.within, written_length);
        kept = v.kept ∙ rw (written_front, skip) (simp append_assoc);
      }

  -- one number more
  pub written_more : (b : ℕ) → next < length room → Written room at (bytes ++ (b ∷ [])) (next + 1) (set after next b)
  written_more b h = written_append (written_one after next b (omega (arith, written_length)))

  -- a part more, lent and come back
  pub written_part : (end : ℕ) (part : List ℕ) → next ≤ end → end ≤ length room → length part ≡ end - next
      → Written room at (bytes ++ part) end (put_mid next (end - next) after part)
  written_part end part h l e = written_append (written_lent after next end part h (omega (arith, written_length)) e)

-- the whole room is written
pub written_all : {room bytes : List ℕ} {next : ℕ} {after : List ℕ} → Written room 0 bytes next after → next ≡ length room → after ≡ bytes
written_all {room} {bytes} {next} w e = w.kept ∙ rw (e, drop-length) (append-nil bytes)
