-- The blocks after block 0: how many there are, how one more is written, and how one more is read. Assumes nothing.
use Prim.Native.Nat.{ℕ, zero, suc, ◌+◌, ◌-◌, ◌*◌, ◌/◌, ◌≤◌, ◌<◌, min}
use mathlib.Core.Path.{◌≡◌, refl, sym, ap, ◌∙◌}
use mathlib.Core.List.{List, [], ◌++◌}
use native.Mathlib.Nat.{le_refl}
use native.Mathlib.Numerals.{add-one}
use native.Mathlib.Omega.{arith}
use lib.ListN.{length, get_or, take, drop, length-append, length-take, length-drop}
use lib.Seq.{take-take, take_all, take-nil, take-append-add, drop-drop}
use borrow.Rule.Slice.PartMut.{put_mid}
use Rattle.std.specs.Simd.{first_chunks}
use Rattle.scope.specs.declared.Run.{Run}
use Rattle.scope.specs.Run.{cells_of}
use Rattle.fileblocks.specs.FileBlock.{file_block_bytes, content_at, content_bytes, filled, file_block_of, contents}
use Rattle.saved.specs.File.{first_joined, later_file_blocks, file_blocks_for, file_length, bytes_for, file_block_at, bytes_in}
use Rattle.saved.specs.Inner.{many_bytes}
use Rattle.rooms.proofs.Lists.{take_take_min, take_drop_take}
use Rattle.fileblocks.proofs.FileBlock.{length_file_block_of}
use Rattle.rooms.specs.Inner.{Written}
use Rattle.rooms.proofs.Written.{written_none, written_part, written_length, written_all}
use Rattle.saved.proofs.Walk.{Walked, Next, walk_starts, walk_more, walk_ends, walk_part, walk_on}

-- a cell is one byte
pub cell_bytes : (run : Run) → bytes_for run ≡ cells_of run
unfolding bytes_for
cell_bytes run = refl

-- another block is begun exactly while cells are left
pub more_file_blocks : {size k : ℕ} → content_bytes * k < size → k < file_blocks_for size
unfolding file_blocks_for
more_file_blocks h = omega arith

pub all_file_blocks : {size k : ℕ} → k ≤ file_blocks_for size → size ≤ content_bytes * k → k ≡ file_blocks_for size
unfolding file_blocks_for
all_file_blocks h l = omega arith

pub begun_file_block : {size k : ℕ} → k < file_blocks_for size → content_bytes * k < size
unfolding file_blocks_for
begun_file_block h = omega arith

pub enough_file_blocks : (size : ℕ) → size ≤ content_bytes * file_blocks_for size
unfolding file_blocks_for
enough_file_blocks size = omega arith

-- a block holds no more than 504 bytes of those that it is given
pub file_block_front : (number : ℕ) (l : List ℕ) → file_block_of number (take content_bytes l) ≡ file_block_of number l
unfolding file_block_of filled
file_block_front number l =
    let size : content_bytes - length (take content_bytes l) ≡ content_bytes - length l = simp length-take (omega arith) in
    rw (take-take content_bytes content_bytes l (le_refl content_bytes), size)

pub length_later_file_blocks : (map : List ℕ) (n : ℕ) → length (later_file_blocks map n) ≡ file_block_bytes * n
unfolding later_file_blocks first_joined
length_later_file_blocks map zero = refl
length_later_file_blocks map (suc k) =
    let e = length_later_file_blocks map k in
    let b = length_file_block_of (suc k) (drop (content_bytes * k) map) in
    simp length-append (omega arith)

-- `now` is the room `before`, written with the first k blocks of a map, of which the cells `left` are to come
pub record CellsWritten (map left before now : List ℕ) (k : ℕ) : Type 0 where
  pub few : length map < many_bytes
  pub room : length before ≡ file_block_bytes * file_blocks_for (length map)
  pub walked : Walked content_bytes map left k
  pub within : k ≤ file_blocks_for (length map)
  pub written : Written before 0 (later_file_blocks map k) (file_block_bytes * k) now

pub cells_none : {map before : List ℕ} → length map < many_bytes → length before ≡ file_block_bytes * file_blocks_for (length map) → CellsWritten map map before before 0
unfolding later_file_blocks first_joined
cells_none h e = record { few = h; room = e; walked = walk_starts content_bytes _; within = omega arith; written = written_none _ 0 (omega arith) }

module _ {map left before now : List ℕ} {k : ℕ} (s : CellsWritten map left before now k) where
  pub cells_within : 0 < length left → k < file_blocks_for (length map)
  cells_within h = more_file_blocks (walk_more s.walked h)

  pub cells_room : 0 < length left → file_block_bytes * k + file_block_bytes ≤ length now
  cells_room h = omega (arith, written_length s.written, cells_within h, s.room)

  pub cells_more : {cells rest part : List ℕ} → Next content_bytes left cells rest → part ≡ file_block_of (k + 1) cells
      → CellsWritten map rest before (put_mid (file_block_bytes * k) (file_block_bytes * k + file_block_bytes - file_block_bytes * k) now part) (k + 1)
  unfolding later_file_blocks first_joined
  cells_more {part = part} n p =
      let r = cells_room n.some in
      let l = written_length s.written in
      let block : part ≡ file_block_of (suc k) (drop (content_bytes * k) map) =
      p ∙ ap (file_block_of (k + 1)) (walk_part s.walked n) ∙ ap (λ m. file_block_of m (take content_bytes (drop (content_bytes * k) map))) (add-one k) ∙ file_block_front (suc k) (drop (content_bytes * k) map) in
      let many : length part ≡ file_block_bytes * k + file_block_bytes - file_block_bytes * k = ap length block ∙ length_file_block_of (suc k) (drop (content_bytes * k) map) ∙ omega arith in
      let next : file_block_bytes * (k + 1) ≡ file_block_bytes * k + file_block_bytes = omega arith in
      record {
        few = s.few;
        room = s.room;
        walked = walk_on s.walked n;
        within = let b = cells_within n.some in omega arith;
        written = rw (next, add-one k, ← block) (written_part s.written (file_block_bytes * k + file_block_bytes) part (omega arith) (omega arith) many);
      }

  pub cells_all : length left ≡ 0 → now ≡ later_file_blocks map (file_blocks_for (length map))
  cells_all h =
      let all = all_file_blocks s.within (walk_ends s.walked h) in
      written_all s.written (ap (λ n. file_block_bytes * n) all ∙ sym s.room) ∙ ap (later_file_blocks map) all

-- the cells of block k + 1 in a map: from 504·k to `end`
record Turn (k all end : ℕ) : Type 0 where
  start : min (content_bytes * k) all ≡ content_bytes * k
  after : content_bytes * k ≤ end
  inside : end ≤ all
  size : end - content_bytes * k ≡ min (all - content_bytes * k) content_bytes
  next : min (content_bytes * (k + 1)) all ≡ end

turn : {k all end : ℕ} → content_bytes * k < all → end ≡ min all (content_bytes * k + content_bytes) → Turn k all end
turn h e = record { start = omega arith; after = omega arith; inside = omega arith; size = omega arith; next = omega arith }

pub length_file_block_at : (file : List ℕ) (k : ℕ) → file_block_bytes * k + file_block_bytes ≤ length file → length (file_block_at file k) ≡ file_block_bytes
unfolding file_block_at
length_file_block_at file k h = simp (length-take, length-drop) (omega arith)

-- the bytes that block k holds, as a part of the file
pub contents_at : (file : List ℕ) (k : ℕ) → contents (file_block_at file k) ≡ take content_bytes (drop (file_block_bytes * k + 4) file)
unfolding contents file_block_at
contents_at file k = take_drop_take content_bytes 4 file_block_bytes (drop (file_block_bytes * k) file) (omega arith) ∙ ap (take content_bytes) (drop-drop 4 (file_block_bytes * k) file)

pub length_contents : (file : List ℕ) (k : ℕ) → file_block_bytes * k + file_block_bytes ≤ length file → length (contents (file_block_at file k)) ≡ content_bytes
length_contents file k h = ap length (contents_at file k) ∙ simp (length-take, length-drop) (omega arith)

pub length_bytes_in : (file : List ℕ) (k : ℕ) → file_block_bytes * k + file_block_bytes ≤ length file → length (bytes_in file k) ≡ content_bytes * k
unfolding bytes_in first_joined
length_bytes_in file zero h = refl
length_bytes_in file (suc k) h =
    let e = length_bytes_in file k (omega arith) in
    let c = length_contents file (suc k) h in
    simp length-append (omega arith)

-- a list is cut into pieces of one size
cut_at : (size n k : ℕ) (l : List ℕ) → k < n → get_or (first_chunks size n l) k [] ≡ take size (drop (size * k) l)
cut_at size zero k l h = absurd (omega arith)
cut_at size (suc n) zero l h = let z : size * 0 ≡ 0 = omega arith in rw z
cut_at size (suc n) (suc k) l h =
    let next : size + size * k ≡ size * suc k = omega arith in
    cut_at size n k (drop size l) (omega arith) ∙ ap (take size) (drop-drop (size * k) size l ∙ ap (λ m. drop m l) next)

-- what follows block 0, as the code takes it out of the file
abbrev later : List ℕ → List ℕ
later file = take (length file - file_block_bytes) (drop file_block_bytes file)

-- it is cut into as many blocks as the run needs, and each is that of the file
pub record LaterBlocks (size : ℕ) (file : List ℕ) (blocks : List (List ℕ)) : Type 0 where
  pub count : length blocks ≡ file_blocks_for size
  pub found : (k : ℕ) → k < length blocks → get_or blocks k [] ≡ file_block_at file (suc k)

pub later_blocks : {size : ℕ} {file : List ℕ} {blocks : List (List ℕ)} → length file ≡ file_length size
    → blocks ≡ first_chunks file_block_bytes (length (later file) / file_block_bytes) (later file) → length blocks ≡ length (later file) / file_block_bytes
    → LaterBlocks size file blocks
unfolding file_length file_block_at
later_blocks {size} {file} {blocks} e cut count =
    let all : later file ≡ drop file_block_bytes file = take_all (length file - file_block_bytes) (drop file_block_bytes file) (simp length-drop (omega arith)) in
    let next : (k : ℕ) → file_block_bytes + file_block_bytes * k ≡ file_block_bytes * suc k = λ k. omega arith in
    record {
      count = omega (arith, count, ap length all, length-drop file_block_bytes file);
      found = λ k h.
          ap (λ b. get_or b k []) cut
          ∙ cut_at file_block_bytes (length (later file) / file_block_bytes) k (later file) (omega (arith, count))
          ∙ ap (λ l. take file_block_bytes (drop (file_block_bytes * k) l)) all
          ∙ ap (take file_block_bytes) (drop-drop (file_block_bytes * k) file_block_bytes file ∙ ap (λ m. drop m file) (next k));
    }

-- `now` is the map `before`, filled with what the first k blocks of cells hold
pub record CellsRead (file before now : List ℕ) (k : ℕ) : Type 0 where
  pub long : length file ≡ file_length (length before)
  pub within : k ≤ file_blocks_for (length before)
  pub same : length now ≡ length before
  pub written : Written before 0 (take (length before) (bytes_in file k)) (min (content_bytes * k) (length before)) now

pub read_none : {file before : List ℕ} → length file ≡ file_length (length before) → CellsRead file before before 0
unfolding bytes_in first_joined
read_none {file} {before} e = record {
  long = e;
  within = omega arith;
  same = refl;
  written = let z : min (content_bytes * 0) (length before) ≡ 0 = omega arith in rw (z, take-nil (length before)) (written_none before 0 (omega arith));
}

module _ {file before now : List ℕ} {k : ℕ} (s : CellsRead file before now k) where
  pub read_more : {block part : List ℕ} {end : ℕ} → k < file_blocks_for (length before) → block ≡ file_block_at file (suc k)
      → end ≡ min (length now) (content_bytes * k + content_bytes) → part ≡ take (end - content_bytes * k) (drop content_at block)
      → CellsRead file before (put_mid (content_bytes * k) (end - content_bytes * k) now part) (k + 1)
  unfolding bytes_in first_joined contents file_length
  read_more {block} {part} {end} begun is e p =
      let all = length before in
      let left = begun_file_block begun in
      let room : file_block_bytes * suc k + file_block_bytes ≤ length file = let l = s.long in omega arith in
      let t = turn left (rw s.same at e) in
      let held = length_contents file (suc k) room in
      let there : part ≡ take (all - content_bytes * k) (contents (file_block_at file (suc k))) =
      p ∙ ap (λ m. take m (drop content_at block)) t.size
      ∙ sym (take_take_min (all - content_bytes * k) content_bytes (drop content_at block))
      ∙ ap (λ b. take (all - content_bytes * k) (contents b)) is in
      let many : length part ≡ end - content_bytes * k = ap length there ∙ omega (arith, length-take (all - content_bytes * k) (contents (file_block_at file (suc k))), t.size, held) in
      let written = written_part (rw t.start at s.written) end part t.after t.inside many in
      let size = length_bytes_in file k (omega arith) in
      let front : take all (bytes_in file k) ≡ bytes_in file k = take_all all (bytes_in file k) (omega arith) in
      let sum : all ≡ length (bytes_in file k) + (all - content_bytes * k) = omega arith in
      let done : take all (bytes_in file k) ++ part ≡ take all (bytes_in file (k + 1)) =
      ap (λ l. l ++ part) front ∙ ap (λ l. bytes_in file k ++ l) there
      ∙ sym (take-append-add (bytes_in file k) (contents (file_block_at file (suc k))) (all - content_bytes * k))
      ∙ rw (← sum, add-one k) in
      record {
        long = s.long;
        within = omega (arith, begun);
        same = written_length written;
        written = rw (t.next, ← done) written;
      }

  pub read_all : file_blocks_for (length before) ≤ k → now ≡ take (length before) (bytes_in file (file_blocks_for (length before)))
  read_all h =
      let all : k ≡ file_blocks_for (length before) = omega (arith, h, s.within) in
      let enough = enough_file_blocks (length before) in
      let less : length before ≤ content_bytes * k = omega (arith, ap (λ n. content_bytes * n) all) in
      written_all s.written (omega arith) ∙ ap (λ n. take (length before) (bytes_in file n)) all
