-- Request E3, what its report means, over the promises alone: which lines a blanking list lists, that a cut of the run changes nothing of
-- that, which room is always enough, and that such lists exist. Assumes nothing.
use Rattle.std.specs.Prelude.{Ok}
use Prim.Native.Nat.{ℕ, suc, ◌+◌, ◌-◌, ◌*◌, ◌%◌, ◌≤◌, ◌<◌}
use native.Mathlib.Nat.{mod-lt, mul-le-mul_right}
use native.Mathlib.Decide.{dec_le}
use native.Mathlib.Omega.{arith}
use mathlib.Core.Path.{◌≡◌, refl, sym, ap, ◌∙◌}
use mathlib.Core.Logic.{◌↔◌, inl, inr}
use mathlib.Core.List.{List, [], ◌∷◌, ◌++◌, append_assoc}
use lib.ListN.{length, get_or, take, drop, length-append, length-drop, take-append-drop, get_or-append}
use lib.Seq.{get_or-append-add, length-take-le}
use Rattle.rooms.specs.Lists.{zeros}
use Rattle.rooms.proofs.Lists.{length_zeros}
use Rattle.scope.specs.declared.Run.{Run}
use Rattle.scope.specs.Run.{ValidRun, lines_of, cells_of, shift_of}
use Rattle.scope.specs.Inner.{IsBlock}
use Rattle.scope.proofs.Numbering.{cell_parts, line_shift, offset_shift, valid_block}
use Rattle.sources.specs.Entry.{entries_of}
use Rattle.map.specs.Promise.{MakingPromiseAt}
use Rattle.blanking.specs.declared.Guard.{Guard}
use Rattle.blanking.specs.Stretches.{Blanked}
use Rattle.blanking.specs.Promise.{written, BlankingPromise}
use Rattle.blanking.specs.Table.{BadGuard, HoldsFewer}
use Rattle.blanking.specs.Meaning.{ListedIn, Disturbed}
use Rattle.blanking.proofs.Guarding.{blanked_inside, blanked_stretches}
use Rattle.blanking.proofs.Table.{blanking_renders}
use Rattle.blanking.proofs.Unique.{granted_call}
use Rattle.blanking.proofs.Meaning as Meaning
use Rattle.demands.specs.Cut.{Piece, CutFrom, Cut}
use Rattle.demands.specs.Blanking.{BlockList, BlockLists, parts_of, ListedInOne}
use Rattle.demands.proofs.Cuts.{piece_is, before, before_within, before_first, before_end, before_piece, before_next}
use Rattle.demands.proofs.Demand1.{blanking_silent}

-- The lines in the stretches that a call wrote are the lines with a guard cell at or above the threshold.
pub listed_blanked : (run : Run) (map : List ℕ) (threshold : ℕ) (guard : Guard) (room after : List ℕ) (count : ℕ) → BlankingPromise run map threshold guard room (Ok count) after → (j : ℕ) → ListedIn after count j ↔ Blanked run map threshold guard j
listed_blanked run map threshold guard room after count h = Meaning.listed_blanked h

-- Where the plain map call made the map of a list of sources, and the threshold is not above the ceiling: a line is in a stretch exactly if
-- some guard cell of it has weights of its hits that sum to the threshold or more.
pub listed_disturbed : (c : ℕ) (run : Run) (periods weights phases lent map : List ℕ) → MakingPromiseAt c run periods weights phases lent (Ok tt) map → (threshold : ℕ) → threshold ≤ c → (guard : Guard) (room after : List ℕ) (count : ℕ) → BlankingPromise run map threshold guard room (Ok count) after → (j : ℕ) → ListedIn after count j ↔ Disturbed run (entries_of periods weights phases) threshold guard j
listed_disturbed c run periods weights phases lent map makes threshold low guard room after count h = Meaning.listed_disturbed makes low h

-- A room of one number more than the run has lines is never refused 21.
pub room_enough : (run : Run) (map : List ℕ) (threshold : ℕ) (guard : Guard) (room : List ℕ) → suc (lines_of run) ≤ length room → HoldsFewer run map threshold guard room → ⊥
room_enough run map threshold guard room long fewer = omega (arith, Meaning.stretches_few run map threshold guard fewer.1, fewer.2)

-- Asked within the ranges, with such a room, the reply that a call is done fits, and by `blanking_unique` no other does.
pub list_exists : (run : Run) (map : List ℕ) (threshold : ℕ) (guard : Guard) (room : List ℕ) → ValidRun run → 1 ≤ threshold → (BadGuard run.window guard → ⊥) → length map ≡ cells_of run → suc (lines_of run) ≤ length room → (count : ℕ) × (after : List ℕ) × BlankingPromise run map threshold guard room (Ok count) after
list_exists run map threshold guard room v some inside whole long =
    let made = blanked_stretches run map threshold guard in
    let silent = (blanking_silent run v.fits map threshold guard room).1 (v, some, inside, whole, room_enough run map threshold guard room long) in
    (length made.0, written made.0 room, granted_call made.1 ((blanking_renders run map threshold guard room made.1).passes.1 silent) refl refl)

-- ---- blocks

-- the cells of a part in the middle of a list
part_at : (front part rest : List ℕ) (x : ℕ) → x < length part → get_or (front ++ part ++ rest) (x + length front) 0 ≡ get_or part x 0
part_at front part rest x h =
    let e : x + length front ≡ length front + x = omega arith in
    rw (e, append_assoc front part rest) (get_or-append-add front (part ++ rest) x 0 ∙ get_or-append part rest 0 x h)

-- a line of a block is blanked in the block, with its part of the map, exactly if it is in the run
module _ {run block : Run} (v : ValidRun run) (b : IsBlock run block) (some : block.first ≤ block.last) {map : List ℕ} (front part rest : List ℕ) (is : map ≡ front ++ part ++ rest) (at : length front ≡ shift_of run block) (whole : length part ≡ cells_of block) (threshold : ℕ) (guard : Guard) (j : ℕ) where
  cell_at : (x : ℕ) → x < cells_of block → get_or map (x + shift_of run block) 0 ≡ get_or part x 0
  cell_at x h = rw (is, ← at) (part_at front part rest x (omega (arith, whole)))

  pub block_run : Blanked block part threshold guard j → Blanked run map threshold guard j
  block_run l =
      let x = l.cell in
      record {
        cell = x + shift_of run block;
        guarded = record {
          inside = omega (arith, l.guarded.inside, before_next b some, before_within run (suc block.last) (omega (arith, b.to)));
          on = sym (line_shift v b x) ∙ l.guarded.on;
          from = rw (← offset_shift b x) l.guarded.from;
          to = rw (← offset_shift b x) l.guarded.to;
        };
        reaches = rw (cell_at x l.guarded.inside) l.reaches;
      }

  pub run_block : block.first ≤ j → j ≤ block.last → Blanked run map threshold guard j → Blanked block part threshold guard j
  unfolding before shift_of
  run_block low high l =
      let x = l.cell in
      let I = run.window in
      let parts : (j - run.first) * I + x % I ≡ x = rw l.guarded.on at (cell_parts run x) in
      let from : (block.first - run.first) * I ≤ (j - run.first) * I = mul-le-mul_right I (omega (arith, b.from)) in
      let to : suc (j - run.first) * I ≤ (suc block.last - run.first) * I = mul-le-mul_right I (omega (arith, b.from)) in
      let near = mod-lt x {m = I} (omega (arith, v.narrow)) in
      let y = x - shift_of run block in
      let back : y + shift_of run block ≡ x = omega (arith, parts, from) in
      let inside : y < cells_of block = omega (arith, parts, to, near, back, before_next b some) in
      record {
        cell = y;
        guarded = record {
          inside = inside;
          on = line_shift v b y ∙ rw back l.guarded.on;
          from = rw (offset_shift b y, back) l.guarded.from;
          to = rw (offset_shift b y, back) l.guarded.to;
        };
        reaches = rw (← cell_at y inside, back) l.reaches;
      }

-- a block that begins at a line, with the part of the map that begins after the cells before that line
module _ {run : Run} (v : ValidRun run) (threshold : ℕ) (guard : Guard) {map : List ℕ} {line : ℕ} {block : Run} (p : Piece run line block) (b : IsBlock run block) (list : BlockList) (h : BlankingPromise block list.map threshold guard list.room (Ok list.count) list.after) (front rest : List ℕ) (is : map ≡ front ++ list.map ++ rest) (at : length front ≡ before run line) where
  shifted : length front ≡ shift_of run block
  shifted = at ∙ before_piece p

  -- the next part begins after the cells before the next block's first line
  part_next : length (front ++ list.map) ≡ before run (suc block.last)
  part_next = length-append front list.map ∙ omega (arith, shifted, Meaning.done_whole h, before_next b p.ordered)

  -- its lines, and then those of the blocks after it
  block_then : (lists : List BlockList) (j : ℕ) → ListedInOne lists j ↔ ((suc block.last ≤ j) × Blanked run map threshold guard j) → ListedInOne (list ∷ lists) j ↔ ((line ≤ j) × Blanked run map threshold guard j)
  block_then lists j later = (to, λ l. from l.0 l.1 (dec_le j block.last))
    where
      here : ListedIn list.after list.count j ↔ Blanked block list.map threshold guard j
      here = Meaning.listed_blanked h j

      to : ListedInOne (list ∷ lists) j → (line ≤ j) × Blanked run map threshold guard j
      to (inl l) =
          let one = here.0 l in
          (omega (arith, p.begins, (blanked_inside j one).0), block_run v b p.ordered front list.map rest is shifted (Meaning.done_whole h) threshold guard j one)
      to (inr l) = let more = later.0 l in (omega (arith, more.0, p.begins, p.ordered), more.1)

      from : line ≤ j → Blanked run map threshold guard j → Dec (j ≤ block.last) → ListedInOne (list ∷ lists) j
      from m l (yes k) = inl (here.1 (run_block v b p.ordered front list.map rest is shifted (Meaning.done_whole h) threshold guard j (omega (arith, p.begins)) k l))
      from m l (no k) = inr (later.1 (omega arith, l))

module _ {run : Run} (v : ValidRun run) (threshold : ℕ) (guard : Guard) {map : List ℕ} where
  -- the blocks from a line on, whose parts of the map begin after those of the blocks before
  from_line : (line : ℕ) (blocks : List Run) (lists : List BlockList) → run.first ≤ line → CutFrom run line blocks → BlockLists threshold guard blocks lists → (front : List ℕ) → map ≡ front ++ parts_of lists → length front ≡ before run line → (j : ℕ) → ListedInOne lists j ↔ ((line ≤ j) × Blanked run map threshold guard j)
  from_line line [] [] low cut keep front is at j = (λ l. absurd l, λ l. absurd (omega (arith, cut, l.0, (blanked_inside j l.1).1)))
  from_line line [] (list ∷ lists) low cut keep front is at j = absurd keep
  from_line line (block ∷ blocks) [] low cut keep front is at j = absurd keep
  from_line line (block ∷ blocks) (list ∷ lists) low cut keep front is at j =
      let p = cut.0 in
      let b = piece_is run blocks low cut in
      let parts : map ≡ front ++ list.map ++ parts_of lists = is ∙ sym (append_assoc front list.map (parts_of lists)) in
      let next = part_next v threshold guard p b list keep.0 front (parts_of lists) parts at in
      block_then v threshold guard p b list keep.0 front (parts_of lists) parts at lists j (from_line (suc block.last) blocks lists (omega (arith, low, p.begins, p.ordered)) cut.1 keep.1 (front ++ list.map) parts next j)

-- the lines in stretches of the blocks are the blanked lines of the run
blocks_blanked : {run : Run} → ValidRun run → (blocks : List Run) (lists : List BlockList) → Cut run blocks → (threshold : ℕ) (guard : Guard) → BlockLists threshold guard blocks lists → {map : List ℕ} → map ≡ parts_of lists → (j : ℕ) → ListedInOne lists j ↔ Blanked run map threshold guard j
blocks_blanked {run} v blocks lists cut threshold guard keep is j =
    let here = from_line v threshold guard run.first blocks lists (omega arith) cut keep [] is (sym (before_first run)) j in
    (λ l. (here.0 l).1, λ b. here.1 ((blanked_inside j b).0, b))

-- Cut into blocks, each with its part of the run's map: the lines in stretches of the blocks are the lines in stretches of the run. A
-- stretch may be split at a border; no line is lost or invented.
pub blocks_listed : (run : Run) (blocks : List Run) (lists : List BlockList) → ValidRun run → Cut run blocks → (threshold : ℕ) (guard : Guard) → BlockLists threshold guard blocks lists → (room after : List ℕ) (count : ℕ) → BlankingPromise run (parts_of lists) threshold guard room (Ok count) after → (j : ℕ) → ListedInOne lists j ↔ ListedIn after count j
blocks_listed run blocks lists v cut threshold guard keep room after count h j =
    let here = blocks_blanked v blocks lists cut threshold guard keep refl j in
    let all = Meaning.listed_blanked h j in
    (λ l. all.1 (here.0 l), λ l. here.1 (all.0 l))

-- no cell
no_cell : (map : List ℕ) → length map ≡ 0 → [] ≡ map
no_cell [] e = refl
no_cell (x ∷ map) e = absurd (omega arith)

module _ {run : Run} (v : ValidRun run) (threshold : ℕ) (some : 1 ≤ threshold) (guard : Guard) (inside : BadGuard run.window guard → ⊥) where
  lists_from : (line : ℕ) (blocks : List Run) → run.first ≤ line → CutFrom run line blocks → (map : List ℕ) → length map + before run line ≡ cells_of run → (lists : List BlockList) × BlockLists threshold guard blocks lists × (parts_of lists ≡ map)
  lists_from line [] low cut map e = ([], tt, no_cell map (omega (arith, before_end run cut)))
  lists_from line (block ∷ blocks) low cut map e =
      let p = cut.0 in
      let b = piece_is run blocks low cut in
      let n = cells_of block in
      let here : before run line + n ≡ before run (suc block.last) = ap (λ x. x + n) (before_piece p) ∙ sym (before_next b p.ordered) in
      let few = before_within run (suc block.last) (omega (arith, b.to)) in
      let part : length (take n map) ≡ n = length-take-le n map (omega (arith, e, here, few)) in
      let room = zeros (suc (lines_of block)) in
      let long = length_zeros (suc (lines_of block)) in
      let own = list_exists block (take n map) threshold guard room (valid_block v b p.ordered) some (λ bad. inside (rw p.window at bad)) part (omega (arith, long)) in
      let rest = lists_from (suc block.last) blocks (omega (arith, low, p.begins, p.ordered)) cut.1 (drop n map) (omega (arith, length-drop n map, e, here, few)) in
      (record { map = take n map; room = room; count = own.0; after = own.1 } ∷ rest.0, (own.2, rest.1), ap (λ l. take n map ++ l) rest.2 ∙ take-append-drop n map)

-- Such lists exist for every cut: of every map of the run's length, for every threshold above 0 and every guard upright within the window.
pub lists_exist : (run : Run) (blocks : List Run) → ValidRun run → Cut run blocks → (map : List ℕ) → length map ≡ cells_of run → (threshold : ℕ) → 1 ≤ threshold → (guard : Guard) → (BadGuard run.window guard → ⊥) → (lists : List BlockList) × BlockLists threshold guard blocks lists × (parts_of lists ≡ map)
lists_exist run blocks v cut map whole threshold some guard inside = lists_from v threshold some guard inside run.first blocks (omega arith) cut map (omega (arith, whole, before_first run))

-- And two cuts of one run and its map list the same lines.
pub same_lines : (run : Run) (blocks others : List Run) (lists more : List BlockList) → ValidRun run → Cut run blocks → Cut run others → (threshold : ℕ) (guard : Guard) → BlockLists threshold guard blocks lists → BlockLists threshold guard others more → parts_of lists ≡ parts_of more → (j : ℕ) → ListedInOne lists j ↔ ListedInOne more j
same_lines run blocks others lists more v cut cut' threshold guard keep keep' same j =
    let one = blocks_blanked v blocks lists cut threshold guard keep refl j in
    let other = blocks_blanked v others more cut' threshold guard keep' same j in
    (λ l. other.1 (one.0 l), λ l. one.1 (other.0 l))
