-- Cell numbers. A run's cells are numbered from 0 on, by lines and on a line by offsets, each once: `cell_in_run`,
-- `cell_number`, `number_cell`, `cell_order`. A block's cells are the run's, moved by the block's shift.
-- d = offset + I/2, the distance from the window's left edge, is x % I, and the lines before are x / I. Assumes nothing.
use Prim.Native.Nat.{ℕ, suc, ◌+◌, ◌-◌, ◌*◌, ◌/◌, ◌%◌, ◌^◌, ◌≤◌, ◌<◌}
use native.Mathlib.Nat.{div-add-mod', mod-lt, div-lt_iff_lt-mul, mod-eq_of_lt, mul-add-mod_self_right, mul-add-div_right, mul-le-mul, mul-le-mul_left, mul-le-mul_right, add-mul-div_right, add-mul-mod_self_right, div-eq_of_lt}
use native.Mathlib.Decide.{dec_lt}
use native.Mathlib.Omega.{arith}
use mathlib.Core.Path.{◌≡◌, ap, ◌∙◌}
use mathlib.Core.Logic.{◌↔◌, ◌⊎◌, inl, inr}
use lib.IntN.{ℤ, pos, neg_ℤ, ◌+ℤ◌, ◌-ℤ◌, ◌*ℤ◌}
use lib.Signed.{◌<ℤ◌}
use Rattle.signed.proofs.Parts.{up, parts, apart, sum, neg_up, neg_dn}
use Rattle.scope.specs.declared.Run.{Run}
use Rattle.scope.specs.Run.{ValidRun, lines_of, cells_of, cell_of, line_of, offset_of, Before, shift_of}
pub use Rattle.scope.specs.Run.{InRun}
pub use Rattle.scope.specs.Inner.{IsBlock}
use Rattle.scope.proofs.Limits.{halves}

-- ---- cells, and offsets of lines

-- the lines before, in cells
lines_before : {f j : ℕ} (w : ℕ) → f ≤ j → (pos j -ℤ pos f) *ℤ pos w ≡ pos ((j - f) * w)
lines_before {f} {j} w h =
    let e : pos j -ℤ pos f ≡ pos (j - f) = omega (arith, parts, sum (pos j) (neg_ℤ (pos f)), neg_up (pos f), neg_dn (pos f)) in
    ap (λ z. z *ℤ pos w) e

-- the offset and half the window make the distance from the left edge
pub offset_distance : (run : Run) (x : ℕ) → offset_of run x +ℤ pos (run.window / 2) ≡ pos (x % run.window)
unfolding offset_of
offset_distance run x =
    let d = pos (x % run.window) in
    let h = pos (run.window / 2) in
    omega (arith, parts, sum (d -ℤ h) h, sum d (neg_ℤ h), neg_up h, neg_dn h)

cell_in_run : {run : Run} → ValidRun run → (x : ℕ) → x < cells_of run → InRun run (offset_of run x) (line_of run x)
unfolding cells_of lines_of line_of
cell_in_run {run} v x h =
    let half = pos (run.window / 2) in
    let below = mod-lt x {m = run.window} (omega arith) in
    let lines = (div-lt_iff_lt-mul {k = run.window} {x = x} {y = suc run.last - run.first} (omega arith)).1 (omega arith) in
    let d = offset_distance run x in
    omega (arith, parts, halves v, sum (offset_of run x) half, neg_up half, neg_dn half)

-- the lines before, and the distance
pub cell_parts : (run : Run) (x : ℕ) → (line_of run x - run.first) * run.window + x % run.window ≡ x
unfolding line_of
cell_parts run x =
    let k : run.first + x / run.window - run.first ≡ x / run.window = omega arith in
    rw k (div-add-mod' x run.window)

first_line : (run : Run) (x : ℕ) → run.first ≤ line_of run x
unfolding line_of
first_line run x = omega arith

pub cell_number : (run : Run) (x : ℕ) → cell_of run (offset_of run x) (line_of run x) ≡ pos x
unfolding cell_of
cell_number run x =
    let i = offset_of run x in
    let half = pos (run.window / 2) in
    let line = pos ((line_of run x - run.first) * run.window) in
    let first : run.first ≤ line_of run x = first_line run x in
    rw (lines_before run.window first)
    (omega (arith, parts, offset_distance run x, cell_parts run x, sum (line +ℤ i) half, sum line i, sum i half))

-- the cell k lines after the first line, d cells from the left edge
pub line_at : (run : Run) (k : ℕ) {d : ℕ} → d < run.window → line_of run (k * run.window + d) ≡ run.first + k
unfolding line_of
line_at run k {d} h = rw (mul-add-div_right {m = run.window} (omega arith) k d, div-eq_of_lt h) (omega arith)

pub distance_at : (run : Run) (k : ℕ) {d : ℕ} → d < run.window → (k * run.window + d) % run.window ≡ d
distance_at run k {d} h = mul-add-mod_self_right k run.window d ∙ mod-eq_of_lt h

-- an offset of the window, by its distance from the left edge
pub record Distance (run : Run) (i : ℤ) : Type 0 where
  pub far : ℕ
  pub within : far < run.window
  pub is : i +ℤ pos (run.window / 2) ≡ pos far

pub distance : {run : Run} → ValidRun run → (i : ℤ) (j : ℕ) → InRun run i j → Distance run i
distance {run} v i j w =
    let half = pos (run.window / 2) in
    record {
      far = up (i +ℤ half);
      within = omega (arith, parts, halves v, sum i half, apart (i +ℤ half), neg_up half, neg_dn half);
      is = omega (arith, parts, sum i half, apart (i +ℤ half), neg_up half, neg_dn half);
    }

-- the cell at offset i of line j
pub record CellAt (run : Run) (i : ℤ) (j : ℕ) : Type 0 where
  pub cell : ℕ
  pub fits : cell < cells_of run
  pub offset : offset_of run cell ≡ i
  pub line : line_of run cell ≡ j
  pub number : cell_of run i j ≡ pos cell

pub number_cell : {run : Run} → ValidRun run → (i : ℤ) (j : ℕ) → InRun run i j → CellAt run i j
unfolding cell_of cells_of lines_of
number_cell {run} v i j w =
    let half = pos (run.window / 2) in
    let d = distance v i j w in
    let k = j - run.first in
    let x = k * run.window + d.far in
    let lines = mul-le-mul_left {m = suc k} {n = suc run.last - run.first} run.window (omega arith) in
    record {
      cell = x;
      fits = omega arith;
      offset = omega (arith, parts, distance_at run k d.within, offset_distance run x, sum (offset_of run x) half, sum i half);
      line = line_at run k d.within ∙ omega arith;
      number = rw (lines_before run.window w.from) (omega (arith, parts, sum (pos (k * run.window) +ℤ i) half, sum (pos (k * run.window)) i, sum i half));
    }

-- of two numbers divided by n the quotients decide, then the remainders
quotients_first : {n : ℕ} → 0 < n → (x y : ℕ) → (x < y) ↔ ((x / n < y / n) ⊎ ((x / n ≡ y / n) × (x % n < y % n)))
quotients_first {n} some x y = (λ l. to l (dec_lt (x / n) (y / n)) (dec_lt (y / n) (x / n)), from)
  where
    to : x < y → Dec (x / n < y / n) → Dec (y / n < x / n) → (x / n < y / n) ⊎ ((x / n ≡ y / n) × (x % n < y % n))
    to l (yes a) b = inl a
    to l (no a) (yes b) = absurd (omega (arith, div-add-mod' x n, div-add-mod' y n, mod-lt y some, mul-le-mul_right n b))
    to l (no a) (no b) =
        let e : x / n ≡ y / n = omega arith in
        inr (e, omega (arith, div-add-mod' x n, div-add-mod' y n, ap (λ (k : ℕ). k * n) e))

    from : (x / n < y / n) ⊎ ((x / n ≡ y / n) × (x % n < y % n)) → x < y
    from (inl a) = omega (arith, div-add-mod' x n, div-add-mod' y n, mod-lt x some, mul-le-mul_right n a)
    from (inr e) = omega (arith, div-add-mod' x n, div-add-mod' y n, ap (λ (k : ℕ). k * n) e.0)

offset_order : (run : Run) (x y : ℕ) → (offset_of run x <ℤ offset_of run y) ↔ (x % run.window < y % run.window)
offset_order run x y =
    let half = pos (run.window / 2) in
    omega (arith, parts, offset_distance run x, offset_distance run y, sum (offset_of run x) half, sum (offset_of run y) half)

-- "Rising x is line order, then offset order."
pub cell_order : {run : Run} → ValidRun run → (x y : ℕ) → (x < y) ↔ Before run x y
unfolding line_of
cell_order {run} v x y = (λ l. to (decide.0 l), λ b. decide.1 (from b))
  where
    Divided : Type 0
    Divided = (x / run.window < y / run.window) ⊎ ((x / run.window ≡ y / run.window) × (x % run.window < y % run.window))

    decide : (x < y) ↔ Divided
    decide = quotients_first (omega arith) x y

    to : Divided → Before run x y
    to (inl a) = inl (omega arith)
    to (inr e) = inr (omega arith, (offset_order run x y).1 e.1)

    from : Before run x y → Divided
    from (inl a) = inl (omega arith)
    from (inr e) = inr (omega arith, (offset_order run x y).0 e.1)

-- ---- blocks

-- a block with a line keeps the limits of its run
pub valid_block : {run block : Run} → ValidRun run → IsBlock run block → block.first ≤ block.last → ValidRun block
valid_block v b some = omega arith

pub line_shift : {run block : Run} → ValidRun run → IsBlock run block → (x : ℕ) → line_of block x ≡ line_of run (x + shift_of run block)
unfolding line_of shift_of
line_shift {run} {block} v b x =
    rw (b.window, add-mul-div_right x (block.first - run.first) {z = run.window} (omega arith)) (omega arith)

pub offset_shift : {run block : Run} → IsBlock run block → (x : ℕ) → offset_of block x ≡ offset_of run (x + shift_of run block)
unfolding offset_of shift_of
offset_shift {run} {block} b x = rw (b.window, add-mul-mod_self_right x (block.first - run.first) run.window)

-- of consecutive blocks the first is not shifted, each next by the cells of those before it
pub shift_first : (run block : Run) → block.first ≡ run.first → shift_of run block ≡ 0
unfolding shift_of
shift_first run block e = let z : block.first - run.first ≡ 0 = omega arith in rw z (omega arith)

pub shift_next : {run block : Run} → IsBlock run block → (next : Run) → block.first ≤ suc block.last → next.first ≡ suc block.last → shift_of run next ≡ shift_of run block + cells_of block
unfolding shift_of cells_of lines_of
shift_next {run} {block} b next some e =
    let k : next.first - run.first ≡ (block.first - run.first) + (suc block.last - block.first) = omega arith in
    rw (k, b.window) (omega arith)

-- a shift is no larger than a run can be
pub shift_few : {run block : Run} → ValidRun run → ValidRun block → shift_of run block < 2 ^ 37
unfolding shift_of
shift_few {run} {block} v b =
    let lines : block.first - run.first ≤ 16777216 = omega arith in
    let most = mul-le-mul lines v.wide in
    omega arith
