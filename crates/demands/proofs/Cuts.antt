-- A cut of a run: its blocks are valid runs and blocks of the run, and which cells stand before each. Assumes nothing.
use Prim.Native.Nat.{ℕ, suc, ◌+◌, ◌-◌, ◌*◌, ◌≤◌, ◌<◌}
use native.Mathlib.Nat.{mul-le-mul_right, sub_self, zero-mul}
use native.Mathlib.Omega.{arith}
use mathlib.Core.Path.{◌≡◌, refl, sym, subst}
use mathlib.Core.Logic.{◌⊎◌, inl, inr}
use mathlib.Core.List.Memᴰ
use mathlib.Core.List.{List, [], ◌∷◌, Memᴰ}
use Rattle.scope.specs.declared.Run.{Run}
use Rattle.scope.specs.Run.{ValidRun, lines_of, cells_of, shift_of}
use Rattle.scope.specs.Inner.{IsBlock}
use Rattle.scope.proofs.Numbering.{valid_block, shift_next}
use Rattle.demands.specs.Cut.{Piece, CutFrom, Cut}

module _ (run : Run) where
  -- a cut ends with the run
  pub cut_within : (line : ℕ) (blocks : List Run) → CutFrom run line blocks → line ≤ suc run.last
  cut_within line [] c = omega arith
  cut_within line (block ∷ blocks) c = let p = c.0 in omega (arith, cut_within (suc block.last) blocks c.1)

  -- the first block of a cut is a block of the run
  pub piece_is : {line : ℕ} {block : Run} (blocks : List Run) → run.first ≤ line → CutFrom run line (block ∷ blocks) → IsBlock run block
  piece_is {line} {block} blocks from c =
      let p = c.0 in
      record { window = p.window; interval = p.interval; from = omega arith; to = omega (arith, cut_within (suc block.last) blocks c.1) }

  -- what the blocks of a cut are: valid runs, and blocks of the run
  pub record ValidBlock (block : Run) : Type 0 where
    pub valid : ValidRun block
    pub is : IsBlock run block

  valid_from : ValidRun run → {line : ℕ} (blocks : List Run) → run.first ≤ line → CutFrom run line blocks → (block : Run) → Memᴰ block blocks → ValidBlock block
  valid_from v [] from c block m = absurd (Memᴰ.not-nil m)
  valid_from v (b ∷ blocks) from c block m = go (λ n. valid_from v blocks (omega (arith, c.0.begins, c.0.ordered)) c.1 block n) (Memᴰ.cases_cons m)
    where
      here : ValidBlock b
      here = let i = piece_is blocks from c in record { valid = valid_block v i c.0.ordered; is = i }

      go : (Memᴰ block blocks → ValidBlock block) → (block ≡ b) ⊎ Memᴰ block blocks → ValidBlock block
      go later (inl e) = subst ValidBlock (sym e) here
      go later (inr n) = later n

  -- "with the same window and interval": each block of a cut of a valid run is a valid run.
  pub cut_valid : ValidRun run → (blocks : List Run) → Cut run blocks → (block : Run) → Memᴰ block blocks → ValidBlock block
  cut_valid v blocks c = valid_from v blocks (omega arith) c

  -- cuts there are: the run itself
  pub cut_whole : ValidRun run → Cut run (run ∷ [])
  cut_whole v = (record { window = refl; interval = refl; begins = refl; ordered = v.ordered }, refl)

  -- the lines from a to b
  abbrev pub lines : ℕ → ℕ → Run
  lines a b = record { window = run.window; interval = run.interval; first = a; last = b }

  -- and the run cut after any of its lines but the last
  pub cut_after : (line : ℕ) → run.first ≤ line → line < run.last → Cut run (lines run.first line ∷ lines (suc line) run.last ∷ [])
  cut_after line h l = (
    record { window = refl; interval = refl; begins = refl; ordered = h },
    (record { window = refl; interval = refl; begins = refl; ordered = l }, refl),
  )

-- how many of the run's cells stand before a line
unfoldable pub before : Run → ℕ → ℕ
before run line = (line - run.first) * run.window

-- the cells before a line are not more than all
pub before_within : (run : Run) (line : ℕ) → line ≤ suc run.last → before run line ≤ cells_of run
unfolding before cells_of lines_of
before_within run line h = let few : line - run.first ≤ suc run.last - run.first = omega arith in omega (arith, mul-le-mul_right run.window few)

-- none before the first line
pub before_first : (run : Run) → before run run.first ≡ 0
unfolding before
before_first run = rw (sub_self run.first) (zero-mul run.window)

-- all before the line after the last
pub before_end : (run : Run) {line : ℕ} → line ≡ suc run.last → cells_of run ≤ before run line
unfolding before cells_of lines_of
before_end run e = rw e (omega arith)

-- before a block as many as its cells are moved by
pub before_piece : {run block : Run} {line : ℕ} → Piece run line block → before run line ≡ shift_of run block
unfolding before shift_of
before_piece p = rw p.begins

-- before the line after a block, its cells besides
pub before_next : {run block : Run} → IsBlock run block → block.first ≤ block.last → before run (suc block.last) ≡ shift_of run block + cells_of block
unfolding before shift_of
before_next {run} {block} i some = shift_next i (record { window = run.window; interval = run.interval; first = suc block.last; last = run.last }) (omega arith) refl
