-- `words::write_line` meets its contract. The loop's invariant: the numbers are written but for those from the one at the loop's index on.
-- Assumes nothing.
use Rattle.std.proofs.Common.{◌+◌, [], ◌∷◌, ◌++◌, get_or, drop, refl, sym}
use Rattle.decimal.specs.Digits.{digits}
use Rattle.decimal.proofs.Pages.{OnPage, page_starts, page_fits, page_fits_last, page_more, page_last, writes_same}
use Rattle.words.specs.Line.{fields, line}
use Rattle.words.proofs.Writing.{from_number, newline_left, word_then}
use Rattle.words.proofs.write_line.Goals as goal
use Rattle.words.proofs.write_line.Goals.{Start, After-write_bytes-in-loop-number}

-- the line is to be written
starts : (c : Start) → OnPage c.args.page.now (line c.args.word.now c.args.numbers.now) (line c.args.word.now c.args.numbers.now) c.args.page.now
starts c = page_starts c.args.page.now _ c.requires

-- the space of this turn is written
spaced : (c : After-write_bytes-in-loop-number)
    → let ns = c.args.numbers.now in
    let k = c.loop-number.number-index in
    OnPage c.args.page.now (line c.args.word.now ns) (digits (get_or ns k 0) ++ fields (drop (k + 1) ns)) c.write_bytes-in-loop-number.new.self
spaced c = page_more c.loop-number.invariant (from_number _ _ c.loop-number-test.true) c.write_bytes-in-loop-number.ensures

pub write_bytes-requires : goal.write_bytes-requires
write_bytes-requires c = page_fits (starts (goal.at.write_bytes-requires c).Start) _ _ (word_then _ _)

pub loop-number-init : goal.loop-number-init
loop-number-init c = page_more (starts (goal.at.loop-number-init c).Start) (word_then _ _) c.write_bytes.ensures

pub write_bytes-requires-in-loop-number : goal.write_bytes-requires-in-loop-number
write_bytes-requires-in-loop-number c = page_fits c.loop-number.invariant (32 ∷ []) (digits _ ++ fields _) (from_number _ _ c.loop-number-test.true)

pub write_number-requires : goal.write_number-requires
write_number-requires c = page_fits (spaced (goal.at.write_number-requires c).After-write_bytes-in-loop-number) (digits _) (fields _) refl

pub loop-number-preserved : goal.loop-number-preserved
loop-number-preserved c = page_more (spaced (goal.at.loop-number-preserved c).After-write_bytes-in-loop-number) refl c.write_number.ensures

pub write_bytes-requires-2 : goal.write_bytes-requires-2
write_bytes-requires-2 c = page_fits_last c.loop-number.invariant (10 ∷ []) (sym (newline_left _ _ c.loop-number-test.false))

pub returns : goal.returns
returns c = page_last c.loop-number.invariant (writes_same (sym (newline_left _ _ c.loop-number-test.false)) c.write_bytes-2.ensures)
