-- `words::read_line` meets its contract. The loop's invariant: the word and k numbers are passed up to `next`, and the room has the numbers
-- in front of what it had before. Assumes nothing.
use native.Mathlib.Omega.{arith}
use mathlib.Core.Path.{refl}
use Rattle.words.proofs.Lines.{no_word, passing_more, passing_bad, passing_ends}
use Rattle.words.proofs.read_line.Goals as goal

pub returns-in_default : goal.returns-in_default
returns-in_default c = (refl, no_word c.in_default.ensures.1 _)

pub returns-in_default-read_field : goal.returns-in_default-read_field
returns-in_default-read_field c = passing_bad c.loop-k.invariant c.args.reason (omega arith) c.in_default-read_field.ensures.1

pub loop-k-preserved : goal.loop-k-preserved
loop-k-preserved c = passing_more c.loop-k.invariant (omega arith) c.in-Ok-read_field.ensures

pub returns : goal.returns
returns c = passing_ends c.loop-k.invariant (omega arith) _ c.read_word-2.result c.read_word-2.ensures
