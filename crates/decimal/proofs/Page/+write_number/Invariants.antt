-- The measure of `decimal::Page::write_number` is n: n / 10 is below it from 10 on. Assumes nothing.
use Rattle.decimal.proofs.Page.+write_number.Given as goal

abbrev pub decreases-write_number : goal.decreases-write_number
decreases-write_number l = l.n
