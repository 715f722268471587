-- The measure of `Turn::divide`: the size of the last offset, which falls from each vector to the next. Assumes nothing.
use Rattle.std.proofs.Common.{nat_abs}
use Rattle.vectors.proofs.Turn.+divide.Given as goal

abbrev pub decreases-divide : goal.decreases-divide
decreases-divide l = nat_abs l.self.now.last.offset
