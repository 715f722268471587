-- `saved::run_of` meets its contract: each number of the run is read where it stands. Assumes nothing.
use Rattle.saved.specs.File.{run_of}
use Rattle.saved.proofs.run_of.Goals as goal

pub returns : goal.returns
unfolding run_of
returns c = rw (← c.four_at.ensures, ← c.four_at-2.ensures, ← c.four_at-3.ensures, ← c.four_at-4.ensures) c.new.ensures
