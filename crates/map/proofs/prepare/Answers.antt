-- `map::prepare` meets its contract: a clean start is cleared, any other left. Assumes nothing.
use mathlib.Core.Path.{ap, sym, ◌∙◌}
use Rattle.map.specs.Inner.{start_of}
use Rattle.map.proofs.prepare.Goals as goal

pub returns-in-Clean : goal.returns-in-Clean
returns-in-Clean c = c.clear.ensures ∙ ap (λ s. start_of s c.args.map.now) (sym c.in-Clean.is)
