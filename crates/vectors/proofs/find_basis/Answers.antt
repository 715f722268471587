-- `vectors::find_basis` meets its contract: the division sequence is stopped, and `Found` says what stands there.
-- Assumes nothing.
use Rattle.std.proofs.Common.{◌≡◌, arith, pos}
use Rattle.std.proofs.lemmas.Grind.{common_steps}
use Rattle.vectors.specs.Inner.{Stopped, Open}
use Rattle.vectors.proofs.Found.{begin, first_two_lem, single, pair_left, pair_right, partner_left}
use Rattle.vectors.proofs.find_basis.Goals as goal
use Rattle.vectors.proofs.find_basis.Goals.{After-divide}

-- where the sequence stops
stopped : (c : After-divide) → let a = c.args in Stopped a.period a.remainder a.window c.divide.new.self
stopped c = c.divide.ensures c.args.period c.args.remainder (rw c.first-turn.ensures (first_two_lem c.requires.remainder))

-- past the test its last offset is not 0
gone_on : (c : After-divide) → (c.divide.new.self.last.offset ≡ pos 0 → ⊥) → Open c.args.window c.divide.new.self.before c.divide.new.self.last
gone_on c other = partner_left (stopped c) c.requires.small other

pub divide-requires : goal.divide-requires
divide-requires c = rw c.first-turn.ensures (begin c.requires)

pub returns-then-last-eq0 : goal.returns-then-last-eq0
returns-then-last-eq0 c = single (stopped (goal.at.returns-then-last-eq0 c).After-divide) (grind (arith, common_steps))

pub partner-other-requires : goal.partner-other-requires
partner-other-requires c = gone_on (goal.at.partner-other-requires c).After-divide (grind (arith, common_steps))

pub returns-then-last-lt0 : goal.returns-then-last-lt0
returns-then-last-lt0 c =
    let turn = (goal.at.returns-then-last-lt0 c).After-divide in
    rw c.partner-other.ensures (pair_left (stopped turn) (gone_on turn (grind (arith, common_steps))).some (grind (arith, common_steps)))

pub returns-else-last-lt0 : goal.returns-else-last-lt0
returns-else-last-lt0 c =
    let turn = (goal.at.returns-else-last-lt0 c).After-divide in
    rw c.partner-other.ensures (pair_right (stopped turn) (gone_on turn (grind (arith, common_steps))).some (grind (arith, common_steps)))
