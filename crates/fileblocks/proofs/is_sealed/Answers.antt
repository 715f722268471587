-- `fileblocks::is_sealed` meets its contract: a wrong number settles it, else the check does. Assumes nothing.
use mathlib.Core.Path.{sym, ap₂, ◌∙◌}
use borrow.Author.Tests.{eq-eqb, ne_eqb}
use lib.Dec.{eqb}
use Rattle.fileblocks.specs.FileBlock.{sealed_with}
use Rattle.fileblocks.proofs.is_sealed.Goals as goal

pub returns-then-four_at-number : goal.returns-then-four_at-number
unfolding sealed_with
returns-then-four_at-number c =
    rw (eq-eqb _ _ (sym c.four_at.ensures ∙ c.if-four_at-number.true))
    (ap₂ eqb c.four_at-then-four_at-number.ensures c.check.ensures)

pub returns-else-four_at-number : goal.returns-else-four_at-number
unfolding sealed_with
returns-else-four_at-number c =
    rw (ne_eqb _ _ c.if-four_at-number.false, ne_eqb _ _ (λ e. c.if-four_at-number.false (c.four_at.ensures ∙ e)))
