-- What a call that is in order asks for, in the types that the inner steps have for it.
use Rattle.std.specs.Prelude.{ℕ, ◌≡◌, Option}
use Rattle.blanking.specs.declared.Asked.{Asked}
use Rattle.blanking.specs.declared.Stretch.{Stretch}
use Rattle.blanking.specs.declared.StretchesFrom.{StretchesFrom}
use Rattle.blanking.specs.Stretches.{Blanked}
use Rattle.blanking.specs.Inner.{NextStretch}

-- The lines that it asks for.
abbrev pub Blanks : Asked → ℕ → Type 0
Blanks asked = Blanked asked.run asked.map.now asked.threshold asked.guard

-- A step from stretch to stretch: the first that begins at the line that the iterator has come to or later, or there is none.
abbrev pub Gives : StretchesFrom → Option Stretch → StretchesFrom → Type 0
Gives s found t = (t.asked ≡ s.asked) × NextStretch (Blanks s.asked) s.line found t.line
