-- Request E1: "Where a source in a list is at fault (4 or 7 so far) they also want its place, counted from 1." Since E5 also 22.
use Rattle.std.specs.Prelude.{ℕ, ◌≤◌, ◌≡◌, ◌⊎◌, length}
use Rattle.std.proofs.Math.Option.{Option, some, none}
use Rattle.scope.specs.declared.Place.{Place}
use Rattle.scope.specs.declared.Place.TheVariants.{Nowhere, AtSource}
use Rattle.text.specs.Form.{Content}

-- A refusal with this number concerns a source.
abbrev pub OfSource : ℕ → Type 0
OfSource n = ((n ≡ 4) ⊎ (n ≡ 7)) ⊎ (n ≡ 22)

-- A refusal with the number n may have this place, in a call with a list of so many sources: 4, 7 and 22 have the place of one of them,
-- any other refusal has none.
abbrev pub RightPlace : (count n : ℕ) → Place → Type 0
RightPlace count n Nowhere = OfSource n → ⊥
RightPlace count n (AtSource k) = OfSource n × (1 ≤ k) × (k ≤ count)

-- How many `src` lines a text has, by what it says.
abbrev pub src_count : Option Content → ℕ
src_count none = 0
src_count (some content) = length content.entries
