-- Document 01: what the vectors call replies, for every period, remainder and window.
use Rattle.std.specs.Prelude.{ℕ, ◌≡◌, ltb, leb}
use Rattle.std.proofs.Math.Option.{Option, some, none}
use Rattle.scope.specs.declared.Refusal.{Refusal}
use Rattle.scope.specs.Refusal.{Tests, ◌when◌, ◌and_then◌, complaint, number, window_tests, period_tests}
use Rattle.scope.specs.declared.Reason.TheVariants.{Remainder, WiderThanPeriod}
use Rattle.scope.specs.Reply.{Said, refused, answered}
use Rattle.vectors.specs.declared.Steps.{Steps}
use Rattle.vectors.specs.declared.Steps.TheVariants.{Pair, Single, Refused}
use Rattle.vectors.specs.Vectors.{vector, IsPair, IsSingle, Values, pair, single}

-- "Order. Vectors: 1, 4, 5, 6." "5: r ≥ p", "6: I > p".
unfoldable pub vectors_tests : ℕ → ℕ → ℕ → Tests
vectors_tests p r I =
    window_tests I and_then
    period_tests p and_then
    Remainder when leb p r and_then
    WiderThanPeriod when ltb p I

-- What a reply of the vectors call says: the values, or a refusal's number and place.
abbrev pub says_vectors : Steps → Said Values
says_vectors (Pair left right) = answered (pair left.offset left.line right.offset right.line)
says_vectors (Single only) = answered (single only.offset only.line)
says_vectors (Refused reason place) = refused (number reason) place

-- "three kinds of reply": with a complaint the refusal, its number and its place, with none the pair or the single vector.
abbrev pub Admits : Option Refusal → ℕ → ℕ → ℕ → Said Values → Type 0
Admits (some c) p r I said = said ≡ refused (number c.reason) c.place
Admits none p r I (answered (pair α β γ δ)) = IsPair p r I (vector α β) (vector γ δ)
Admits none p r I (answered (single i j)) = IsSingle p r I (vector i j)
Admits none p r I (refused n place) = ⊥

-- The promise of the vectors call.
unfoldable pub VectorsPromise : ℕ → ℕ → ℕ → Steps → Type 0
VectorsPromise p r I steps = Admits (complaint (vectors_tests p r I)) p r I (says_vectors steps)
