-- What the inner steps of reading a line answer, from `at` on in the text: where that ends which stands there, or the refusal where nothing of
-- the kind does. A refusal has the reason that the caller gave, and each step hands it on.
use Rattle.std.specs.Prelude.{ℕ, ◌+◌, ◌≤◌, ◌≡◌, false, List, ◌∷◌, ◌++◌, Result, Ok, Err, length, drop, set}
use Rattle.rooms.specs.Lists.{UpTo}
use Rattle.decimal.specs.Digits.{largest, digits}
use Rattle.decimal.specs.Inner.{begins_with_digit}
use Rattle.scope.specs.declared.Reason.{Reason}
use Rattle.words.specs.Line.{line}

-- These bytes stand in the text at `at`, up to `next`.
pub record Spelled (text : List ℕ) (at : ℕ) (bytes : List ℕ) (next : ℕ) : Type 0 where
  pub is : drop at text ≡ bytes ++ drop next text
  pub ends : next ≡ at + length bytes

-- This word does not stand there.
pub record NoWord (text : List ℕ) (at : ℕ) (word : List ℕ) : Type 0 where
  pub none : (rest : List ℕ) → drop at text ≡ word ++ rest → ⊥

-- A word is looked for.
abbrev pub WordAt : List ℕ → ℕ → List ℕ → Reason → Result ℕ Reason → Type 0
WordAt text at word reason (Ok next) = Spelled text at word next
WordAt text at word reason (Err given) = (given ≡ reason) × NoWord text at word

-- A space and the number v stand at `at`, up to `next`, where no digit follows.
pub record Field (text : List ℕ) (at v next : ℕ) : Type 0 where
  pub small : v ≤ largest
  pub stands : Spelled text at (32 ∷ digits v) next
  pub ended : begins_with_digit (drop next text) ≡ false

-- No space with a number that no digit follows stands there.
pub record NoField (text : List ℕ) (at : ℕ) : Type 0 where
  pub none : (v : ℕ) (rest : List ℕ) → v ≤ largest → begins_with_digit rest ≡ false → drop at text ≡ (32 ∷ digits v) ++ rest → ⊥

-- A space and a number stand at `at`, up to `next`, and the room has the number at k.
pub record FieldStored (text : List ℕ) (at : ℕ) (room : List ℕ) (k : ℕ) (room' : List ℕ) (next : ℕ) : Type 0 where
  pub value : ℕ
  pub stands : Field text at value next
  pub stores : room' ≡ set room k value

-- A space and a number are looked for; of the room nothing is said where none stand.
abbrev pub FieldAt : List ℕ → ℕ → List ℕ → ℕ → List ℕ → Reason → Result ℕ Reason → Type 0
FieldAt text at room k room' reason (Ok next) = FieldStored text at room k room' next
FieldAt text at room k room' reason (Err given) = (given ≡ reason) × NoField text at

-- A line with this word and these numbers stands at `at`, up to `next`.
pub record Line (text : List ℕ) (at : ℕ) (word numbers : List ℕ) (next : ℕ) : Type 0 where
  pub small : UpTo largest numbers
  pub stands : Spelled text at (line word numbers) next

-- No line with this word and so many numbers does.
pub record NoLine (text : List ℕ) (at : ℕ) (word : List ℕ) (count : ℕ) : Type 0 where
  pub none : (numbers rest : List ℕ) → length numbers ≡ count → UpTo largest numbers → drop at text ≡ line word numbers ++ rest → ⊥

-- A line with so many numbers, as many as there is room for, is looked for; the room has them afterwards. Of the room nothing is said where
-- none stands.
abbrev pub LineAt : List ℕ → ℕ → List ℕ → ℕ → List ℕ → Reason → Result ℕ Reason → Type 0
LineAt text at word count room' reason (Ok next) = Line text at word room' next
LineAt text at word count room' reason (Err given) = (given ≡ reason) × NoLine text at word count
