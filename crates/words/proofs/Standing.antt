-- What stands at `at` in a text is decided piece by piece: a word, a number after a space, the numbers of a line, a line. Assumes nothing.
use Prim.Native.Nat.{ℕ, zero, suc}
use mathlib.Core.Path.{◌≡◌, refl, ap}
use mathlib.Core.Bool.{Bool, true, false}
use mathlib.Core.Logic.{◌⊎◌, inl, inr}
use mathlib.Core.List.{List, [], ◌∷◌}
use lib.ListN.{length, drop}
use lib.Dec.{eqb}
use Rattle.std.specs.Prelude.{Option, None, Some}
use Rattle.std.specs.List.{starts_with}
use Rattle.decimal.specs.Inner.{Reading}
use Rattle.decimal.proofs.Readings.{number_exists}
use Rattle.words.specs.Inner.{Spelled, NoWord, Field, NoField, Line, NoLine}
use Rattle.words.proofs.Lines.{
  word_stands,
  word_missing,
  no_space,
  field_stands,
  field_bad,
  Fields,
  NoFields,
  newline,
  no_newline,
  field_joins,
  field_refutes,
  no_field,
  word_joins,
  word_refutes,
  no_word,
}

-- so many numbers and the newline stand at `at`
record FieldsFound (text : List ℕ) (at count : ℕ) : Type 0 where
  numbers : List ℕ
  next : ℕ
  counted : length numbers ≡ count
  stand : Fields text at numbers next

-- a line with this word and so many numbers does
pub record LineFound (text : List ℕ) (at : ℕ) (word : List ℕ) (count : ℕ) : Type 0 where
  pub numbers : List ℕ
  pub next : ℕ
  pub counted : length numbers ≡ count
  pub stands : Line text at word numbers next

module _ (text : List ℕ) where
  word_found : (at : ℕ) (word : List ℕ) → ((end : ℕ) × Spelled text at word end) ⊎ NoWord text at word
  word_found at word = by_test (starts_with eqb (drop at text) word) refl
    where
      by_test : (begins : Bool) → begins ≡ starts_with eqb (drop at text) word → ((end : ℕ) × Spelled text at word end) ⊎ NoWord text at word
      by_test true e = inl (_, word_stands text at word refl e refl)
      by_test false e = inr (word_missing text at word refl e refl)

  field_found : (at : ℕ) → ((v : ℕ) × (next : ℕ) × Field text at v next) ⊎ NoField text at
  field_found at =
      elim (word_found at (32 ∷ [])) [
        | inl s ↦ let (n, r) = number_exists text s.0 in number s.1 n r
        | inr n ↦ inr (no_space n)
      ]
    where
      number : {start : ℕ} → Spelled text at (32 ∷ []) start → (n : Option (ℕ × ℕ)) → Reading text start n → ((v : ℕ) × (next : ℕ) × Field text at v next) ⊎ NoField text at
      number s (Some (v, next)) r = inl (v, next, field_stands s r)
      number s None r = inr (field_bad s r)

  fields_found : (count at : ℕ) → FieldsFound text at count ⊎ NoFields text at count
  fields_found zero at =
      elim (word_found at (10 ∷ [])) [
        | inl s ↦ inl (record { numbers = []; next = s.0; counted = refl; stand = newline s.1 })
        | inr n ↦ inr (no_newline n)
      ]
  fields_found (suc count) at =
      elim (field_found at) [
        | inr n ↦ inr (no_field n count)
        | inl f ↦
            elim (fields_found count f.1) [
              | inl g ↦ inl (record { numbers = f.0 ∷ g.numbers; next = g.next; counted = ap suc g.counted; stand = field_joins f.2 g.stand })
              | inr n ↦ inr (field_refutes f.2 n)
            ]
      ]

  pub line_found : (at : ℕ) (word : List ℕ) (count : ℕ) → LineFound text at word count ⊎ NoLine text at word count
  line_found at word count =
      elim (word_found at word) [
        | inr n ↦ inr (no_word n count)
        | inl s ↦
            elim (fields_found count s.0) [
              | inl g ↦ inl (record { numbers = g.numbers; next = g.next; counted = g.counted; stands = word_joins s.1 g.stand })
              | inr n ↦ inr (word_refutes s.1 n)
            ]
      ]
