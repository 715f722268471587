-- The line of a refusal tells its number and its place. Assumes nothing.
use Prim.Native.Nat.{ℕ}
use native.Mathlib.Omega.{arith}
use mathlib.Core.Path.{◌≡◌, refl, sym, ap, ◌∙◌}
use mathlib.Core.Bool.{false}
use mathlib.Core.List.{List, [], ◌∷◌, ◌++◌}
use lib.ListN.{drop, get_or}
use Rattle.decimal.specs.Digits.{digits}
use Rattle.decimal.specs.Inner.{begins_with_digit}
use Rattle.decimal.proofs.Laws.{digits_split}
use Rattle.words.specs.Line.{fields, line}
use Rattle.words.proofs.Lines.{line_split}
use Rattle.scope.specs.declared.Place.{Place}
use Rattle.scope.specs.declared.Place.TheVariants.{Nowhere, AtSource}
use Rattle.report.specs.Report.{source_word, refusal_report}

-- what follows the number
abbrev behind : Place → List ℕ
behind Nowhere = 10 ∷ []
behind (AtSource k) = line (32 ∷ source_word) (k ∷ [])

number_then : (n : ℕ) (place : Place) → drop 8 (refusal_report n place) ≡ digits n ++ behind place
unfolding refusal_report line fields
number_then n Nowhere = refl
number_then n (AtSource k) = refl

-- no digit does
ended : (place : Place) → begins_with_digit (behind place) ≡ false
unfolding line
ended Nowhere = refl
ended (AtSource k) = refl

same_place : (k l : Place) → behind k ≡ behind l → k ≡ l
unfolding line
same_place Nowhere Nowhere e = refl
same_place Nowhere (AtSource l) e = absurd (let z : ◌≡◌ {A = ℕ} 10 32 = ap (λ b. get_or b 0 0) e in omega arith)
same_place (AtSource k) Nowhere e = absurd (let z : ◌≡◌ {A = ℕ} 32 10 = ap (λ b. get_or b 0 0) e in omega arith)
same_place (AtSource k) (AtSource l) e = ap (λ ks. AtSource (get_or ks 0 0)) (same e)
  where
    same : line (32 ∷ source_word) (k ∷ []) ≡ line (32 ∷ source_word) (l ∷ []) → k ∷ [] ≡ l ∷ []
    same h = (line_split (32 ∷ source_word) (k ∷ []) (l ∷ []) [] [] (ap (λ b. b ++ []) h)).0

-- lines of refusals that are written the same are of one number and one place
pub refusal_told : (m n : ℕ) (k l : Place) → refusal_report m k ≡ refusal_report n l → (m ≡ n) × (k ≡ l)
refusal_told m n k l e =
    let split = digits_split m n (behind k) (behind l) (ended k) (ended l) (sym (number_then m k) ∙ ap (drop 8) e ∙ number_then n l) in
    (split.0, same_place k l split.1)

-- and none is the beginning of a report, whose second letter is `u`
pub refusal_second : (n : ℕ) (place : Place) → get_or (refusal_report n place) 1 0 ≡ 101
unfolding refusal_report line
refusal_second n Nowhere = refl
refusal_second n (AtSource k) = refl
