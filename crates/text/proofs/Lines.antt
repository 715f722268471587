-- The numbers of a line in a room of two, of three, and of four: a `src` line in either spelling, a run. Assumes nothing.
use Prim.Native.Nat.{ℕ}
use native.Mathlib.Omega.{arith}
use mathlib.Core.Path.{◌≡◌, refl, sym, ap, subst}
use mathlib.Core.List.{List, [], ◌∷◌}
use lib.ListN.{length, get_or}
use Rattle.words.specs.Inner.{Line}
use Rattle.scope.specs.declared.Run.{Run}
use Rattle.scope.specs.Run.{run_with}
use Rattle.sources.specs.declared.Entry.{Entry}
use Rattle.sources.specs.Entry.{entry_with}
use Rattle.text.specs.Form.{src_word, run_numbers, with_phase, without_phase}
use Rattle.text.specs.Inner.{SrcStands, SourceStands}

two : (l : List ℕ) → length l ≡ 2 → l ≡ get_or l 0 0 ∷ get_or l 1 0 ∷ []
two (a ∷ b ∷ []) h = refl
two [] h = absurd (omega arith)
two (a ∷ []) h = absurd (omega arith)
two (a ∷ b ∷ c ∷ l) h = absurd (omega arith)

three : (l : List ℕ) → length l ≡ 3 → l ≡ get_or l 0 0 ∷ get_or l 1 0 ∷ get_or l 2 0 ∷ []
three (a ∷ l) h = ap (λ k. a ∷ k) (two l (omega arith))
three [] h = absurd (omega arith)

four : (l : List ℕ) → length l ≡ 4 → l ≡ get_or l 0 0 ∷ get_or l 1 0 ∷ get_or l 2 0 ∷ get_or l 3 0 ∷ []
four (a ∷ b ∷ l) h = ap (λ k. a ∷ b ∷ k) (two l (omega arith))
four [] h = absurd (omega arith)
four (a ∷ []) h = absurd (omega arith)

-- the run that a line's four numbers say
abbrev pub run_of : List ℕ → Run
run_of numbers = run_with (get_or numbers 0 0) (get_or numbers 1 0) (get_or numbers 2 0) (get_or numbers 3 0)

module _ {text : List ℕ} {at : ℕ} {room : List ℕ} {next : ℕ} where
  pub line_unphased : Line text at src_word room next → length room ≡ 2 → SrcStands text at (without_phase (get_or room 0 0) (get_or room 1 0)) next
  line_unphased l h = record { stands = subst (λ ns. Line text at src_word ns next) (two room h) l }

  pub line_phased : Line text at src_word room next → length room ≡ 3 → SrcStands text at (with_phase (get_or room 0 0) (get_or room 1 0) (get_or room 2 0)) next
  line_phased l h = record { stands = subst (λ ns. Line text at src_word ns next) (three room h) l }

  pub line_run : {word : List ℕ} {run : Run} → Line text at word room next → length room ≡ 4 → run ≡ run_of room → Line text at word (run_numbers run) next
  line_run {word} l h e = rw e (subst (λ ns. Line text at word ns next) (four room h) l)

  -- the source that such a line means
  pub phased_stands : {entry : Entry} → Line text at src_word room next → length room ≡ 3 → entry ≡ entry_with (get_or room 0 0) (get_or room 1 0) (get_or room 2 0) → SourceStands text at entry next
  phased_stands l h e = record { src = _; is = line_phased l h; means = sym e }

  pub unphased_stands : {entry : Entry} → Line text at src_word room next → length room ≡ 2 → entry ≡ entry_with (get_or room 0 0) (get_or room 1 0) 0 → SourceStands text at entry next
  unphased_stands l h e = record { src = _; is = line_unphased l h; means = sym e }
