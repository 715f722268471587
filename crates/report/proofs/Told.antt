-- A whole report tells its run and its sources: what is printed of two is the same only if these are. Assumes nothing.
use Prim.Native.Nat.{ℕ, suc}
use native.Mathlib.Omega.{arith}
use mathlib.Core.Path.{◌≡◌, refl, sym, ap, ◌∙◌}
use mathlib.Core.Bool.{Bool, true, false, cond}
use mathlib.Core.List.{List, [], ◌∷◌, ◌++◌, append_assoc}
use lib.Dec.{eqb}
use lib.ListN.{get_or}
use Rattle.words.specs.Line.{line}
use Rattle.words.proofs.Lines.{line_split}
use Rattle.scope.specs.declared.Run.{Run}
use Rattle.scope.specs.Run.{run_with, cells_of}
use Rattle.sources.specs.declared.Entry.{Entry}
use Rattle.sources.specs.Entry.{entry_with}
use Rattle.text.specs.Form.{run_word, src_word, run_numbers}
use Rattle.report.specs.Report.{map_word, run_report, entry_report, src_report, cell_report, map_report, end_report, cells_report, whole_report}

-- these bytes do not begin as a `src` line does
abbrev OtherWord : List ℕ → Type 0
OtherWord bytes = get_or bytes 0 0 ≡ 115 → ⊥

-- so those of cells, which begin with `map` or with `end`
other_word_map : (x : ℕ) (cells rest : List ℕ) → OtherWord rest → OtherWord (map_report x cells ++ rest)
unfolding map_report cell_report line
other_word_map x [] rest none e = none e
other_word_map x (value ∷ cells) rest none e = go (eqb value 0) (other_word_map (suc x) cells rest none) e
  where
    go : (b : Bool) → OtherWord (map_report (suc x) cells ++ rest) → OtherWord ((cond b [] (line map_word (x ∷ value ∷ [])) ++ map_report (suc x) cells) ++ rest)
    go true later e = later e
    go false later e = omega arith

other_word_end : (cells : List ℕ) → OtherWord (end_report cells)
unfolding end_report line
other_word_end cells e = omega arith

-- the lines of sources, and what follows them
sources_told : (run run' : Run) (k : ℕ) (a b : List Entry) (r s : List ℕ) → OtherWord r → OtherWord s → src_report run k a ++ r ≡ src_report run' k b ++ s → a ≡ b
unfolding src_report entry_report line
sources_told run run' k [] [] r s m n e = refl
sources_told run run' k [] (f ∷ b) r s m n e = absurd (m (ap (λ l. get_or l 0 0) e))
sources_told run run' k (f ∷ a) [] r s m n e = absurd (n (ap (λ l. get_or l 0 0) (sym e)))
sources_told run run' k (f ∷ a) (g ∷ b) r s m n e =
    let own = entry_report run k f in
    let other = entry_report run' k g in
    let parted = sym (append_assoc own (src_report run (suc k) a) r) ∙ e ∙ append_assoc other (src_report run' (suc k) b) s in
    let split = line_split src_word _ _ (src_report run (suc k) a ++ r) (src_report run' (suc k) b ++ s) parted in
    let same : f ≡ g = ap (λ l. entry_with (get_or l 1 0) (get_or l 2 0) (get_or l 3 0)) split.0 in
    ap (λ h. h ∷ a) same ∙ ap (λ t. g ∷ t) (sources_told run run' (suc k) a b r s m n split.1)

pub whole_told : (run run' : Run) (a b : List Entry) → whole_report run a ≡ whole_report run' b → (run ≡ run') × (a ≡ b)
unfolding whole_report run_report cells_report
whole_told run run' a b e =
    let split = line_split run_word (run_numbers run ++ (cells_of run ∷ [])) (run_numbers run' ++ (cells_of run' ∷ [])) _ _ e in (
      ap (λ l. run_with (get_or l 0 0) (get_or l 1 0) (get_or l 2 0) (get_or l 3 0)) split.0,
      sources_told run run' 1 a b _ _ (other_word_map 0 _ _ (other_word_end _)) (other_word_map 0 _ _ (other_word_end _)) split.1,
    )
