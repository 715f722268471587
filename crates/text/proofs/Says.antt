-- Every text says something or has not the form: the `run` line, the `src` lines up to the end, the whole text. Assumes nothing.
use Prim.Native.Nat.{ℕ, zero, suc, ◌+◌, ◌≤◌}
use native.Mathlib.Decide.{dec_lt}
use native.Mathlib.Omega.{arith}
use mathlib.Core.Path.{refl}
use mathlib.Core.Logic.{◌⊎◌, inl, inr}
use mathlib.Core.List.{List, []}
use mathlib.Core.Option.{Option, some, none}
use lib.ListN.{length}
use Rattle.words.proofs.Standing.{line_found}
use Rattle.text.specs.Form.{run_word, src_word, SrcLine, sources_meant, Content}
use Rattle.text.specs.Promise.{Reads}
use Rattle.text.specs.Inner.{SrcStands, NoSrc, Lines, NoLines}
use Rattle.text.proofs.Lines.{run_of, line_unphased, line_phased, line_run}
use Rattle.text.proofs.Listing.{lines_end, line_joins, line_refutes, line_ends, no_line}
use Rattle.text.proofs.Answers.{too_long, no_run, no_sources, has_form}

module _ (text : List ℕ) where
  -- a `src` line stands at `at`, in one of its two spellings, or none does
  src_found : (at : ℕ) → ((src : SrcLine) × (next : ℕ) × SrcStands text at src next) ⊎ NoSrc text at
  src_found at =
      elim (line_found text at src_word 3) [
        | inl f ↦ inl (_, _, line_phased f.stands f.counted)
        | inr long ↦
            elim (line_found text at src_word 2) [
              | inl f ↦ inl (_, _, line_unphased f.stands f.counted)
              | inr short ↦ inr (record { long = long; short = short })
            ]
      ]

  -- the `src` lines from `at` up to the end of the text, of which at most so many bytes are left
  lines_on : (left at : ℕ) → length text ≤ at + left → ((srcs : List SrcLine) × Lines text at srcs) ⊎ NoLines text at
  lines_on zero at h = inl ([], lines_end text at (omega arith))
  lines_on (suc left) at h =
      elim (dec_lt at (length text)) [
        | no ended ↦ inl ([], lines_end text at (omega arith))
        | yes there ↦
            elim (src_found at) [
              | inr n ↦ inr (no_line there n)
              | inl f ↦
                  elim (lines_on left f.1 (omega (arith, line_ends f.2))) [
                    | inl m ↦ inl (_, line_joins f.2 m.1)
                    | inr n ↦ inr (line_refutes f.2 n)
                  ]
            ]
      ]

  -- a text says something, or it has not the form
  pub reads_exists : (o : Option Content) × Reads text o
  reads_exists =
      elim (dec_lt 4096 (length text)) [
        | yes long ↦ (none, too_long long)
        | no short ↦
            elim (line_found text 0 run_word 4) [
              | inr n ↦ (none, no_run refl n)
              | inl f ↦
                  let l = line_run f.stands f.counted refl in
                  elim (lines_on (length text) f.next (omega arith)) [
                    | inl m ↦ (some (record { run = run_of f.numbers; entries = sources_meant m.0 }), has_form l (omega arith) m.1)
                    | inr n ↦ (none, no_sources l n)
                  ]
            ]
      ]
