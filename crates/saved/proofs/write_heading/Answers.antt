-- `saved::write_heading` meets its contract: the twenty bytes of the heading are written from the front, number by number. Assumes nothing.
use borrow.Author.Rules.{rules}
use Prim.Native.Nat.{ℕ}
use native.Mathlib.Omega.{arith}
use mathlib.Core.Path.{◌≡◌, refl, sym, ap, ◌∙◌}
use mathlib.Core.List.{List, [], ◌∷◌, ◌++◌}
use lib.ListN.{length, replicate}
use borrow.Rule.Slice.PartMut.{put_mid}
use Rattle.scope.specs.declared.Run.{Run}
use Rattle.fileblocks.specs.FileBlock.{four, file_block_of}
use Rattle.saved.specs.File.{heading}
use Rattle.fileblocks.proofs.FileBlock.{length_four}
use Rattle.saved.proofs.Heading.{length_heading}
use Rattle.rooms.specs.Inner.{Written}
use Rattle.rooms.proofs.Written.{written_part, written_length, written_all}
use Rattle.saved.proofs.write_heading.Goals as goal
use Rattle.saved.proofs.write_heading.Goals.{After-put_four-4}

-- the bytes with the version alone
abbrev blank : List ℕ
blank = 1 ∷ replicate 19 0

started : Written blank 0 (1 ∷ 0 ∷ 0 ∷ 0 ∷ []) 4 blank
started = record { ends = refl; within = omega arith; kept = refl }

-- the bytes with one, two, three and four numbers behind it
module _ (run : Run) where
  one : {a : List ℕ} → a ≡ four run.window → Written blank 0 (1 ∷ 0 ∷ 0 ∷ 0 ∷ a) 8 (put_mid 4 4 blank a)
  one {a} p = written_part started 8 a (omega arith) (omega arith) (ap length p ∙ length_four _)

  two : {a b : List ℕ} → a ≡ four run.window → b ≡ four run.interval → Written blank 0 (1 ∷ 0 ∷ 0 ∷ 0 ∷ a ++ b) 12 (put_mid 8 4 (put_mid 4 4 blank a) b)
  two {a} {b} p q = written_part (one p) 12 b (omega arith) (omega arith) (ap length q ∙ length_four _)

  three : {a b c : List ℕ} → a ≡ four run.window → b ≡ four run.interval → c ≡ four run.first → Written blank 0 (1 ∷ 0 ∷ 0 ∷ 0 ∷ a ++ b ++ c) 16 (put_mid 12 4 (put_mid 8 4 (put_mid 4 4 blank a) b) c)
  three {c} p q r = written_part (two p q) 16 c (omega arith) (omega arith) (ap length r ∙ length_four _)

  whole : {a b c d : List ℕ} → a ≡ four run.window → b ≡ four run.interval → c ≡ four run.first → d ≡ four run.last → put_mid 16 4 (put_mid 12 4 (put_mid 8 4 (put_mid 4 4 blank a) b) c) d ≡ heading run
  unfolding heading
  whole {d} p q r s = written_all (written_part (three p q r) 20 d (omega arith) (omega arith) (ap length s ∙ length_four _)) refl ∙ cc

-- the bytes after the fourth number are the heading
written : (c : After-put_four-4) → put_mid 16 4 (put_mid 12 4 (put_mid 8 4 (put_mid 4 4 blank c.put_four.new.room) c.put_four-2.new.room) c.put_four-3.new.room) c.put_four-4.new.room ≡ heading c.args.run
written c = whole _ c.put_four.ensures c.put_four-2.ensures c.put_four-3.ensures c.put_four-4.ensures

pub slice_bounds-bytes-end-3 : goal.slice_bounds-bytes-end-3
slice_bounds-bytes-end-3 c = let l = written_length (two c.args.run c.put_four.ensures c.put_four-2.ensures) in omega arith

pub slice_bounds-bytes-end-4 : goal.slice_bounds-bytes-end-4
slice_bounds-bytes-end-4 c = let l = written_length (three c.args.run c.put_four.ensures c.put_four-2.ensures c.put_four-3.ensures) in omega arith

pub slice_bounds-write_file_block-end : goal.slice_bounds-write_file_block-end
slice_bounds-write_file_block-end c = sym (ap length (written (goal.at.slice_bounds-write_file_block-end c).After-put_four-4) ∙ length_heading _)

pub write_file_block-requires : goal.write_file_block-requires
write_file_block-requires c = (let l = ap length (written (goal.at.write_file_block-requires c).After-put_four-4) ∙ length_heading _ in omega arith, search rules)

pub returns : goal.returns
returns c = c.write_file_block.ensures ∙ ap (file_block_of 0) (written (goal.at.returns c).After-put_four-4)
