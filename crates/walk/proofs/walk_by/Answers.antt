-- `walk::walk_by` meets its contract: the differences are small. Assumes nothing.
use Rattle.std.proofs.Common.{ap₂, ◌∙◌, arith, ◌+ℤ◌}
use Rattle.std.proofs.lemmas.Grind.{common_steps}
use Rattle.walk.proofs.walk_by.Goals as goal

pub and-requires : goal.and-requires
and-requires c = record {
  one_low = grind (arith, common_steps);
  one_high = grind (arith, common_steps);
  other_low = grind (arith, common_steps);
  other_high = grind (arith, common_steps);
  one_cells = grind (arith, common_steps);
  other_cells = grind (arith, common_steps);
}

pub overflow_sub-result-2 : goal.overflow_sub-result-2
overflow_sub-result-2 c = grind (arith, common_steps)

pub returns : goal.returns
returns c =
    let one = c.step_of-to_left.ensures in
    let other = c.step_of-to_right.ensures in
    record {
      left_offset = one.0;
      left_cells = one.1;
      right_offset = other.0;
      right_cells = other.1;
      both_offset = c.and.ensures.0 ∙ ap₂ ◌+ℤ◌ one.0 other.0;
      both_cells = c.and.ensures.1;
      low = grind (arith, common_steps);
      high = grind (arith, common_steps);
    }
