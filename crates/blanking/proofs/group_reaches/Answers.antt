-- `blanking::group_reaches` meets its contract: a fold over the group (`group_reached`). Assumes nothing.
use Rattle.std.proofs.Common.{◌||◌, leb, rules, tests, false}
use Rattle.std.proofs.lemmas.Iterator.{YieldsList-from_slice}
use Rattle.std.proofs.lemmas.Iterator.Consumers.{fold_from_yields_List}
use Rattle.blanking.proofs.Cells.{group_reached}
use Rattle.blanking.proofs.group_reaches.Goals as goal

pub returns : goal.returns
returns c =
    let t = c.args.threshold in
    let is = fold_from_yields_List _ (λ a x. a || leb t x) false c.fold.result c.fold.ensures.ran (YieldsList-from_slice c.args.group.now cc) (λ a x b q k. search (rules, tests)) in
    rw is (group_reached t c.args.group.now)
