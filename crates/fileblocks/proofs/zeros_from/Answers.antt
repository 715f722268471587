-- `fileblocks::zeros_from` meets its contract: the bytes from `from` on, as far as there are any, are looked at. Assumes nothing.
use mathlib.Core.Path.{◌≡◌, ap, ◌∙◌}
use mathlib.Core.Logic.{◌≢◌}
use borrow.Author.Rules.{rules}
use borrow.Author.Tests.{tests}
use Rattle.std.proofs.lemmas.Iterator.{cases_from_all, YieldsList-from_slice}
use Rattle.fileblocks.specs.FileBlock.{all_zero}
use Rattle.fileblocks.proofs.Filling.{all_zero_found, rest_from}
use Rattle.fileblocks.proofs.zeros_from.Goals as goal

pub returns : goal.returns
returns c =
    let some = cases_from_all _ _ c.all.result (λ byte. byte ≡ 0) (λ byte. byte ≢ 0) c.all.ensures.ran (YieldsList-from_slice _ c.iter.ensures.rest)
    (λ x q k. search (rules, tests)) (λ x q k. search (rules, tests)) in
    all_zero_found c.all.result _ some ∙ ap all_zero (rw c.min.ensures (rest_from c.args.from c.args.bytes.now))
