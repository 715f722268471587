-- `sources::Sources::len` meets its contract: there are as many entries as periods. Assumes nothing.
use mathlib.Core.Path.{sym, ap, ◌∙◌}
use lib.ListN.{length}
use Rattle.sources.proofs.Entries.{entries_length}
use Rattle.sources.proofs.Sources.len.Goals as goal

pub returns : goal.returns
returns c = sym (entries_length _ _ _ c.self.invariant) ∙ ap length c.self.view_is
