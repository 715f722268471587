-- `sources::Sources::entry` meets its contract: the three lists have the entry's numbers there. Assumes nothing.
use native.Mathlib.Omega.{arith}
use mathlib.Core.Path.{◌≡◌, sym, ap, ◌∙◌}
use mathlib.Core.List.{List}
use Prim.Native.Nat.{ℕ, ◌<◌}
use lib.ListN.{length}
use Rattle.std.specs.List.{slice_get}
use Rattle.sources.specs.declared.Entry.{Entry}
use Rattle.sources.specs.Entry.{entries_of}
use Rattle.sources.specs.Lists.{OneLength}
use Rattle.sources.proofs.Entries.{entries_length, entry_at}
use Rattle.sources.proofs.Sources.entry.Goals as goal

-- an entry that is in the list is in each of the three
inside : (periods weights phases : List ℕ) {entries : List Entry} {k : ℕ} → OneLength periods weights phases → entries_of periods weights phases ≡ entries → k < length entries → (k < length periods) × (k < length weights) × (k < length phases)
inside _ _ _ e v h = let l = entries_length _ _ _ e in let m = ap length v in let w = e.0 in let p = e.1 in (omega arith, omega arith, omega arith)

pub offset_bounds-periods-k : goal.offset_bounds-periods-k
offset_bounds-periods-k c = omega (arith, (inside _ _ _ c.self.invariant c.self.view_is c.requires).0, c.self.told.0.1)

pub bounds-periods-k : goal.bounds-periods-k
bounds-periods-k c = (inside _ _ _ c.self.invariant c.self.view_is c.requires).0

pub offset_bounds-phases-k : goal.offset_bounds-phases-k
offset_bounds-phases-k c = omega (arith, (inside _ _ _ c.self.invariant c.self.view_is c.requires).0, c.self.told.0.1)

pub bounds-phases-k : goal.bounds-phases-k
bounds-phases-k c = (inside _ _ _ c.self.invariant c.self.view_is c.requires).2

pub offset_bounds-weights-k : goal.offset_bounds-weights-k
offset_bounds-weights-k c = omega (arith, (inside _ _ _ c.self.invariant c.self.view_is c.requires).0, c.self.told.0.1)

pub bounds-weights-k : goal.bounds-weights-k
bounds-weights-k c = (inside _ _ _ c.self.invariant c.self.view_is c.requires).1

pub returns : goal.returns
returns c = ap (λ (l : List Entry). slice_get l c.args.k) (sym c.self.view_is) ∙ entry_at _ _ _ c.args.k c.self.invariant (inside _ _ _ c.self.invariant c.self.view_is c.requires).0
