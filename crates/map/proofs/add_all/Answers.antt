-- `map::add_all` meets its contract: the periods below 2,048 and those from there on make all of them. Assumes nothing.
use mathlib.Core.Path.{◌≡◌, ap, ◌∙◌}
use mathlib.Core.List.{List}
use mathlib.Core.Option.{none}
use Prim.Native.Nat.{ℕ}
use Rattle.scope.specs.declared.Run.{Run}
use Rattle.scope.specs.Run.{ceiling}
use Rattle.scope.specs.Refusal.{complaint}
use Rattle.sources.specs.declared.Entry.{Entry}
use Rattle.sources.specs.Entry.{list_tests}
use Rattle.map.specs.Promise.{added}
use Rattle.map.specs.Inner.{chosen}
use Rattle.map.proofs.Entries.{AllBelow, valid_entries, valid_below, chosen_all, added_chosen}
use Rattle.map.proofs.add_all.Goals as goal

module _ (run : Run) (cells : List ℕ) (entries : List Entry) (sound : complaint (list_tests ceiling 1 entries) ≡ none) where
  below : AllBelow 2147483648 entries
  below = valid_below ceiling entries (valid_entries ceiling 1 entries (record { is = sound }))

  at_once : {after : List ℕ} → after ≡ added ceiling run (chosen 0 2147483648 entries) cells → after ≡ added ceiling run entries cells
  at_once e = e ∙ ap (λ l. added ceiling run l cells) (chosen_all 2147483648 entries below)

  in_two : {between after : List ℕ} → between ≡ added ceiling run (chosen 0 2048 entries) cells → after ≡ added ceiling run (chosen 2048 2147483648 entries) between → after ≡ added ceiling run entries cells
  in_two e f = f ∙ ap (added ceiling run (chosen 2048 2147483648 entries)) e ∙ added_chosen ceiling run 2048 2147483648 entries cells below

pub returns-then-is_some_and : goal.returns-then-is_some_and
returns-then-is_some_and c = in_two _ _ _ c.requires.sound c.add_blocks.ensures c.add_chosen.ensures

pub returns-else-map-gt-LONG : goal.returns-else-map-gt-LONG
returns-else-map-gt-LONG c = at_once _ _ _ c.requires.sound c.add_below.ensures
