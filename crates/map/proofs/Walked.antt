-- A source with at most one hit on a line, added hit by hit: what the walk keeps while it goes to the left, and what it keeps
-- from there to there. Assumes nothing.
use Prim.Native.Nat.{ℕ, ◌+◌, ◌≤◌, ◌<◌}
use native.Mathlib.Nat.{add-zero}
use native.Mathlib.Omega.{arith}
use mathlib.Core.Path.{◌≡◌, sym, ap, ◌∙◌, subst}
use mathlib.Core.Logic.{◌⊎◌, inl, inr, ⊎_elim}
use mathlib.Core.Bool.{true, false, true≢false}
use mathlib.Core.List.{List}
use lib.ListN.{length, get_or, set}
use lib.Signed.{◌<ℤ◌, lt_z}
use mir.Syntax.{w64}
use mir.Val.{to_z, of_z}
use Rattle.std.proofs.lemmas.Bool.{cases_lt}
use Rattle.scope.specs.declared.Run.{Run}
use Rattle.scope.specs.declared.Source.{Source}
use Rattle.scope.specs.Run.{ceiling, UpTo, cells_of, line_of, offset_of}
use Rattle.scope.specs.Hit.{is_hit}
use Rattle.scope.proofs.Numbering.{cell_order}
use Rattle.scope.proofs.Hits.{hit_or_miss, one_hit_on_line}
use Rattle.walk.specs.declared.Walk.{Walk}
use Rattle.walk.specs.declared.LineHit.{LineHit}
use Rattle.walk.specs.Inner.{Stands, Walking, NextLine, Walks, Begun}
use Rattle.walk.proofs.Walks.{out_true, out_false}
use Rattle.map.specs.Sum.{capped}
use Rattle.map.specs.Promise.{weight_at}
use Rattle.map.specs.Inner.{only, RaisedIn, Crosses, AddedLeft}
use Rattle.map.proofs.Raised.{RaisedBelow, starts, over, store, joined}

hit_weighs : (run : Run) (source : Source) (weight x : ℕ) → is_hit run source x ≡ true → weight_at run (only source weight) x ≡ weight
unfolding weight_at
hit_weighs run source weight x e = rw (e, add-zero)

miss_weighs : (run : Run) (source : Source) (weight x : ℕ) → is_hit run source x ≡ false → weight_at run (only source weight) x ≡ 0
unfolding weight_at
miss_weighs run source weight x e = rw (e, add-zero)

-- ---- to the left

hit_not_missed : (run : Run) (source : Source) (x : ℕ) → is_hit run source x ≡ true → is_hit run source x ≡ false → ⊥
hit_not_missed run source x h k = true≢false (sym h ∙ k)

-- where the walk stands on its way to the left: the hits before are added, from each of them it went left, and this is the next
-- one if it lies in the run
pub record Leftward (run : Run) (source : Source) (walk : Walk) (weight : ℕ) (from at : LineHit) (old map : List ℕ) : Type 0 where
  pub on : from.cell.0 ≤ at.cell.0
  pub done : RaisedIn ceiling (weight_at run (only source weight)) old from.cell.0 at.cell.0 map
  pub stands : at.cell.0 < cells_of run → Stands run source at
  pub left : (x : ℕ) → from.cell.0 ≤ x → x < at.cell.0 → is_hit run source x ≡ true → offset_of run x <ℤ walk.low → ⊥

module _ {run : Run} {source : Source} {walk : Walk} {from : LineHit} {old : List ℕ} (crosses : Crosses run source walk from old) (weight : ℕ) where
  -- on the line of a hit no other cell is hit
  alone : (x z : ℕ) → is_hit run source x ≡ true → x < z → line_of run x ≡ line_of run z → is_hit run source z ≡ false
  alone x z h less same = go (hit_or_miss (is_hit run source z))
    where
      go : (is_hit run source z ≡ true) ⊎ (is_hit run source z ≡ false) → is_hit run source z ≡ false
      go (inl k) = let e = one_hit_on_line crosses.valid source x z crosses.wide h k same in absurd (omega arith)
      go (inr k) = k

  -- from a hit to the next there is none
  between : {at to : LineHit} → Stands run source at → NextLine run source at to → (z : ℕ) → at.cell.0 < z → z < to.cell.0 → is_hit run source z ≡ false
  between {at} {to} here next z low high =
      ⊎_elim
      (λ further. next.none z further high)
      (λ same. alone at.cell.0 z here.hit low same.0)
      ((cell_order crosses.valid at.cell.0 z).0 low)

  module _ {at : LineHit} {map : List ℕ} (so_far : Leftward run source walk weight from at old map) where
    here : at.cell.0 < length map → Stands run source at
    here inside = let l = so_far.done.as_long in let w = crosses.whole in so_far.stands (omega arith)

    -- the next hit can be asked for
    pub walking : at.cell.0 < length map → Walking walk at
    walking inside =
        let l = so_far.done.as_long in
        let w = crosses.whole in
        record { run = run; source = source; valid = crosses.valid; source_valid = crosses.source_valid; leads = crosses.leads; stands = here inside; inside = omega arith }

    -- past the map the walk has ended
    pub left_ends : length map ≤ at.cell.0 → AddedLeft run source walk weight from at old map
    left_ends past =
        let l = so_far.done.as_long in
        record {
          on = so_far.on;
          done = so_far.done;
          stands = so_far.stands;
          turns = λ x y low less high hit right. absurd (so_far.left x low (omega arith) hit right);
          stops = λ inside. absurd (omega arith);
        }

    module _ {to : LineHit} (inside : at.cell.0 < length map) (walks : Walks walk at to) where
      next : NextLine run source at to
      next = walks run source crosses.valid crosses.source_valid crosses.leads (here inside)

      pub rises : at.cell.0 < to.cell.0
      rises = next.rises

      none : (z : ℕ) → at.cell.0 < z → z < to.cell.0 → is_hit run source z ≡ false
      none = between (here inside) next

      -- the hit is added
      put : {cell v : ℕ} → UpTo ceiling old → cell ≡ at.cell.0 → v ≡ capped ceiling (get_or map cell 0 + weight) → RaisedIn ceiling (weight_at run (only source weight)) old from.cell.0 to.cell.0 (set map cell v)
      put {cell} {v} small same e =
          let l = so_far.done.as_long in
          let weighs = hit_weighs run source weight at.cell.0 (here inside).hit in
          rw same (over (store so_far.done so_far.on (omega arith) ((rw same at e) ∙ ap (λ n. capped ceiling (get_or map at.cell.0 0 + n)) (sym weighs))) small next.rises (λ z low high. miss_weighs run source weight z (none z low high)))

      -- and the walk goes on to the left
      pub left_on : {cell v : ℕ} → UpTo ceiling old → cell ≡ at.cell.0 → v ≡ capped ceiling (get_or map cell 0 + weight) → lt_z (to_z w64 (of_z w64 at.offset)) (to_z w64 (of_z w64 walk.low)) ≡ false → Leftward run source walk weight from to old (set map cell v)
      left_on small is e test =
          let leftward = out_false crosses.valid crosses.source_valid crosses.leads (here inside) test in
          let r = next.rises in
          let o = so_far.on in
          record {
            on = omega arith;
            done = put small is e;
            stands = λ k. next.stands;
            left = λ x low high hit right. ⊎_elim
                (λ before. so_far.left x low before hit right)
                (λ not_before. ⊎_elim
                (λ beyond. absurd (hit_not_missed run source x hit (none x beyond high)))
                (λ not_beyond. let same : x ≡ at.cell.0 = omega arith in leftward (subst (λ i. i <ℤ walk.low) (sym (here inside).offset) (rw same at right)))
                (cases_lt at.cell.0 x))
                (cases_lt x at.cell.0);
          }

      -- or it turns, and that is all
      pub left_turns : {cell v : ℕ} → UpTo ceiling old → cell ≡ at.cell.0 → v ≡ capped ceiling (get_or map cell 0 + weight) → lt_z (to_z w64 (of_z w64 at.offset)) (to_z w64 (of_z w64 walk.low)) ≡ true → AddedLeft run source walk weight from to old (set map cell v)
      left_turns small is e test =
          let right = out_true crosses.valid crosses.source_valid crosses.leads (here inside) test in
          let r = next.rises in
          let o = so_far.on in
          record {
            on = omega arith;
            done = put small is e;
            stands = λ k. next.stands;
            turns = λ x y low less high hit turned. ⊎_elim
                (λ before. absurd (so_far.left x low before hit turned))
                (λ not_before. none y (omega arith) high)
                (cases_lt x at.cell.0);
            stops = λ _. (at.cell.0, so_far.on, next.rises, (here inside).hit, subst (λ i. i <ℤ walk.low) (here inside).offset right, none);
          }

-- ---- all hits

-- where the walk stands: the hits before are added, and this is the next one if it lies in the run
pub record Walked (run : Run) (source : Source) (weight : ℕ) (old map : List ℕ) (at : LineHit) : Type 0 where
  pub done : RaisedBelow ceiling (weight_at run (only source weight)) old at.cell.0 map
  pub stands : at.cell.0 < cells_of run → Stands run source at

-- it starts at the first hit
pub walk_starts : {run : Run} {source : Source} {old : List ℕ} {at : LineHit} (weight : ℕ) → UpTo ceiling old → Begun run source at → Walked run source weight old old at
walk_starts {run} {source} {old} {at} weight small begun =
    record { done = over (starts ceiling _ old 0) small (omega arith) (λ z low high. miss_weighs run source weight z (begun.first.none z low high)); stands = begun.stands }

-- and goes on from a hit after those to the left
pub walk_on : {run : Run} {source : Source} {walk : Walk} {weight : ℕ} {old map after : List ℕ} {at to : LineHit} → Walked run source weight old map at → AddedLeft run source walk weight at to map after → Walked run source weight old after to
walk_on so_far more = record { done = joined so_far.done (omega arith) more.on more.done; stands = more.stands }

-- what is walked over stays the run's map, wherever the walk stands
pub crosses_at : {run : Run} {source : Source} {walk : Walk} {weight : ℕ} {old map : List ℕ} {from at : LineHit} → Crosses run source walk from old → Walked run source weight old map at → Crosses run source walk at map
crosses_at crosses so_far =
    record {
      valid = crosses.valid;
      source_valid = crosses.source_valid;
      wide = crosses.wide;
      leads = crosses.leads;
      stands = so_far.stands;
      whole = so_far.done.as_long ∙ crosses.whole;
    }

-- one hit at least is added
pub walk_rises : {run : Run} {source : Source} {walk : Walk} {weight : ℕ} {map after : List ℕ} {at to : LineHit} → AddedLeft run source walk weight at to map after → at.cell.0 < length map → at.cell.0 < to.cell.0
walk_rises {run} {source} {walk} {weight} {map} {after} {at} {to} more inside =
    ⊎_elim
    (λ within. let s = more.stops within in omega (arith, s.1, s.2))
    (λ past. omega arith)
    (cases_lt to.cell.0 (length map))
