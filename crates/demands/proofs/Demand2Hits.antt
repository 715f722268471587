-- Demand 2: "Asked for the first hit from a cell on, the program gives it, and says there is none exactly when there is
-- none." And how 01 says that the hits of a source follow each other. Assumes nothing.
use Rattle.std.specs.Prelude.{Result, Option}
use Rattle.scope.specs.declared.Refusal.{Refusal}
use Prim.Native.Nat.{ℕ, ◌+◌, ◌*◌, ◌/◌, ◌%◌}
use native.Mathlib.Nat.{div-add-mod'}
use native.Mathlib.Omega.{arith}
use mathlib.Core.Path.{◌≡◌, ap, ◌∙◌}
use mathlib.Core.Logic.{◌↔◌}
use mathlib.Core.Option.{some, none}
use lib.IntN.{ℤ}
use Rattle.scope.specs.declared.Run.{Run}
use Rattle.scope.specs.declared.Source.{Source}
use Rattle.scope.specs.declared.RunCell.{RunCell}
use Rattle.scope.specs.Run.{ValidRun, ValidSource, line_of, offset_of}
use Rattle.scope.specs.Hit.{Hits, hits_from}
use Rattle.scope.specs.Reply.{answered}
use Rattle.scope.proofs.Numbering.{offset_distance}
use Rattle.scope.proofs.Hits.{On, hits_on, on_period, on_gap}
use Rattle.vectors.specs.declared.Vector.{Vector}
use Rattle.vectors.specs.Vectors.{IsPair, IsSingle}
use Rattle.hits.specs.Promise.{first, says_first_hit, FirstHitPromise}
use Rattle.hits.specs.Proposition.{InWindow, NextHit, Cases}
use Rattle.hits.proofs.Proposition as Proposition
use Rattle.scope.specs.Table.{Silent}
use Rattle.hits.specs.Table.{first_hit_table}
use Rattle.demands.specs.FirstHit.{HitsCell, IsFirstHit, NoHitFrom, NextOnLine}
use Rattle.hits.proofs.Table.{first_hit_renders}
use Rattle.demands.proofs.FirstHits.{first_is, none_is}

module _ (run : Run) (source : Source) (start : RunCell) (r : Result (Option RunCell) Refusal) (fine : Silent (first_hit_table run source start)) (h : FirstHitPromise run source start r) where
  reads : says_first_hit r ≡ answered (first (hits_from run source start.0))
  unfolding FirstHitPromise
  reads = h ∙ rw ((first_hit_renders run source start).passes.1 fine).is

  -- "the program gives it": where the table has no complaint, the reply is the cell y exactly if y is the first hit from the
  -- start on.
  pub first_hit_at : (y : ℕ) → (says_first_hit r ≡ answered (some y)) ↔ IsFirstHit run source start.0 y
  first_hit_at y = let i = first_is run source start.0 y in let e = reads in (λ s. i.0 (cc), λ f. e ∙ ap answered (i.1 f))

  -- "and says there is none exactly when there is none".
  pub first_hit_none : (says_first_hit r ≡ answered none) ↔ NoHitFrom run source start.0
  first_hit_none = let i = none_is run source start.0 in let e = reads in (λ s. i.0 (cc), λ f. e ∙ ap answered (i.1 f))

-- ---- from hit to hit

-- "Where a pair exists, 002's proposition 2 gives the next hit after (i, j), with A = -I/2: add (α, β) if i ≥ A - α; add (γ, δ)
-- if i < A + I - γ; add both otherwise. Just one case applies."
pub proposition_two : (run : Run) (source : Source) → ValidRun run → (left right : Vector) → IsPair source.period (run.interval % source.period) run.window left right → (i : ℤ) (j : ℕ) → InWindow run i → Hits run source i j → Cases run source left right i j
proposition_two run source v left right pair i j = Proposition.proposition_two v pair

-- "A single vector leads from each hit to the next."
pub single_next : (run : Run) (source : Source) → ValidRun run → ValidSource source → (only : Vector) → IsSingle source.period (run.interval % source.period) run.window only → (i : ℤ) (j : ℕ) → InWindow run i → Hits run source i j → NextHit run source j i (j + only.line)
single_next run source v s only single i j = Proposition.single_next v s single

-- cells of one line are as far apart as their distances from its left edge
same_line : (run : Run) (x k : ℕ) → line_of run (x + k) ≡ line_of run x → (x + k) % run.window ≡ x % run.window + k
unfolding line_of
same_line run x k e =
    let I = run.window in
    let row : (x + k) / I ≡ x / I = omega arith in
    omega (arith, div-add-mod' x I, div-add-mod' (x + k) I, ap (λ n. n * I) row)

-- "For p < I a line may hold several hits, spaced p apart": so it is for every period.
pub spaced_on_line : (run : Run) (source : Source) (x : ℕ) → HitsCell run source x → NextOnLine run source x
spaced_on_line run source x h =
    let d = x % run.window in
    let j = line_of run x in
    let here = (on_cell x).0 h in
    record {
      hit = λ e. (on_cell (x + source.period)).1 (rw (same_line run x source.period e, e) ((on_period run source d j).1 here));
      none = λ k some below e hit.
          let far = same_line run x k e in
          omega (arith, on_gap run source d ((x + k) % run.window) j here (rw e at ((on_cell (x + k)).0 hit)) (omega arith));
    }
  where
    on_cell : (y : ℕ) → HitsCell run source y ↔ On run source (y % run.window) (line_of run y)
    on_cell y = hits_on run source (offset_of run y) (line_of run y) (y % run.window) (offset_distance run y)
