-- What a search for the first line that is blanked, and after it for the first that is not, tells of a stretch. Assumes nothing.
use Prim.Native.Nat.{ℕ, suc, ◌+◌, ◌-◌, ◌≤◌, ◌<◌}
use native.Mathlib.Decide.{dec_lt}
use native.Mathlib.Omega.{arith}
use mathlib.Core.Path.{◌≡◌}
use mathlib.Core.Bool.{true, false}
use Rattle.std.specs.Prelude.{Option, Some, None, unwrap_or}
use Rattle.blanking.specs.Stretches.{In}
use Rattle.blanking.specs.Inner.{NextLine, Begins}

module _ (last : ℕ) (So : ℕ → Type 0) (line : ℕ) where
  module _ (inside : (j : ℕ) → So j → j ≤ last) where
    -- no line is blanked from there on, so that there is no stretch
    pub no_stretch : NextLine last So line true None → (j : ℕ) → line ≤ j → So j → ⊥
    no_stretch n = λ j h so. n j h (omega (arith, inside j so)) so

    -- the line after the first stretch: the first that is not blanked, or the one after the last
    ends_at : (first : ℕ) (end : Option ℕ) → first ≤ last → NextLine last So (first + 1) false end → let after = unwrap_or end (last + 1) in (first + 1 ≤ after) × ((j : ℕ) → first + 1 ≤ j → j < after → So j) × (So after → ⊥)
    ends_at first (Some end) h n = (n.0, n.2, n.3)
    ends_at first None h n = (omega arith, λ j k l. n j k (omega arith), λ so. omega (arith, inside (last + 1) so))

    pub one_stretch : (first : ℕ) (end : Option ℕ) → NextLine last So line true (Some first) → NextLine last So (first + 1) false end → let after = unwrap_or end (last + 1) in Begins So line (record { first = first; last = after - 1 }) × (after + 1 ≡ after - 1 + 2)
    one_stretch first end n ends =
        let at = ends_at first end n.1 ends in
        let after = unwrap_or end (last + 1) in (
          record {
            below = n.0;
            gap = λ j h k. n.2 j h k;
            ordered = omega (arith, at.0);
            each = λ j i. each j i (dec_lt first j);
            after = λ so. at.2 (let is : suc (after - 1) ≡ after = omega (arith, at.0) in rw is at so);
          },
          omega (arith, at.0),
        )
      where
        each : (j : ℕ) → In (record { first = first; last = unwrap_or end (last + 1) - 1 }) j → Dec (first < j) → So j
        each j i (yes k) = let at = ends_at first end n.1 ends in at.1 j (omega arith) (omega (arith, i.1, at.0))
        each j i (no k) = let is : first ≡ j = omega (arith, i.0) in rw is at n.3
