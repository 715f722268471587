-- Where the hits of a single vector's source lie, at any phase. Assumes nothing.
use Prim.Native.Nat.{ℕ, ◌+◌, ◌-◌, ◌/◌, ◌%◌, ◌≤◌, ◌<◌, ◌∣◌}
use native.Mathlib.Nat.{mod-lt, mul-div_cancel'}
use native.Mathlib.Omega.{arith}
use mathlib.Core.Path.{◌≡◌, sym, subst}
use mathlib.Core.Logic.Iff
use mathlib.Core.Logic.{◌↔◌, ◌⊎◌, inl, inr}
use lib.IntN.{ℤ, pos, neg_ℤ, nat_abs, ◌+ℤ◌, ◌-ℤ◌}
use Rattle.signed.proofs.Parts.{parts, sum, apart, abs_parts, neg_up, neg_dn}
use Rattle.signed.proofs.Divides.{divides_apart}
use Rattle.lattice.specs.Gcd.{IsGcd}
use Rattle.lattice.proofs.Congruence.{Cong, split, cong_sym, cong_trans, cong_cancel, cong_mix, cong_mod, cong_below, cong_iff_mod}
use Rattle.lattice.proofs.Differences.{Go, go_mod, on_back}
use Rattle.lattice.proofs.Reach.{go_somewhere}
use Rattle.lattice.proofs.Next.{period, single_distance}
use Rattle.scope.specs.declared.Run.{Run}
use Rattle.scope.specs.declared.Source.{Source}
use Rattle.scope.specs.Run.{ValidRun, ValidSource}
use Rattle.scope.specs.Hit.{Hits}
use Rattle.scope.proofs.Hits.{hits_on}
use Rattle.search.proofs.Cells.{Points, on_points, way, arrive}
use Rattle.hits.specs.Proposition.{InWindow}
use Rattle.hits.specs.Single.{SitAt, SitNowhere}
use Rattle.hits.proofs.Proposition.{Far, far, point}

-- g is the greatest common divisor of r and p
module _ (run : Run) (source : Source) (v : ValidRun run) (w : ValidSource source) (g : ℕ) (is : IsGcd g (run.interval % source.period) source.period) where
  -- g divides an offset that is moved by the phase exactly if the distance that it makes is congruent to the window's middle
  divides_distance : (i : ℤ) {d : ℕ} → i +ℤ pos (run.window / 2) ≡ pos d → (g ∣ nat_abs (i +ℤ pos source.phase)) ↔ Cong g (run.window / 2) (d + source.phase)
  divides_distance i {d} e =
      let h = run.window / 2 in
      let s = source.phase in
      let same : pos (d + s) -ℤ pos h ≡ i +ℤ pos s = omega (arith, parts, e, sum i (pos h), sum i (pos s), sum (pos (d + s)) (neg_ℤ (pos h)), neg_up (pos h), neg_dn (pos h)) in
      let rest = divides_apart g (d + s) h (pos (d + s)) (pos h) (omega (arith, parts, sum (pos (d + s)) (pos h), sum (pos h) (pos (d + s)))) in
      let cong = cong_iff_mod g (d + s) h in (
        λ k. cong_sym (cong.1 (rest.0 (subst (λ z. g ∣ nat_abs z) (sym same) k))),
        λ c. subst (λ z. g ∣ nat_abs z) same (rest.1 (cong.0 (cong_sym c))),
      )

  -- a hit is a way from the middle of line 0 to where the phase brings it
  from_middle : (i : ℤ) {d : ℕ} (j : ℕ) → i +ℤ pos (run.window / 2) ≡ pos d → Hits run source i j ↔ Go source.period (run.interval % source.period) (run.window / 2) j (d + source.phase)
  from_middle i {d} j e =
      Iff.trans (hits_on run source i j d e) (Iff.trans (on_points run source d j) (Iff.trans middle (go_mod source.period run.interval (run.window / 2) j (d + source.phase))))
    where
      middle : Points run source d j ↔ Go source.period run.interval (run.window / 2) j (d + source.phase)
      middle = (
        λ o. record { cong = record { up = o.cong.up; down = o.cong.down; same = omega (arith, o.cong.same) } },
        λ m. record { cong = record { up = m.cong.up; down = m.cong.down; same = omega (arith, m.cong.same) } },
      )

  -- Which offset: one of the window is hit, on some line, exactly if g divides i + s.
  pub hit_somewhere : (i : ℤ) → InWindow run i → ((j : ℕ) × Hits run source i j) ↔ (g ∣ nat_abs (i +ℤ pos source.phase))
  hit_somewhere i inside =
      let f = far v source inside in
      let leads = go_somewhere (run.window / 2) (f.d + source.phase) (mod-lt run.interval w.ticks) is in
      let divides = divides_distance i f.is in (
        λ hit. divides.1 (leads.0 (hit.0, (from_middle i hit.0 f.is).0 hit.1)),
        λ k. let line = leads.1 (divides.0 k) in (line.0, (from_middle i line.0 f.is).1 line.1),
      )

  -- one line and a later one at the same distance
  module _ (narrow : run.window ≤ g) where
    turns : (d Y : ℕ) → Go source.period (run.interval % source.period) d Y d ↔ (source.period / g ∣ Y)
    turns d Y = period (source.period / g) d Y (omega (arith, w.ticks)) is (mul-div_cancel' g is.divides_right)

    -- two hits, the second no earlier
    both : (i i' : ℤ) {j j' : ℕ} → InWindow run i → InWindow run i' → j ≤ j' → Hits run source i j → Hits run source i' j' → (i' ≡ i) × (source.period / g ∣ j' - j)
    both i i' {j} {j'} inside inside' l hit hit' =
        let f = far v source inside in
        let f' = far v source inside' in
        let go = way run source l (point v source i f.is hit) (point v source i' f'.is hit') in
        let stays : f'.d ≡ f.d = single_distance is narrow f.below f'.below go in
        let e = f.is in
        let e' = f'.is in (
          omega (arith, parts, sum i (pos (run.window / 2)), sum i' (pos (run.window / 2))),
          (turns f.d (j' - j)).0 (subst (λ x. Go source.period (run.interval % source.period) f.d (j' - j) x) stays go),
        )

    -- From one hit in the window all others follow, before it and after it: they are at its offset, p/g lines apart.
    pub single_hits : (i i' : ℤ) (j j' : ℕ) → InWindow run i → InWindow run i' → Hits run source i j → Hits run source i' j' ↔ ((i' ≡ i) × (source.period / g ∣ nat_abs (pos j' -ℤ pos j)))
    single_hits i i' j j' inside inside' hit = (to (split j j'), from (split j j'))
      where
        size : nat_abs (pos j' -ℤ pos j) ≡ (j' - j) + (j - j')
        size = omega (arith, abs_parts (pos j' -ℤ pos j), apart (pos j' -ℤ pos j), sum (pos j') (neg_ℤ (pos j)), neg_up (pos j), neg_dn (pos j))

        to : (j < j') ⊎ (j' ≤ j) → Hits run source i' j' → (i' ≡ i) × (source.period / g ∣ nat_abs (pos j' -ℤ pos j))
        to (inl l) hit' =
            let b = both i i' inside inside' (omega arith) hit hit' in
            let same : j' - j ≡ nat_abs (pos j' -ℤ pos j) = omega (arith, size) in
            (b.0, subst (λ n. source.period / g ∣ n) same b.1)
        to (inr l) hit' =
            let b = both i' i inside' inside l hit' hit in
            let same : j - j' ≡ nat_abs (pos j' -ℤ pos j) = omega (arith, size) in
            (sym b.0, subst (λ n. source.period / g ∣ n) same b.1)

        from : (j < j') ⊎ (j' ≤ j) → (i' ≡ i) × (source.period / g ∣ nat_abs (pos j' -ℤ pos j)) → Hits run source i' j'
        from order h =
            let f = far v source inside in
            subst (λ z. Hits run source z j') (sym h.0) ((hits_on run source i j' f.d f.is).1 ((on_points run source f.d j').1 (there f order h.1)))
          where
            there : (f : Far v source i) → (j < j') ⊎ (j' ≤ j) → source.period / g ∣ nat_abs (pos j' -ℤ pos j) → Points run source f.d j'
            there f (inl l) k =
                let same : nat_abs (pos j' -ℤ pos j) ≡ j' - j = omega (arith, size) in
                let line : j + (j' - j) ≡ j' = omega arith in
                subst (λ y. Points run source f.d y) line (arrive run source (point v source i f.is hit) ((turns f.d (j' - j)).1 (subst (λ n. source.period / g ∣ n) same k)))
            there f (inr l) k =
                let same : nat_abs (pos j' -ℤ pos j) ≡ j - j' = omega (arith, size) in
                let line : j ≡ j' + (j - j') = omega arith in
                let back = (turns f.d (j - j')).1 (subst (λ n. source.period / g ∣ n) same k) in
                on_back (subst (λ y. Points run source f.d y) line (point v source i f.is hit)) ((go_mod source.period run.interval f.d (j - j') f.d).1 back)

    -- the distance, below g, at which the phase brings the middle of line 0
    abbrev sought : ℕ
    sought = (run.window / 2 + (g - source.phase % g)) % g

    sought_is : Cong g (run.window / 2) (sought + source.phase)
    sought_is =
        let h = run.window / 2 in
        let s = source.phase in
        let some : 0 < g = omega (arith, v.narrow) in
        let whole : s % g + (g - s % g) ≡ g = omega (arith, mod-lt s some) in
        let moved : Cong g (sought + s) (h + g) = cong_mix 1 1 0 (cong_mod g (h + (g - s % g))) (cong_sym (cong_mod g s)) (omega arith) (omega (arith, whole)) in
        cong_sym (cong_trans moved (record { up = 0; down = 1; same = omega arith }))

    -- if g divides an offset of the window that is moved by the phase, that distance lies in the window
    sought_inside : (i : ℤ) → InWindow run i → g ∣ nat_abs (i +ℤ pos source.phase) → sought < run.window
    sought_inside i inside k =
        let f = far v source inside in
        let near = f.below in
        let same = cong_cancel source.phase (cong_trans (cong_sym ((divides_distance i f.is).0 k)) sought_is) in
        let is = cong_below same (omega arith) (mod-lt (run.window / 2 + (g - source.phase % g)) (omega (arith, v.narrow))) in
        omega arith

    -- "a single vector's hits may then sit at another single offset, or nowhere": at the one offset i of the window for which g divides
    -- i + s, every p/g lines; if there is no such offset, on no line.
    pub single_either : ((i : ℤ) × SitAt run source g i) ⊎ SitNowhere run source g
    single_either = go (split sought run.window)
      where
        go : (sought < run.window) ⊎ (run.window ≤ sought) → ((i : ℤ) × SitAt run source g i) ⊎ SitNowhere run source g
        go (inl l) =
            let h = run.window / 2 in
            let i = pos sought -ℤ pos h in
            let is : i +ℤ pos h ≡ pos sought = omega (arith, parts, sum (pos sought) (neg_ℤ (pos h)), neg_up (pos h), neg_dn (pos h), sum i (pos h)) in
            let inside : InWindow run i = record {
              left = omega (arith, parts, sum (pos sought) (neg_ℤ (pos h)), neg_up (pos h), neg_dn (pos h));
              right = omega (arith, parts, sum (pos sought) (neg_ℤ (pos h)), neg_up (pos h), neg_dn (pos h), v.even);
            } in
            let divides = (divides_distance i is).1 sought_is in
            let hit = (hit_somewhere i inside).1 divides in
            inl (i, record { inside = inside; divides = divides; line = hit.0; hits = λ i' j w. single_hits i i' hit.0 j inside w hit.1 })
        go (inr l) =
            let none : (i : ℤ) → InWindow run i → g ∣ nat_abs (i +ℤ pos source.phase) → ⊥ = λ i inside k. omega (arith, sought_inside i inside k) in
            inr (record { divides = none; none = λ i j inside hit. none i inside ((hit_somewhere i inside).0 (j, hit)) })
