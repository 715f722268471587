-- Request E5: "A source gets a third number, its phase s, below its period, with edges at s plus every whole multiple of p, negative ones
-- too." The theorems of demands 2 and 3 are of a source with any phase. Here is what the rule says of the phase, and of a source that has a
-- single vector. Assumes nothing.
use Prim.Native.Nat.{ℕ, ◌+◌, ◌*◌, ◌/◌, ◌%◌, ◌≤◌, ◌∣◌}
use native.Mathlib.Nat.{add-mul-mod_self_right}
use native.Mathlib.Omega.{arith}
use mathlib.Core.Path.{◌≡◌, ap, sym, subst, ◌∙◌}
use mathlib.Core.Logic.Iff
use mathlib.Core.Logic.{◌↔◌, ◌⊎◌}
use lib.IntN.{ℤ, pos, neg_ℤ, nat_abs, ◌+ℤ◌, ◌-ℤ◌, ◌*ℤ◌}
use Rattle.signed.proofs.Parts.{parts, up, dn, sum, apart, abs_parts, neg_up, neg_dn}
use Rattle.signed.proofs.Divides.{divides_apart, divides_turns}
use Rattle.lattice.specs.Gcd.{IsGcd}
use Rattle.scope.specs.declared.Run.{Run}
use Rattle.scope.specs.declared.Source.{Source}
use Rattle.scope.specs.Run.{ValidRun, ValidSource}
use Rattle.scope.specs.Hit.{instant, Hits}
use Rattle.hits.specs.Proposition.{InWindow}
use Rattle.hits.specs.Single.{SitAt, SitNowhere}
use Rattle.hits.proofs.Single as Single
use Rattle.demands.proofs.LineZero.{zero_hit}

-- ---- the rule

-- "edges at s plus every whole multiple of p, negative ones too": a source hits a cell exactly if the cell's instant is one of them.
pub hits_edges : (run : Run) (source : Source) (i : ℤ) (j : ℕ) → Hits run source i j ↔ ((k : ℤ) × (instant run i j ≡ pos source.phase +ℤ (k *ℤ pos source.period)))
unfolding Hits
hits_edges run source i j =
    let z = instant run i j in
    let s = pos source.phase in
    let p = pos source.period in
    Iff.trans (divides_turns source.period (z -ℤ s)) (
      λ t. (t.0, omega (arith, parts, t.1, sum z (neg_ℤ s), neg_up s, neg_dn s, sum s (t.0 *ℤ p))),
      λ t. (t.0, omega (arith, parts, t.1, sum z (neg_ℤ s), neg_up s, neg_dn s, sum s (t.0 *ℤ p))),
    )

-- At phase 0 the rule is 01's: "source p hits cell (i, j) exactly when p divides T·j - i".
pub phase_zero : (run : Run) (p : ℕ) (i : ℤ) (j : ℕ) → Hits run (record { period = p; phase = 0 }) i j ↔ (p ∣ nat_abs (instant run i j))
unfolding Hits
phase_zero run p i j = let same : instant run i j -ℤ pos 0 ≡ instant run i j = omega (arith, parts, sum (instant run i j) (pos 0)) in rw same (λ h. h, λ h. h)

-- the rule by remainders
by_remainder : (run : Run) (source : Source) (i : ℤ) (j : ℕ) → Hits run source i j ↔ (up (instant run i j) % source.period ≡ (dn (instant run i j) + source.phase) % source.period)
unfolding Hits
by_remainder run source i j =
    let z = instant run i j in
    let s = source.phase in
    divides_apart source.period (up z) (dn z + s) z (pos s) (omega (arith, parts, sum z (pos (dn z + s)), sum (pos s) (pos (up z))))

-- Sources of one period whose phases differ by a multiple of it hit the same.
pub phases_alike : (run : Run) (p s k : ℕ) (i : ℤ) (j : ℕ) → Hits run (record { period = p; phase = s + k * p }) i j ↔ Hits run (record { period = p; phase = s }) i j
phases_alike run p s k i j =
    let later = by_remainder run (record { period = p; phase = s + k * p }) i j in
    let own = by_remainder run (record { period = p; phase = s }) i j in
    let d = dn (instant run i j) in
    let whole : d + (s + k * p) ≡ d + s + k * p = omega arith in
    let same : (d + (s + k * p)) % p ≡ (d + s) % p = ap (λ n. n % p) whole ∙ add-mul-mod_self_right (d + s) k p in
    (λ h. own.1 (later.0 h ∙ same), λ h. later.1 (own.0 h ∙ sym same))

-- ---- a single vector

-- "Vectors stay; a single vector's hits may then sit at another single offset, or nowhere." g is the greatest common divisor of r and p.
module _ (run : Run) (source : Source) (v : ValidRun run) (w : ValidSource source) (g : ℕ) (is : IsGcd g (run.interval % source.period) source.period) where
  -- Which offsets are hit: one of the window, on some line, exactly if g divides i + s.
  pub hit_somewhere : (i : ℤ) → InWindow run i → ((j : ℕ) × Hits run source i j) ↔ (g ∣ nat_abs (i +ℤ pos source.phase))
  hit_somewhere = Single.hit_somewhere run source v w g is

  -- With g not below the window all hits sit at the one offset i of it for which g divides i + s, every p/g lines; if there is no such
  -- offset, on no line.
  pub single_either : run.window ≤ g → ((i : ℤ) × SitAt run source g i) ⊎ SitNowhere run source g
  single_either = Single.single_either run source v w g is

  -- At phase 0 it is offset 0, from line 0 on: "the only hits in the window are at offset 0, on multiples of p/g".
  pub single_zero : run.window ≤ g → source.phase ≡ 0 → (i : ℤ) (j : ℕ) → InWindow run i → Hits run source i j ↔ ((i ≡ pos 0) × (source.period / g ∣ j))
  single_zero narrow unphased i j inside =
      let h = run.window / 2 in
      let middle : InWindow run (pos 0) = record { left = omega (arith, parts, neg_up (pos h), neg_dn (pos h)); right = omega (arith, parts, v.narrow) } in
      let same : nat_abs (pos j -ℤ pos 0) ≡ j = omega (arith, parts, abs_parts (pos j -ℤ pos 0), apart (pos j -ℤ pos 0), sum (pos j) (neg_ℤ (pos 0)), neg_up (pos 0), neg_dn (pos 0)) in
      subst (λ n. Hits run source i j ↔ ((i ≡ pos 0) × (source.period / g ∣ n))) same (Single.single_hits run source v w g is narrow (pos 0) i 0 j middle inside (zero_hit run source unphased))
