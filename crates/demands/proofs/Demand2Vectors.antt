-- Demand 2: "For each period, remainder below it and window no wider than it, the step vectors are those of Franke and
-- Kleinjung's first proposition, or the single vector where no such pair exists." Assumes nothing.
use Prim.Native.Nat.{ℕ, ◌*◌, ◌/◌, ◌%◌, ◌≤◌, ◌<◌, ◌∣◌}
use native.Mathlib.Omega.{arith}
use mathlib.Core.Path.{◌≡◌, ap, ◌∙◌}
use mathlib.Core.Logic.Iff
use mathlib.Core.Logic.{◌↔◌}
use mathlib.Core.Option.{none}
use lib.IntN.{ℤ, pos, neg_ℤ, nat_abs, ◌+ℤ◌, ◌-ℤ◌, ◌*ℤ◌}
use lib.Signed.{◌≤ℤ◌, ◌<ℤ◌}
use borrow.Author.Tests.{lt-leb, le-ltb, ne_eqb}
use Rattle.lattice.specs.Gcd.{IsGcd}
use Rattle.lattice.proofs.Stage.{ended}
use Rattle.lattice.proofs.Gcd.{gcd_unique, last_gcd}
use Rattle.lattice.proofs.Pair.{reach}
use Rattle.lattice.proofs.Differences.{go_mod}
use Rattle.signed.proofs.Parts.{parts, up, dn, sum, neg_up, neg_dn}
use Rattle.scope.specs.declared.Run.{Run}
use Rattle.scope.specs.declared.Source.{Source}
use Rattle.scope.specs.Run.{ValidRun, line_of}
use Rattle.scope.specs.Hit.{Hits, instant}
use Rattle.scope.specs.Refusal.{period_tests}
use Rattle.scope.specs.Reply.{Said, refused, answered}
use Rattle.scope.proofs.Judged.{Passes, both, sound}
use Rattle.scope.proofs.Limits.{valid_window_passes}
use Rattle.scope.proofs.Hits.{hit_hits, one_hit_on_line}
use Rattle.vectors.specs.declared.Vector.{Vector}
use Rattle.vectors.specs.declared.Steps.{Steps}
use Rattle.vectors.specs.Vectors.{vector, InLattice, IsPair, APair, Whole, Sum, IsSingle, Values, pair, single}
use Rattle.vectors.specs.Promise.{vectors_tests, says_vectors, Admits, VectorsPromise}
use Rattle.vectors.proofs.Unique as Theorems
use Rattle.vectors.proofs.Proposition as Proposition
use Rattle.demands.specs.FirstHit.{HitsCell}
use Rattle.demands.specs.StepVectors.{ValidQuestion, StepVectors}

-- what the demand asks with passes the tests
accepted : {p r I : ℕ} → ValidQuestion p r I → Passes (vectors_tests p r I)
unfolding vectors_tests period_tests
accepted {p} {r} {I} a =
    both (both (both (valid_window_passes (record { even = a.even; narrow = a.narrow; wide = a.wide }))
    (both (sound (ne_eqb p 0 (λ e. omega arith))) (sound (le-ltb 2147483647 p a.period)))) (sound (lt-leb p r a.remainder))) (sound (le-ltb p I a.fits))

-- A remainder below the period has a greatest common divisor with it (`gcd_unique`: one only), so that what is said of it below
-- is said for each remainder and period. It is where the division sequence comes below 1, which is 0.
pub gcd_exists : (r p : ℕ) → r < p → (g : ℕ) × IsGcd g r p
gcd_exists r p low =
    let end = reach {W = 1} low (omega arith) (omega arith) in
    let below = end.below in
    (end.n, last_gcd (ended end.stage (omega arith)))

single_is : {p r I g j : ℕ} {i : ℤ} → IsGcd g r p → IsSingle p r I (vector i j) ↔ ((I ≤ g) × (i ≡ pos 0) × (j ≡ p / g))
single_is {p} {r} {I} {g} {j} {i} is = (
  λ s. let same : s.g ≡ g = gcd_unique s.is_gcd is in (omega (arith, s.wide), s.at_zero, s.rises ∙ ap (λ n. p / n) same),
  λ h. record { g = g; is_gcd = is; wide = h.0; at_zero = h.1; rises = h.2 },
)

admits_is : {p r g : ℕ} (I : ℕ) → IsGcd g r p → (said : Said Values) → Admits none p r I said ↔ StepVectors p r I g said
admits_is I is (answered (pair α β γ δ)) = (λ h. h, λ h. h)
admits_is I is (answered (single i j)) = single_is is
admits_is I is (refused n place) = (λ h. h, λ h. h)

-- "the step vectors are those of Franke and Kleinjung's first proposition, or the single vector": a reply fits the promise
-- exactly if what it says is these.
pub vectors_are : (p r I g : ℕ) → ValidQuestion p r I → IsGcd g r p → (steps : Steps) → VectorsPromise p r I steps ↔ StepVectors p r I g (says_vectors steps)
unfolding VectorsPromise
vectors_are p r I g a is steps = rw (accepted a).is (admits_is I is (says_vectors steps))

-- "where no such pair exists": some pair meets the proposition's conditions exactly if g is less than the window.
pub pair_exists : (p r I g : ℕ) → ValidQuestion p r I → IsGcd g r p → APair p r I ↔ (g < I)
pair_exists p r I g a is = Theorems.pair_exactly_when a.remainder a.fits is

-- "with g = gcd(r, p) .. no pair exists exactly when g ≥ I".
pub no_pair_exists : (p r I g : ℕ) → ValidQuestion p r I → IsGcd g r p → (APair p r I → ⊥) ↔ (I ≤ g)
no_pair_exists p r I g a is = Theorems.no_pair_exactly_when a.remainder a.fits is

-- "At most one such pair exists."
pub pair_unique : (p r I : ℕ) {left right left' right' : Vector} → IsPair p r I left right → IsPair p r I left' right' → (left ≡ left') × (right ≡ right')
pair_unique p r I h h' = Theorems.pair_unique h h'

-- "(so they are a basis)": every point of the lattice is a whole combination of the pair.
pub pair_is_basis : (p r I : ℕ) {left right : Vector} → IsPair p r I left right → (i j : ℤ) → p ∣ nat_abs ((pos r *ℤ j) -ℤ i) → Whole left right i j
pair_is_basis p r I h = Proposition.pair_is_basis h

-- 002's first proposition, second half: within -I < i < I no vector is taken less than 0 times.
pub second_half : (p r I : ℕ) {left right : Vector} → IsPair p r I left right → (v : Vector) → InLattice p r v → neg_ℤ (pos I) <ℤ v.offset → v.offset <ℤ pos I → Sum left right v
second_half p r I h = Proposition.second_half h

whole_lattice : (run : Run) (source : Source) (i : ℤ) (j : ℕ) → Hits run source i j ↔ InLattice source.period run.interval (record { offset = i +ℤ pos source.phase; line = j })
unfolding Hits InLattice instant
whole_lattice run source i j =
    let t = pos (run.interval * j) in
    let s = pos source.phase in
    let same : (t -ℤ i) -ℤ s ≡ t -ℤ (i +ℤ s) = omega (arith, parts, sum t (neg_ℤ i), neg_up i, neg_dn i, sum (t -ℤ i) (neg_ℤ s), neg_up s, neg_dn s, sum i s, neg_up (i +ℤ s), neg_dn (i +ℤ s), sum t (neg_ℤ (i +ℤ s))) in
    rw same (λ h. h, λ h. h)

-- "With r = T mod p this is i ≡ r·j (mod p)", with the phase i + s ≡ r·j: a source hits an offset of a line exactly if the offset, moved
-- by the phase, lies with the line in the lattice of p and T mod p.
pub hits_lattice : (run : Run) (source : Source) (i : ℤ) (j : ℕ) → Hits run source i j ↔ InLattice source.period (run.interval % source.period) (record { offset = i +ℤ pos source.phase; line = j })
hits_lattice run source i j =
    let p = source.period in
    let T = run.interval in
    let moved = i +ℤ pos source.phase in
    let v : Vector = record { offset = moved; line = j } in
    let at : moved +ℤ pos (dn moved) ≡ pos (up moved) = omega (arith, parts, sum moved (pos (dn moved))) in
    let whole = Proposition.lies_go p T v (dn moved) (up moved) at in
    let rest = Proposition.lies_go p (T % p) v (dn moved) (up moved) at in
    Iff.trans (whole_lattice run source i j) (Iff.trans whole (Iff.trans (go_mod p T (dn moved) j (up moved)) (rest.1, rest.0)))

-- "For p ≥ I there is at most one hit on a line."
pub one_on_line : (run : Run) (source : Source) → ValidRun run → run.window ≤ source.period → (x y : ℕ) → HitsCell run source x → HitsCell run source y → line_of run x ≡ line_of run y → x ≡ y
one_on_line run source v wide x y h k e = one_hit_on_line v source x y wide ((hit_hits run source x).1 h) ((hit_hits run source y).1 k) e

-- 002's proposition 2, with A = -I/2: "add (α, β) if i ≥ A - α; add (γ, δ) if i < A + I - γ; add both otherwise. Just one case
-- applies": the first two never apply together.
pub one_case : (p r I : ℕ) {left right : Vector} → IsPair p r I left right → (i : ℤ) → (neg_ℤ (pos (I / 2)) -ℤ left.offset) ≤ℤ i → i <ℤ (neg_ℤ (pos (I / 2)) +ℤ pos I -ℤ right.offset) → ⊥
one_case p r I {left} {right} h i first second =
    let a = left.offset in
    let c = right.offset in
    let A = neg_ℤ (pos (I / 2)) in
    omega (arith, parts, h.apart, sum c (neg_ℤ a), sum A (neg_ℤ a), sum A (pos I), sum (A +ℤ pos I) (neg_ℤ c), neg_up a, neg_dn a, neg_up c, neg_dn c)
