-- What demand 2 says of the step vectors, over the promise alone. Assumes nothing.
use Prim.Native.Nat.{ℕ, ◌/◌, ◌≤◌, ◌<◌}
use mathlib.Core.Path.{◌≡◌, refl, sym, ap, ap₂, ◌∙◌}
use mathlib.Core.Logic.{◌↔◌, ⊎_elim}
use mathlib.Core.Option.{Option, some, none}
use native.Mathlib.Omega.{arith}
use lib.IntN.{pos}
use Rattle.lattice.specs.Gcd.{IsGcd}
use Rattle.lattice.proofs.Gcd.{gcd_unique}
use Rattle.lattice.proofs.Pair.{SomePair, pair_iff, pair_gcd, reach, reached_cases}
use Rattle.lattice.proofs.Unique as Lattice
use borrow.Author.Tests.{leb-false, ltb-false}
use Rattle.scope.proofs.Judged.{Passes, same_refusal}
use Rattle.scope.proofs.Limits.{passes_when, passes_first, passes_then, valid_window}
use Rattle.scope.specs.declared.Refusal.{Refusal}
use Rattle.scope.specs.Refusal.{complaint}
use Rattle.scope.specs.Reply.{Said, refused, answered}
use Rattle.vectors.specs.declared.Vector.{Vector}
use Rattle.vectors.specs.declared.Steps.{Steps}
use Rattle.vectors.specs.declared.Steps.TheVariants as reply
use Rattle.vectors.specs.Vectors.{IsPair, APair, IsSingle, Values, pair, single}
use Rattle.vectors.specs.Promise.{says_vectors, Admits, VectorsPromise, vectors_tests}
use Rattle.vectors.proofs.Bridge.{leftward, rightward, magnitudes, from_magnitudes}

-- "At most one such pair exists."
pub pair_unique : {p r I : ℕ} {l g l' g' : Vector} → IsPair p r I l g → IsPair p r I l' g' → (l ≡ l') × (g ≡ g')
pair_unique {p} {r} {I} {l} {g} {l'} {g'} h h' =
    let m = magnitudes h in
    let m' = magnitudes h' in
    let e = Lattice.pair_unique m.pair m'.pair in
    (m.left_is ∙ ap₂ leftward e.0 e.1 ∙ sym m'.left_is, m.right_is ∙ ap₂ rightward e.2 e.3 ∙ sym m'.right_is)

some_pair : {p r I : ℕ} → APair p r I ↔ SomePair p r I
some_pair = (
  λ h. let m = magnitudes h.is_pair in record { A = m.A; β = h.left.line; C = m.C; δ = h.right.line; pair = m.pair },
  λ h. record { left = leftward h.A h.β; right = rightward h.C h.δ; is_pair = from_magnitudes h.pair },
)

-- "no pair exists exactly when g ≥ I"
pub pair_exactly_when : {p r I g : ℕ} → r < p → I ≤ p → IsGcd g r p → APair p r I ↔ (g < I)
pair_exactly_when low fits is =
    let e = pair_iff low is in
    (λ h. (e.0 (some_pair.0 h)).0, λ h. some_pair.1 (e.1 (h, fits)))

pub no_pair_exactly_when : {p r I g : ℕ} → r < p → I ≤ p → IsGcd g r p → (APair p r I → ⊥) ↔ (I ≤ g)
no_pair_exactly_when low fits is =
    let e = pair_exactly_when low fits is in
    (λ h. let k : _ < _ → ⊥ = λ l. h (e.1 l) in omega (arith, k), λ h k. let l = e.0 k in omega arith)

-- equal vectors have equal numbers, and the other way round
numbers : {v w : Vector} → v ≡ w → (v.offset ≡ w.offset) × (v.line ≡ w.line)
numbers e = (ap (λ v. v.offset) e, ap (λ v. v.line) e)

same : {v w : Vector} → v.offset ≡ w.offset → v.line ≡ w.line → v ≡ w
same e f = λ i. record { offset = e i; line = f i }

-- a single vector is one alone
single_unique : {p r I : ℕ} {v v' : Vector} → IsSingle p r I v → IsSingle p r I v' → v ≡ v'
single_unique {p} {r} {I} {v} {v'} h h' =
    same (h.at_zero ∙ sym h'.at_zero) (h.rises ∙ ap (λ g. p / g) (gcd_unique h.is_gcd h'.is_gcd) ∙ sym h'.rises)

-- a pair and a single vector never answer the same call
never_both : {p r I : ℕ} {l g v : Vector} → IsPair p r I l g → IsSingle p r I v → ⊥
never_both h s =
    let below = pair_gcd (magnitudes h).pair s.is_gcd in
    let wide = s.wide in
    omega arith

-- one answer alone fits a complaint, or none
pub said_unique : (o : Option Refusal) (p r I : ℕ) (a b : Said Values) → Admits o p r I a → Admits o p r I b → a ≡ b
said_unique (some c) p r I a b h h' = h ∙ sym h'
said_unique none p r I (answered (pair α β γ δ)) (answered (pair α' β' γ' δ')) h h' =
    let e = pair_unique h h' in
    let l = numbers e.0 in
    let g = numbers e.1 in
    cc
said_unique none p r I (answered (pair α β γ δ)) (answered (single i j)) h h' = absurd (never_both h h')
said_unique none p r I (answered (single i j)) (answered (pair α β γ δ)) h h' = absurd (never_both h' h)
said_unique none p r I (answered (single i j)) (answered (single i' j')) h h' = let e = numbers (single_unique h h') in cc
said_unique none p r I (answered a) (refused n place) h h' = absurd h'
said_unique none p r I (refused n place) b h h' = absurd h

-- what is said is the reply
says_vectors_injective : (a b : Steps) → says_vectors a ≡ says_vectors b → a ≡ b
says_vectors_injective (reply.Pair l g) (reply.Pair l' g') e = ap₂ reply.Pair (same (cc) (cc)) (same (cc) (cc))
says_vectors_injective (reply.Pair l g) (reply.Single v) e = cc
says_vectors_injective (reply.Pair l g) (reply.Refused reason place) e = cc
says_vectors_injective (reply.Single v) (reply.Pair l g) e = cc
says_vectors_injective (reply.Single v) (reply.Single v') e = ap reply.Single (same (cc) (cc))
says_vectors_injective (reply.Single v) (reply.Refused reason place) e = cc
says_vectors_injective (reply.Refused reason place) (reply.Pair l g) e = cc
says_vectors_injective (reply.Refused reason place) (reply.Single v) e = cc
says_vectors_injective (reply.Refused reason place) (reply.Refused reason' place') e = let s = same_refusal e in ap₂ reply.Refused s.0 s.1

-- No second reply fits, whatever the input.
pub vectors_unique : (p r I : ℕ) (a b : Steps) → VectorsPromise p r I a → VectorsPromise p r I b → a ≡ b
unfolding VectorsPromise
vectors_unique p r I a b h h' = says_vectors_injective a b (said_unique (complaint (vectors_tests p r I)) p r I (says_vectors a) (says_vectors b) h h')

-- where there is no complaint a pair or a single vector answers
answer_exists : (p r I : ℕ) → r < p → 1 ≤ I → I ≤ p → (steps : Steps) × Admits none p r I (says_vectors steps)
answer_exists p r I low narrow fits = ⊎_elim (λ h. let q = some_pair.1 h in (reply.Pair q.left q.right, q.is_pair)) (λ h. alone h) (reached_cases (reach low narrow fits))
  where
    alone : (g : ℕ) × IsGcd g r p × (I ≤ g) → (steps : Steps) × Admits none p r I (says_vectors steps)
    alone h = (reply.Single (record { offset = pos 0; line = p / h.0 }), record { g = h.0; is_gcd = h.1; wide = h.2; at_zero = refl; rises = refl })

-- And one does.
pub vectors_exists : (p r I : ℕ) → (steps : Steps) × VectorsPromise p r I steps
unfolding VectorsPromise vectors_tests
vectors_exists p r I = go (complaint (vectors_tests p r I)) refl
  where
    go : (o : Option Refusal) → complaint (vectors_tests p r I) ≡ o → (steps : Steps) × Admits o p r I (says_vectors steps)
    go (some c) e = (reply.Refused c.reason c.place, refl)
    go none e =
        let passed : Passes (vectors_tests p r I) = record { is = e } in
        let low = leb-false p r (passes_when (passes_then (passes_first passed))) in
        let fits = ltb-false p I (passes_when (passes_then passed)) in
        let window = valid_window (passes_first (passes_first (passes_first passed))) in
        answer_exists p r I low (omega arith) fits
