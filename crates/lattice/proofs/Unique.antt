-- Up to a window of the pair's width every way is a sum of the pair's vectors, and so no second pair exists.
-- Assumes nothing.
use mathlib.Core.Path.{◌≡◌, sym, ap}
use mathlib.Core.Logic.{inl, ⊎_elim}
use Prim.Native.Nat.{ℕ, zero, suc, ◌+◌, ◌*◌, ◌≤◌, ◌<◌}
use native.Mathlib.Omega.{arith}
use Rattle.lattice.proofs.Congruence.{split}
use Rattle.lattice.proofs.Multiples.{zero_factor}
use Rattle.lattice.proofs.Differences.{Go, go_left, go_right}
use Rattle.lattice.proofs.Law.{Steps, law_left, law_right}
use Rattle.lattice.proofs.Pair.{Pair, extent}

-- every way within the window is a sum of steps of the pair (the second half of 002's proposition 1)
pub pair_steps : {p r W A β C δ d Y e : ℕ} → Pair p r W A β C δ → d < W → e < W → Go p r d Y e → Steps A β C δ d Y e
pair_steps {p} {W = W} {d = d} {e = e} h dl el g =
    let wide = h.wide in
    let fits = extent h in
    let pos : 0 < p = omega arith in
    ⊎_elim
    (λ l. law_right pos h.basis g (omega arith) (omega arith) (inl h.lines_left))
    (λ l. law_left pos h.basis g l (omega arith) (inl h.lines_right))
    (split d e)

-- k·β + l·δ lines, at least one of them β: no fewer than β, and if no more, then the way is β's own
alike : (k l β δ A C A' β' : ℕ) → β' ≡ k * β + l * δ → k * A ≡ A' + l * C → 1 ≤ A' → 1 ≤ β → 1 ≤ δ → (β ≤ β') × (β' ≤ β → A' ≡ A)
alike zero l β δ A C A' β' e f a b d = absurd (omega arith)
alike (suc k) l β δ A C A' β' e f a b d = (omega arith, equal)
  where
    equal : β' ≤ β → A' ≡ A
    equal h =
        let y : k ≡ 0 = zero_factor b (omega arith) in
        let z : l ≡ 0 = zero_factor d (omega arith) in
        omega (arith, ap (λ x. x * A) y, ap (λ x. x * C) z)

module _ {p r W A β C δ A' β' C' δ' : ℕ} (h : Pair p r W A β C δ) (h' : Pair p r W A' β' C' δ') where
  left_half : (β ≤ β') × (β' ≤ β → A' ≡ A)
  left_half =
      let o = extent h' in
      let w : Steps A β C δ A' β' 0 = pair_steps h h'.below_left (omega arith) (go_left h'.basis.lies_left (omega arith)) in
      alike w.lefts w.rights β δ A C A' β' w.lines (omega arith) o.left_some h.lines_left h.lines_right

  right_half : (δ ≤ δ') × (δ' ≤ δ → C' ≡ C)
  right_half =
      let o = extent h' in
      let w : Steps A β C δ 0 δ' C' = pair_steps h (omega arith) h'.below_right (go_right h'.basis.lies_right (omega arith)) in
      alike w.rights w.lefts δ β C A C' δ' (omega arith) (omega arith) o.right_some h.lines_right h.lines_left

-- two pairs of one width are equal
pub pair_unique : {p r W A β C δ A' β' C' δ' : ℕ} → Pair p r W A β C δ → Pair p r W A' β' C' δ' → (A ≡ A') × (β ≡ β') × (C ≡ C') × (δ ≡ δ')
pair_unique h h' =
    let l = left_half h h' in
    let l' = left_half h' h in
    let r = right_half h h' in
    let r' = right_half h' h in
    (sym (l.1 l'.0), omega (arith, l.0, l'.0), sym (r.1 r'.0), omega (arith, r.0, r'.0))
