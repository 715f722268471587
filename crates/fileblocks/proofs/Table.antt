-- The tests of a block say what its rows of 01's table say. Assumes nothing.
use Prim.Native.Nat.{ℕ, zero, suc, ◌+◌, ◌-◌, ◌≤◌, ◌<◌}
use native.Mathlib.Omega.{arith}
use native.Mathlib.Decide.{dec_lt, ℕ_discrete}
use mathlib.Core.Path.{◌≡◌, refl, sym, ap, ◌∙◌}
use mathlib.Core.Logic.{◌↔◌, ◌⊎◌, ◌≢◌, inl, inr, ⊎_elim}
use mathlib.Core.Bool.{true, false, not, false≢true}
use mathlib.Core.List.{List, [], ◌∷◌}
use lib.ListN.{get_or, take, drop, length-take, get_or-eq_default}
use lib.Seq.{get_or-take, get_or-drop}
use borrow.Author.Tests.{eq-eqb, ne_eqb, not-true}
use Rattle.scope.specs.Refusal.{number}
use Rattle.scope.proofs.Hits.{hit_or_miss}
use Rattle.scope.proofs.Rendered.{Renders, ◌next◌, one}
use Rattle.fileblocks.specs.FileBlock.{content_at, content_bytes, four_at, contents, all_zero, sealed_with, file_block_tests}
use Rattle.fileblocks.specs.Table.{NotZero, BadCheck, file_block_table}
use Rattle.fileblocks.proofs.FileBlock.{sealed_right}

-- some number of the list is not zero
record Somewhere (bytes : List ℕ) : Type 0 where
  at : ℕ
  nonzero : get_or bytes at 0 ≢ 0

somewhere : (bytes : List ℕ) → (not (all_zero bytes) ≡ true) ↔ Somewhere bytes
unfolding all_zero
somewhere [] = (λ e. absurd (false≢true e), λ s. absurd (s.nonzero refl))
somewhere (byte ∷ bytes) = go (ℕ_discrete byte 0) (somewhere bytes)
  where
    behind : (k : ℕ) → byte ≡ 0 → get_or (byte ∷ bytes) k 0 ≢ 0 → Somewhere bytes
    behind zero e n = absurd (n e)
    behind (suc k) e n = record { at = k; nonzero = n }

    go : Dec (byte ≡ 0) → (not (all_zero bytes) ≡ true) ↔ Somewhere bytes → (not (all_zero (byte ∷ bytes)) ≡ true) ↔ Somewhere (byte ∷ bytes)
    go (yes e) rest = rw (eq-eqb byte 0 e) (λ h. let s = rest.0 h in record { at = suc s.at; nonzero = s.nonzero }, λ s. rest.1 (behind s.at e s.nonzero))
    go (no n) rest = rw (ne_eqb byte 0 n) (λ h. record { at = 0; nonzero = n }, λ s. refl)

-- the first m of the bytes from d on, and of these the ones from s on
pub not_zero : (bytes : List ℕ) (d s m : ℕ) → (not (all_zero (drop s (take m (drop d bytes)))) ≡ true) ↔ NotZero bytes (d + s) (d + m)
not_zero bytes d s m = (λ e. let w = (somewhere part).0 e in to w.at w.nonzero (dec_lt (s + w.at) m), λ z. (somewhere part).1 (from z))
  where
    part : List ℕ
    part = drop s (take m (drop d bytes))

    byte : (i : ℕ) → s + i < m → get_or part i 0 ≡ get_or bytes (d + (s + i)) 0
    byte i h = get_or-drop s (take m (drop d bytes)) i 0 ∙ get_or-take m (drop d bytes) (s + i) 0 h ∙ get_or-drop d bytes (s + i) 0

    past : (i : ℕ) → m ≤ s + i → get_or part i 0 ≡ 0
    past i h = get_or-drop s (take m (drop d bytes)) i 0 ∙ get_or-eq_default (take m (drop d bytes)) 0 (omega (arith, length-take m (drop d bytes)))

    to : (i : ℕ) → get_or part i 0 ≢ 0 → Dec (s + i < m) → NotZero bytes (d + s) (d + m)
    to i n (yes h) = record { at = d + (s + i); low = omega arith; high = omega arith; nonzero = λ e. n (byte i h ∙ e) }
    to i n (no h) = absurd (n (past i (omega (arith, h))))

    from : NotZero bytes (d + s) (d + m) → Somewhere part
    from z =
        let i = z.at - (d + s) in
        let k : d + (s + i) ≡ z.at = omega arith in
        record { at = i; nonzero = λ e. z.nonzero (ap (λ j. get_or bytes j 0) (sym k) ∙ sym (byte i (omega arith)) ∙ e) }

-- the number or the check of a block is wrong
pub not_sealed : (k : ℕ) (block : List ℕ) → (not (sealed_with k block) ≡ true) ↔ BadCheck k block
not_sealed k block = (λ e. to (ℕ_discrete (four_at block 0) k) (not-true (sealed_with k block) e), λ bad. from bad (hit_or_miss (sealed_with k block)))
  where
    to : Dec (four_at block 0 ≡ k) → sealed_with k block ≡ false → BadCheck k block
    to (yes number) e = inr (λ check. false≢true (sym e ∙ (sealed_right k block).1 (number, check)))
    to (no n) e = inl n

    from : BadCheck k block → (sealed_with k block ≡ true) ⊎ (sealed_with k block ≡ false) → not (sealed_with k block) ≡ true
    from bad (inl e) = let right = (sealed_right k block).0 e in absurd (⊎_elim (λ n. n right.0) (λ n. n right.1) bad)
    from bad (inr e) = ap not e

pub file_block_renders : (k size : ℕ) (block : List ℕ) → Renders (file_block_tests k size block) (file_block_table k size block)
unfolding file_block_tests contents
file_block_renders k size block = one (not_sealed k block) next one (not_zero block content_at size content_bytes)
