-- The first of the hits from a cell on, by the rule alone: it is the first cell of the list, and there is none if the list is
-- empty. By the cells that are left. Assumes nothing.
use Prim.Native.Nat.{ℕ, zero, suc, ◌+◌, ◌≤◌, ◌<◌}
use native.Mathlib.Omega.{arith}
use native.Mathlib.Decide.{dec_lt}
use mathlib.Core.Path.{◌≡◌, refl, ap, subst, sym, ◌∙◌}
use mathlib.Core.Logic.{◌↔◌, ◌⊎◌, inl, inr}
use mathlib.Core.Bool.{true, false, true≢false}
use mathlib.Core.Option.{Option, some, none}
use Rattle.scope.specs.declared.Run.{Run}
use Rattle.scope.specs.declared.Source.{Source}
use Rattle.scope.specs.Run.{cells_of}
use Rattle.scope.specs.Hit.{is_hit, hits_from}
use Rattle.scope.proofs.Hits.{hit_hits, hit_or_miss, hits_end, hits_at, hits_skip}
use Rattle.hits.specs.Promise.{first}
use Rattle.demands.specs.FirstHit.{HitsCell, IsFirstHit, NoHitFrom}

module _ (run : Run) (source : Source) where
  -- what the first of a list of hits is to be
  abbrev Told : ℕ → Option ℕ → Type 0
  Told x none = NoHitFrom run source x
  Told x (some y) = IsFirstHit run source x y

  miss : (x : ℕ) → is_hit run source x ≡ false → HitsCell run source x → ⊥
  miss x e h = true≢false (sym ((hit_hits run source x).1 h) ∙ e)

  -- a cell that is not hit changes nothing
  none_on : (x y : ℕ) → is_hit run source x ≡ false → ((z : ℕ) → suc x ≤ z → z < y → HitsCell run source z → ⊥) → (z : ℕ) → x ≤ z → z < y → HitsCell run source z → ⊥
  none_on x y e none_after z h l i = go (dec_lt x z)
    where
      go : Dec (x < z) → ⊥
      go (yes k) = none_after z k l i
      go (no k) = let s : z ≡ x = omega arith in miss x e (subst (HitsCell run source) s i)

  told_on : (x : ℕ) → is_hit run source x ≡ false → (o : Option ℕ) → Told (suc x) o → Told x o
  told_on x e none t = none_on x (cells_of run) e t
  told_on x e (some y) t = record { from = omega arith; inside = t.inside; hit = t.hit; least = none_on x y e t.least }

  -- the first of the hits from x on, n cells before the end
  told : (n x : ℕ) → cells_of run ≤ x + n → Told x (first (hits_from run source x))
  told zero x e = rw (hits_end run source x (omega arith)) (λ z h l i. omega arith)
  told (suc n) x e = go (dec_lt x (cells_of run)) (hit_or_miss (is_hit run source x)) (told n (suc x) (omega arith))
    where
      go : Dec (x < cells_of run) → (is_hit run source x ≡ true) ⊎ (is_hit run source x ≡ false) → Told (suc x) (first (hits_from run source (suc x))) → Told x (first (hits_from run source x))
      go (no h) b t = rw (hits_end run source x (omega arith)) (λ z k l i. omega arith)
      go (yes h) (inl b) t = rw (hits_at run source x h b) (record { from = omega arith; inside = h; hit = (hit_hits run source x).0 b; least = λ z k l i. omega arith })
      go (yes h) (inr b) t = rw (hits_skip run source x b) (told_on x b (first (hits_from run source (suc x))) t)

  first_told : (x : ℕ) → Told x (first (hits_from run source x))
  first_told x = told (cells_of run) x (omega arith)

  -- the list of hits begins with y exactly if y is the first hit
  pub first_is : (x y : ℕ) → (first (hits_from run source x) ≡ some y) ↔ IsFirstHit run source x y
  first_is x y = (λ e. subst (Told x) e (first_told x), λ h. go h (first (hits_from run source x)) (first_told x))
    where
      go : IsFirstHit run source x y → (o : Option ℕ) → Told x o → o ≡ some y
      go h none t = absurd (t y h.from h.inside h.hit)
      go h (some z) t =
          let low : z < y → ⊥ = λ l. h.least z t.from l t.hit in
          let high : y < z → ⊥ = λ l. t.least y h.from l h.hit in
          let e : z ≡ y = omega (arith, low, high) in
          ap some e

  -- it is empty exactly if there is none
  pub none_is : (x : ℕ) → (first (hits_from run source x) ≡ none) ↔ NoHitFrom run source x
  none_is x = (λ e. subst (Told x) e (first_told x), λ h. go h (first (hits_from run source x)) (first_told x))
    where
      go : NoHitFrom run source x → (o : Option ℕ) → Told x o → o ≡ none
      go h none t = refl
      go h (some z) t = absurd (h z t.from t.inside t.hit)
