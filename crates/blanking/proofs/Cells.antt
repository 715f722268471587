-- Cells that are looked at together: in a group, in one group after the other, and by the largest of them. Assumes nothing.
use Rattle.std.proofs.Common.{ℕ, zero, suc, ◌+◌, ◌-◌, ◌*◌, ◌/◌, ◌≤◌, ◌<◌, ◌≡◌, refl, sym, ◌↔◌, ◌⊎◌, inl, inr, Bool, true, false, ◌||◌, leb, List, [], ◌∷◌, length, get_or, take, drop, arith, MatchBool}
use Rattle.std.specs.List.{fold, HoldsAt, AllWithin}
use Rattle.std.specs.Simd.{first_chunks}
use Rattle.std.proofs.lemmas.Bool.{false≢true}
use native.Mathlib.Decide.{dec_lt}
use borrow.Author.Tests.{leb-true, le-leb}
use lib.ListN.{length-take, length-drop}
use lib.Seq.{get_or-take, get_or-drop, drop-drop}
use Rattle.blanking.specs.Inner.{Reaches}

module _ (threshold : ℕ) where
  -- the first of these cells is, or one of the others
  first_or : (x : ℕ) (xs : List ℕ) → Reaches (x ∷ xs) threshold ↔ ((threshold ≤ x) ⊎ Reaches xs threshold)
  first_or x xs = (λ r. to r.0 r.1 r.2, from)
    where
      to : (k : ℕ) → k < suc (length xs) → threshold ≤ get_or (x ∷ xs) k 0 → (threshold ≤ x) ⊎ Reaches xs threshold
      to zero h l = inl l
      to (suc k) h l = inr (k, omega arith, l)

      from : (threshold ≤ x) ⊎ Reaches xs threshold → Reaches (x ∷ xs) threshold
      from (inl l) = (0, omega arith, l)
      from (inr r) = (suc r.0, omega (arith, r.1), r.2)

  -- one of the first n is, or one of those after them
  part_or : (n : ℕ) (xs : List ℕ) → Reaches xs threshold ↔ (Reaches (take n xs) threshold ⊎ Reaches (drop n xs) threshold)
  part_or n xs = (λ r. to r (dec_lt r.0 n), from)
    where
      to : (r : Reaches xs threshold) → Dec (r.0 < n) → Reaches (take n xs) threshold ⊎ Reaches (drop n xs) threshold
      to r (yes l) = inl (r.0, simp length-take (omega (arith, r.1)), rw (get_or-take n xs r.0 0 l) r.2)
      to r (no l) =
          let back : n + (r.0 - n) ≡ r.0 = omega arith in
          inr (r.0 - n, simp length-drop (omega (arith, r.1)), rw (get_or-drop n xs (r.0 - n) 0, back) r.2)

      from : Reaches (take n xs) threshold ⊎ Reaches (drop n xs) threshold → Reaches xs threshold
      from (inl r) =
          let few = simp length-take at r.1 in
          (r.0, omega (arith, few), rw (get_or-take n xs r.0 0 (omega (arith, few))) at r.2)
      from (inr r) =
          let few = simp length-drop at r.1 in
          (n + r.0, omega (arith, few), rw (get_or-drop n xs r.0 0) at r.2)

  -- ---- in a group, where each cell is looked at

  group_tells : (xs : List ℕ) (reached : Bool) → (fold (λ a x. a || leb threshold x) reached xs ≡ true) ↔ ((reached ≡ true) ⊎ Reaches xs threshold)
  group_tells [] reached = (inl, none)
    where
      none : (reached ≡ true) ⊎ Reaches [] threshold → reached ≡ true
      none (inl e) = e
      none (inr r) = absurd (omega (arith, r.1))
  group_tells (x ∷ xs) true = let others = group_tells xs true in (λ e. inl refl, λ r. others.1 (inl refl))
  group_tells (x ∷ xs) false = let others = group_tells xs (leb threshold x) in (λ e. to (others.0 e), λ r. others.1 (from r))
    where
      to : (leb threshold x ≡ true) ⊎ Reaches xs threshold → (false ≡ true) ⊎ Reaches (x ∷ xs) threshold
      to (inl e) = inr ((first_or x xs).1 (inl (leb-true threshold x e)))
      to (inr r) = inr ((first_or x xs).1 (inr r))

      either : (threshold ≤ x) ⊎ Reaches xs threshold → (leb threshold x ≡ true) ⊎ Reaches xs threshold
      either (inl l) = inl (le-leb threshold x l)
      either (inr r) = inr r

      from : (false ≡ true) ⊎ Reaches (x ∷ xs) threshold → (leb threshold x ≡ true) ⊎ Reaches xs threshold
      from (inl e) = absurd (false≢true e)
      from (inr r) = either ((first_or x xs).0 r)

  pub group_reached : (xs : List ℕ) → (fold (λ a x. a || leb threshold x) false xs ≡ true) ↔ Reaches xs threshold
  group_reached xs = let g = group_tells xs false in (λ e. some (g.0 e), λ r. g.1 (inr r))
    where
      some : (false ≡ true) ⊎ Reaches xs threshold → Reaches xs threshold
      some (inl e) = absurd (false≢true e)
      some (inr r) = r

  -- ---- in one group after the other, and after these

  abbrev pub SomeGroup : List (List ℕ) → Type 0
  SomeGroup groups = (k : ℕ) × (k < length groups) × HoldsAt (λ group. Reaches group threshold) groups k

  abbrev pub NoGroup : List (List ℕ) → Type 0
  NoGroup groups = AllWithin (λ group. Reaches group threshold → ⊥) groups 0 (length groups)

  -- what `any` says of groups of n
  abbrev pub ToldOf : ℕ → List ℕ → Bool → Type 0
  ToldOf n cells found = let groups = first_chunks n (length cells / n) cells in MatchBool found (SomeGroup groups) (NoGroup groups)

  some_group : (n c : ℕ) (xs : List ℕ) → SomeGroup (first_chunks n c xs) → Reaches xs threshold
  some_group n zero xs s = absurd (omega (arith, s.1))
  some_group n (suc c) xs s = go (some_group n c (drop n xs)) s.0 s.1 s.2
    where
      go : (SomeGroup (first_chunks n c (drop n xs)) → Reaches (drop n xs) threshold) → (k : ℕ) → k < length (first_chunks n (suc c) xs) → HoldsAt (λ group. Reaches group threshold) (first_chunks n (suc c) xs) k → Reaches xs threshold
      go others zero h r = (part_or n xs).1 (inl (r []))
      go others (suc k) h r = (part_or n xs).1 (inr (others (k, omega arith, r)))

  no_group : (n c : ℕ) (xs : List ℕ) → NoGroup (first_chunks n c xs) → Reaches xs threshold → Reaches (drop (c * n) xs) threshold
  no_group n zero xs none r = let e : 0 * n ≡ 0 = omega arith in rw e r
  no_group n (suc c) xs none r = rw on (go (no_group n c (drop n xs)) ((part_or n xs).0 r))
    where
      on : drop (suc c * n) xs ≡ drop (c * n) (drop n xs)
      on = let e : suc c * n ≡ n + c * n = omega arith in rw e (sym (drop-drop (c * n) n xs))

      go : (NoGroup (first_chunks n c (drop n xs)) → Reaches (drop n xs) threshold → Reaches (drop (c * n) (drop n xs)) threshold) → Reaches (take n xs) threshold ⊎ Reaches (drop n xs) threshold → Reaches (drop (c * n) (drop n xs)) threshold
      go others (inl s) = absurd (none 0 [] (omega arith) (omega arith) s)
      go others (inr s) = others (λ k d l h. none (suc k) d (omega arith) (omega arith)) s

  module _ (n c : ℕ) (xs : List ℕ) where
    -- a group has one
    pub groups_reach : (found : Bool) → MatchBool found (SomeGroup (first_chunks n c xs)) (NoGroup (first_chunks n c xs)) → found ≡ true → Reaches xs threshold
    groups_reach true m e = some_group n c xs m
    groups_reach false m e = absurd (false≢true e)

    -- none has: then those after the groups tell
    pub rest_reaches : (found : Bool) → MatchBool found (SomeGroup (first_chunks n c xs)) (NoGroup (first_chunks n c xs)) → found ≡ false → Reaches (drop (c * n) xs) threshold ↔ Reaches xs threshold
    rest_reaches true m e = absurd (false≢true (sym e))
    rest_reaches false m e = (λ r. (part_or (c * n) xs).1 (inr r), no_group n c xs m)

  -- ---- one by one

  pub cells_reach : (xs : List ℕ) (found : Bool) → MatchBool found ((k : ℕ) × (k < length xs) × HoldsAt (λ x. threshold ≤ x) xs k) (AllWithin (λ x. threshold ≤ x → ⊥) xs 0 (length xs)) → (found ≡ true) ↔ Reaches xs threshold
  cells_reach xs true m = (λ e. (m.0, m.1, m.2 0), λ r. refl)
  cells_reach xs false m = (λ e. absurd (false≢true e), λ r. absurd (m r.0 0 (omega arith) (omega (arith, r.1)) r.2))
