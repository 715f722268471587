-- A list is walked in pieces of one size, of which the last may be shorter. Assumes nothing.
use Prim.Native.Nat.{ℕ, ◌+◌, ◌*◌, ◌≤◌, ◌<◌, min}
use mathlib.Core.Path.{◌≡◌, refl, sym, ap, ◌∙◌}
use mathlib.Core.List.{List, ◌++◌}
use native.Mathlib.Decide.{dec_le}
use native.Mathlib.Omega.{arith}
use lib.ListN.{length, take, drop, length-drop, drop_of_length-le}
use lib.Seq.{take-length, take_at, drop_at, drop-drop}
use Rattle.rooms.proofs.Lists.{take_take_min}

-- after k pieces `left` is to come
pub record Walked (size : ℕ) (all left : List ℕ) (k : ℕ) : Type 0 where
  pub is : left ≡ drop (size * k) all

pub walk_starts : (size : ℕ) (all : List ℕ) → Walked size all all 0
walk_starts size all = let z : size * 0 ≡ 0 = omega arith in record { is = rw z }

-- something is to come exactly while the pieces do not reach the end
pub walk_more : {size : ℕ} {all left : List ℕ} {k : ℕ} → Walked size all left k → 0 < length left → size * k < length all
walk_more {size} {all} {left} {k} w h = omega (arith, ap length w.is, length-drop (size * k) all)

pub walk_ends : {size : ℕ} {all left : List ℕ} {k : ℕ} → Walked size all left k → length left ≡ 0 → length all ≤ size * k
walk_ends {size} {all} {left} {k} w h = omega (arith, ap length w.is, length-drop (size * k) all)

drop_min : (n : ℕ) (l : List ℕ) → drop (min n (length l)) l ≡ drop n l
drop_min n l = go (dec_le n (length l))
  where
    go : Dec (n ≤ length l) → drop (min n (length l)) l ≡ drop n l
    go (yes h) = let e : min n (length l) ≡ n = omega arith in rw e
    go (no h) =
        let e : min n (length l) ≡ length l = omega arith in
        rw (e, drop_of_length-le l {i = n} (omega arith)) (drop_of_length-le l {i = length l} (omega arith))

-- of what is to come, the next piece and what is to come behind it
pub record Next (size : ℕ) (left part rest : List ℕ) : Type 0 where
  pub some : 0 < length left
  pub cut : left ≡ part ++ rest
  pub long : length part ≡ min size (length left)

module _ {size : ℕ} {all left part rest : List ℕ} {k : ℕ} (w : Walked size all left k) (n : Next size left part rest) where
  pub walk_part : part ≡ take size (drop (size * k) all)
  walk_part =
      sym (take_at part rest (length part) refl) ∙ ap (take (length part)) (sym n.cut)
      ∙ ap (λ m. take m left) n.long
      ∙ sym (take_take_min size (length left) left)
      ∙ ap (take size) (take-length left ∙ w.is)

  pub walk_on : Walked size all rest (k + 1)
  walk_on =
      let next : size * k + size ≡ size * (k + 1) = omega arith in
      record {
        is =
            sym (drop_at part rest (length part) refl) ∙ ap (drop (length part)) (sym n.cut)
            ∙ ap (λ m. drop m left) n.long
            ∙ drop_min size left
            ∙ ap (drop size) w.is
            ∙ drop-drop size (size * k) all
            ∙ ap (λ m. drop m all) next;
      }
