-- What a listing keeps on its way: n hits are written, the hits left are those from x on, and past the n the room is as it
-- was. From there: it starts, it passes over cells that are not hit, it writes, it ends. Assumes nothing.
use Prim.Native.Nat.{ℕ, suc, ◌+◌, ◌≤◌, ◌<◌, min}
use native.Mathlib.Omega.{arith}
use native.Mathlib.Numerals.{add-one}
use mathlib.Core.Path.{◌≡◌, refl, sym, ap, ap₂, ◌∙◌}
use mathlib.Core.Bool.{true, false}
use mathlib.Core.List.{List, [], ◌∷◌, ◌++◌, append_assoc, append-nil}
use lib.ListN.{length, take, drop, set, length-append, length-set, take-append-drop, drop_of_length-le}
use lib.Seq.{take-suc-set, drop-set-lt, drop-drop, take_at, drop_at, take_all, length-take-le}
use Rattle.scope.specs.declared.Run.{Run}
use Rattle.scope.specs.declared.Source.{Source}
use Rattle.scope.specs.Run.{cells_of}
use Rattle.scope.specs.Hit.{is_hit, hits_from}
use Rattle.scope.specs.Reply.{answered}
use Rattle.scope.proofs.Hits.{hits_end, hits_at, hits_over}
use Rattle.std.specs.Prelude.{Some, None}
use Rattle.hits.specs.Promise.{first, listed, written}
use Rattle.search.specs.Inner.{FirstFrom}
use Rattle.hits.specs.Inner.{ListsFrom}
use Rattle.hits.proofs.Lists.{hits_same}

pub record Kept (run : Run) (source : Source) (start : ℕ) (before room : List ℕ) (n x : ℕ) : Type 0 where
  pub hits : hits_from run source start ≡ take n room ++ hits_from run source x
  pub past : drop n room ≡ drop n before
  pub count : n ≤ length room
  pub same : length room ≡ length before

module _ {run : Run} {source : Source} {start : ℕ} where
  pub kept_start : {room : List ℕ} {x : ℕ} → FirstFrom run source start x → Kept run source start room room 0 x
  kept_start f = record { hits = hits_same f; past = refl; count = omega arith; same = refl }

  pub kept_over : {before room : List ℕ} {n x y : ℕ} → x ≤ y → ((z : ℕ) → x ≤ z → z < y → is_hit run source z ≡ false) → Kept run source start before room n x → Kept run source start before room n y
  kept_over {before} {room} {n} {x} {y} le misses k = record {
    hits = k.hits ∙ ap (λ l. take n room ++ l) (hits_over run source x y le misses);
    past = k.past;
    count = k.count;
    same = k.same;
  }

  pub kept_write : {before room : List ℕ} {n x : ℕ} → n < length room → x < cells_of run → is_hit run source x ≡ true → Kept run source start before room n x → Kept run source start before (set room n x) (n + 1) (x + 1)
  kept_write {before} {room} {n} {x} h in' hit k = record {
    hits = k.hits ∙ rw (hits_at run source x in' hit, add-one n, add-one x, take-suc-set room n x h) (sym (append_assoc (take n room) (x ∷ []) (hits_from run source (suc x))));
    past = drop-set-lt (n + 1) room n x (omega arith) ∙ sym (drop-drop 1 n room) ∙ ap (λ l. drop 1 l) k.past ∙ drop-drop 1 n before;
    count = simp length-set (omega arith);
    same = length-set room n x ∙ k.same;
  }

  -- the room is full, and x is hit
  pub kept_more : {before room : List ℕ} {n x : ℕ} → n ≡ length room → x < cells_of run → is_hit run source x ≡ true → Kept run source start before room n x → ListsFrom run source start before (record { count = n; next = Some (record { 0 = x }) }) room
  unfolding listed written
  kept_more {before} {room} {n} {x} e in' hit k =
      let rest = hits_from run source (suc x) in
      let full : take n room ≡ room = take_all n room (omega arith) in
      let all : hits_from run source start ≡ room ++ x ∷ rest = k.hits ∙ rw (full, hits_at run source x in' hit) in
      let size : length (room ++ x ∷ rest) ≡ length room + suc (length rest) = length-append room (x ∷ rest) in
      let same = k.same in
      let c : min (length before) (length (room ++ x ∷ rest)) ≡ n = omega arith in
      record {
        says = sym (ap (λ hits. answered (listed hits before)) all ∙ ap₂ (λ count next. answered (record { count = count; next = next })) c (ap first (drop_at room (x ∷ rest) (length before) same)));
        stores = sym (ap (λ hits. written hits before) all ∙ ap₂ ◌++◌ (take_at room (x ∷ rest) (length before) same) (drop_of_length-le before {i = length (room ++ x ∷ rest)} (omega arith)) ∙ append-nil room);
      }

  -- no hit is left
  pub kept_done : {before room : List ℕ} {n x : ℕ} → cells_of run ≤ x → Kept run source start before room n x → ListsFrom run source start before (record { count = n; next = None }) room
  unfolding listed written
  kept_done {before} {room} {n} {x} out k =
      let all : hits_from run source start ≡ take n room = k.hits ∙ rw (hits_end run source x out, append-nil (take n room)) in
      let size : length (take n room) ≡ n = length-take-le n room k.count in
      let same = k.same in
      let few = k.count in
      let c : min (length before) n ≡ n = omega arith in
      record {
        says = rw (all, size, c, drop_of_length-le (take n room) {i = length before} (omega arith));
        stores = rw (all, size, take_all (length before) (take n room) (omega arith), ← k.past, take-append-drop n room);
      }
