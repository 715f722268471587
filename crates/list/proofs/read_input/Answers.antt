-- `list::read_input` meets its contract: what a read brings comes behind what was read before it. Assumes nothing.
use Rattle.std.proofs.Common.{◌≡◌, ℕ, ◌+◌, ◌-◌, ◌≤◌, ◌∙◌, List, ◌++◌, length, take, ap, sym, subst, arith, rules, Option}
use Rattle.std.proofs.Math.Seq.{take-append-add, take-append-le, length-take-le}
use borrow.Rule.Slice.PartMut.{mid_of, put_mid, same_len_mid, mid_len}
use Rattle.std.proofs.KnownBytes.{Consumes-trans}
use Rattle.std.specs.Io.KnownBytes.{Consumes}
use Rattle.list.proofs.read_input.Invariants.{Front}
use Rattle.list.proofs.read_input.Goals as goal

-- the front of a room once more bytes lie behind its first ones
front : (room part rest : List ℕ) (count more : ℕ) → count ≤ length room → more ≤ length part → take (count + more) (take count room ++ (part ++ rest)) ≡ take count room ++ take more part
front room part rest count more h m =
    let long = length-take-le count room h in
    ap (λ n. take (n + more) (take count room ++ (part ++ rest))) (sym long)
    ∙ take-append-add (take count room) (part ++ rest) more
    ∙ ap (λ p. take count room ++ p) (take-append-le more part rest m)

read_more : {before between after : Option (List ℕ)} (room part : List ℕ) (count more : ℕ) → Front before between count room
    → length part ≡ length (mid_of count (length room - count) room) → more ≤ length part → Consumes between after (take more part)
    → Front before after (count + more) (put_mid count (length room - count) room part)
read_more room part count more f kept m h =
    let long = same_len_mid count (length room - count) room part kept in
    let mid = mid_len count (length room) room (omega arith) in
    record {
      within = omega (arith, f.within);
      read = subst (Consumes _ _) (sym (front room part _ count more f.within m)) (Consumes-trans _ _ _ _ _ f.read h);
    }

pub loop-count-preserved : goal.loop-count-preserved
loop-count-preserved g c = search (rules, read_more)
