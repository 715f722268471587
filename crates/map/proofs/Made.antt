-- The map that the plain call makes is what adding makes of zeros; and what a call starts from, part by part. Assumes nothing.
use Prim.Native.Nat.{ℕ, zero, suc, ◌+◌, ◌-◌, ◌≤◌}
use native.Mathlib.Nat.{zero-add}
use native.Mathlib.Omega.{arith}
use mathlib.Core.Path.{◌≡◌, refl, sym, ap, ◌∙◌}
use mathlib.Core.List.{List}
use lib.ListN.{length, take, drop, length-drop}
use lib.Seq.{length-take-le}
use Rattle.rooms.specs.Lists.{UpTo, zeros}
use Rattle.rooms.proofs.Lists.{length_zeros, take_zeros, drop_zeros}
use Rattle.scope.specs.declared.Run.{Run}
use Rattle.scope.specs.Run.{cells_of}
use Rattle.sources.specs.declared.Entry.{Entry}
use Rattle.map.specs.declared.Start.{Start}
use Rattle.map.specs.declared.Start.TheVariants.{Clean, AsLent}
use Rattle.map.specs.Sum.{raised, summed}
use Rattle.map.specs.Promise.{weight_at, added, made}
use Rattle.map.specs.Inner.{RaisedFrom, start_of}
use Rattle.map.proofs.Raised.{untouched}
use Rattle.map.proofs.Entries.{added_length, added_within}

-- ---- the map made

-- summed by themselves, cells hold what they gain on zeros
summed_raised : (c : ℕ) (gain : ℕ → ℕ) (x n : ℕ) → summed c gain x n ≡ raised c gain x (zeros n)
unfolding summed raised zeros
summed_raised c gain x zero = refl
summed_raised c gain x (suc n) = rw (summed_raised c gain (suc x) n, zero-add (gain x))

module _ (c : ℕ) (run : Run) (entries : List Entry) where
  -- "the plain call equals it on a map of zeros"
  pub made_added : made c run entries ≡ added c run entries (zeros (cells_of run))
  unfolding made added
  made_added = summed_raised c (weight_at run entries) 0 (cells_of run)

  pub made_length : length (made c run entries) ≡ cells_of run
  made_length = ap length made_added ∙ added_length c run entries (zeros (cells_of run)) ∙ length_zeros (cells_of run)

  pub made_within : UpTo c (made c run entries)
  made_within = rw made_added (added_within c run entries (zeros (cells_of run)))

-- ---- what a call starts from

pub start_length : (start : Start) (map : List ℕ) → length (start_of start map) ≡ length map
start_length Clean map = length_zeros (length map)
start_length AsLent map = refl

-- a part that is as it was starts from its part of what the map starts from
pub start_part : (start : Start) {c : ℕ} {gain : ℕ → ℕ} {old : List ℕ} {x : ℕ} {cells : List ℕ} (k : ℕ) → RaisedFrom c gain (start_of start old) old 0 x cells → x + k ≤ length old → start_of start (take k (drop x cells)) ≡ take k (drop x (start_of start old))
start_part AsLent k so_far fits = untouched so_far k fits
start_part Clean {old = old} {x} {cells} k so_far fits =
    let l = so_far.as_long in
    let here : length (take k (drop x cells)) ≡ k = length-take-le k (drop x cells) (rw (length-drop x cells) (omega arith)) in
    ap zeros here ∙ sym (ap (take k) (drop_zeros x (length old)) ∙ take_zeros k (length old - x) (omega arith))
