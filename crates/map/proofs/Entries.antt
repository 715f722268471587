-- Laws of list entries: what they weigh together, one after the other, chosen by their periods, and in blocks.
-- Assumes nothing.
use Prim.Native.Nat.{ℕ, suc, ◌+◌, ◌≤◌, ◌<◌}
use native.Mathlib.Nat.{add-zero, zero-add, add_assoc}
use native.Mathlib.Decide.{dec_lt}
use native.Mathlib.Omega.{arith}
use mathlib.Core.Path.{◌≡◌, refl, sym, ap, ◌∙◌}
use mathlib.Core.Bool.{Bool, true, false, cond}
use mathlib.Core.List.{List, [], ◌∷◌, ◌++◌}
use lib.Dec.{leb}
use lib.ListN.{length, get_or}
use borrow.Author.Tests.{lt-ltb, le-ltb, le-leb, lt-leb}
use Rattle.scope.specs.declared.Run.{Run}
use Rattle.scope.specs.Run.{ValidRun, UpTo, shift_of}
use Rattle.scope.proofs.Numbering.{IsBlock}
use Rattle.scope.proofs.Hits.{hit_shift}
use Rattle.map.specs.Sum.{capped, raised}
use Rattle.sources.specs.declared.Entry.{Entry}
pub use Rattle.sources.specs.Lists.{ValidEntry, ValidEntries}
pub use Rattle.sources.proofs.Entries.{entries_length, entries_from, valid_entries, valid_entries_pass}
use Rattle.map.specs.Promise.{weight_at, added}
use Rattle.map.specs.Inner.{chosen}
use Rattle.map.proofs.Raised.{raised_again, raised_move, raised_length, raised_get_d, raised_within, capped_below}

-- ---- what they weigh

weight_append : (run : Run) (a b : List Entry) (x : ℕ) → weight_at run (a ++ b) x ≡ weight_at run a x + weight_at run b x
unfolding weight_at
weight_append run [] b x = sym (zero-add _)
weight_append run (e ∷ a) b x = rw (weight_append run a b x) (sym (add_assoc _ _ _))

pub added_length : (c : ℕ) (run : Run) (entries : List Entry) (cells : List ℕ) → length (added c run entries cells) ≡ length cells
unfolding added
added_length c run entries cells = raised_length c (weight_at run entries) 0 cells

pub added_get_d : (c : ℕ) (run : Run) (entries : List Entry) (cells : List ℕ) (i : ℕ) → i < length cells → get_or (added c run entries cells) i 0 ≡ capped c (get_or cells i 0 + weight_at run entries i)
unfolding added
added_get_d c run entries cells i h = raised_get_d c (weight_at run entries) 0 cells i h ∙ ap (λ n. capped c (get_or cells i 0 + weight_at run entries n)) (zero-add i)

pub added_within : (c : ℕ) (run : Run) (entries : List Entry) (cells : List ℕ) → UpTo c (added c run entries cells)
unfolding added
added_within c run entries cells = raised_within c (weight_at run entries) 0 cells

-- entries that weigh the same in every cell are added alike
pub added_same : (c : ℕ) (run : Run) (a b : List Entry) (cells : List ℕ) → ((x : ℕ) → x < length cells → weight_at run a x ≡ weight_at run b x) → added c run a cells ≡ added c run b cells
unfolding added
added_same c run a b cells h = raised_move c (weight_at run a) (weight_at run b) 0 0 cells (λ i k. rw (zero-add i) (h i k))

-- entries added one after the other are added together
pub added_append : (c : ℕ) (run : Run) (a b : List Entry) (cells : List ℕ) → added c run b (added c run a cells) ≡ added c run (a ++ b) cells
unfolding added
added_append c run a b cells = raised_again c (weight_at run a) (weight_at run b) 0 cells ∙ raised_move c _ _ 0 0 cells (λ i k. sym (weight_append run a b (0 + i)))

-- "An empty list changes nothing", in the adding call
pub added_none : (c : ℕ) (run : Run) (cells : List ℕ) → UpTo c cells → added c run [] cells ≡ cells
unfolding added raised weight_at
added_none c run cells small = go 0 cells small
  where
    go : (x : ℕ) (l : List ℕ) → UpTo c l → raised c (weight_at run []) x l ≡ l
    go x [] h = refl
    go x (v ∷ l) h = rw (go (suc x) l (λ i. h (suc i)), add-zero) (ap (λ n. n ∷ l) (capped_below c (h 0)))

-- ---- entries chosen by their periods

-- every period is below a bound
abbrev pub AllBelow : ℕ → List Entry → Type 0
AllBelow high [] = Unit {0}
AllBelow high (e ∷ rest) = (e.source.period < high) × AllBelow high rest

pub chosen_cons : (low high : ℕ) (e : Entry) (rest : List Entry) → low ≤ e.source.period → e.source.period < high → chosen low high (e ∷ rest) ≡ e ∷ chosen low high rest
unfolding chosen
chosen_cons low high e rest h k = rw (le-leb _ _ h, lt-ltb _ _ k)

pub chosen_low : (low high : ℕ) (e : Entry) (rest : List Entry) → e.source.period < low → chosen low high (e ∷ rest) ≡ chosen low high rest
unfolding chosen
chosen_low low high e rest h = rw (lt-leb _ _ h)

pub chosen_high : (low high : ℕ) (e : Entry) (rest : List Entry) → high ≤ e.source.period → chosen low high (e ∷ rest) ≡ chosen low high rest
unfolding chosen
chosen_high low high e rest h = rw (le-ltb _ _ h) (either (leb low e.source.period))
  where
    either : (b : Bool) → cond b (chosen low high rest) (chosen low high rest) ≡ chosen low high rest
    either true = refl
    either false = refl

pub valid_below : (c : ℕ) (entries : List Entry) → ValidEntries c entries → AllBelow 2147483648 entries
valid_below c [] v = tt
valid_below c (e ∷ rest) v = let own = v.0.source.fits in (omega arith, valid_below c rest v.1)

pub chosen_all : (high : ℕ) (entries : List Entry) → AllBelow high entries → chosen 0 high entries ≡ entries
unfolding chosen
chosen_all high [] b = refl
chosen_all high (e ∷ rest) b = chosen_cons 0 high e rest (omega arith) b.0 ∙ ap (λ (l : List Entry). e ∷ l) (chosen_all high rest b.1)

-- those below a period and those from it on weigh what all of them weigh
weight_chosen : (run : Run) (middle high : ℕ) (entries : List Entry) (x : ℕ) → AllBelow high entries → weight_at run (chosen 0 middle entries) x + weight_at run (chosen middle high entries) x ≡ weight_at run entries x
unfolding chosen weight_at
weight_chosen run middle high [] x b = omega arith
weight_chosen run middle high (e ∷ rest) x b = go (dec_lt e.source.period middle) (weight_chosen run middle high rest x b.1)
  where
    go : Dec (e.source.period < middle) → weight_at run (chosen 0 middle rest) x + weight_at run (chosen middle high rest) x ≡ weight_at run rest x → weight_at run (chosen 0 middle (e ∷ rest)) x + weight_at run (chosen middle high (e ∷ rest)) x ≡ weight_at run (e ∷ rest) x
    go (yes h) more = rw (chosen_cons 0 middle e rest (omega arith) h, chosen_low middle high e rest h) (omega arith)
    go (no h) more = rw (chosen_high 0 middle e rest (omega arith), chosen_cons middle high e rest (omega arith) b.0) (omega arith)

-- so they may be added one group after the other
pub added_chosen : (c : ℕ) (run : Run) (middle high : ℕ) (entries : List Entry) (cells : List ℕ) → AllBelow high entries → added c run (chosen middle high entries) (added c run (chosen 0 middle entries) cells) ≡ added c run entries cells
added_chosen c run middle high entries cells b =
    added_append c run (chosen 0 middle entries) (chosen middle high entries) cells
    ∙ added_same c run _ entries cells (λ x h. weight_append run (chosen 0 middle entries) (chosen middle high entries) x ∙ weight_chosen run middle high entries x b)

-- ---- blocks

-- in a block's cell they weigh what they weigh in the run's
pub weight_shift : {run block : Run} → ValidRun run → IsBlock run block → (entries : List Entry) (x : ℕ) → weight_at block entries x ≡ weight_at run entries (x + shift_of run block)
unfolding weight_at
weight_shift v b [] x = refl
weight_shift v b (e ∷ rest) x = rw (hit_shift v b e.source x, weight_shift v b rest x)
