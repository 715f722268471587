-- The `src` lines of a text, one after the other: what is passed joins what follows, and leaves a text only one way to go on.
-- Each law adds one line behind those passed. Assumes nothing.
use Prim.Native.Nat.{ℕ, ◌≤◌, ◌<◌}
use native.Mathlib.Omega.{arith}
use mathlib.Core.Path.{◌≡◌, refl, sym, ap, ◌∙◌}
use mathlib.Core.List.{List, [], ◌∷◌, ◌++◌, append_assoc, append-nil}
use lib.ListN.{length, drop, set, length-append, length-drop, drop_of_length-le}
use Rattle.words.specs.Line.{line}
use Rattle.words.specs.Inner.{Spelled}
use Rattle.words.proofs.Lines.{spelled_append, spelled_within, line_split}
use Rattle.rooms.specs.Lists.{zeros}
use Rattle.std.specs.Prelude.{Err}
use Rattle.scope.specs.declared.Run.{Run}
use Rattle.scope.specs.declared.Reason.TheVariants.{Text}
use Rattle.sources.specs.declared.Entry.{Entry}
use Rattle.sources.specs.Lists.{periods_of, weights_of, phases_of}
use Rattle.sources.proofs.Entries.{periods_length, weights_length, phases_length, periods_append, weights_append, phases_append}
use Rattle.text.specs.Form.{src_word, SrcLine, with_phase, without_phase, src_numbers, meant, src_lines, sources_meant, SrcsSmall}
use Rattle.text.specs.declared.Input.{Input}
use Rattle.text.specs.Promise.{most_sources}
use Rattle.text.specs.Inner.{no_source_yet, one_more, SrcStands, NoSrc, SourceStands, Lines, stored_in, Stored, NoLines, SourcesAt}

-- ---- numbers stored from the front of a room on

stored_none : (room : List ℕ) → stored_in [] room ≡ room
unfolding stored_in
stored_none [] = refl
stored_none (old ∷ room) = refl

-- one number more, stored behind them or, where the room is full, nowhere
stored_more : (numbers room : List ℕ) (v : ℕ) → set (stored_in numbers room) (length numbers) v ≡ stored_in (numbers ++ (v ∷ [])) room
unfolding stored_in
stored_more [] [] v = refl
stored_more (n ∷ numbers) [] v = refl
stored_more [] (old ∷ room) v = ap (λ l. v ∷ l) (sym (stored_none room))
stored_more (n ∷ numbers) (old ∷ room) v = ap (λ l. n ∷ l) (stored_more numbers room v)

-- where there is room for them all
pub stored_fits : (numbers room : List ℕ) → length numbers ≤ length room → stored_in numbers room ≡ numbers ++ drop (length numbers) room
unfolding stored_in
stored_fits [] room h = stored_none room
stored_fits (n ∷ numbers) [] h = absurd (omega arith)
stored_fits (n ∷ numbers) (old ∷ room) h = ap (λ l. n ∷ l) (stored_fits numbers room (omega arith))

-- one number more of each entry, behind those of the entries before: `of` takes one number of each
stored_behind : (of : List Entry → List ℕ) → ((a b : List Entry) → of (a ++ b) ≡ of a ++ of b) → ((es : List Entry) → length (of es) ≡ length es)
    → (front : List Entry) (e : Entry) (room : List ℕ) {count v : ℕ} {room' room'' : List ℕ} → length front ≡ count → of (e ∷ []) ≡ v ∷ [] → room' ≡ stored_in (of front) room → room'' ≡ set room' count v
    → room'' ≡ stored_in (of (front ++ (e ∷ []))) room
stored_behind of appends long front e room {v = v} counted one so_far more =
    more ∙ rw (so_far, appends front (e ∷ []), one, ← counted, ← long front) (stored_more (of front) room v)

-- ---- lines

src_lines_append : (a b : List SrcLine) → src_lines (a ++ b) ≡ src_lines a ++ src_lines b
unfolding src_lines
src_lines_append [] b = refl
src_lines_append (src ∷ a) b =
    ap (λ l. line src_word (src_numbers src) ++ l) (src_lines_append a b) ∙ sym (append_assoc (line src_word (src_numbers src)) (src_lines a) (src_lines b))

meant_append : (a b : List SrcLine) → sources_meant (a ++ b) ≡ sources_meant a ++ sources_meant b
unfolding sources_meant
meant_append [] b = refl
meant_append (src ∷ a) b = ap (λ es. meant src ∷ es) (meant_append a b)

small_append : (a b : List SrcLine) → SrcsSmall a → SrcsSmall b → SrcsSmall (a ++ b)
small_append [] b s t = t
small_append (src ∷ a) b s t = (s.0, small_append a b s.1 t)

-- ---- lines passed

-- the input has the sources of the lines that are passed up to `next`; where none can follow, none stand at `at`
pub record Listing (text : List ℕ) (at : ℕ) (run : Run) (input : Input) (next : ℕ) : Type 0 where
  pub srcs : List SrcLine
  pub of_run : input.run ≡ run
  pub stored : Stored srcs input
  pub far : input.count ≤ next
  pub small : SrcsSmall srcs
  pub stand : Spelled text at (src_lines srcs) next
  pub refutes : NoLines text next → NoLines text at

pub listing_none : {text : List ℕ} {at : ℕ} {run : Run} {input : Input} → input ≡ no_source_yet run → Listing text at run input at
unfolding periods_of weights_of phases_of src_lines sources_meant
listing_none e =
    let zeroed = sym (stored_none (zeros most_sources)) in
    rw e
    (record {
      srcs = [];
      of_run = refl;
      stored = record { counted = refl; stores_periods = zeroed; stores_weights = zeroed; stores_phases = zeroed };
      far = omega arith;
      small = tt;
      stand = record { is = refl; ends = omega arith };
      refutes = λ n. n;
    })

-- a text that has not ended is no end
not_ended : (text : List ℕ) (at : ℕ) → at < length text → drop at text ≡ [] → ⊥
not_ended text at h e = let l = simp length-drop at (ap length e) in omega arith

line_some : (numbers : List ℕ) → 0 < length (line src_word numbers)
unfolding line
line_some numbers = omega arith

-- where the text has ended, no line is left
pub lines_end : (text : List ℕ) (at : ℕ) → length text ≤ at → Lines text at []
unfolding src_lines
lines_end text at h = record { small = tt; is = drop_of_length-le text h }

-- a line in front of lines
module _ {text : List ℕ} {at : ℕ} {src : SrcLine} {next : ℕ} (l : SrcStands text at src next) where
  pub line_ends : (at < next) × (next ≤ length text)
  line_ends = spelled_within l.stands.stands (line_some (src_numbers src))

  pub line_joins : {srcs : List SrcLine} → Lines text next srcs → Lines text at (src ∷ srcs)
  unfolding src_lines
  line_joins m = record { small = (l.stands.small, m.small); is = l.stands.stands.is ∙ rw m.is }

  pub line_refutes : NoLines text next → NoLines text at
  unfolding src_lines
  line_refutes n = record { none = go }
    where
      go : (srcs : List SrcLine) → Lines text at srcs → ⊥
      go [] m = not_ended text at (omega (arith, line_ends)) m.is
      go (other ∷ srcs) m =
          n.none srcs
          (record { small = m.small.1; is = (line_split src_word (src_numbers src) (src_numbers other) (drop next text) (src_lines srcs) (sym l.stands.stands.is ∙ m.is)).1 })

-- a source ends after where it begins, and within the text
pub source_ends : {text : List ℕ} {at : ℕ} {entry : Entry} {next : ℕ} → SourceStands text at entry next → (at < next) × (next ≤ length text)
source_ends s = line_ends s.is

-- where the text has not ended and no line stands, no lines do
pub no_line : {text : List ℕ} {at : ℕ} → at < length text → NoSrc text at → NoLines text at
unfolding src_lines
no_line {text} {at} h n = record { none = go }
  where
    go : (srcs : List SrcLine) → Lines text at srcs → ⊥
    go [] m = not_ended text at h m.is
    go (with_phase p w s ∷ srcs) m = n.long.none (p ∷ w ∷ s ∷ []) (src_lines srcs) refl m.small.0 m.is
    go (without_phase p w ∷ srcs) m = n.short.none (p ∷ w ∷ []) (src_lines srcs) refl m.small.0 m.is

-- ---- one line more

module _ {text : List ℕ} {at : ℕ} {run : Run} {input : Input} {next : ℕ} (g : Listing text at run input next) where
  pub listing_more : {entry : Entry} {after : Input} {end : ℕ} → SourceStands text next entry end → after ≡ one_more input entry → Listing text at run after end
  unfolding periods_of weights_of phases_of src_lines sources_meant
  listing_more {entry} s e =
      let l = s.is in
      let front = g.srcs in
      let new = s.src ∷ [] in
      let sources = meant_append front new in
      let before = g.stored in
      let room = zeros most_sources in
      rw e
      (record {
        srcs = front ++ new;
        of_run = g.of_run;
        stored = record {
          counted = ap length sources ∙ length-append (sources_meant front) (sources_meant new) ∙ omega (arith, before.counted);
          stores_periods = rw sources (stored_behind periods_of periods_append periods_length (sources_meant front) (meant s.src) room before.counted (rw s.means) before.stores_periods refl);
          stores_weights = rw sources (stored_behind weights_of weights_append weights_length (sources_meant front) (meant s.src) room before.counted (rw s.means) before.stores_weights refl);
          stores_phases = rw sources (stored_behind phases_of phases_append phases_length (sources_meant front) (meant s.src) room before.counted (rw s.means) before.stores_phases refl);
        };
        far = omega (arith, g.far, line_ends l);
        small = small_append front new g.small (l.stands.small, tt);
        stand = rw (src_lines_append front new, append-nil) (spelled_append g.stand l.stands.stands);
        refutes = λ n. g.refutes (line_refutes l n);
      })

  -- the text goes on, and not with a line: it is refused for that
  pub listing_fails : next < length text → NoSrc text next → SourcesAt text at run (Err Text)
  listing_fails h n = (refl, g.refutes (no_line h n))
