-- How long a report can be: a line has few numbers, each with few digits, and there are few lines. Assumes nothing.
use Prim.Native.Nat.{ℕ, suc, ◌+◌, ◌*◌, ◌≤◌, ◌<◌}
use native.Mathlib.Omega.{arith}
use mathlib.Core.Path.{◌≡◌}
use mathlib.Core.Bool.{Bool, true, false, cond}
use mathlib.Core.List.{List, [], ◌∷◌, ◌++◌}
use lib.Dec.{eqb}
use lib.ListN.{length, take, length-append, length-take}
use Rattle.text.specs.Promise.{most_cells, sources_in}
use Rattle.decimal.specs.Digits.{largest, digits}
use Rattle.decimal.proofs.Laws.{length_le}
use Rattle.words.proofs.Writing.{line_long}
use Rattle.scope.specs.declared.Run.{Run}
use Rattle.rooms.specs.Lists.{UpTo}
use Rattle.scope.specs.Run.{ValidRun, ceiling, cells_of}
use Rattle.scope.specs.Hit.{hits_from}
use Rattle.sources.specs.declared.Entry.{Entry}
use Rattle.text.specs.declared.Input.{Input}
use Rattle.words.specs.Line.{fields, line}
use Rattle.text.specs.Form.{src_word, run_word, run_numbers}
use Rattle.sources.specs.Lists.{ValidEntries}
use Rattle.sources.proofs.Entries.{entries_few, valid_entries}
use Rattle.map.proofs.Made.{made_length, made_within}
use Rattle.report.specs.Report.{map_word, end_word, run_report, entry_report, src_report, cell_report, map_report, above, end_report, reported_map, cells_report, whole_report}
use Rattle.report.specs.Inner.{ValidInput}
use Rattle.rooms.proofs.Lists.{up_to}
use Rattle.report.proofs.Sources.{hits_few}

-- ---- the sources

entry_long : (run : Run) (k : ℕ) (e : Entry) → cells_of run ≤ most_cells → k ≤ largest → ValidEntries ceiling (e ∷ []) → length (entry_report run k e) ≤ 59
unfolding entry_report
entry_long run k e few place v =
    let own = v.0 in
    let hits = hits_few run e.source in
    let s = own.source in
    line_long src_word _ (up_to (k ∷ e.source.period ∷ e.weight ∷ e.source.phase ∷ length (hits_from run e.source 0) ∷ []) (place, (omega (arith, s.fits), (omega (arith, own.fits), (omega (arith, s.fits, s.phased), (omega arith, tt))))))

sources_long : (run : Run) (k : ℕ) (entries : List Entry) → cells_of run ≤ most_cells → k + length entries ≤ most_cells → ValidEntries ceiling entries
    → length (src_report run k entries) ≤ 59 * length entries
unfolding src_report
sources_long run k [] few place v = omega arith
sources_long run k (e ∷ entries) few place v =
    omega (
      arith,
      entry_long run k e few (omega arith) (v.0, tt),
      sources_long run (suc k) entries few (omega arith) v.1,
      length-append (entry_report run k e) (src_report run (suc k) entries),
    )

-- ---- the cells

cell_long : (x value : ℕ) → x < most_cells → value ≤ ceiling → length (cell_report x value) ≤ 14
unfolding cell_report line fields
cell_long x value h v = go (eqb value 0)
  where
    go : (b : Bool) → length (cond b [] (line map_word (x ∷ value ∷ []))) ≤ 14
    go true = omega arith
    go false =
        omega (
          arith,
          length_le 4 x (omega arith),
          length_le 2 value (omega arith),
          length-append (digits x) (32 ∷ digits value ++ (10 ∷ [])),
          length-append (digits value) (10 ∷ []),
        )

cells_long : (x : ℕ) (cells : List ℕ) → x + length cells ≤ most_cells → UpTo ceiling cells → length (map_report x cells) ≤ 14 * length cells
unfolding map_report
cells_long x [] h w = omega arith
cells_long x (v ∷ cells) h w =
    omega (
      arith,
      cell_long x v (omega arith) (w 0),
      cells_long (suc x) cells (omega arith) (λ i. w (suc i)),
      length-append (cell_report x v) (map_report (suc x) cells),
    )

above_few : (cells : List ℕ) → above cells ≤ length cells
unfolding above
above_few [] = omega arith
above_few (v ∷ cells) = go (eqb v 0) (above_few cells)
  where
    go : (b : Bool) → above cells ≤ length cells → cond b 0 1 + above cells ≤ suc (length cells)
    go true h = omega arith
    go false h = omega arith

-- ---- the whole

map_long : (run : Run) (entries : List Entry) → length (reported_map run entries) ≡ cells_of run
unfolding reported_map
map_long run entries = made_length ceiling run entries

map_within : (run : Run) (entries : List Entry) → UpTo ceiling (reported_map run entries)
unfolding reported_map
map_within run entries = made_within ceiling run entries

run_long : {run : Run} → ValidRun run → cells_of run ≤ most_cells → length (run_report run) ≤ 59
unfolding run_report
run_long {run} v few =
    line_long run_word (run_numbers run ++ (cells_of run ∷ []))
    (up_to (run_numbers run ++ (cells_of run ∷ []))
    (omega (arith, v.wide), (omega (arith, v.fits), (omega (arith, v.ordered, v.ends), (omega (arith, v.ends), (omega arith, tt))))))

-- there are no more sources than are counted
sources_few : (input : Input) → length (sources_in input) ≤ input.count
sources_few input =
    omega (
      arith,
      entries_few (take input.count input.periods) (take input.count input.weights) (take input.count input.phases),
      length-take input.count input.periods,
    )

pub whole_long : {input : Input} → ValidInput input → length (whole_report input.run (sources_in input)) ≤ 921354
unfolding whole_report cells_report end_report
whole_long {input} a =
    let run = input.run in
    let es = sources_in input in
    let m = reported_map run es in
    let few = sources_few input in
    let cells = map_long run es in
    let r = run_long a.valid a.few in
    let s = sources_long run 1 es a.few (omega (arith, a.counted)) (valid_entries ceiling 1 es (record { is = a.sound })) in
    let l = cells_long 0 m (omega (arith, a.few)) (map_within run es) in
    let n = above_few m in
    let e = line_long end_word (above m ∷ []) (up_to (above m ∷ []) (omega (arith, a.few), tt)) in
    let whole = length-append (run_report run) (src_report run 1 es ++ (map_report 0 m ++ line end_word (above m ∷ []))) in
    let rest = length-append (src_report run 1 es) (map_report 0 m ++ line end_word (above m ∷ [])) in
    let last = length-append (map_report 0 m) (line end_word (above m ∷ [])) in
    omega (arith, a.few, a.counted)
