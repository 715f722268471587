-- What the promise of the report tells: where its bytes lie, that these are printed, and that no second output fits. Assumes nothing.
use Prim.Native.Nat.{ℕ, ◌≤◌}
use native.Mathlib.Omega.{arith}
use mathlib.Core.Path.{◌≡◌, refl, sym, ap, ◌∙◌}
use mathlib.Core.List.{List}
use lib.ListN.{length, take}
use Rattle.rooms.specs.Lists.{padded}
use Rattle.rooms.proofs.Lists.{padded_within, padded_front}
use Rattle.text.proofs.Says.{reads_exists}
use Rattle.text.proofs.Unique.{reads_unique}
use Rattle.report.specs.declared.Output.{Output}
use Rattle.report.specs.Report.{report_of}
use Rattle.report.specs.Promise.{room_bytes, ReportPromise, PrintedOf}

-- the bytes that are printed lie within the room
pub output_within : {text : List ℕ} {output : Output} → ReportPromise text output → output.length ≤ length output.bytes
output_within p =
    let bytes = report_of p.content in
    omega (arith, p.says.counts, ap length p.says.begins, padded_within room_bytes bytes)

-- the bytes that are counted are what is printed
pub output_prints : {text : List ℕ} {output : Output} → ReportPromise text output → PrintedOf text (take output.length output.bytes)
output_prints p =
    let bytes = report_of p.content in
    record {
      content = p.content;
      reads = p.reads;
      is = rw p.says.begins (padded_front room_bytes _ bytes (sym p.says.counts));
    }

-- no second output fits
pub report_unique : (text : List ℕ) (a b : Output) → ReportPromise text a → ReportPromise text b → a ≡ b
report_unique text a b p q =
    let e = ap report_of (reads_unique text p.content q.content p.reads q.reads) in
    let counts : a.length ≡ b.length = p.says.counts ∙ ap length e ∙ sym q.says.counts in
    let begins : a.bytes ≡ b.bytes = p.says.begins ∙ ap (padded room_bytes) e ∙ sym q.says.begins in
    λ k. record { length = counts k; bytes = begins k }

-- some output fits
pub report_exists : (text : List ℕ) → (output : Output) × ReportPromise text output
report_exists text =
    let (o, r) = reads_exists text in
    let bytes = report_of o in
    (record { length = length bytes; bytes = padded room_bytes bytes }, record { content = o; reads = r; says = record { counts = refl; begins = refl } })
