-- A text says one thing at most, and no second reply fits; some reply does; when it is accepted. Assumes nothing.
use Prim.Native.Nat.{ℕ}
use native.Mathlib.Omega.{arith}
use mathlib.Core.Path.{◌≡◌, refl, sym, ap, ◌∙◌, subst}
use Rattle.std.specs.Prelude.{Result, Ok, Err}
use mathlib.Core.Logic.{◌↔◌, ◌⊎◌, inl, inr}
use mathlib.Core.List.{List, [], ◌∷◌}
use mathlib.Core.Option.{Option, some, none}
use lib.ListN.{length, get_or}
use Rattle.rooms.specs.Lists.{padded}
use Rattle.words.specs.Line.{line}
use Rattle.words.proofs.Lines.{line_split}
use Rattle.scope.specs.declared.Run.{Run}
use Rattle.scope.specs.Refusal.{complaint}
use Rattle.scope.specs.declared.Refusal.{Refusal}
use Rattle.scope.specs.declared.Reason.TheVariants.{Text}
use Rattle.scope.specs.declared.Place.TheVariants.{Nowhere}
use Rattle.scope.specs.Reply.{answered, reply as reply_with, stored}
use Rattle.scope.proofs.Judged.{Fails, Passes, same_refusal, said_refused, refuse_reply, refuse_stored, grant_reply, grant_stored}
use Rattle.scope.proofs.Rendered.{judged}
use Rattle.sources.specs.declared.Entry.{Entry}
use Rattle.sources.specs.Lists.{periods_of, weights_of, phases_of}
use Rattle.text.specs.Form.{run_word, src_word, run_numbers, SrcLine, with_phase, without_phase, src_numbers, src_lines, sources_meant, text_of, Content, Spells}
use Rattle.text.specs.Promise.{most_sources, Reads, text_tests, reply_to, handed, says_text, HasSources, Hands, TextPromise, sources_of}
use Rattle.text.specs.declared.Input.{Input}
use Rattle.text.proofs.Answers.{sources_had}
use Rattle.text.proofs.Says.{reads_exists}

-- ---- the rendering is injective

-- numbers that are a run's, or a `src` line's, are so of one only
run_same : {a b : Run} → run_numbers a ≡ run_numbers b → a ≡ b
run_same e = ap (λ l. record { window = get_or l 0 0; interval = get_or l 1 0; first = get_or l 2 0; last = get_or l 3 0 }) e

src_same : (a b : SrcLine) → src_numbers a ≡ src_numbers b → a ≡ b
src_same (with_phase p w s) (with_phase p' w' s') e = ap (λ l. with_phase (get_or l 0 0) (get_or l 1 0) (get_or l 2 0)) e
src_same (with_phase p w s) (without_phase p' w') e = absurd (let z = ap length e in omega arith)
src_same (without_phase p w) (with_phase p' w' s') e = absurd (let z = ap length e in omega arith)
src_same (without_phase p w) (without_phase p' w') e = ap (λ l. without_phase (get_or l 0 0) (get_or l 1 0)) e

lines_injective : (a b : List SrcLine) → src_lines a ≡ src_lines b → a ≡ b
unfolding src_lines line
lines_injective [] [] e = refl
lines_injective [] (g ∷ b) e = absurd (let z = ap length e in omega arith)
lines_injective (f ∷ a) [] e = absurd (let z = ap length e in omega arith)
lines_injective (f ∷ a) (g ∷ b) e =
    let k = line_split src_word (src_numbers f) (src_numbers g) (src_lines a) (src_lines b) e in
    ap (λ h. h ∷ a) (src_same f g k.0) ∙ ap (λ t. g ∷ t) (lines_injective a b k.1)

pub text_injective : (run run' : Run) (srcs srcs' : List SrcLine) → text_of run srcs ≡ text_of run' srcs' → (run ≡ run') × (srcs ≡ srcs')
unfolding text_of
text_injective run run' srcs srcs' e =
    let k = line_split run_word (run_numbers run) (run_numbers run') (src_lines srcs) (src_lines srcs') e in
    (run_same k.0, lines_injective srcs srcs' k.1)

-- ---- so is the reading of a text

pub spells_unique : {text : List ℕ} {a b : Content} → Spells text a → Spells text b → a ≡ b
spells_unique {a = a} {b = b} s t =
    let same = text_injective a.run b.run s.srcs t.srcs (sym s.formed.spelled ∙ t.formed.spelled) in
    let entries : a.entries ≡ b.entries = sym s.means ∙ ap sources_meant same.1 ∙ t.means in
    λ k. record { run = same.0 k; entries = entries k }

pub reads_unique : (text : List ℕ) (a b : Option Content) → Reads text a → Reads text b → a ≡ b
reads_unique text none none r s = refl
reads_unique text none (some b) r s = absurd (r b s)
reads_unique text (some a) none r s = absurd (s a r)
reads_unique text (some a) (some b) r s = ap some (spells_unique r s)

-- two inputs with one run and the same sources
has_same : {entries : List Entry} {a b : Input} → a.run ≡ b.run → HasSources entries a → HasSources entries b → a ≡ b
has_same {a = a} {b} e g h =
    let counts : a.count ≡ b.count = g.counts ∙ sym h.counts in
    let periods : a.periods ≡ b.periods = g.periods ∙ sym h.periods in
    let weights : a.weights ≡ b.weights = g.weights ∙ sym h.weights in
    let phases : a.phases ≡ b.phases = g.phases ∙ sym h.phases in
    λ k. record { run = e k; count = counts k; periods = periods k; weights = weights k; phases = phases k }

reply_same : (i j : Result Input Refusal) (entries : List Entry) → says_text i ≡ says_text j → Hands entries i → Hands entries j → i ≡ j
reply_same (Ok a) (Ok b) entries e g h = let runs : a.run ≡ b.run = cc in ap Ok (has_same runs g h)
reply_same (Ok a) (Err s) entries e g h = cc
reply_same (Err r) (Ok b) entries e g h = cc
reply_same (Err r) (Err s) entries e g h = let same = same_refusal e in ap Err (λ k. record { reason = same.0 k; place = same.1 k })

-- no second reply fits
pub text_unique : (text : List ℕ) (i j : Result Input Refusal) → TextPromise text i → TextPromise text j → i ≡ j
text_unique text i j p q =
    let e = reads_unique text p.content q.content p.reads q.reads in
    reply_same i j (handed p.content) (p.says ∙ rw e (sym q.says)) p.hands (subst (λ o. Hands (handed o) j) (sym e) q.hands)

-- ---- some reply fits: every text says something, or it has not the form

answer : (text : List ℕ) (o : Option Content) → Reads text o → (reply : Result Input Refusal) × TextPromise text reply
answer text none r = (Err (record { reason = Text; place = Nowhere }), record { content = none; reads = r; says = refl; hands = tt })
answer text (some content) r = go (judged (text_tests content))
  where
    go : Passes (text_tests content) ⊎ ((c : Refusal) × Fails (text_tests content) c.reason c.place) → (reply : Result Input Refusal) × TextPromise text reply
    go (inl p) =
        let es = handed (some content) in (
          Ok (record { run = content.run; count = length es; periods = padded most_sources (periods_of es); weights = padded most_sources (weights_of es); phases = padded most_sources (phases_of es) }),
          record { content = some content; reads = r; says = grant_reply content.run p; hands = record { counts = refl; periods = refl; weights = refl; phases = refl } },
        )
    go (inr f) = (Err f.0, record { content = some content; reads = r; says = refuse_reply content.run f.1; hands = tt })

pub text_exists : (text : List ℕ) → (reply : Result Input Refusal) × TextPromise text reply
text_exists text = let found = reads_exists text in answer text found.0 found.1

-- ---- accepted with a run and sources exactly if the text says them and they pass the tests

pub sources_handed : (text : List ℕ) (reply : Result Input Refusal) (p : TextPromise text reply) → sources_of reply ≡ handed p.content
sources_handed text (Ok input) p = sources_had p.hands
sources_handed text (Err refusal) p = none_handed p.content p.says
  where
    none_handed : (o : Option Content) → says_text (Err refusal) ≡ reply_to o → [] ≡ handed o
    none_handed none e = refl
    none_handed (some content) e = refuse_stored [] content.entries (said_refused (text_tests content) content.run e)

pub accepted : (text : List ℕ) (reply : Result Input Refusal) → TextPromise text reply → (d : Content)
    → ((says_text reply ≡ answered d.run) × (sources_of reply ≡ d.entries)) ↔ (Spells text d × Passes (text_tests d))
accepted text reply p d = (λ e. go p.content p.reads (sym e.0 ∙ p.says) (sym (sources_handed text reply p) ∙ e.1), back)
  where
    passed : (d' : Content) → Spells text d' → (x : Option Refusal) → complaint (text_tests d') ≡ x → answered d.run ≡ reply_with x d'.run
        → stored x [] d'.entries ≡ d.entries → Spells text d × Passes (text_tests d)
    passed d' s none c e h =
        let runs : d.run ≡ d'.run = cc in
        let same : d' ≡ d = λ k. record { run = sym runs k; entries = h k } in
        subst (λ z. Spells text z × Passes (text_tests z)) same (s, record { is = c })
    passed d' s (some b) c e h = absurd (let z : ◌≡◌ {A = ℕ} 0 1 = cc in omega arith)

    go : (o : Option Content) → Reads text o → answered d.run ≡ reply_to o → handed o ≡ d.entries → Spells text d × Passes (text_tests d)
    go none r e h = absurd (let z : ◌≡◌ {A = ℕ} 0 1 = cc in omega arith)
    go (some d') r e h = passed d' r (complaint (text_tests d')) refl e h

    back : Spells text d × Passes (text_tests d) → (says_text reply ≡ answered d.run) × (sources_of reply ≡ d.entries)
    back s =
        let e = reads_unique text p.content (some d) p.reads s.0 in (
          p.says ∙ ap reply_to e ∙ sym (grant_reply d.run s.1),
          sources_handed text reply p ∙ ap handed e ∙ sym (grant_stored [] d.entries s.1),
        )
