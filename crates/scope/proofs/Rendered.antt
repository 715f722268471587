-- A call's tests and the rows of the table: the complaint has this number and this place exactly if the table says so. Assumes nothing.
use Prim.Native.Nat.{ℕ, ◌≤◌}
use mathlib.Core.Path.{◌≡◌, refl, sym, ap, ◌∙◌, subst}
use mathlib.Core.Logic.Iff
use mathlib.Core.Logic.{◌↔◌, ◌⊎◌, inl, inr, ⊎_elim}
use mathlib.Core.Bool.{Bool, true, false}
use mathlib.Core.List.{List, [], ◌∷◌, ◌++◌}
use mathlib.Core.Option.{Option, some, none}
use native.Mathlib.Omega.{arith}
use Rattle.scope.specs.Refusal.{Refusal, Tests, ◌when◌, ◌and_then◌, of_source, nothing, or_else, complaint, number, Withdrawn}
use Rattle.scope.specs.declared.Reason.{Reason}
use Rattle.scope.specs.declared.Place.{Place}
use Rattle.scope.specs.declared.Place.TheVariants.{Nowhere, AtSource}
use Rattle.scope.specs.Reply.{Said, refused, reply, stored}
use Rattle.scope.proofs.Judged.{Fails, Passes, broken, sound, first, then, both, source_fails, source_passes, no_tests, refuse_reply, refuse_stored, refused_same, number_some, number_not_withdrawn}
use Rattle.scope.proofs.Limits.{passes_first, passes_then, passes_source}
use Rattle.scope.proofs.Hits.{hit_or_miss}
use Rattle.scope.specs.Table.{Row, ◌given◌, Says, Silent}

-- the tests come to a complaint with this number at this place
pub record FailsAs (tests : Tests) (n : ℕ) (place : Place) : Type 0 where
  pub reason : Reason
  pub numbered : number reason ≡ n
  pub fails : Fails tests reason place

-- the tests say what the table says
pub record Renders (tests : Tests) (table : List Row) : Type 0 where
  pub fails : (n : ℕ) (place : Place) → FailsAs tests n place ↔ Says table n place
  pub passes : Passes tests ↔ Silent table

as_number : {tests : Tests} {reason : Reason} {place : Place} → Fails tests reason place → FailsAs tests (number reason) place
as_number {reason = reason} f = record { reason = reason; numbered = refl; fails = f }

-- tests that fail whenever others do
along : {a b : Tests} {n : ℕ} {k l : Place} → ((reason : Reason) → Fails a reason k → Fails b reason l) → FailsAs a n k → FailsAs b n l
along g f = record { reason = f.reason; numbered = f.numbered; fails = g f.reason f.fails }

-- tests pass or come to a complaint
pub judged : (tests : Tests) → Passes tests ⊎ ((c : Refusal) × Fails tests c.reason c.place)
judged tests = go (complaint tests) refl
  where
    go : (o : Option Refusal) → complaint tests ≡ o → Passes tests ⊎ ((c : Refusal) × Fails tests c.reason c.place)
    go none e = inl (record { is = e })
    go (some c) e = inr (c, record { is = e })

-- and not both
not_both : {tests : Tests} {n : ℕ} {place : Place} → Passes tests → FailsAs tests n place → ⊥
not_both p f = let e = sym p.is ∙ f.fails.is in let z : ◌≡◌ {A = ℕ} 0 1 = cc in omega arith

-- and to one number and one place alone
same_complaint : {tests : Tests} {n m : ℕ} {k l : Place} → FailsAs tests n k → FailsAs tests m l → (n ≡ m) × (k ≡ l)
same_complaint {k = k} {l} f g =
    let e = sym f.fails.is ∙ g.fails.is in
    let c : ◌≡◌ {A = Refusal} (record { reason = f.reason; place = k }) (record { reason = g.reason; place = l }) = cc in
    (sym f.numbered ∙ ap (λ (c : Refusal). number c.reason) c ∙ g.numbered, ap (λ (c : Refusal). c.place) c)

-- ---- one test

one_broken : {reason : Reason} {wrong : Bool} {n : ℕ} {place : Place} → FailsAs (reason when wrong) n place → (wrong ≡ true) × (number reason ≡ n) × (Nowhere ≡ place)
one_broken {reason} {wrong} {n} {place} f = go (hit_or_miss wrong)
  where
    go : (wrong ≡ true) ⊎ (wrong ≡ false) → (wrong ≡ true) × (number reason ≡ n) × (Nowhere ≡ place)
    go (inl e) = let same = same_complaint (as_number (broken e)) f in (e, same.0, same.1)
    go (inr e) = absurd (not_both (sound e) f)

told_as : {tests : Tests} {n m : ℕ} {k l : Place} → (n ≡ m) × (k ≡ l) → FailsAs tests n k → FailsAs tests m l
told_as e f = rw (← e.0, ← e.1) f

-- a test that is a row's proposition, decided
pub one : {reason : Reason} {wrong : Bool} {P : Type 0} → (wrong ≡ true) ↔ P → Renders (reason when wrong) (number reason given P ∷ [])
one {reason} {wrong} {P} e = record {
  fails = λ n place. (
    λ f. let b = one_broken f in inl (b.1, b.2, e.0 b.0),
    λ s. ⊎_elim (λ h. told_as (h.0, h.1) (as_number (broken (e.1 h.2)))) (λ h. absurd h.1) s,
  );
  passes = (λ p. (λ h. not_both p (as_number (broken (e.1 h))), tt), λ s. sound (go s.0 (hit_or_miss wrong)));
}
  where
    go : (P → ⊥) → (wrong ≡ true) ⊎ (wrong ≡ false) → wrong ≡ false
    go s (inl t) = absurd (s (e.0 t))
    go s (inr f) = f

-- ---- tests one after the other

split_fails : {a b : Tests} {n : ℕ} {place : Place} → FailsAs (a and_then b) n place → FailsAs a n place ⊎ (Passes a × FailsAs b n place)
split_fails {a} {b} {n} {place} f = ⊎_elim (λ p. inr (p, rest p (judged b))) (λ g. inl (told_as (same_complaint (as_number (first g.1)) f) (as_number g.1))) (judged a)
  where
    rest : Passes a → Passes b ⊎ ((c : Refusal) × Fails b c.reason c.place) → FailsAs b n place
    rest p (inl q) = absurd (not_both (both p q) f)
    rest p (inr g) = told_as (same_complaint (as_number (then p g.1)) f) (as_number g.1)

-- a row, and the rows after it up to t
abbrev Parted : List Row → List Row → ℕ → Place → Type 0
Parted s t n place = Says (s ++ t) n place ↔ (Says s n place ⊎ (Silent s × Says t n place))

says_cons : (row : Row) (s t : List Row) (n : ℕ) (place : Place) → Parted s t n place → Parted (row ∷ s) t n place
says_cons row s t n place rest = (to, from)
  where
    to : Says (row ∷ (s ++ t)) n place → Says (row ∷ s) n place ⊎ (Silent (row ∷ s) × Says t n place)
    to (inl h) = inl (inl h)
    to (inr h) = ⊎_elim (λ k. inl (inr (h.0, k))) (λ k. inr ((h.0, k.0), k.1)) (rest.0 h.1)

    from : Says (row ∷ s) n place ⊎ (Silent (row ∷ s) × Says t n place) → Says (row ∷ (s ++ t)) n place
    from (inl (inl h)) = inl h
    from (inl (inr h)) = inr (h.0, rest.1 (inl h.1))
    from (inr h) = inr (h.0.0, rest.1 (inr (h.0.1, h.1)))

-- what two tables say, one after the other
pub says_split : (s t : List Row) (n : ℕ) (place : Place) → Parted s t n place
says_split [] t n place = (λ h. inr (tt, h), λ h. ⊎_elim (λ k. absurd k) (λ k. k.1) h)
says_split (row ∷ s) t n place = says_cons row s t n place (says_split s t n place)

silent_split : (s t : List Row) → Silent (s ++ t) ↔ (Silent s × Silent t)
silent_split [] t = (λ h. (tt, h), λ h. h.1)
silent_split (row ∷ s) t =
    let rest = silent_split s t in
    (λ h. ((h.0, (rest.0 h.1).0), (rest.0 h.1).1), λ h. (h.0.0, rest.1 (h.0.1, h.1)))

-- a table that says nothing says no number
pub silent_says : (s : List Row) (n : ℕ) (place : Place) → Silent s → Says s n place → ⊥
silent_says [] n place h k = k
silent_says (row ∷ s) n place h (inl k) = h.0 k.2
silent_says (row ∷ s) n place h (inr k) = silent_says s n place h.1 k.1

-- so of the number and the place of every row
abbrev pub Every : (ℕ → Place → Type 0) → List Row → Type 0
Every P [] = Unit {0}
Every P (row ∷ rows) = P row.number row.place × Every P rows

pub every_append : (P : ℕ → Place → Type 0) (s t : List Row) → Every P s → Every P t → Every P (s ++ t)
every_append P [] t h k = k
every_append P (row ∷ s) t h k = (h.0, every_append P s t h.1 k)

-- and so of what the table says
pub every_said : (P : ℕ → Place → Type 0) (table : List Row) → Every P table → (n : ℕ) (place : Place) → Says table n place → P n place
every_said P [] h n place s = absurd s
every_said P (row ∷ rows) h n place (inl k) = subst (λ m. P m place) k.0 (subst (λ q. P row.number q) k.1 h.0)
every_said P (row ∷ rows) h n place (inr k) = every_said P rows h.1 n place k.1

-- no number that a table says is 0
pub said_some : {tests : Tests} {table : List Row} → Renders tests table → (n : ℕ) (place : Place) → Says table n place → 1 ≤ n
said_some rows n place s = let f = (rows.fails n place).1 s in omega (arith, number_some f.reason, f.numbered)

-- and none is withdrawn
pub said_not_withdrawn : {tests : Tests} {table : List Row} → Renders tests table → (n : ℕ) → Withdrawn n → (place : Place) → Says table n place → ⊥
said_not_withdrawn rows n gone place s = let f = (rows.fails n place).1 s in number_not_withdrawn n gone f.reason f.numbered

infixl 40 ◌next◌
-- the tests of one table, then those of another
pub ◌next◌ : {a b : Tests} {s t : List Row} → Renders a s → Renders b t → Renders (a and_then b) (s ++ t)
◌next◌ {a} {b} {s} {t} f g = record {
  fails = λ n place. (
    λ h. (says_split s t n place).1 (⊎_elim (λ k. inl ((f.fails n place).0 k)) (λ k. inr (f.passes.0 k.0, (g.fails n place).0 k.1)) (split_fails h)),
    λ h. ⊎_elim (λ k. along (λ reason. first) ((f.fails n place).1 k)) (λ k. along (λ reason. then (f.passes.1 k.0)) ((g.fails n place).1 k.1)) ((says_split s t n place).0 h),
  );
  passes = (λ p. (silent_split s t).1 (f.passes.0 (passes_first p), g.passes.0 (passes_then p)), λ h. let k = (silent_split s t).0 h in both (f.passes.1 k.0) (g.passes.1 k.1));
}

-- two tests of one row: the row is so if one of them fails
pub either : {a b : Tests} {m : ℕ} {P Q : Type 0} → Renders a (m given P ∷ []) → Renders b (m given Q ∷ []) → Renders (a and_then b) (m given (P ⊎ Q) ∷ [])
either {a} {b} {m} {P} {Q} f g = record {
  fails = λ n place. (
    λ h. ⊎_elim (λ k. left n place ((f.fails n place).0 k)) (λ k. right n place ((g.fails n place).0 k.1)) (split_fails h),
    λ h. ⊎_elim (λ k. told_as (k.0, k.1) (back k.2)) (λ k. absurd k.1) h,
  );
  passes = (
    λ p. (λ h. ⊎_elim (f.passes.0 (passes_first p)).0 (g.passes.0 (passes_then p)).0 h, tt),
    λ h. both (f.passes.1 (λ k. h.0 (inl k), tt)) (g.passes.1 (λ k. h.0 (inr k), tt)),
  );
}
  where
    left : (n : ℕ) (place : Place) → Says (m given P ∷ []) n place → Says (m given (P ⊎ Q) ∷ []) n place
    left n place (inl h) = inl (h.0, h.1, inl h.2)
    left n place (inr h) = absurd h.1

    right : (n : ℕ) (place : Place) → Says (m given Q ∷ []) n place → Says (m given (P ⊎ Q) ∷ []) n place
    right n place (inl h) = inl (h.0, h.1, inr h.2)
    right n place (inr h) = absurd h.1

    second : Q → Passes a ⊎ ((c : Refusal) × Fails a c.reason c.place) → FailsAs (a and_then b) m Nowhere
    second q (inl p) = along (λ reason. then p) ((g.fails m Nowhere).1 (inl (refl, refl, q)))
    second q (inr h) =
        let own = as_number h.1 in
        ⊎_elim (λ k. told_as (sym k.0, sym k.1) (along (λ reason. first) own)) (λ k. absurd k.1) ((f.fails (number h.0.reason) h.0.place).0 own)

    back : P ⊎ Q → FailsAs (a and_then b) m Nowhere
    back (inl p) = along (λ reason. first) ((f.fails m Nowhere).1 (inl (refl, refl, p)))
    back (inr q) = second q (judged a)

-- ---- tests grouped otherwise

-- tests that come to the same complaint say what the same table says
grouped : {a b : Tests} {table : List Row} → complaint a ≡ complaint b → Renders a table → Renders b table
grouped e r = record {
  fails = λ n place. (
    λ f. (r.fails n place).0 (along (λ reason g. record { is = e ∙ g.is }) f),
    λ s. along (λ reason g. record { is = sym e ∙ g.is }) ((r.fails n place).1 s),
  );
  passes = (λ p. r.passes.0 (record { is = e ∙ p.is }), λ s. record { is = sym e ∙ (r.passes.1 s).is });
}

or_else_lem : (x y z : Option Refusal) → or_else x (or_else y z) ≡ or_else (or_else x y) z
or_else_lem none y z = refl
or_else_lem (some c) y z = refl

-- two tests of one row, after others
pub then_two : {a b c : Tests} {table : List Row} → Renders (a and_then (b and_then c)) table → Renders (a and_then b and_then c) table
unfolding complaint
then_two {a} {b} {c} r = grouped (or_else_lem (complaint a) (complaint b) (complaint c)) r

-- three tests of one row, after others
pub then_three : {a b c d : Tests} {table : List Row} → Renders (a and_then (b and_then c and_then d)) table → Renders (a and_then b and_then c and_then d) table
unfolding complaint
then_three {a} {b} {c} {d} r =
    let x = complaint a in
    let y = complaint b in
    let z = complaint c in
    let w = complaint d in
    grouped (or_else_lem x (or_else y z) w ∙ ap (λ o. or_else o w) (or_else_lem x y z)) r

-- ---- the sources of a list

-- no tests, no rows
pub no_rows : Renders nothing []
no_rows = record { fails = λ n place. (λ f. not_both no_tests f, λ s. absurd s); passes = (λ p. tt, λ s. no_tests) }

-- rows of the source at place k
abbrev pub rows_at : ℕ → List Row → List Row
rows_at k [] = []
rows_at k (row ∷ rows) = record { number = row.number; place = AtSource k; when = row.when } ∷ rows_at k rows

-- a table says a number at some place
abbrev SaysNumber : List Row → ℕ → Type 0
SaysNumber table n = (place : Place) × Says table n place

says_at : (k : ℕ) (table : List Row) (n : ℕ) (place : Place) → Says (rows_at k table) n place ↔ ((AtSource k ≡ place) × SaysNumber table n)
says_at k [] n place = (λ s. absurd s, λ h. absurd h.1.1)
says_at k (row ∷ rows) n place = (to (says_at k rows n place), λ h. from (says_at k rows n place) h.0 h.1.0 h.1.1)
  where
    to : Says (rows_at k rows) n place ↔ ((AtSource k ≡ place) × SaysNumber rows n) → Says (rows_at k (row ∷ rows)) n place → (AtSource k ≡ place) × SaysNumber (row ∷ rows) n
    to rest (inl h) = (h.1, (row.place, inl (h.0, refl, h.2)))
    to rest (inr h) = let r = rest.0 h.1 in (r.0, (r.1.0, inr (h.0, r.1.1)))

    from : Says (rows_at k rows) n place ↔ ((AtSource k ≡ place) × SaysNumber rows n) → AtSource k ≡ place → (own : Place) → Says (row ∷ rows) n own → Says (rows_at k (row ∷ rows)) n place
    from rest e own (inl h) = inl (h.0, e, h.2)
    from rest e own (inr h) = inr (h.0, rest.1 (e, (own, h.1)))

silent_at : (k : ℕ) (table : List Row) → Silent (rows_at k table) ↔ Silent table
silent_at k [] = (λ s. s, λ s. s)
silent_at k (row ∷ rows) = let rest = silent_at k rows in (λ s. (s.0, rest.0 s.1), λ s. (s.0, rest.1 s.1))

-- the tests of the source at place k: its rows have that place
pub of_source_lem : {k : ℕ} {tests : Tests} {table : List Row} → Renders tests table → Renders (of_source k tests) (rows_at k table)
of_source_lem {k} {tests} {table} r = record {
  fails = λ n place. (λ f. (says_at k table n place).1 (own n place f (judged tests)), λ s. back n place ((says_at k table n place).0 s));
  passes = (λ p. (silent_at k table).1 (r.passes.0 (passes_source p)), λ s. source_passes (r.passes.1 ((silent_at k table).0 s)));
}
  where
    own : (n : ℕ) (place : Place) → FailsAs (of_source k tests) n place → Passes tests ⊎ ((c : Refusal) × Fails tests c.reason c.place) → (AtSource k ≡ place) × SaysNumber table n
    own n place f (inl p) = absurd (not_both (source_passes p) f)
    own n place f (inr g) =
        let same = same_complaint (as_number (source_fails g.1)) f in
        (same.1, (g.0.place, (r.fails n g.0.place).0 (told_as (same.0, refl) (as_number g.1))))

    back : (n : ℕ) (place : Place) → (AtSource k ≡ place) × SaysNumber table n → FailsAs (of_source k tests) n place
    back n place h = told_as (refl, h.0) (along (λ reason. source_fails) ((r.fails n h.1.0).1 h.1.1))

-- ---- every call whose reply is made from its complaint

-- a complaint has this number and this place exactly if the tests fail so
pub complained : {tests : Tests} (c : Refusal) → complaint tests ≡ some c → (n : ℕ) (place : Place) → ((number c.reason ≡ n) × (c.place ≡ place)) ↔ FailsAs tests n place
complained c i n place = let own = as_number (record { is = i }) in (λ e. told_as e own, λ f. same_complaint own f)

-- a reply reads "refused n" at a place exactly if the call's complaint has that number and that place
complains : {A : Type 0} (tests : Tests) (answer : A) (said : Said A) → said ≡ reply (complaint tests) answer → (n : ℕ) (place : Place) → (said ≡ refused n place) ↔ FailsAs tests n place
complains {A} tests answer said e n place = (λ h. go (complaint tests) refl (sym h ∙ e), back)
  where
    go : (o : Option Refusal) → complaint tests ≡ o → refused n place ≡ reply o answer → FailsAs tests n place
    go none i h = absurd (let z : ◌≡◌ {A = ℕ} 0 1 = cc in omega arith)
    go (some c) i h = let s = refused_same h in (complained c i n place).0 (sym s.0, sym s.1)

    back : FailsAs tests n place → said ≡ refused n place
    back f = e ∙ sym (refuse_reply answer f.fails) ∙ ap (λ m. refused m place) f.numbered

module _ {A : Type 0} {tests : Tests} {table : List Row} (rows : Renders tests table) (answer : A) (said : Said A) (replies : said ≡ reply (complaint tests) answer) where
  -- "Bad input gets the refusal number .. exactly when its table says so"
  pub exactly : (n : ℕ) (place : Place) → (said ≡ refused n place) ↔ Says table n place
  exactly n place = Iff.trans (complains tests answer said replies n place) (rows.fails n place)

  -- "a refused call stores nothing": what is lent holds what it held before
  pub keeps : {L : Type 0} (before stores after : L) → after ≡ stored (complaint tests) before stores → (n : ℕ) (place : Place) → said ≡ refused n place → after ≡ before
  keeps before stores after e n place h = e ∙ sym (refuse_stored before stores ((complains tests answer said replies n place).0 h).fails)
