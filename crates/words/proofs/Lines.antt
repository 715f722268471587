-- The laws of lines that stand in a text: what stands there joins what stands after it, and it leaves a text only one way to go on.
-- A line's first digits, its word and its newline are read one after the other; each law adds one piece in front. Assumes nothing.
use Prim.Native.Nat.{ℕ, suc, ◌+◌, ◌-◌, ◌≤◌, ◌<◌, min}
use native.Mathlib.Decide.{dec_le}
use native.Mathlib.Omega.{arith}
use mathlib.Core.Path.{◌≡◌, refl, sym, ap, ◌∙◌, subst}
use mathlib.Core.Bool.{Bool, true, false, true≢false}
use mathlib.Core.List.{List, [], ◌∷◌, ◌++◌, append_assoc}
use native.Mathlib.Numerals.{add-one}
use lib.ListN.{length, take, drop, get_or, set, length-set, length-append, length-drop, drop_of_length-le}
use lib.Seq.{drop-append_seam, drop-cons, drop-drop, set_at}
use Rattle.std.proofs.lemmas.List.{take_rest}
use lib.Dec.{eqb}
use Rattle.std.specs.Prelude.{Result, Ok, Err}
use Rattle.std.specs.List.{starts_with}
use Rattle.std.proofs.lemmas.Bool.Decides.{Decides-eqb}
use Rattle.std.proofs.lemmas.Slice.Eq.{starts_is}
use Rattle.rooms.specs.Lists.{UpTo}
use Rattle.rooms.proofs.Lists.{up_to_none, up_to_cons}
use Rattle.decimal.specs.Digits.{largest, digits}
use Rattle.decimal.specs.Inner.{begins_with_digit, NumberStands}
use Rattle.decimal.proofs.Laws.{digits_split}
use Rattle.decimal.proofs.Readings.{stands}
use Rattle.scope.specs.declared.Reason.{Reason}
use Rattle.words.specs.Line.{fields, line}
use Rattle.words.specs.Inner.{Spelled, NoWord, Field, NoField, FieldStored, Line, NoLine, LineAt, WordAt}

-- what follows a common front
behind : (front : List ℕ) {a b : List ℕ} → front ++ a ≡ front ++ b → a ≡ b
behind front {a} {b} e = sym (drop-append_seam front a) ∙ ap (drop (length front)) e ∙ drop-append_seam front b

module _ {text : List ℕ} {at : ℕ} where
  module _ {bytes : List ℕ} {next : ℕ} (s : Spelled text at bytes next) where
    pub spelled_append : {more : List ℕ} {end : ℕ} → Spelled text next more end → Spelled text at (bytes ++ more) end
    spelled_append {more} t =
        record { is = s.is ∙ rw t.is (sym (append_assoc bytes more _)); ends = t.ends ∙ omega (arith, s.ends, length-append bytes more) }

    -- the text goes on after the bytes as it has to
    spelled_forced : {rest : List ℕ} → drop at text ≡ bytes ++ rest → drop next text ≡ rest
    spelled_forced e = behind bytes (sym s.is ∙ e)

    -- they end within the text
    pub spelled_within : 0 < length bytes → (at < next) × (next ≤ length text)
    spelled_within h =
        let l = simp (length-append, length-drop) at (ap length s.is) in
        omega (arith, s.ends)

-- ---- a word

-- the text from `at` on; past its end that is nothing
pub rest_is : (text : List ℕ) (at from : ℕ) → from ≡ min at (length text) → take (length text - from) (drop from text) ≡ drop at text
rest_is text at from e =
    take_rest text from
    ∙ elim (dec_le at (length text)) [
      | yes h ↦ let same : from ≡ at = omega arith in rw same
      | no h ↦ drop_of_length-le text (omega arith) ∙ sym (drop_of_length-le text (omega arith))
    ]

-- whether it begins with the word
module _ (text : List ℕ) (at : ℕ) (word : List ℕ) {rest : List ℕ} {begins : Bool} (r : rest ≡ drop at text) (e : begins ≡ starts_with eqb rest word) where
  pub word_stands : begins ≡ true → Spelled text at word (at + length word)
  word_stands t =
      let s = (starts_is Decides-eqb (drop at text) word begins (rw r at e)).0 t in
      record { is = s ∙ ap (λ l. word ++ l) (drop-drop (length word) at text); ends = refl }

  pub word_missing : begins ≡ false → NoWord text at word
  word_missing f =
      record { none = λ after p. true≢false (sym ((starts_is Decides-eqb (drop at text) word begins (rw r at e)).1 after p) ∙ f) }

-- ---- a space and a number

module _ {text : List ℕ} {at start : ℕ} (s : Spelled text at (32 ∷ []) start) where
  -- the number that stands after a space
  pub field_stands : {v next : ℕ} → NumberStands text start v next → Field text at v next
  field_stands r = record { small = r.small; stands = spelled_append s (record { is = r.spelled; ends = r.ends }); ended = r.ended }

  -- where none does
  pub field_bad : ((v next : ℕ) → NumberStands text start v next → ⊥) → NoField text at
  field_bad r = record { none = λ v rest small ended e. r v _ (stands text start v rest small (spelled_forced s e) ended) }

pub no_space : {text : List ℕ} {at : ℕ} → NoWord text at (32 ∷ []) → NoField text at
no_space n = record { none = λ v rest small ended e. n.none (digits v ++ rest) e }

-- ---- the numbers of a line

-- the numbers and the newline stand at `at`
pub record Fields (text : List ℕ) (at : ℕ) (numbers : List ℕ) (next : ℕ) : Type 0 where
  pub small : UpTo largest numbers
  pub stands : Spelled text at (fields numbers) next

-- no numbers, so many, do
pub record NoFields (text : List ℕ) (at count : ℕ) : Type 0 where
  pub none : (numbers rest : List ℕ) → length numbers ≡ count → UpTo largest numbers → drop at text ≡ fields numbers ++ rest → ⊥

-- what follows a number begins with no digit
fields_begin : (numbers rest : List ℕ) → begins_with_digit (fields numbers ++ rest) ≡ false
unfolding fields
fields_begin [] rest = refl
fields_begin (n ∷ numbers) rest = refl

fields_cons : (v : ℕ) (numbers rest : List ℕ) → fields (v ∷ numbers) ++ rest ≡ (32 ∷ digits v) ++ (fields numbers ++ rest)
unfolding fields
fields_cons v numbers rest = append_assoc (32 ∷ digits v) (fields numbers) rest

-- numbers can be read in one way only, whatever follows
fields_split : (ms ns r s : List ℕ) → fields ms ++ r ≡ fields ns ++ s → (ms ≡ ns) × (r ≡ s)
unfolding fields
fields_split [] [] r s e = (refl, behind (10 ∷ []) e)
fields_split [] (n ∷ ns) r s e = let z : ◌≡◌ {A = ℕ} 10 32 = ap (λ l. get_or l 0 0) e in absurd (omega arith)
fields_split (m ∷ ms) [] r s e = let z : ◌≡◌ {A = ℕ} 32 10 = ap (λ l. get_or l 0 0) e in absurd (omega arith)
fields_split (m ∷ ms) (n ∷ ns) r s e =
    let k =
    digits_split m n (fields ms ++ r) (fields ns ++ s) (fields_begin ms r) (fields_begin ns s)
    (behind (32 ∷ []) (sym (fields_cons m ms r) ∙ e ∙ fields_cons n ns s)) in
    let j = fields_split ms ns r s k.1 in
    (ap (λ h. h ∷ ms) k.0 ∙ ap (λ t. n ∷ t) j.0, j.1)

pub line_split : (word ms ns r s : List ℕ) → line word ms ++ r ≡ line word ns ++ s → (ms ≡ ns) × (r ≡ s)
unfolding line
line_split word ms ns r s e =
    fields_split ms ns r s (behind word (sym (append_assoc word (fields ms) r) ∙ e ∙ append_assoc word (fields ns) s))

module _ {text : List ℕ} {at v next : ℕ} (f : Field text at v next) where
  -- a number in front of numbers
  pub field_joins : {numbers : List ℕ} {end : ℕ} → Fields text next numbers end → Fields text at (v ∷ numbers) end
  unfolding fields
  field_joins {numbers} g = record { small = up_to_cons v numbers f.small g.small; stands = spelled_append f.stands g.stands }

  -- the number that stands there is the only one, and the text goes on as it has to
  field_forced : (w : ℕ) (numbers rest : List ℕ) → drop at text ≡ fields (w ∷ numbers) ++ rest
      → (v ≡ w) × (drop next text ≡ fields numbers ++ rest)
  field_forced w numbers rest e =
      digits_split v w (drop next text) (fields numbers ++ rest) f.ended (fields_begin numbers rest)
      (behind (32 ∷ []) (sym f.stands.is ∙ e ∙ fields_cons w numbers rest))

  pub field_refutes : {count : ℕ} → NoFields text next count → NoFields text at (suc count)
  field_refutes {count} n = record { none = go }
    where
      go : (numbers rest : List ℕ) → length numbers ≡ suc count → UpTo largest numbers → drop at text ≡ fields numbers ++ rest → ⊥
      go [] rest l small e = omega arith
      go (w ∷ numbers) rest l small e = n.none numbers rest (omega arith) (λ k. small (suc k)) (field_forced w numbers rest e).1

-- where no number stands, no numbers do
pub no_field : {text : List ℕ} {at : ℕ} → NoField text at → (count : ℕ) → NoFields text at (suc count)
no_field {text} {at} n count = record { none = go }
  where
    go : (numbers rest : List ℕ) → length numbers ≡ suc count → UpTo largest numbers → drop at text ≡ fields numbers ++ rest → ⊥
    go [] rest l small e = omega arith
    go (w ∷ numbers) rest l small e =
        n.none w (fields numbers ++ rest) (small 0) (fields_begin numbers rest) (e ∙ fields_cons w numbers rest)

-- the newline alone
pub newline : {text : List ℕ} {at next : ℕ} → Spelled text at (10 ∷ []) next → Fields text at [] next
unfolding fields
newline s = record { small = up_to_none largest; stands = s }

pub no_newline : {text : List ℕ} {at : ℕ} → NoWord text at (10 ∷ []) → NoFields text at 0
unfolding fields
no_newline {text} {at} n = record { none = go }
  where
    go : (numbers rest : List ℕ) → length numbers ≡ 0 → UpTo largest numbers → drop at text ≡ fields numbers ++ rest → ⊥
    go [] rest l small e = n.none rest e
    go (w ∷ numbers) rest l small e = omega arith

-- ---- the word in front of them

module _ {text : List ℕ} {at : ℕ} {word : List ℕ} {next : ℕ} (s : Spelled text at word next) where
  pub word_joins : {numbers : List ℕ} {end : ℕ} → Fields text next numbers end → Line text at word numbers end
  unfolding line
  word_joins g = record { small = g.small; stands = spelled_append s g.stands }

  pub word_refutes : {count : ℕ} → NoFields text next count → NoLine text at word count
  unfolding line
  word_refutes n =
      record { none = λ numbers rest l small e. n.none numbers rest l small (spelled_forced s (e ∙ append_assoc word (fields numbers) rest)) }

-- where the word does not stand, no line does
pub no_word : {text : List ℕ} {at : ℕ} {word : List ℕ} → NoWord text at word → (count : ℕ) → NoLine text at word count
unfolding line
no_word {word = word} n count =
    record { none = λ numbers rest l small e. n.none (fields numbers ++ rest) (e ∙ append_assoc word (fields numbers) rest) }

-- ---- a line, number after number

-- these numbers stand at `at`, each after a space, up to `next`
abbrev NumbersAt : List ℕ → ℕ → List ℕ → ℕ → Type 0
NumbersAt text at [] next = next ≡ at
NumbersAt text at (v ∷ numbers) next = (end : ℕ) × Field text at v end × NumbersAt text end numbers next

module _ {text : List ℕ} where
  numbers_more : (numbers : List ℕ) (at next : ℕ) {v end : ℕ} → NumbersAt text at numbers next → Field text next v end → NumbersAt text at (numbers ++ (v ∷ [])) end
  numbers_more [] at next {v} {end} n f = (end, subst (λ a. Field text a v end) n f, refl)
  numbers_more (w ∷ numbers) at next n f = (n.0, n.1, numbers_more numbers n.0 next n.2 f)

  -- numbers in front of numbers and a newline
  numbers_join : (numbers : List ℕ) (at next : ℕ) {more : List ℕ} {end : ℕ} → NumbersAt text at numbers next → Fields text next more end
      → Fields text at (numbers ++ more) end
  numbers_join [] at next {more} {end} n g = subst (λ a. Fields text a more end) n g
  numbers_join (w ∷ numbers) at next n g = field_joins n.1 (numbers_join numbers n.0 next n.2 g)

  -- where so many more do not follow, there are no so many with them
  numbers_refute : (numbers : List ℕ) (at next : ℕ) {count : ℕ} → NumbersAt text at numbers next → NoFields text next count
      → NoFields text at (length numbers + count)
  numbers_refute [] at next {count} n g =
      let e : 0 + count ≡ count = omega arith in
      rw e (subst (λ a. NoFields text a count) n g)
  numbers_refute (w ∷ numbers) at next {count} n g =
      let e : suc (length numbers) + count ≡ suc (length numbers + count) = omega arith in
      rw e (field_refutes n.1 (numbers_refute numbers n.0 next n.2 g))

-- a number stored behind those that are stored
store_next : (front before : List ℕ) (count v : ℕ) → length front ≡ count → count < length before
    → set (front ++ drop count before) count v ≡ (front ++ (v ∷ [])) ++ drop (count + 1) before
store_next front before count v l h =
    rw (drop-cons before count 0 h, set_at front (get_or before count 0) (drop (suc count) before) v count l, append_assoc, add-one)

-- the word and k numbers are passed up to `next`; the room has the numbers, and behind them what it had before
pub record Passing (text : List ℕ) (at : ℕ) (word before room : List ℕ) (k next : ℕ) : Type 0 where
  pub start : ℕ
  pub named : Spelled text at word start
  pub numbers : List ℕ
  pub stand : NumbersAt text start numbers next
  pub counted : length numbers ≡ k
  pub within : k ≤ length before
  pub long : length room ≡ length before
  pub stores : room ≡ numbers ++ drop k before

module _ {text : List ℕ} {at : ℕ} {word before room : List ℕ} {k next : ℕ} (p : Passing text at word before room k next) where
  pub passing_more : {room' : List ℕ} {end : ℕ} → k < length room → FieldStored text next room k room' end → Passing text at word before room' (k + 1) end
  passing_more h f =
      let v = f.value in
      let more = v ∷ [] in
      record {
        start = p.start;
        named = p.named;
        numbers = p.numbers ++ more;
        stand = numbers_more p.numbers p.start next p.stand f.stands;
        counted = length-append p.numbers more ∙ omega (arith, p.counted);
        within = omega (arith, p.long);
        long = ap length f.stores ∙ simp length-set p.long;
        stores = f.stores ∙ rw p.stores (store_next p.numbers before k v p.counted (omega (arith, p.long)));
      }

  -- so many more do not follow
  refuted : NoFields text next (length before - k) → NoLine text at word (length before)
  refuted n =
      let all : length p.numbers + (length before - k) ≡ length before = omega (arith, p.counted, p.within) in
      word_refutes p.named (rw all at (numbers_refute p.numbers p.start next p.stand n))

  -- the line breaks off there: it is refused, for the reason that the caller gave
  pub passing_bad : (reason : Reason) → k < length room → NoField text next → LineAt text at word (length before) room reason (Err reason)
  passing_bad reason h n =
      let less : length before - k ≡ suc (length before - (k + 1)) = omega (arith, p.long) in
      (refl, refuted (rw less (no_field n (length before - (k + 1)))))

  pub passing_ends : length room ≤ k → (reason : Reason) (f : Result ℕ Reason) → WordAt text next (10 ∷ []) reason f → LineAt text at word (length before) room reason f
  passing_ends h reason (Ok end) w =
      let all : room ≡ p.numbers ++ [] = p.stores ∙ ap (λ r. p.numbers ++ r) (drop_of_length-le before {i = k} (omega (arith, p.long))) in
      subst (λ ns. Line text at word ns end) (sym all) (word_joins p.named (numbers_join p.numbers p.start next p.stand (newline w)))
  passing_ends h reason (Err given) w =
      let none_left : length before - k ≡ 0 = omega (arith, p.long) in
      (w.0, refuted (rw none_left (no_newline w.1)))
