-- What a loop knows that passes one digit after the other: the number so far, and where none can stand;
-- and so there is a reading everywhere.
-- Assumes nothing.
use Prim.Native.Nat.{ℕ, zero, suc, ◌+◌, ◌*◌, ◌-◌, ◌<◌, ◌≤◌}
use mathlib.Core.Path.{◌≡◌, refl, sym, ap, ◌∙◌}
use mathlib.Core.Bool.{Bool, true, false, true≢false}
use mathlib.Core.List.{List, [], ◌∷◌, ◌++◌, append_assoc}
use native.Mathlib.Numerals.{add-one}
use native.Mathlib.Decide.{dec_lt, dec_le}
use native.Mathlib.Omega.{arith}
use lib.ListN.{length, get_or, drop, length-append, drop_of_length-le}
use lib.Seq.{drop-cons, drop-drop, drop-append_seam}
use Rattle.std.specs.Prelude.{Option, None, Some}
use Rattle.decimal.specs.Digits.{largest, digits}
use Rattle.decimal.specs.Inner.{is_digit, begins_with_digit, DigitStands, NumberStands, Reading}
use Rattle.decimal.proofs.Laws.{
  is_digit_lem,
  digit_bounds,
  digits_one,
  digits_snoc,
  digits_all,
  no_leading_zero,
  all_append,
  begins_number,
  run_prefix,
  value_snoc,
  value_prefix,
}

-- a number and what follows it, wherever they are found, stand there
pub stands : (text : List ℕ) (at v : ℕ) (rest : List ℕ) → v ≤ largest → drop at text ≡ digits v ++ rest
    → begins_with_digit rest ≡ false → NumberStands text at v (at + length (digits v))
stands text at v rest small e ended =
    let d : drop (at + length (digits v)) text ≡ rest =
    sym (drop-drop (length (digits v)) at text) ∙ ap (drop (length (digits v))) e ∙ drop-append_seam (digits v) rest in
    record { small = small; spelled = rw d e; ended = rw d ended; ends = refl }

-- ---- a digit in a text

-- no digit stands past the end; before it, the text from `at` on begins with the byte there
begins_past : (text : List ℕ) (at : ℕ) → length text ≤ at → begins_with_digit (drop at text) ≡ false
begins_past text at h = rw (drop_of_length-le text h)

begins_at : (text : List ℕ) (at : ℕ) → at < length text → begins_with_digit (drop at text) ≡ is_digit (get_or text at 0)
begins_at text at h = ap begins_with_digit (drop-cons text at 0 h)

-- where a text begins with a digit, that is the byte there less 48
pub digit : (text : List ℕ) (at d : ℕ) → d ≡ get_or text at 0 - 48 → begins_with_digit (drop at text) ≡ true → DigitStands text at d
digit text at d e begins =
    elim (dec_lt at (length text)) [
      | yes h ↦
          let k = digit_bounds (get_or text at 0) (sym (begins_at text at h) ∙ begins) in
          let b : get_or text at 0 ≡ 48 + d = omega arith in
          record { within = h; small = omega arith; byte = b; there = rw (← b, add-one) (drop-cons text at 0 h) }
      | no h ↦ absurd (true≢false (sym begins ∙ begins_past text at (omega arith)))
    ]

-- ---- the digits passed

-- the digits passed from `at` up to `next` are those of v
pub record Passed (text : List ℕ) (at v next : ℕ) : Type 0 where
  pub small : v ≤ largest
  pub spelled : drop at text ≡ digits v ++ drop next text
  pub ends : next ≡ at + length (digits v)

module _ {text : List ℕ} {at : ℕ} where
  -- the first digit alone
  pub passed_first : {d : ℕ} → DigitStands text at d → Passed text at d (at + 1)
  passed_first {d} g =
      let e = digits_one d g.small in
      record { small = omega (arith, g.small); spelled = rw e g.there; ends = rw e }

  -- the digits passed and one digit more
  longer : {v next d : ℕ} → Passed text at v next → DigitStands text next d
      → drop at text ≡ (digits v ++ ((48 + d) ∷ [])) ++ drop (next + 1) text
  longer p g = p.spelled ∙ rw (g.there, append_assoc)

  -- a digit more, where it makes no leading zero and the number stays small
  pub passed_more : {v next d : ℕ} → Passed text at v next → DigitStands text next d → (v ≡ 0 → ⊥) → v * 10 + d ≤ largest
      → Passed text at (v * 10 + d) (next + 1)
  passed_more {v} {next} {d} p g pos small =
      let e = digits_snoc v d (omega arith) g.small in
      record {
        small = small;
        spelled = rw e (longer p g);
        ends = rw e (omega (arith, length-append (digits v) ((48 + d) ∷ []), p.ends));
      }

  -- no digit more: the number stands there
  passed_ends : {v next : ℕ} → Passed text at v next → begins_with_digit (drop next text) ≡ false → NumberStands text at v next
  passed_ends p e = record { small = p.small; spelled = p.spelled; ended = e; ends = p.ends }

  -- ---- no number stands there

  -- where no digit stands
  pub no_digit : begins_with_digit (drop at text) ≡ false → (w n : ℕ) → NumberStands text at w n → ⊥
  no_digit e w n s = true≢false (sym (begins_number w (drop n text)) ∙ sym (ap begins_with_digit s.spelled) ∙ e)

  -- a number that stands there begins with the digits passed and one digit more
  begins : {v next d w n : ℕ} → Passed text at v next → DigitStands text next d → NumberStands text at w n
      → (more : List ℕ) × (digits w ≡ (digits v ++ ((48 + d) ∷ [])) ++ more)
  begins {v} {next} {d} {w} {n} p g s =
      run_prefix (digits v ++ ((48 + d) ∷ [])) (digits w) _ (drop n text)
      (all_append (digits v) _ (digits_all v) (is_digit_lem (48 + d) (omega arith) (omega (arith, g.small)), tt))
      s.ended
      (sym (longer p g) ∙ s.spelled)

  -- where a digit follows 0
  pub leading_zero : {v next d : ℕ} → Passed text at v next → DigitStands text next d → v ≡ 0 → (w n : ℕ) → NumberStands text at w n → ⊥
  leading_zero {v} {next} {d} p g z w n s =
      let (more, e) = begins p g s in
      let f : digits w ≡ (48 + v) ∷ (48 + d) ∷ more = e ∙ rw (digits_one v (omega arith)) refl in
      no_leading_zero w (omega (arith, ap length f)) (ap (λ l. get_or l 0 0) f ∙ omega arith)

  -- where the digits passed and one digit more are too large
  pub too_large : {v next d : ℕ} → Passed text at v next → DigitStands text next d → largest < v * 10 + d → (w n : ℕ) → NumberStands text at w n → ⊥
  too_large {v} {next} {d} p g h w n s =
      let (more, e) = begins p g s in
      omega (arith, value_snoc v d, value_prefix w (digits v ++ ((48 + d) ∷ [])) more e, s.small)

-- ---- there is a reading everywhere

module _ (text : List ℕ) (at : ℕ) where
  -- after the digits passed: what follows them decides, or a reading after one digit more
  one_more : {v next : ℕ} → Passed text at v next → ((w : ℕ) → Passed text at w (next + 1) → (n : Option (ℕ × ℕ)) × Reading text at n)
      → (n : Option (ℕ × ℕ)) × Reading text at n
  one_more {v} {next} p further = follows (begins_with_digit (drop next text)) refl
    where
      follows : (b : Bool) → begins_with_digit (drop next text) ≡ b → (n : Option (ℕ × ℕ)) × Reading text at n
      follows false e = (Some (v, next), passed_ends p e)
      follows true e =
          let d = get_or text next 0 - 48 in
          let g = digit text next d refl e in
          elim (dec_lt 0 v) [
            | yes pos ↦
                elim (dec_le (v * 10 + d) largest) [
                  | yes small ↦ further (v * 10 + d) (passed_more p g (λ z. omega arith) small)
                  | no large ↦ (None, too_large p g (omega arith))
                ]
            | no nothing ↦ (None, leading_zero p g (omega arith))
          ]

  -- so many digits more, at most, are left of the text
  digits_on : (left v next : ℕ) → length text ≤ next + left → Passed text at v next → (n : Option (ℕ × ℕ)) × Reading text at n
  digits_on zero v next h p = (Some (v, next), passed_ends p (begins_past text next (omega arith)))
  digits_on (suc left) v next h p = one_more p (λ w q. digits_on left w (next + 1) (omega arith) q)

  -- some reading fits
  pub number_exists : (n : Option (ℕ × ℕ)) × Reading text at n
  number_exists = begins_so (begins_with_digit (drop at text)) refl
    where
      begins_so : (b : Bool) → begins_with_digit (drop at text) ≡ b → (n : Option (ℕ × ℕ)) × Reading text at n
      begins_so false e = (None, no_digit e)
      begins_so true e = digits_on (length text) _ (at + 1) (omega arith) (passed_first (digit text at (get_or text at 0 - 48) refl e))
