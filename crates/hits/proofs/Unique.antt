-- What follows from the promises alone: "That no second reply fits is proved", and some reply does. Assumes nothing.
use Prim.Native.Nat.{ℕ}
use mathlib.Core.Path.{◌≡◌, refl, sym, ap, ◌∙◌}
use mathlib.Core.Logic.{◌⊎◌, inl, inr}
use mathlib.Core.List.{List}
use mathlib.Core.Option.{Option, some, none}
use Rattle.scope.specs.declared.Run.{Run}
use Rattle.scope.specs.declared.Source.{Source}
use Rattle.scope.specs.declared.RunCell.{RunCell}
use Rattle.scope.specs.Hit.{hits_from}
use Rattle.scope.specs.Refusal.{number, complaint}
use Rattle.scope.specs.Reply.{Said, refused, answered, reply}
use Rattle.scope.proofs.Judged.{Fails, Passes, same_refusal, refuse_reply, grant_reply}
use Rattle.scope.proofs.Rendered.{judged}
use Rattle.scope.specs.declared.Refusal.{Refusal}
use Rattle.std.specs.Prelude.{Option as Option·code, Some, None, Result, Ok, Err}
use Rattle.hits.specs.declared.Listing.{Listing}
use Rattle.hits.specs.Promise.{first_hit_tests, listing_tests, first, cell_number, says_first_hit, FirstHitPromise, Listed, says_listing, listed, ListingPromise}

-- a cell is told by its number, and a refusal by its number and place
cell_number_injective : (x y : Option·code RunCell) → cell_number x ≡ cell_number y → x ≡ y
cell_number_injective (Some x) (Some y) e = ap (λ (n : ℕ). Some (record { 0 = n })) (cc)
cell_number_injective (Some x) None e = cc
cell_number_injective None (Some y) e = cc
cell_number_injective None None e = refl

same_err : {A B : Type 0} {a b : Refusal} → ◌≡◌ {A = Said A} (refused (number a.reason) a.place) (refused (number b.reason) b.place) → ◌≡◌ {A = Result B Refusal} (Err a) (Err b)
same_err e =
    let s = same_refusal e in
    let reason = s.0 in
    let place = s.1 in
    λ i. Err (record { reason = reason i; place = place i })

-- a reply of the first-hit call is told by what it says
says_first_hit_injective : (a b : Result (Option·code RunCell) Refusal) → says_first_hit a ≡ says_first_hit b → a ≡ b
says_first_hit_injective (Ok x) (Ok y) e = ap Ok (cell_number_injective x y (cc))
says_first_hit_injective (Ok x) (Err r) e = cc
says_first_hit_injective (Err r) (Ok y) e = cc
says_first_hit_injective (Err r) (Err q) e = same_err e

-- no second reply fits a first-hit call
pub first_hit_unique : (run : Run) (source : Source) (start : RunCell) (a b : Result (Option·code RunCell) Refusal) → FirstHitPromise run source start a → FirstHitPromise run source start b → a ≡ b
unfolding FirstHitPromise
first_hit_unique run source start a b p q = says_first_hit_injective a b (p ∙ sym q)

-- a reply of the listing call is told by what it says
pub says_listing_injective : (a b : Result Listing Refusal) → says_listing a ≡ says_listing b → a ≡ b
says_listing_injective (Ok x) (Ok y) e =
    let l : ◌≡◌ {A = Listed} (record { count = x.count; next = cell_number x.next }) (record { count = y.count; next = cell_number y.next }) = cc in
    let count = ap (λ (l : Listed). l.count) l in
    let next = cell_number_injective x.next y.next (ap (λ (l : Listed). l.next) l) in
    λ i. Ok (record { count = count i; next = next i })
says_listing_injective (Ok x) (Err r) e = cc
says_listing_injective (Err r) (Ok y) e = cc
says_listing_injective (Err r) (Err q) e = same_err e

-- no second reply fits a listing call, nor does the room hold anything else after it
pub listing_unique : {run : Run} {source : Source} {start : RunCell} {room : List ℕ} {a b : Result Listing Refusal} {after after' : List ℕ} → ListingPromise run source start room a after → ListingPromise run source start room b after' → (a ≡ b) × (after ≡ after')
listing_unique {a = a} {b} p q = (says_listing_injective a b (p.says ∙ sym q.says), p.stores ∙ sym q.stores)

-- ---- whatever is to be said, some reply says it

abbrev cell_of : Option ℕ → Option·code RunCell
cell_of none = None
cell_of (some y) = Some (record { 0 = y })

number_cell : (o : Option ℕ) → cell_number (cell_of o) ≡ o
number_cell none = refl
number_cell (some y) = refl

-- Some reply fits the first-hit call.
pub first_hit_exists : (run : Run) (source : Source) (start : RunCell) → (r : Result (Option·code RunCell) Refusal) × FirstHitPromise run source start r
unfolding FirstHitPromise
first_hit_exists run source start = go (judged (first_hit_tests run source start))
  where
    hit : Option ℕ
    hit = first (hits_from run source start.0)

    go : Passes (first_hit_tests run source start) ⊎ ((c : Refusal) × Fails (first_hit_tests run source start) c.reason c.place) → (r : Result (Option·code RunCell) Refusal) × (says_first_hit r ≡ reply (complaint (first_hit_tests run source start)) hit)
    go (inl p) = (Ok (cell_of hit), ap answered (number_cell hit) ∙ grant_reply hit p)
    go (inr f) = (Err f.0, refuse_reply hit f.1)

-- Some reply and some room after it fit the listing call.
pub listing_exists : (run : Run) (source : Source) (start : RunCell) (room : List ℕ) → (r : Result Listing Refusal) × (after : List ℕ) × ListingPromise run source start room r after
listing_exists run source start room = go (judged (listing_tests run source start room))
  where
    lists : Listed
    lists = listed (hits_from run source start.0) room

    go : Passes (listing_tests run source start room) ⊎ ((c : Refusal) × Fails (listing_tests run source start room) c.reason c.place) → (r : Result Listing Refusal) × (after : List ℕ) × ListingPromise run source start room r after
    go (inl p) = (Ok (record { count = lists.count; next = cell_of lists.next }), _, record { says = ap (λ next. answered (record { count = lists.count; next = next })) (number_cell lists.next) ∙ grant_reply lists p; stores = refl })
    go (inr f) = (Err f.0, _, record { says = refuse_reply lists f.1; stores = refl })
