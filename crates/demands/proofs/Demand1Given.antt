-- Request E1: "in the place of 2, which is no longer given"; request E2: "16 is shown never to occur and is taken out". Assumes nothing.
use Prim.Native.Nat.{ℕ, zero, suc, ◌≤◌}
use native.Mathlib.Omega.{arith}
use mathlib.Core.Path.{◌≡◌, refl}
use mathlib.Core.Logic.{inl, inr}
use mathlib.Core.List.{List}
use Rattle.scope.specs.declared.Place.{Place}
use Rattle.scope.specs.declared.Place.TheVariants.{Nowhere, AtSource}
use Rattle.scope.specs.Refusal.{Withdrawn}
use Rattle.scope.specs.Table.{Tells}
use Rattle.scope.proofs.Rendered.{said_not_withdrawn}
use Rattle.vectors.proofs.Table.{vectors_renders}
use Rattle.hits.proofs.Table.{first_hit_renders, listing_renders}
use Rattle.map.proofs.Table.{map_renders}
use Rattle.blanking.proofs.Table.{blanking_renders}
use Rattle.saved.proofs.Table.{saving_renders, reading_renders}
use Rattle.text.specs.Table.{SaysOfText}
use Rattle.text.proofs.Table.{text_renders}
use Rattle.demands.specs.Given.{Gives, vectors, first_hit, listing, making, adding, blanking, saving, reading, text, report, c_vectors, c_first_hit, c_listing, c_making, c_adding, c_blanking, c_saving, c_reading, c_text}
use Rattle.demands.proofs.Demand1.{vectors_refused, first_hit_refused, listing_refused, map_refused, blanking_refused, saving_refused, reading_refused, text_refused, report_refused}
use Rattle.demands.proofs.Demand1Exports.{exported_vectors_refused, exported_first_hit_refused, exported_listing_refused, exported_map_refused, exported_blanking_refused, exported_saving_refused, exported_reading_refused, exported_text_refused}

module _ (n : ℕ) (gone : Withdrawn n) where
  -- the table of a text does not say it
  says_not_withdrawn : (bytes : List ℕ) (place : Place) → SaysOfText bytes n place → ⊥
  says_not_withdrawn bytes place (inl (inl s)) = elim gone [ inl e ↦ omega (arith, s.0, e) | inr e ↦ omega (arith, s.0, e) ]
  says_not_withdrawn bytes place (inl (inr s)) = s.1
  says_not_withdrawn bytes place (inr s) = said_not_withdrawn (text_renders s.0) n gone place s.2

  -- a number that a table says at no place is no refusal of a C function with that table
  untold : {Table : ℕ → Place → Type 0} {refusal told : ℕ} → Tells Table refusal told → ((place : Place) → Table n place → ⊥) → refusal ≡ n → 1 ≤ n → ⊥
  untold {Table} {refusal} {told} t unsaid e some = go told t
    where
      go : (k : ℕ) → Tells Table refusal k → ⊥
      go zero t = unsaid Nowhere ((t.refuses n Nowhere).0 (e, some, refl))
      go (suc k) t = unsaid (AtSource (suc k)) ((t.refuses n (AtSource (suc k))).0 (e, some, (refl, omega arith)))

  -- No call gives it, whatever its input: every operation and every C function, in every reply that its promise admits.
  pub never_given : Gives n → ⊥
  never_given (vectors p r I steps h place e) = said_not_withdrawn (vectors_renders p r I) n gone place ((vectors_refused p r I steps h n place).0 e)
  never_given (first_hit run source start r h place e) = said_not_withdrawn (first_hit_renders run source start) n gone place ((first_hit_refused run source start r h n place).0 e)
  never_given (listing run source start room r after h place e) = said_not_withdrawn (listing_renders run source start room) n gone place ((listing_refused run source start room r after h n place).0 e)
  never_given (making run periods weights phases before r after h place e) = said_not_withdrawn (map_renders run periods weights phases before) n gone place ((map_refused run periods weights phases before r after h n place).0 e)
  never_given (adding run periods weights phases before r after h place e) = said_not_withdrawn (map_renders run periods weights phases before) n gone place ((map_refused run periods weights phases before r after h n place).0 e)
  never_given (blanking run cells threshold guard room r after h place e) = said_not_withdrawn (blanking_renders run cells threshold guard room h.are) n gone place ((blanking_refused run cells threshold guard room r after h n place).0 e)
  never_given (saving run cells room r after h place e) = said_not_withdrawn (saving_renders run cells room) n gone place ((saving_refused run cells room r after h n place).0 e)
  never_given (reading file before r after h place e) = said_not_withdrawn (reading_renders file before) n gone place ((reading_refused file before r after h n place).0 e)
  never_given (text bytes input h place e) = says_not_withdrawn bytes place ((text_refused bytes input h n place).0 e)
  never_given (report bytes output h place e) = says_not_withdrawn bytes place ((report_refused bytes output h n place).0 e)
  never_given (c_vectors p r I a h e some) = untold (exported_vectors_refused p r I h) (said_not_withdrawn (vectors_renders p r I) n gone) e some
  never_given (c_first_hit run source start a h e some) = untold (exported_first_hit_refused run source start h) (said_not_withdrawn (first_hit_renders run source start) n gone) e some
  never_given (c_listing run source start room a after h e some) = untold (exported_listing_refused run source start room h) (said_not_withdrawn (listing_renders run source start room) n gone) e some
  never_given (c_making run periods weights phases before a after h e some) = untold (exported_map_refused run periods weights phases before h) (said_not_withdrawn (map_renders run periods weights phases before) n gone) e some
  never_given (c_adding run periods weights phases before a after h e some) = untold (exported_map_refused run periods weights phases before h) (said_not_withdrawn (map_renders run periods weights phases before) n gone) e some
  never_given (c_blanking run cells threshold guard room a after h e some) = untold (exported_blanking_refused run cells threshold guard room h) (said_not_withdrawn (blanking_renders run cells threshold guard room h.promised.are) n gone) e some
  never_given (c_saving run cells room a after h e some) = untold (exported_saving_refused run cells room h) (said_not_withdrawn (saving_renders run cells room) n gone) e some
  never_given (c_reading file before a after h e some) = untold (exported_reading_refused file before h) (said_not_withdrawn (reading_renders file before) n gone) e some
  never_given (c_text bytes a h e some) = untold (exported_text_refused bytes h) (says_not_withdrawn bytes) e some
