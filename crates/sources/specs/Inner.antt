-- What the inner steps that judge lists of sources hand on.
use Rattle.std.specs.Prelude.{Result, Ok, Err}
use Rattle.std.proofs.Math.Option.{Option, some, none}
use Rattle.scope.specs.declared.Refusal.{Refusal}

-- What a step answers: with a complaint the refusal, with none what it grants.
abbrev pub granted : {A : Type 0} → Option Refusal → A → Result A Refusal
granted none answer = Ok answer
granted (some c) answer = Err c
