-- Document 01: "A refused call answers with the number alone and stores nothing in anything lent." Request E1: "From then on a
-- refusal carries the reason and, where it concerns a source, that place".
use Rattle.std.specs.Prelude.{ℕ}
use Rattle.std.proofs.Math.Option.{Option, some, none}
use Rattle.scope.specs.Refusal.{Refusal, number}
use Rattle.scope.specs.declared.Place.{Place}

-- What a reply says, whatever type carries it: a refusal's number and place, or an answer.
pub data Said (A : Type 0) : Type 0 where
  refused : ℕ → Place → Said A
  answered : A → Said A

-- What a call is to say: with a complaint its number and place alone, with none the answer.
abbrev pub reply : {A : Type 0} → Option Refusal → A → Said A
reply none answer = answered answer
reply (some c) answer = refused (number c.reason) c.place

-- What something lent is to hold afterwards: with a complaint what it held before, with none what the call stores.
abbrev pub stored : {A : Type 0} → Option Refusal → A → A → A
stored none before after = after
stored (some c) before after = before
