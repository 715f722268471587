-- What every exported function promises: its answer is the operation's reply, written in numbers.
use Rattle.std.specs.Prelude.{◌≡◌}

-- There is a reply that the operation may give, and the numbers are those that tell it.
pub record Exported {A B : Type 0} (Promise : A → Type 0) (told : A → B) (numbers : B) : Type 0 where
  pub reply : A
  pub promised : Promise reply
  pub is : numbers ≡ told reply
