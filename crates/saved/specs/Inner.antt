-- What the inner steps ask for.
use Rattle.std.specs.Prelude.{ℕ, ◌^◌}

-- The cells of every run are fewer bytes than this, and of fewer bytes each sum of the steps fits 64 bits, each block's number 32.
abbrev pub many_bytes : ℕ
many_bytes = 2 ^ 37
