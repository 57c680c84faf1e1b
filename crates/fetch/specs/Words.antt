-- An instruction's record as one number.
use Rattle.std.specs.Prelude.{◌≡◌, List, ℕ, ◌+◌, ◌<◌}
use Rattle.rules.specs.Base.{byte_at, long_at}

-- the number in the four bytes at an offset. Its first two bytes are bytes, so it can be taken apart again
pub record WordThere (bytes : List ℕ) (k w : ℕ) : Type 0 where
  pub is : w ≡ long_at bytes k
  pub first_small : byte_at bytes k < 256
  pub second_small : byte_at bytes (k + 1) < 256
