-- The bytes of a record as they stand in the blocks: from a place on, and behind a block's end in the next block.
use Rattle.std.specs.Prelude.{◌≡◌, List, ◌++◌, ℕ, ◌+◌, ◌≤◌, ◌<◌, length, take, drop}
use Rattle.rules.specs.Base.{byte_at}
use Rattle.rules.specs.Container.{place_of}

-- the bytes from a place on: so many that the block has left, then those behind its sum and the marks of the next block, four bytes each
unfoldable pub onward : List ℕ → ℕ → ℕ → List ℕ
onward file place left = take left (drop place file) ++ drop (place + left + 8) file

-- n of them are in the file
pub record Reaches (file : List ℕ) (place left n : ℕ) : Type 0 where
  pub near : place + n ≤ length file
  pub far : left < n → place + n + 8 ≤ length file

-- the first n of these bytes stand where a payload's do
pub record Placed (file bytes : List ℕ) (n : ℕ) : Type 0 where
  pub inside : (k : ℕ) → k < n → place_of k < length file
  pub same : (k : ℕ) → k < n → byte_at file (place_of k) ≡ byte_at bytes k
