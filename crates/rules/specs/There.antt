-- What stands where in a payload whose records are right.
use Rattle.std.specs.Prelude.{◌≡◌, List, true, ℕ, ◌+◌, ◌≤◌, ◌<◌, length}
use Rattle.rules.specs.Base.{byte_at, word_at}
use Rattle.rules.specs.Records.{header_at, alternative_at, instruction_at, header_right, alternative_right, operation, is_some}
use Rattle.rules.specs.Records.{constructor_offset, alternative_offset, code_offset, instruction_offset, head_offset}

-- a function at an offset of a payload, whose records are all there and right
pub record FunctionThere (bytes : List ℕ) (at : ℕ) : Type 0 where
  pub head : at + 10 ≤ length bytes
  pub arity : byte_at bytes (at + 1) ≤ 4
  pub some_alternatives : 1 ≤ byte_at bytes (at + 6)
  pub few_alternatives : byte_at bytes (at + 6) ≤ 4
  pub some_code : 1 ≤ word_at bytes (at + 8)
  pub short_code : word_at bytes (at + 8) ≤ 256
  pub alternative : (k : ℕ) → k < byte_at bytes (at + 6)
      → (alternative_offset at k + 6 ≤ length bytes)
      × (alternative_right (byte_at bytes (at + 1)) (alternative_at bytes (alternative_offset at k)) ≡ true)
  pub instruction : (i : ℕ) → i < word_at bytes (at + 8)
      → (instruction_offset (code_offset bytes at) i + 4 ≤ length bytes)
      × (is_some (operation (instruction_at bytes (instruction_offset (code_offset bytes at) i))) ≡ true)

-- a payload whose records are all there and right
pub record RecordsThere (bytes : List ℕ) : Type 0 where
  pub header : 4 ≤ length bytes
  pub header_right_lem : header_right (header_at bytes 0) ≡ true
  pub constructor : (c : ℕ) → c < byte_at bytes 2 → (constructor_offset c + 8 ≤ length bytes)
      × (byte_at bytes (constructor_offset c + 1) ≤ 4)
  pub function : (g : ℕ) → g < byte_at bytes 3 → FunctionThere bytes (head_offset bytes g)
  pub end : head_offset bytes (byte_at bytes 3) ≡ length bytes
