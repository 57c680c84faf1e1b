-- Where instructions stand: places in the file, and the offsets in the payload that they stand for.
use Rattle.std.specs.Prelude.{◌≡◌, List, ℕ, ◌+◌, ◌*◌, ◌-◌, ◌/◌, ◌%◌, ◌≤◌, ◌<◌}
use Rattle.rules.specs.Container.{payload}
use Rattle.rules.specs.Records.{instruction_offset, code_offset, head_offset}

-- the offset in the payload that a place of the file stands for. The places of a block's sum stand for the first ones of the next block
unfoldable pub offset_at : ℕ → ℕ
offset_at at = at - 4 - 8 * (at / 512)

-- a place behind the marks that a block begins with
unfoldable pub Inside : ℕ → Type 0
Inside at = 4 ≤ at % 512

-- a place n instructions behind another
pub record Behind (from n at : ℕ) : Type 0 where
  pub inside : Inside at
  pub is : offset_at at ≡ offset_at from + 4 * n

-- instruction i of function f stands at a place of the file
pub record StandsAt (file : List ℕ) (f i at : ℕ) : Type 0 where
  pub first : 0 < i
  pub inside : Inside at
  pub is : offset_at at ≡ instruction_offset (code_offset (payload file) (head_offset (payload file) f)) (i - 1)
