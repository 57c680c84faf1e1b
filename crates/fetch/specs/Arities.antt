-- What the interpreter asks of a program's records: arities, and that its numbers are in the file's ranges.
use Rattle.std.specs.Prelude.{◌≡◌, [], ℕ, ◌≤◌, ◌<◌, length}
use Rattle.std.specs.Prelude.{Option, None, Some}
use Rattle.rules.specs.Machine.{Frame, current}
use Rattle.rules.specs.declared.records.Instruction.{Instruction}
use Rattle.rules.specs.Prefix.{arity}
use Rattle.rules.specs.Program.{Function, Program, function}

unfoldable pub inputs_of : Option Function → ℕ
inputs_of None = 0
inputs_of (Some k) = length k.parameters

-- a function's arity
abbrev pub inputs : Program → ℕ → ℕ
inputs s f = inputs_of (function s f)

-- a frame at a place, whatever its stack
abbrev pub place : ℕ → ℕ → Frame
place f i = record { function = f; instruction = i; stack = [] }

-- the numbers of a program are in the file's ranges
pub record NumbersInRange (s : Program) : Type 0 where
  pub few : (c : ℕ) → arity s c ≤ 4
  pub at : (f i : ℕ) (ins : Instruction) → current s (place f i) ≡ Some ins → (f < 32) × (i ≤ 256)
