-- A decoded program: its types, constructors and functions. Document 01 calls it a sheet.
use Rattle.std.specs.Prelude.{List, ℕ, length, Option, None, Some, slice_get}
use Rattle.rules.specs.declared.records.Alternative.{Alternative}
use Rattle.rules.specs.declared.records.Instruction.{Instruction}

-- a constructor: its result type, its argument types, its weight
pub record Constructor : Type 0 where
  pub result : ℕ
  pub arguments : List ℕ
  pub weight : ℕ

-- a function: its signature, its size bound (the largest of its alternatives), its code
pub record Function : Type 0 where
  pub result : ℕ
  pub parameters : List ℕ
  pub bound : List Alternative
  pub code : List Instruction

pub record Program : Type 0 where
  pub types : ℕ
  pub constructors : List Constructor
  pub functions : List Function

-- "001's operand n is the arity, taken from the signature"
abbrev pub arity : Function → ℕ
arity f = length f.parameters

-- "Numbers start at 0 for types, constructors and functions"
abbrev pub constructor : Program → ℕ → Option Constructor
constructor s c = slice_get s.constructors c

-- the weight of what is found, 0 of nothing
abbrev pub weight_of : Option Constructor → ℕ
weight_of None = 0
weight_of (Some k) = k.weight

abbrev pub function : Program → ℕ → Option Function
function s f = slice_get s.functions f
