-- What the code reads of a function, a build and a call.
use Rattle.std.specs.Prelude.{◌≡◌, List, Option, Some, None, ℕ, ◌+◌, ◌≤◌, ◌<◌, get_or}
use Rattle.rules.specs.declared.records.Instruction.{Instruction}
use Rattle.rules.specs.declared.records.Instruction.TheVariants.{Load, Build, Call, Branch, Return, Stop}
use Rattle.rules.specs.Base.{byte_at, word_at}
use Rattle.rules.specs.Container.{payload}
use Rattle.rules.specs.Records.{constructor_offset, code_offset, head_offset}
use Rattle.rules.specs.There.{RecordsThere}
use Rattle.rules.specs.Established.{Verified}
use Rattle.sizing.specs.declared.bounds.Bound.{Bound}
use Rattle.sizing.specs.declared.bounds.Bound.TheVariants.{Built, Declared}
use Rattle.sizing.specs.declared.routines.Routine.{Routine}
use Rattle.sizing.specs.declared.routines.Maker.{Maker}

-- the bound of the function whose head stands at an offset
abbrev pub declared_bound : List ℕ → ℕ → Bound
declared_bound bytes at = Declared at (byte_at bytes (at + 6))

pub record RoutineIs (bytes : List ℕ) (at : ℕ) (r : Routine) : Type 0 where
  pub arity : r.arity ≡ byte_at bytes (at + 1)
  pub bound : r.bound ≡ declared_bound bytes at
  pub base : r.base ≡ code_offset bytes at
  pub last : r.last ≡ word_at bytes (at + 8)

-- the constructor or function that an instruction names is there
abbrev pub OperandThere : List ℕ → Instruction → Type 0
OperandThere bytes (Load a) = Unit {0}
OperandThere bytes (Build c) = c < byte_at bytes 2
OperandThere bytes (Call g) = g < byte_at bytes 3
OperandThere bytes (Branch c b) = c < byte_at bytes 2
OperandThere bytes Return = Unit {0}
OperandThere bytes Stop = Unit {0}

-- records that are right, and where the heads of the functions stand
pub record Records (file heads : List ℕ) : Type 0 where
  pub verified : Verified file
  pub bytes : (k : ℕ) → get_or file k 0 < 256
  pub there : RecordsThere (payload file)
  pub few : byte_at (payload file) 3 ≤ 32
  pub placed : (g : ℕ) → g < byte_at (payload file) 3 → get_or heads g 0 ≡ head_offset (payload file) g

-- what a build of constructor c makes, and a call of the function whose head stands at an offset
abbrev pub built_maker : List ℕ → ℕ → Maker
built_maker bytes c = record {
  arity = byte_at bytes (constructor_offset c + 1);
  bound = Built (byte_at bytes (constructor_offset c + 6));
}

abbrev pub called_maker : List ℕ → ℕ → Maker
called_maker bytes at = record { arity = byte_at bytes (at + 1); bound = declared_bound bytes at }

abbrev pub maker_in : List ℕ → Instruction → Option Maker
maker_in bytes (Load a) = None
maker_in bytes (Build c) = Some (built_maker bytes c)
maker_in bytes (Call g) = Some (called_maker bytes (head_offset bytes g))
maker_in bytes (Branch c b) = None
maker_in bytes Return = None
maker_in bytes Stop = None
