-- The open program, and what its readers find of a program that the check accepts.
use Rattle.std.specs.Prelude.{◌≡◌, List, ℕ, length, Some, slice_get, IsSomeAnd}
use Rattle.std.specs.Borrow.{Bor}
use Rattle.rules.specs.declared.answers.Counts.{Counts}
use Rattle.rules.specs.declared.records.Alternative.{Alternative}
use Rattle.rules.specs.declared.records.HeadRecord.{HeadRecord}
use Rattle.rules.specs.declared.records.Instruction.{Instruction}
use Rattle.rules.specs.Base.{Tried, found, refused}
use Rattle.rules.specs.Container.{payload}
use Rattle.rules.specs.Check.{checked, counts_of, verdict_of}
use Rattle.rules.specs.Program.{Constructor, Function, Program, arity, constructor, function}
use Rattle.rules.specs.Records.{constructor_offset, head_offset, alternative_offset, code_offset, instruction_offset}
use Rattle.rules.specs.Records.{arguments_of, constructor_of, alternative_of, operation}
use Rattle.opened.specs.declared.OpenProgram.{OpenProgram}
use Rattle.standing.specs.Found.{constructor_found, head_found, alternative_found, instruction_found}

---- "An open sheet keeps the lent blocks together with its header counts"

-- counts where the check accepts, else none
abbrev pub counts_from : Tried Counts → Counts
counts_from (found c) = c
counts_from (refused r) = record { types = 0; constructors = 0; functions = 0 }

unfoldable pub counts_in : List ℕ → Counts
counts_in file = counts_from (verdict_of file)

pub record Opens (blocks : Bor (List ℕ)) (p : OpenProgram) : Type 0 where
  pub lent : p.blocks ≡ blocks
  pub types : p.types ≡ (counts_in blocks.now).types
  pub constructors : p.constructors ≡ (counts_in blocks.now).constructors
  pub functions : p.functions ≡ (counts_in blocks.now).functions

---- Where the check accepts, the readers give the program's records

-- what the head of a function says
pub record HeadRead (h : HeadRecord) (f : Function) : Type 0 where
  pub result : h.declaration.result ≡ f.result
  pub parameters : arguments_of h.declaration ≡ f.parameters
  pub alternatives : h.alternatives ≡ length f.bound
  pub instructions : h.instructions ≡ length f.code

-- the records of function g, whose head stands at an offset
pub record FunctionRead (file : List ℕ) (f : Function) (at : ℕ) : Type 0 where
  pub head : IsSomeAnd (head_found file at) (λ h. HeadRead h f)
  pub bound : (k : ℕ) (a : Alternative) → slice_get f.bound k ≡ Some a
      → IsSomeAnd (alternative_found file (alternative_offset at k)) (λ r. alternative_of (arity f) r ≡ a)
  pub code : (i : ℕ) (ins : Instruction) → slice_get f.code i ≡ Some ins
      → IsSomeAnd (instruction_found file (instruction_offset (code_offset (payload file) at) i)) (λ r. operation r ≡ Some ins)

pub record ProgramRead (file : List ℕ) (s : Program) : Type 0 where
  pub counts : counts_in file ≡ counts_of s
  pub constructors : (c : ℕ) (k : Constructor) → constructor s c ≡ Some k
      → IsSomeAnd (constructor_found file (constructor_offset c)) (λ r. constructor_of r ≡ k)
  pub functions : (g : ℕ) (f : Function) → function s g ≡ Some f → FunctionRead file f (head_offset (payload file) g)

abbrev pub OpenExact : Type 0
OpenExact = (file : List ℕ) (s : Program) → checked file ≡ found s → ProgramRead file s
