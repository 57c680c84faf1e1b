-- The records of a payload: where each stands, its bytes, whether its fields are in range (4), and what it says.
-- Document 01, "Payload, in order" and number 4.
use Rattle.std.specs.Prelude.{if◌then◌else◌, List, [], ◌∷◌, Bool, true, false, ◌&&◌, ℕ, zero, suc, ◌+◌, ◌*◌, length, take, drop, leb, eqb}
use Rattle.std.specs.Prelude.{Option, None, Some}
use Rattle.rules.specs.declared.records.Header.{Header}
use Rattle.rules.specs.declared.records.Declaration.{Declaration}
use Rattle.rules.specs.declared.records.ConstructorRecord.{ConstructorRecord}
use Rattle.rules.specs.declared.records.HeadRecord.{HeadRecord}
use Rattle.rules.specs.declared.records.AlternativeRecord.{AlternativeRecord}
use Rattle.rules.specs.declared.records.InstructionRecord.{InstructionRecord}
use Rattle.rules.specs.declared.records.Alternative.{Alternative}
use Rattle.rules.specs.declared.records.Instruction.{Instruction}
use Rattle.rules.specs.declared.records.Instruction.TheVariants.{Load, Build, Call, Branch, Return, Stop}
use Rattle.rules.specs.Base.{refusal, Tried, found, ◌>>=◌, Check, require, numbered, for_each, within, is_zero, all}
use Rattle.rules.specs.Base.{byte_at, word_at}
use Rattle.rules.specs.Container.{payload}
use Rattle.rules.specs.Program.{Constructor, Function, Program}

---- The bytes of a record at an offset of the payload

abbrev pub four_at : List ℕ → ℕ → List ℕ
four_at bytes at = byte_at bytes at ∷ byte_at bytes (at + 1) ∷ byte_at bytes (at + 2) ∷ byte_at bytes (at + 3) ∷ []

-- "Header, 4 bytes: edition 1; types T, 1-32; constructors C, 1-64; functions F, 1-32"
abbrev pub header_at : List ℕ → ℕ → Header
header_at bytes at = record {
  edition = byte_at bytes at;
  types = byte_at bytes (at + 1);
  constructors = byte_at bytes (at + 2);
  functions = byte_at bytes (at + 3);
}

-- "result type, arity 0-4, four argument types"
abbrev pub declaration_at : List ℕ → ℕ → Declaration
declaration_at bytes at = record { result = byte_at bytes at; arity = byte_at bytes (at + 1); types = four_at bytes (at + 2) }

-- "Constructor, 8 bytes: result type, arity 0-4, four argument types, weight, zero"
abbrev pub constructor_at : List ℕ → ℕ → ConstructorRecord
constructor_at bytes at = record {
  declaration = declaration_at bytes at;
  weight = byte_at bytes (at + 6);
  reserved =
      byte_at bytes (at + 7);
}

-- "Function head, 10 bytes: result type, arity 0-4, four argument types, alternatives 1-4, zero, instruction count L 1-256 (two bytes)"
abbrev pub head_at : List ℕ → ℕ → HeadRecord
head_at bytes at = record {
  declaration = declaration_at bytes at;
  alternatives = byte_at bytes (at + 6);
  reserved = byte_at bytes (at + 7);
  instructions = word_at bytes (at + 8);
}

-- "each alternative, 6 bytes: four coefficients 0-15, a constant 0-65,535"
abbrev pub alternative_at : List ℕ → ℕ → AlternativeRecord
alternative_at bytes at = record { coefficients = four_at bytes at; constant = word_at bytes (at + 4) }

-- "instructions of 4 bytes: operation, a, b (two bytes)"
abbrev pub instruction_at : List ℕ → ℕ → InstructionRecord
instruction_at bytes at = record { operation = byte_at bytes at; a = byte_at bytes (at + 1); b = word_at bytes (at + 2) }

---- Whether the fields are in range

-- "Fields past the arity are zero, types too": of four fields, those past the first n
abbrev pub past_zero : ℕ → List ℕ → Bool
past_zero n four = leb n 4 && all is_zero (drop n four)

unfoldable pub header_right : Header → Bool
header_right h = eqb h.edition 1 && within 1 32 h.types && within 1 64 h.constructors && within 1 32 h.functions

unfoldable pub declaration_right : Declaration → Bool
declaration_right d = past_zero d.arity d.types

unfoldable pub constructor_right : ConstructorRecord → Bool
constructor_right c = declaration_right c.declaration && is_zero c.reserved

unfoldable pub head_right : HeadRecord → Bool
head_right h = declaration_right h.declaration && within 1 4 h.alternatives && is_zero h.reserved && within 1 256 h.instructions

-- of a function with n arguments
unfoldable pub alternative_right : ℕ → AlternativeRecord → Bool
alternative_right n r = past_zero n r.coefficients && all (λ c. leb c 15) r.coefficients

-- "Operations: 1 load slot a (1 is the lowest); 2 build constructor a; 3 call function a; 4 branch on constructor a, else go to instruction
-- b; 5 return; 6 stop"; "zero .. as are unused operands"
unfoldable pub operation : InstructionRecord → Option Instruction
operation r =
    if eqb r.operation 1 && is_zero r.b then Some (Load r.a) else
    if eqb r.operation 2 && is_zero r.b then Some (Build r.a) else
    if eqb r.operation 3 && is_zero r.b then Some (Call r.a) else
    if eqb r.operation 4 then Some (Branch r.a r.b) else
    if eqb r.operation 5 && is_zero r.a && is_zero r.b then Some Return else
    if eqb r.operation 6 && is_zero r.a && is_zero r.b then Some Stop else
    None

abbrev pub is_some : {A : Type 0} → Option A → Bool
is_some None = false
is_some (Some a) = true

abbrev pub or_else : {A : Type 0} → Option A → A → A
or_else None b = b
or_else (Some a) b = a

---- Where each stands

abbrev pub constructor_offset : ℕ → ℕ
constructor_offset c = 4 + 8 * c

-- in the function whose head stands at an offset: its alternative k, its code, and what is behind it
abbrev pub alternative_offset : ℕ → ℕ → ℕ
alternative_offset at k = at + 10 + 6 * k

abbrev pub code_offset : List ℕ → ℕ → ℕ
code_offset bytes at = alternative_offset at (byte_at bytes (at + 6))

-- instruction i, from 0, of code at an offset
abbrev pub instruction_offset : ℕ → ℕ → ℕ
instruction_offset base i = base + 4 * i

abbrev pub behind : List ℕ → ℕ → ℕ
behind bytes at = instruction_offset (code_offset bytes at) (word_at bytes (at + 8))

-- the head of function g: the functions follow each other, behind the constructors
unfoldable pub head_offset : List ℕ → ℕ → ℕ
head_offset bytes zero = constructor_offset (byte_at bytes 2)
head_offset bytes (suc g) = behind bytes (head_offset bytes g)

---- 4: "cut short or with a field outside its range above .. or bytes left over. (payload offset of that record or first extra byte, 0)"

-- a record of so many bytes at an offset: all there, and its fields in range
unfoldable pub record_right : ℕ → List ℕ → ℕ → Bool → Check
record_right size bytes at right = require (leb (at + size) (length bytes) && right) (refusal 4 at 0)

abbrev pub constructor_check : List ℕ → ℕ → Check
constructor_check bytes c = record_right 8 bytes (constructor_offset c) (constructor_right (constructor_at bytes (constructor_offset c)))

-- alternative k of the function whose head stands at an offset
abbrev pub alternative_check : List ℕ → ℕ → ℕ → Check
alternative_check bytes at k =
    record_right 6 bytes (alternative_offset at k)
    (alternative_right (byte_at bytes (at + 1)) (alternative_at bytes (alternative_offset at k)))

-- instruction i, from 0, of code at an offset
abbrev pub instruction_check : List ℕ → ℕ → ℕ → Check
instruction_check bytes base i =
    record_right 4 bytes (instruction_offset base i) (is_some (operation (instruction_at bytes (instruction_offset base i))))

-- a function at an offset: its head, its alternatives, its instructions
unfoldable pub function_right : List ℕ → ℕ → Check
function_right bytes at = do
  _ ← record_right 10 bytes at (head_right (head_at bytes at))
  _ ← for_each (alternative_check bytes at) 0 (byte_at bytes (at + 6))
  for_each (instruction_check bytes (code_offset bytes at)) 0 (word_at bytes (at + 8))

unfoldable pub constructors_right : List ℕ → Check
constructors_right bytes = for_each (constructor_check bytes) 0 (byte_at bytes 2)

unfoldable pub functions_right : List ℕ → Check
functions_right bytes = for_each (λ g. function_right bytes (head_offset bytes g)) 0 (byte_at bytes 3)

-- the payload ends behind its last function
unfoldable pub nothing_left : List ℕ → ℕ → Check
nothing_left bytes end = require (eqb end (length bytes)) (refusal 4 end 0)

unfoldable pub records_right : List ℕ → Check
records_right bytes = do
  _ ← record_right 4 bytes 0 (header_right (header_at bytes 0))
  _ ← constructors_right bytes
  _ ← functions_right bytes
  nothing_left bytes (head_offset bytes (byte_at bytes 3))

---- What they say

abbrev pub arguments_of : Declaration → List ℕ
arguments_of d = take d.arity d.types

unfoldable pub constructor_of : ConstructorRecord → Constructor
constructor_of c = record { result = c.declaration.result; arguments = arguments_of c.declaration; weight = c.weight }

-- a coefficient for each of n arguments
unfoldable pub alternative_of : ℕ → AlternativeRecord → Alternative
alternative_of n r = record { coefficients = take n r.coefficients; constant = r.constant }

-- where the record is right; elsewhere it is taken for a stop, so that every payload says something
unfoldable pub instruction_of : InstructionRecord → Instruction
instruction_of r = or_else (operation r) Stop

unfoldable pub function_of : List ℕ → ℕ → Function
function_of bytes at = record {
  result = byte_at bytes at;
  parameters = arguments_of (declaration_at bytes at);
  bound = numbered (λ k. alternative_of (byte_at bytes (at + 1)) (alternative_at bytes (alternative_offset at k))) 0
      (byte_at bytes (at + 6));
  code = numbered (λ i. instruction_of (instruction_at bytes (instruction_offset (code_offset bytes at) i))) 0 (word_at bytes (at + 8));
}

unfoldable pub program_of : List ℕ → Program
program_of bytes = record {
  types = byte_at bytes 1;
  constructors = numbered (λ c. constructor_of (constructor_at bytes (constructor_offset c))) 0 (byte_at bytes 2);
  functions = numbered (λ g. function_of bytes (head_offset bytes g)) 0 (byte_at bytes 3);
}

-- the program that a file's payload says, and its function g
abbrev pub program_in : List ℕ → Program
program_in file = program_of (payload file)

abbrev pub function_in : List ℕ → ℕ → Function
function_in file g = function_of (payload file) (head_offset (payload file) g)

-- the program that a payload says, where all its records are right
unfoldable pub decode : List ℕ → Tried Program
decode bytes = do
  _ ← records_right bytes
  found (program_of bytes)
