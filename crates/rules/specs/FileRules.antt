-- Numbers 1 to 4 in document 01's own words: relations on the bytes of a file and of its payload, beside the passes that compute an answer.
-- `blocks_exact` of proofs/BlocksExact.antt and `records_exact` of proofs/RecordsExact.antt show that the two agree on every file.
use Rattle.std.specs.Prelude.{◌≡◌, List, ℕ, zero, suc, ◌+◌, ◌*◌, ◌≤◌, ◌<◌, length, get_or}
use Rattle.rules.specs.declared.records.Header.{Header}
use Rattle.rules.specs.declared.records.Declaration.{Declaration}
use Rattle.rules.specs.declared.records.ConstructorRecord.{ConstructorRecord}
use Rattle.rules.specs.declared.records.HeadRecord.{HeadRecord}
use Rattle.rules.specs.declared.records.AlternativeRecord.{AlternativeRecord}
use Rattle.rules.specs.declared.records.InstructionRecord.{InstructionRecord}
use Rattle.rules.specs.declared.records.Instruction.{Instruction}
use Rattle.rules.specs.declared.records.Instruction.TheVariants.{Load, Build, Call, Branch, Return, Stop}
use Rattle.rules.specs.Base.{Refusal, refusal, Decides, byte_at, word_at, long_at}
use Rattle.rules.specs.Lists.{All}
use Rattle.rules.specs.Container.{verify}
use Rattle.rules.specs.Records.{header_at, constructor_at, head_at, alternative_at, instruction_at, records_right}

-- "1-32" and the like
abbrev pub Between : ℕ → ℕ → ℕ → Type 0
Between lo hi n = (lo ≤ n) × (n ≤ hi)

---- 1 to 3: blocks

-- "A sheet is 1 to 64 blocks of 512 bytes": so many bytes are b blocks
abbrev pub Whole : ℕ → ℕ → Type 0
Whole n b = Between 1 64 b × (n ≡ 512 * b)

-- g 0 + .. + g (n - 1)
unfoldable pub sum_to : ℕ → (ℕ → ℕ) → ℕ
sum_to zero g = 0
sum_to (suc n) g = sum_to n g + g n

-- "508-511: the check, the sum over bytes i = 0 to 507 of byte × (i + 1)", of block k
abbrev pub Summed : List ℕ → ℕ → Type 0
Summed file k = long_at file (512 * k + 508) ≡ sum_to 508 (λ i. byte_at file (512 * k + i) * (i + 1))

-- "Bytes 0-1: block number from 0. 2-3: used count. 4-507: payload", of block k of so many
pub record Fielded (file : List ℕ) (blocks k : ℕ) : Type 0 where
  pub number : word_at file (512 * k) ≡ k
  -- "Every block but the last uses 504; the last uses 1 to 504"
  pub full : suc k < blocks → word_at file (512 * k + 2) ≡ 504
  pub used : Between 1 504 (word_at file (512 * k + 2))
  -- "Unused payload is zero"
  pub unused : (i : ℕ) → word_at file (512 * k + 2) ≤ i → i < 504 → byte_at file (512 * k + 4 + i) ≡ 0

-- block k of so many: 2 and 3
abbrev pub BlockRight : List ℕ → ℕ → ℕ → Type 0
BlockRight file blocks k = Summed file k × Fielded file blocks k

pub record BlocksRight (file : List ℕ) : Type 0 where
  pub blocks : ℕ
  pub whole : Whole (length file) blocks
  pub right : (k : ℕ) → k < blocks → BlockRight file blocks k

-- "1; block by block 2 then 3": the first block that is not right counts
pub data BlocksFail (file : List ℕ) : Refusal → Type 0 where
  -- "length 0, not a multiple of 512, or over 32,768. (0, 0)"
  whole : ((b : ℕ) → ¬ Whole (length file) b) → BlocksFail file (refusal 1 0 0)
  -- "block check wrong. (block, 0)"
  sum : {b k : ℕ} → Whole (length file) b → k < b → ((j : ℕ) → j < k → BlockRight file b j) → ¬ Summed file k
      → BlocksFail file (refusal 2 k 0)
  -- "block number, used count or unused bytes wrong. (block, 0)"
  fields : {b k : ℕ} → Whole (length file) b → k < b → ((j : ℕ) → j < k → BlockRight file b j) → Summed file k → ¬ Fielded file b k
      → BlocksFail file (refusal 3 k 0)

-- the pass for 1 to 3 passes just where the blocks are right, and refuses just as they fail
abbrev pub BlocksExact : Type 0
BlocksExact = (file : List ℕ) → Decides (verify file) (BlocksRight file) (BlocksFail file)

---- 4: the fields of a record in their ranges, "types, weight and slot, constructor, function, target operands excepted"

-- "Header, 4 bytes: edition 1; types T, 1-32; constructors C, 1-64; functions F, 1-32"
abbrev pub HeaderIn : Header → Type 0
HeaderIn h = (h.edition ≡ 1) × Between 1 32 h.types × Between 1 64 h.constructors × Between 1 32 h.functions

-- "arity 0-4"; "Fields past the arity are zero, types too": of four fields, those from number n on
abbrev pub PastZero : ℕ → List ℕ → Type 0
PastZero n four = (n ≤ 4) × ((k : ℕ) → n ≤ k → k < 4 → get_or four k 0 ≡ 0)

abbrev pub DeclarationIn : Declaration → Type 0
DeclarationIn d = PastZero d.arity d.types

-- "Constructor, 8 bytes: result type, arity 0-4, four argument types, weight, zero"
abbrev pub ConstructorIn : ConstructorRecord → Type 0
ConstructorIn c = DeclarationIn c.declaration × (c.reserved ≡ 0)

-- "Function head, 10 bytes: result type, arity 0-4, four argument types, alternatives 1-4, zero, instruction count L 1-256 (two bytes)"
abbrev pub HeadIn : HeadRecord → Type 0
HeadIn h = DeclarationIn h.declaration × Between 1 4 h.alternatives × (h.reserved ≡ 0) × Between 1 256 h.instructions

-- "each alternative, 6 bytes: four coefficients 0-15, a constant 0-65,535", of a function with n arguments; two bytes say no other constant
abbrev pub AlternativeIn : ℕ → AlternativeRecord → Type 0
AlternativeIn n r = PastZero n r.coefficients × All (λ c. c ≤ 15) r.coefficients

-- the record of an operation with operands a and b
abbrev pub saying : ℕ → ℕ → ℕ → InstructionRecord
saying operation a b = record { operation = operation; a = a; b = b }

-- "Operations: 1 load slot a (1 is the lowest); 2 build constructor a; 3 call function a; 4 branch on constructor a, else go to instruction
-- b; 5 return; 6 stop"; "zero .. as are unused operands"
pub data Says : InstructionRecord → Instruction → Type 0 where
  load : {a : ℕ} → Says (saying 1 a 0) (Load a)
  build : {a : ℕ} → Says (saying 2 a 0) (Build a)
  call : {a : ℕ} → Says (saying 3 a 0) (Call a)
  branch : {a b : ℕ} → Says (saying 4 a b) (Branch a b)
  return : Says (saying 5 0 0) Return
  stop : Says (saying 6 0 0) Stop

-- an instruction record is in range where it says an instruction
abbrev pub InstructionIn : InstructionRecord → Type 0
InstructionIn r = (ins : Instruction) × Says r ins

---- "Payload, in order"

-- what a reader of the payload comes to; alternatives and instructions with the head of their function, which says how many they are
pub data Item : Type 0 where
  header : Item
  constructor : (c : ℕ) → Item
  head : (g : ℕ) → Item
  alternative : (g : ℕ) → HeadRecord → (k : ℕ) → Item
  instruction : (g : ℕ) → HeadRecord → (i : ℕ) → Item
  end : Item

abbrev pub size : Item → ℕ
size header = 4
size (constructor c) = 8
size (head g) = 10
size (alternative g h k) = 6
size (instruction g h i) = 4
size end = 0

-- an item at an offset is all there and its fields are in range; at the end no byte is left over
abbrev pub ItemRight : List ℕ → ℕ → Item → Type 0
ItemRight bytes at header = (at + 4 ≤ length bytes) × HeaderIn (header_at bytes at)
ItemRight bytes at (constructor c) = (at + 8 ≤ length bytes) × ConstructorIn (constructor_at bytes at)
ItemRight bytes at (head g) = (at + 10 ≤ length bytes) × HeadIn (head_at bytes at)
ItemRight bytes at (alternative g h k) = (at + 6 ≤ length bytes) × AlternativeIn h.declaration.arity (alternative_at bytes at)
ItemRight bytes at (instruction g h i) = (at + 4 ≤ length bytes) × InstructionIn (instruction_at bytes at)
ItemRight bytes at end = at ≡ length bytes

-- what comes behind an item that is right: where C and F are the header's counts, C constructors, then F functions, each a head, its
-- alternatives and its instructions. None of these counts is 0 where the record that has it is right.
pub data Next (bytes : List ℕ) (at : ℕ) : Item → Item → Type 0 where
  first_constructor : Next bytes at header (constructor 0)
  next_constructor : {c : ℕ} → suc c < byte_at bytes 2 → Next bytes at (constructor c) (constructor (suc c))
  first_head : {c : ℕ} → suc c ≡ byte_at bytes 2 → Next bytes at (constructor c) (head 0)
  first_alternative : {g : ℕ} → Next bytes at (head g) (alternative g (head_at bytes at) 0)
  next_alternative : {g k : ℕ} {h : HeadRecord} → suc k < h.alternatives → Next bytes at (alternative g h k) (alternative g h (suc k))
  first_instruction : {g k : ℕ} {h : HeadRecord} → suc k ≡ h.alternatives → Next bytes at (alternative g h k) (instruction g h 0)
  next_instruction : {g i : ℕ} {h : HeadRecord} → suc i < h.instructions → Next bytes at (instruction g h i) (instruction g h (suc i))
  next_head : {g i : ℕ} {h : HeadRecord} → suc i ≡ h.instructions → suc g < byte_at bytes 3
      → Next bytes at (instruction g h i) (head (suc g))
  last : {g i : ℕ} {h : HeadRecord} → suc i ≡ h.instructions → suc g ≡ byte_at bytes 3 → Next bytes at (instruction g h i) end

-- a reader from the payload's first byte comes to an item at an offset: all items before it are right
pub data Reached (bytes : List ℕ) : ℕ → Item → Type 0 where
  start : Reached bytes 0 header
  on : {at : ℕ} {item item' : Item} → Reached bytes at item → ItemRight bytes at item → Next bytes at item item'
      → Reached bytes (at + size item) item'

-- it comes to the end, and no byte is left over
abbrev pub RecordsHold : List ℕ → Type 0
RecordsHold bytes = Reached bytes (length bytes) end

-- "header, constructor, head, alternative or instruction cut short or with a field outside its range above .. or bytes left over. (payload
-- offset of that record or first extra byte, 0)": the one item that is reached and not right
pub data RecordsFail (bytes : List ℕ) : Refusal → Type 0 where
  wrong : {at : ℕ} {item : Item} → Reached bytes at item → ¬ ItemRight bytes at item → RecordsFail bytes (refusal 4 at 0)

-- the pass for 4 passes just where the records hold, and refuses just as they fail
abbrev pub RecordsExact : Type 0
RecordsExact = (bytes : List ℕ) → Decides (records_right bytes) (RecordsHold bytes) (RecordsFail bytes)
