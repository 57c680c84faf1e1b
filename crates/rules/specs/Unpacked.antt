-- Ticket 3 of document 02: records are read from the lent blocks, and "What is read is what unpack would write there, across a block's end
-- too". This file only states it; `reads_unpacked` of proofs/Unpacked.antt proves it.
use Rattle.std.specs.Prelude.{◌≡◌, List, ℕ, ◌+◌, ◌≤◌, length}
use Rattle.rules.specs.declared.records.Header.{Header}
use Rattle.rules.specs.declared.records.Declaration.{Declaration}
use Rattle.rules.specs.declared.records.ConstructorRecord.{ConstructorRecord}
use Rattle.rules.specs.declared.records.HeadRecord.{HeadRecord}
use Rattle.rules.specs.declared.records.AlternativeRecord.{AlternativeRecord}
use Rattle.rules.specs.declared.records.InstructionRecord.{InstructionRecord}
use Rattle.rules.specs.Base.{byte_at, long_at}
use Rattle.rules.specs.Container.{payload}
use Rattle.rules.specs.Records.{header_at, declaration_at, constructor_at, head_at, alternative_at, instruction_at}
use Rattle.rules.specs.Established.{Verified}
use Rattle.rules.specs.Memory.{unpack_leaves}

-- of everything that meets the contract of a record's reader, which is the equation with the payload: it is the record in these bytes.
-- Beside the kinds of records, what the run reads of them: an instruction as one number, and an arity
pub record ReadsFrom (file bytes : List ℕ) : Type 0 where
  pub header : (r : Header) → 4 ≤ length (payload file) → r ≡ header_at (payload file) 0 → r ≡ header_at bytes 0
  pub declaration : (at : ℕ) (r : Declaration) → at + 6 ≤ length (payload file) → r ≡ declaration_at (payload file) at
      → r ≡ declaration_at bytes at
  pub constructor : (at : ℕ) (r : ConstructorRecord) → at + 8 ≤ length (payload file) → r ≡ constructor_at (payload file) at
      → r ≡ constructor_at bytes at
  pub head : (at : ℕ) (r : HeadRecord) → at + 10 ≤ length (payload file) → r ≡ head_at (payload file) at → r ≡ head_at bytes at
  pub alternative : (at : ℕ) (r : AlternativeRecord) → at + 6 ≤ length (payload file) → r ≡ alternative_at (payload file) at
      → r ≡ alternative_at bytes at
  pub instruction : (at : ℕ) (r : InstructionRecord) → at + 4 ≤ length (payload file) → r ≡ instruction_at (payload file) at
      → r ≡ instruction_at bytes at
  pub number : (at r : ℕ) → at + 4 ≤ length (payload file) → r ≡ long_at (payload file) at → r ≡ long_at bytes at
  pub arity : (at r : ℕ) → at + 2 ≤ length (payload file) → r ≡ byte_at (payload file) (at + 1) → r ≡ byte_at bytes (at + 1)

-- of verified blocks, and an output with room
abbrev pub ReadsUnpacked : Type 0
ReadsUnpacked = (file out : List ℕ) → Verified file → length (payload file) ≤ length out → ReadsFrom file (unpack_leaves file out)
