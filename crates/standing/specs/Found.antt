-- What a reader of lent blocks finds at an offset of their payload, whether the blocks are right or not.
use Rattle.std.specs.Prelude.{if◌then◌else◌, List, Bool, Option, None, Some, ℕ, ◌+◌, ◌*◌, ◌-◌, ◌/◌, ◌≤◌, min, length, leb}
use Rattle.rules.specs.declared.records.Header.{Header}
use Rattle.rules.specs.declared.records.ConstructorRecord.{ConstructorRecord}
use Rattle.rules.specs.declared.records.HeadRecord.{HeadRecord}
use Rattle.rules.specs.declared.records.AlternativeRecord.{AlternativeRecord}
use Rattle.rules.specs.declared.records.InstructionRecord.{InstructionRecord}
use Rattle.rules.specs.Base.{numbered, byte_at, word_at}
use Rattle.rules.specs.Container.{place_of}
use Rattle.rules.specs.Records.{header_at, constructor_at, head_at, alternative_at, instruction_at}

-- how many payload bytes lent blocks have by their own count: 504 in each but the last, and there as many as it says, 504 at most
abbrev pub last_block : List ℕ → ℕ
last_block file = length file / 512 - 1

unfoldable pub extent : List ℕ → ℕ
extent file =
    if leb 512 (length file)
    then 504 * last_block file + min 504 (word_at file (512 * last_block file + 2))
    else 0

-- these bytes; of right blocks they are the payload
unfoldable pub standing : List ℕ → List ℕ
standing file = numbered (λ k. byte_at file (place_of k)) 0 (extent file)

-- a record of so many bytes at an offset is there whole
abbrev pub whole : ℕ → List ℕ → ℕ → Bool
whole size file at = leb (at + size) (extent file)

-- so many of them are there
pub record Inside (file : List ℕ) (n : ℕ) : Type 0 where
  pub counted : n ≤ extent file
  pub small : n ≤ length file

-- the record of so many bytes at an offset, if it is there whole
abbrev pub found_at : {R : Type 0} → ℕ → (List ℕ → ℕ → R) → List ℕ → ℕ → Option R
found_at size record_at file at = if whole size file at then Some (record_at (standing file) at) else None

abbrev pub header_found : List ℕ → Option Header
header_found file = found_at 4 header_at file 0

abbrev pub constructor_found : List ℕ → ℕ → Option ConstructorRecord
constructor_found file at = found_at 8 constructor_at file at

abbrev pub head_found : List ℕ → ℕ → Option HeadRecord
head_found file at = found_at 10 head_at file at

abbrev pub alternative_found : List ℕ → ℕ → Option AlternativeRecord
alternative_found file at = found_at 6 alternative_at file at

abbrev pub instruction_found : List ℕ → ℕ → Option InstructionRecord
instruction_found file at = found_at 4 instruction_at file at
