-- Ticket 3 of document 02, for the readers of any blocks: of right ones they find what unpack would write. This file only states it;
-- `found_unpacked` of proofs/Unpacked.antt proves it.
use Rattle.std.specs.Prelude.{◌≡◌, List, ℕ, ◌+◌, ◌≤◌, length, Some}
use Rattle.rules.specs.Container.{payload}
use Rattle.rules.specs.Records.{header_at, constructor_at, head_at, alternative_at, instruction_at}
use Rattle.rules.specs.Established.{Verified}
use Rattle.rules.specs.Memory.{unpack_leaves}
use Rattle.standing.specs.Found.{header_found, constructor_found, head_found, alternative_found, instruction_found}

-- a record that the payload has whole is found, and is the record in these bytes
pub record FindsFrom (file bytes : List ℕ) : Type 0 where
  pub header : 4 ≤ length (payload file) → header_found file ≡ Some (header_at bytes 0)
  pub constructor : (at : ℕ) → at + 8 ≤ length (payload file)
      → constructor_found file at ≡ Some (constructor_at bytes at)
  pub head : (at : ℕ) → at + 10 ≤ length (payload file) → head_found file at ≡ Some (head_at bytes at)
  pub alternative : (at : ℕ) → at + 6 ≤ length (payload file)
      → alternative_found file at ≡ Some (alternative_at bytes at)
  pub instruction : (at : ℕ) → at + 4 ≤ length (payload file)
      → instruction_found file at ≡ Some (instruction_at bytes at)

-- of verified blocks, and an output with room
abbrev pub FoundUnpacked : Type 0
FoundUnpacked = (file out : List ℕ) → Verified file → length (payload file) ≤ length out → FindsFrom file (unpack_leaves file out)
