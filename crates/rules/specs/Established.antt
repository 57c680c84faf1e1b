-- What the check has established of a file, rung by rung: a function for the crates above asks for one of these, and for what it is
-- handed beside the file.
use Rattle.std.specs.Prelude.{◌≡◌, List, ℕ, ◌≤◌, ◌<◌, length, get_or}
use Rattle.rules.specs.declared.records.Header.{Header}
use Rattle.rules.specs.Base.{passed, byte_at}
use Rattle.rules.specs.Container.{verify, payload}
use Rattle.rules.specs.Records.{header_at, head_offset, records_right, program_in}
use Rattle.rules.specs.Declarations.{declarations_right, bounds_right}
use Rattle.rules.specs.Flow.{flow_right}
use Rattle.rules.specs.Types.{types_right}
use Rattle.rules.specs.Shapes.{sizes_right}

---- The ladder

-- 1, 2 and 3 pass: the blocks are right, and there are few of them
pub record Verified (file : List ℕ) : Type 0 where
  pub blocks : verify file ≡ passed
  pub small : length (payload file) ≤ 32256

-- and 4: the records are there and right
pub record Parsed (file : List ℕ) : Type 0 where
  pub verified : Verified file
  pub records : records_right (payload file) ≡ passed

-- and 5 and 6
pub record Declared (file : List ℕ) : Type 0 where
  pub parsed : Parsed file
  pub declarations : declarations_right (program_in file) ≡ passed
  pub bounds : bounds_right (program_in file) ≡ passed

-- and 7
pub record Flowing (file : List ℕ) : Type 0 where
  pub declared : Declared file
  pub flow : flow_right (program_in file) ≡ passed

-- and 8
pub record Typechecked (file : List ℕ) : Type 0 where
  pub flowing : Flowing file
  pub types : types_right (program_in file) ≡ passed

-- and 10 and 9: the check accepts the file
pub record Accepted (file : List ℕ) : Type 0 where
  pub typechecked : Typechecked file
  pub sizes : sizes_right (program_in file) ≡ passed

---- What is handed beside the file

-- verified blocks with a payload of n bytes
pub record Measured (file : List ℕ) (n : ℕ) : Type 0 where
  pub verified : Verified file
  pub long : n ≡ length (payload file)

-- a parsed file with its header
pub record Headed (file : List ℕ) (h : Header) : Type 0 where
  pub parsed : Parsed file
  pub header : h ≡ header_at (payload file) 0

-- and with the offsets of its function heads
pub record LaidOut (file : List ℕ) (h : Header) (heads : List ℕ) : Type 0 where
  pub headed : Headed file h
  pub placed : (g : ℕ) → g < byte_at (payload file) 3 → get_or heads g 0 ≡ head_offset (payload file) g
