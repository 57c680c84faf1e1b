-- Loading the arguments: cells from the last byte to the first, and 256 pending references that no cell has taken yet.
use Rattle.std.specs.Prelude.{◌≡◌, List, ℕ, ◌-◌, ◌≤◌, ◌<◌, length, drop}
use Rattle.rules.specs.Base.{passed}
use Rattle.rules.specs.Established.{Parsed}
use Rattle.rules.specs.Heap.{allocated_for}
use Rattle.rules.specs.Prefix.{arity, read_bytes}
use Rattle.rules.specs.Program.{Program}
use Rattle.rules.specs.Records.{program_in}
use Rattle.rules.specs.Run.{cells_loaded}
use Rattle.store.specs.Cells.{refs, constructor_in, CellRoom, heap_in, CellsKept}

-- the bytes passed the check of the program in the blocks for these parameters
pub record Loading (file bytes : List ℕ) : Type 0 where
  pub parsed : Parsed file
  pub pending : List ℕ
  pub right : read_bytes (program_in file) 0 bytes pending ≡ passed
  pub few : length pending ≤ 256

-- and there is room for the cells that they take
pub record Roomy (file bytes cells : List ℕ) : Type 0 where
  pub loading : Loading file bytes
  pub room : CellRoom cells (cells_loaded (program_in file) bytes)
  pub few : cells_loaded (program_in file) bytes ≤ 65471

-- the first cells are those of the bytes from i on, and the references from a place on are those to their values
pub record MadeFrom (s : Program) (bytes : List ℕ) (i used : ℕ) (cells cells' numbers : List ℕ) (at : ℕ) : Type 0 where
  pub taken : used ≡ cells_loaded s (drop i bytes)
  pub heap : heap_in (arity s) cells' used ≡ (allocated_for s (drop i bytes)).0
  pub values : refs numbers at (256 - at) ≡ (allocated_for s (drop i bytes)).1
  pub low : at ≤ 256
  pub kept : CellsKept (cells_loaded s bytes) cells cells'
  pub known : (k : ℕ) → k < used → constructor_in cells' k < length s.constructors

-- the cells of all bytes
pub record MadeFor (s : Program) (bytes cells cells' numbers : List ℕ) (at used : ℕ) : Type 0 where
  pub taken : used ≡ cells_loaded s bytes
  pub heap : heap_in (arity s) cells' used ≡ (allocated_for s bytes).0
  pub values : refs numbers at (256 - at) ≡ (allocated_for s bytes).1
  pub low : at ≤ 256
  pub kept : CellsKept (cells_loaded s bytes) cells cells'
  pub known : (k : ℕ) → k < used → constructor_in cells' k < length s.constructors
