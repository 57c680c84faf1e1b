-- What the parts of a beginning ask and ensure.
use Rattle.std.specs.Prelude.{◌≡◌, List, ℕ, ◌≤◌, ◌<◌, length}
use Rattle.std.specs.Prelude.{Some, Result, Ok, Err}
use Rattle.rules.specs.declared.answers.Reason.{Reason}
use Rattle.rules.specs.declared.answers.Ending.TheVariants as ends
use Rattle.rules.specs.Records.{program_in}
use Rattle.rules.specs.Base.{passed}
use Rattle.rules.specs.Heap.{allocated_for}
use Rattle.rules.specs.Lists.{Bytes}
use Rattle.rules.specs.Program.{Function, Program, function}
use Rattle.rules.specs.Prefix.{arity, arguments_right}
use Rattle.rules.specs.Run.{usable, cells_loaded}
use Rattle.rules.specs.Established.{Parsed, Accepted}
use Rattle.store.specs.Cells.{refs, constructor_in, CellRoom, heap_in, KeptFrom, CellsKept}
use Rattle.store.specs.Limits.{tables}
use Rattle.store.specs.declared.frames.Frame.{Frame}
use Rattle.store.specs.declared.limits.Limits.{Limits}
use Rattle.fetch.specs.Indexed.{Indexed, code_at}
use Rattle.fetch.specs.declared.index.Index.{Index}
use Rattle.steps.specs.declared.state.Registers.{Registers}
use Rattle.start.specs.declared.first.Begun.{Begun}
use Rattle.start.specs.Runs.{lent_of, Runs}

-- an accepted program with its index, and an entry function whose arguments are right
pub record Callable (file : List ℕ) (index : Index) (entry : ℕ) (arguments : List ℕ) : Type 0 where
  pub accepted : Accepted file
  pub indexed : Indexed file index
  pub f : Function
  pub known : function (program_in file) entry ≡ Some f
  pub right : arguments_right (program_in file) f arguments ≡ passed

-- and tables with room for the start, with the function's n arguments
pub record Beginning (file : List ℕ) (index : Index) (m : Limits) (entry n : ℕ) (arguments : List ℕ) (budget : ℕ)
    (cells stack : List ℕ) (frames : List Frame) (out : List ℕ) : Type 0 where
  pub callable : Callable file index entry arguments
  pub few : budget < 4294967296
  pub limited : tables m ≡ usable (lent_of cells stack frames out)
  pub inputs : n ≡ length callable.f.parameters
  pub frame : 0 < m.frames
  pub slots : n ≤ m.stack
  pub room : cells_loaded (program_in file) arguments ≤ m.cells

-- whatever table of so many frames is lent
abbrev pub Fitting : List ℕ → Index → Limits → ℕ → ℕ → List ℕ → ℕ → List ℕ → List ℕ → ℕ → Type 0
Fitting file index m entry n arguments budget cells stack count =
    (frames : List Frame) (out : List ℕ) → length frames ≡ count → Beginning file index m entry n arguments budget cells stack frames out

-- what loading asks: n arguments that are right for a function
pub record Loading (file arguments cells stack : List ℕ) (n : ℕ) : Type 0 where
  pub parsed : Parsed file
  pub f : Function
  pub right : arguments_right (program_in file) f arguments ≡ passed
  pub inputs : n ≡ length f.parameters
  pub few : n ≤ 4
  pub slots : n ≤ length stack
  pub room : CellRoom cells (cells_loaded (program_in file) arguments)
  pub few_cells : cells_loaded (program_in file) arguments ≤ 65471

-- the registers of a function's first frame, with its code at a place, n arguments on the stack and so many cells in use
abbrev pub first : ℕ → ℕ → ℕ → ℕ → ℕ → Registers
first entry code n used budget = record {
  function = entry;
  code = code;
  at = code;
  base = 0;
  top = n;
  used = used;
  depth = 0;
  left = budget;
}

-- the arguments' cells are made, and the references to their values stand at the stack's bottom
pub record Loaded (s : Program) (arguments : List ℕ) (n : ℕ) (cells stack cells' stack' : List ℕ) : Type 0 where
  pub heap : heap_in (arity s) cells' (cells_loaded s arguments) ≡ (allocated_for s arguments).0
  pub values : refs stack' 0 n ≡ (allocated_for s arguments).1
  pub known : (k : ℕ) → k < cells_loaded s arguments → constructor_in cells' k < length s.constructors
  pub kept_cells : CellsKept (cells_loaded s arguments) cells cells'
  pub kept_stack : KeptFrom n stack stack'

-- a run that has begun, on loaded tables
pub record Prepared (file : List ℕ) (entry : ℕ) (arguments : List ℕ) (budget : ℕ) (cells stack : List ℕ) (count : ℕ)
    (cells' stack' : List ℕ) (b : Begun) : Type 0 where
  pub arity : ℕ
  pub small : Bytes file
  pub fitting : Fitting file b.index b.limits entry arity arguments budget cells stack count
  pub loaded : Loaded (program_in file) arguments arity cells stack cells' stack'
  pub at_first : b.start ≡ first entry (code_at b.index entry) arity (cells_loaded (program_in file) arguments) budget

-- it has begun, or the refusal is the run's answer, whatever else is lent
abbrev pub Prepares : List ℕ → ℕ → List ℕ → ℕ → List ℕ → List ℕ → ℕ → List ℕ → List ℕ → Result Begun Reason → Type 0
Prepares file entry arguments budget cells stack count cells' stack' (Ok b) =
    Prepared file entry arguments budget cells stack count cells' stack' b
Prepares file entry arguments budget cells stack count cells' stack' (Err reason) =
    (frames : List Frame) (out : List ℕ) → length frames ≡ count
    → Runs file entry arguments budget cells stack frames out cells' stack' frames out
    (record { ending = ends.Refused reason; steps = 0 })
