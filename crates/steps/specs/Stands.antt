-- How registers and lent tables stand for a state of the machine over heap cells.
use Rattle.std.specs.Prelude.{◌≡◌, List, [], ◌∷◌, ℕ, ◌-◌, ◌≤◌, ◌<◌, length}
use Rattle.std.specs.Prelude.{None, Some}
use Rattle.rules.specs.Heap.{HeapFrame, HeapState, heap_state, state_of, Valid}
use Rattle.rules.specs.HeapRun.{continued_on}
use Rattle.rules.specs.Machine.{Value, State, current, step, after, result_of}
use Rattle.rules.specs.Prefix.{arity, written}
use Rattle.rules.specs.Program.{Program}
use Rattle.rules.specs.Records.{program_in}
use Rattle.rules.specs.Run.{Outcome, end_of}
use Rattle.rules.specs.declared.records.Instruction.TheVariants.{Call}
use Rattle.store.specs.Cells.{refs, constructor_in, heap_in, CellRoom, KeptFrom, CellsKept}
use Rattle.store.specs.Limits.{tables}
use Rattle.store.specs.declared.frames.Frame.{Frame}
use Rattle.store.specs.declared.limits.Limits.{Limits}
use Rattle.fetch.specs.Arities.{inputs, place}
use Rattle.fetch.specs.Places.{StandsAt}
use Rattle.steps.specs.declared.state.Registers.{Registers}

-- the waiting frames, the uppermost first; their stacks end at a place
unfoldable pub waiting_on : List ℕ → List Frame → ℕ → List HeapFrame
waiting_on stack [] e = []
waiting_on stack (w ∷ ws) e =
    record { function = w.function; instruction = w.instruction; stack = refs stack (e - w.height) w.height }
    ∷ waiting_on stack ws (e - w.height)

-- the top frame at instruction i
abbrev pub top_on : List ℕ → Registers → ℕ → HeapFrame
top_on stack r i = record { function = r.function; instruction = i; stack = refs stack r.base (r.top - r.base) }

-- the state that tables and registers stand for, with the top frame at instruction i, above waiting frames
abbrev pub state_in : Program → List ℕ → List ℕ → Registers → ℕ → List Frame → HeapState
state_in s cells stack r i ws = heap_state (heap_in (arity s) cells r.used) (top_on stack r i ∷ waiting_on stack ws r.base)

-- heights add up, and each waiting frame is at a call of the function above it, with its arguments on top
unfoldable pub Linked : Program → List Frame → ℕ → ℕ → Type 0
Linked s [] e g = e ≡ 0
Linked s (w ∷ ws) e g =
    (w.height ≤ e) × (inputs s g ≤ w.height) × (g < length s.functions)
    × (current s (place w.function w.instruction) ≡ Some (Call g)) × Linked s ws (e - w.height) w.function

-- what soundness gives of a state: nothing reached from it is stuck, and a result has a length of 32 bits
pub record SoundFrom (s : Program) (st : State) : Type 0 where
  pub safe : (n : ℕ) (reached : State) → after s n st ≡ Some reached → end_of s reached ≡ None → (next : State)
      × (step s reached ≡ Some next)
  pub bounded : (n : ℕ) (reached : State) (v : Value) → after s n st ≡ Some reached → result_of s reached ≡ Some v
      → length (written v) < 4294967296

-- the tables that the top frame works on have room for the limits
pub record Lent (m : Limits) (cells stack : List ℕ) : Type 0 where
  pub cell_room : CellRoom cells m.cells
  pub few_cells : m.cells ≤ 65471
  pub stack_room : m.stack ≤ length stack
  pub few_places : m.stack ≤ 65535

-- registers and cells are in order
pub record Laid (file : List ℕ) (m : Limits) (cells : List ℕ) (r : Registers) (i : ℕ) (ws : List Frame) : Type 0 where
  pub code : StandsAt file r.function 1 r.code
  pub code_near : r.code ≤ 33000
  pub at : StandsAt file r.function i r.at
  pub at_near : r.at ≤ 40000
  pub known : (k : ℕ) → k < r.used → constructor_in cells k < length (program_in file).constructors
  pub bottom : r.base ≤ r.top
  pub places : r.top ≤ m.stack
  pub taken : r.used ≤ m.cells
  pub linked : Linked (program_in file) ws r.base r.function
  pub depth : length ws ≡ r.depth
  pub deep : r.depth < m.frames

-- the run's invariant
pub record Standing (file : List ℕ) (m : Limits) (cells stack : List ℕ) (r : Registers) (i : ℕ) (ws : List Frame) : Type 0 where
  pub few : length (program_in file).constructors ≤ 64
  pub laid : Laid file m cells r i ws
  pub valid : Valid (state_in (program_in file) cells stack r i ws)
  pub sound : SoundFrom (program_in file) (state_of (state_in (program_in file) cells stack r i ws))

-- what the run answers from there under a budget
abbrev pub answers_on : Program → Limits → ℕ → List ℕ → List ℕ → Registers → ℕ → List Frame → Outcome
answers_on s m budget cells stack r i ws = continued_on s (tables m) r.left (budget - r.left) (state_in s cells stack r i ws)

-- entries that are not usable are kept
pub record Spared (m : Limits) (cells stack cells' stack' : List ℕ) : Type 0 where
  pub of_cells : CellsKept m.cells cells cells'
  pub of_stack : KeptFrom m.stack stack stack'

-- the state leads to another with the same answer, and with no more steps left
pub record LeadsTo (file : List ℕ) (m : Limits) (budget : ℕ) (cells stack : List ℕ) (r : Registers) (i : ℕ) (ws : List Frame)
    (cells' stack' : List ℕ) (t : Registers) (i' : ℕ) (ws' : List Frame) : Type 0 where
  pub standing : Standing file m cells' stack' t i' ws'
  pub fewer : t.left ≤ r.left
  pub same : answers_on (program_in file) m budget cells stack r i ws ≡ answers_on (program_in file) m budget cells' stack' t i' ws'
