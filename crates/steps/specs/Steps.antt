-- What the step functions do to registers and tables.
use Rattle.std.specs.Prelude.{◌≡◌, List, true, false, ℕ, ◌+◌, ◌-◌, ◌≤◌, ◌<◌, get_or, set, IfOk}
use Rattle.std.specs.Prelude.{Some, Result, Ok, Err}
use Rattle.rules.specs.Base.{refusal}
use Rattle.rules.specs.Heap.{is_constant, number_of}
use Rattle.rules.specs.Machine.{current}
use Rattle.rules.specs.Records.{program_in}
use Rattle.rules.specs.Run.{answer, refused_with}
use Rattle.rules.specs.declared.records.Instruction.TheVariants.{Call, Return, Stop}
use Rattle.store.specs.Cells.{refs, arguments_in, cell_of, label_in, RefsPut, CellPut}
use Rattle.store.specs.declared.frames.Frame.{Frame}
use Rattle.store.specs.declared.limits.Limits.{Limits}
use Rattle.fetch.specs.Arities.{place}
use Rattle.fetch.specs.Places.{Behind}
use Rattle.steps.specs.Stands.{Standing, LeadsTo, Spared, answers_on}
use Rattle.steps.specs.declared.state.Registers.{Registers}
use Rattle.steps.specs.declared.state.Rest.{Rest}
use Rattle.steps.specs.declared.state.Rest.TheVariants.{Calls, Returns, Stops, Spent, OutOf}
use Rattle.steps.specs.declared.state.Table.{Table}
use Rattle.steps.specs.declared.state.Table.TheVariants.{Cells, Stack, Frames}

-- the top frame at another place, with its stack up to another place
abbrev pub moved : Registers → ℕ → ℕ → Registers
moved r at top = record r { at = at; top = top }

-- the same with a cell more
abbrev pub moved_over : Registers → ℕ → ℕ → Registers
moved_over r at top = record r { at = at; top = top; used = r.used + 1 }

-- a step is counted
abbrev pub counted : Registers → Registers
counted r = record r { left = r.left - 1 }

---- Each operation: how the tables refuse it, or what it does

pub data Loads (m : Limits) (stack : List ℕ) (r : Registers) (next a : ℕ) : List ℕ → Result Registers Rest → Type 0 where
  load_full : m.stack ≤ r.top → Loads m stack r next a stack (Err (OutOf Stack))
  load_goes : r.top < m.stack → Loads m stack r next a (set stack r.top (get_or stack (r.base + a - 1) 0)) (Ok (moved r next (r.top + 1)))

pub data Builds (m : Limits) (cells stack : List ℕ) (r : Registers) (next c n : ℕ) : List ℕ → List ℕ → Result Registers Rest → Type 0 where
  build_full : m.stack ≤ r.top - n → Builds m cells stack r next c n cells stack (Err (OutOf Stack))
  build_constant : r.top - n < m.stack → n ≡ 0
      → Builds m cells stack r next c n cells (set stack (r.top - n) c) (Ok (moved r next (r.top - n + 1)))
  build_short : r.top - n < m.stack → (n ≡ 0 → ⊥) → m.cells ≤ r.used → Builds m cells stack r next c n cells stack (Err (OutOf Cells))
  build_goes : {cells' : List ℕ} → r.top - n < m.stack → (n ≡ 0 → ⊥) → r.used < m.cells
      → CellPut r.used c (refs stack (r.top - n) n) cells cells'
      → Builds m cells stack r next c n cells' (set stack (r.top - n) (number_of r.used)) (Ok (moved_over r next (r.top - n + 1)))

-- the reference to the top value
abbrev pub top_reference : List ℕ → Registers → ℕ
top_reference stack r = get_or stack (r.top - 1) 0

pub data Branches (m : Limits) (cells stack : List ℕ) (r : Registers) (next c b n : ℕ) : List ℕ → Result Registers Rest → Type 0 where
  branch_passes : {at : ℕ} → (label_in cells (top_reference stack r) ≡ c → ⊥) → Behind r.code (b - 1) at → at ≤ 40000
      → Branches m cells stack r next c b n stack (Ok (moved r at r.top))
  branch_constant : label_in cells (top_reference stack r) ≡ c → is_constant (top_reference stack r) ≡ true
      → Branches m cells stack r next c b n stack (Ok (moved r next (r.top - 1)))
  branch_full : label_in cells (top_reference stack r) ≡ c → is_constant (top_reference stack r) ≡ false → m.stack < r.top - 1 + n
      → Branches m cells stack r next c b n stack (Err (OutOf Stack))
  branch_takes : {stack' : List ℕ} → label_in cells (top_reference stack r) ≡ c → is_constant (top_reference stack r) ≡ false
      → r.top - 1 + n ≤ m.stack → RefsPut (r.top - 1) (arguments_in cells (cell_of (top_reference stack r)) n) stack stack'
      → Branches m cells stack r next c b n stack' (Ok (moved r next (r.top - 1 + n)))

---- Why a frame rests

-- as document 01 numbers the tables
abbrev pub number_for : Table → ℕ
number_for Cells = 15
number_for Stack = 16
number_for Frames = 17

-- the run is refused with a number at an instruction
abbrev pub Refuses : List ℕ → Limits → ℕ → List ℕ → List ℕ → Registers → ℕ → List Frame → ℕ → Type 0
Refuses file m budget cells stack r i ws number =
    answers_on (program_in file) m budget cells stack r i ws ≡ answer (refused_with (refusal number r.function i)) (budget - r.left)

-- with no step left it may still have its result
abbrev pub Rests : List ℕ → Limits → ℕ → List ℕ → List ℕ → Registers → ℕ → List Frame → Rest → Type 0
Rests file m budget cells stack r i ws (Calls g) =
    (0 < r.left) × (current (program_in file) (place r.function i) ≡ Some (Call g))
Rests file m budget cells stack r i ws Returns =
    (0 < r.left) × (current (program_in file) (place r.function i) ≡ Some Return)
Rests file m budget cells stack r i ws Stops =
    (0 < r.left) × (current (program_in file) (place r.function i) ≡ Some Stop)
Rests file m budget cells stack r i ws Spent = r.left ≡ 0
Rests file m budget cells stack r i ws (OutOf table) = Refuses file m budget cells stack r i ws (number_for table)

-- the step is taken, or the frame rests as it was
abbrev pub Comes : List ℕ → Limits → ℕ → List ℕ → List ℕ → Registers → ℕ → List Frame → List ℕ → List ℕ → Result Registers Rest
    → Type 0
Comes file m budget cells stack r i ws cells' stack' (Ok t) =
    (i' : ℕ) × LeadsTo file m budget cells stack r i ws cells' stack' (counted t) i' ws
Comes file m budget cells stack r i ws cells' stack' (Err why) =
    LeadsTo file m budget cells stack r i ws cells' stack' r i ws × Rests file m budget cells' stack' r i ws why

-- one step of the top frame, whatever frames wait below it
pub record Stepped (file : List ℕ) (m : Limits) (cells stack : List ℕ) (r : Registers) (cells' stack' : List ℕ)
    (t : Result Registers Rest) : Type 0 where
  pub spared : Spared m cells stack cells' stack'
  pub left : IfOk t (λ goes. goes.left ≡ r.left)
  pub comes : (budget i : ℕ) (ws : List Frame) → r.left ≤ budget → Standing file m cells stack r i ws
      → Comes file m budget cells stack r i ws cells' stack' t
