-- The machine over heap cells: what stands in the lent tables, one step of it, and the state of values that it stands for. Document 01,
-- "The run", and document 02, "Constants take no cell". What a run needs of the cells, and what a step does to them, are facts of this
-- machine and not of the one over values.
use Rattle.std.specs.Prelude.{if◌then◌else◌, List, [], ◌∷◌, ◌++◌, map, Bool, ℕ, zero, suc, ◌+◌, ◌-◌, ◌<◌, length, get_or, take, drop, eqb}
use Rattle.std.specs.Prelude.{ltb}
use Rattle.std.specs.Prelude.{Option, None, Some}
use Rattle.rules.specs.declared.records.Instruction.{Instruction}
use Rattle.rules.specs.declared.records.Instruction.TheVariants.{Load, Build, Call, Branch, Return, Stop}
use Rattle.rules.specs.Lists.{All}
use Rattle.rules.specs.Prefix.{arity_of}
use Rattle.rules.specs.Program.{Program, constructor, function}
use Rattle.rules.specs.Tree.{made}
use Rattle.rules.specs.Stacks.{slot, split, push}
use Rattle.rules.specs.Machine.{◌>>=◌, Value, Frame, State, top, current}

-- "constructor and four arguments": an argument is a reference, the number of a constant or of a cell
pub record Cell : Type 0 where
  pub constructor : ℕ
  pub arguments : List ℕ

-- the cells that are made, the first of them first
abbrev pub Heap : Type 0
Heap = List Cell

-- a frame whose stack holds references
pub record HeapFrame : Type 0 where
  pub function : ℕ
  pub instruction : ℕ
  pub stack : List ℕ

-- the top frame first
pub record HeapState : Type 0 where
  pub heap : Heap
  pub frames : List HeapFrame

abbrev pub heap_state : Heap → List HeapFrame → HeapState
heap_state heap frames = record { heap = heap; frames = frames }

---- What a reference is: the one place that tells constants and cells by their number

abbrev pub cell : ℕ → List ℕ → Cell
cell c refs = record { constructor = c; arguments = refs }

-- "A constructor of arity 0 becomes the number of its constructor, 0 to 63; cells count from 64"
abbrev pub is_constant : ℕ → Bool
is_constant k = ltb k 64

abbrev pub number_of : ℕ → ℕ
number_of i = 64 + i

-- what a number stands for: a constant as if it had a cell of its own, or a cell of the heap
unfoldable pub cell_at : Heap → ℕ → Cell
cell_at heap k = if is_constant k then cell k [] else get_or heap (k - 64) (cell 0 [])

-- the heap with a constructor over these references, and the reference to it
abbrev pub allocated : Heap → ℕ → List ℕ → Heap × ℕ
allocated heap c [] = (heap, c)
allocated heap c (k ∷ refs) = (heap ++ (cell c (k ∷ refs) ∷ []), number_of (length heap))

abbrev pub constructor_of : Heap → ℕ → ℕ
constructor_of heap k = (cell_at heap k).constructor

abbrev pub arguments_of : Heap → ℕ → List ℕ
arguments_of heap k = (cell_at heap k).arguments

-- a constant, or a cell of this heap
abbrev pub Refers : Heap → ℕ → Type 0
Refers heap k = k < number_of (length heap)

---- The state that it stands for

-- the value of a reference, looking no deeper than the fuel
unfoldable pub value_in : Heap → ℕ → ℕ → Value
value_in heap zero k = made 0 []
value_in heap (suc fuel) k = made (constructor_of heap k) (map (value_in heap fuel) (arguments_of heap k))

-- "a cell only ever names cells made before it", so fewer than k levels are below the number k
abbrev pub value_of : Heap → ℕ → Value
value_of heap k = value_in heap (suc k) k

abbrev pub frame_of : Heap → HeapFrame → Frame
frame_of heap fr = record { function = fr.function; instruction = fr.instruction; stack = map (value_of heap) fr.stack }

abbrev pub state_of : HeapState → State
state_of h = map (frame_of h.heap) h.frames

---- A step

-- the same function at instruction i with this stack
abbrev pub heap_frame_at : ℕ → HeapFrame → List ℕ → HeapFrame
heap_frame_at i fr stack = record { function = fr.function; instruction = i; stack = stack }

abbrev pub heap_onward : HeapFrame → List ℕ → HeapFrame
heap_onward fr stack = heap_frame_at (suc fr.instruction) fr stack

-- a function's frame at instruction 1
abbrev pub entered : ℕ → List ℕ → HeapFrame
entered g refs = record { function = g; instruction = 1; stack = refs }

-- where a frame stands, whatever its stack
abbrev pub place_of : HeapFrame → Frame
place_of fr = record { function = fr.function; instruction = fr.instruction; stack = [] }

module _ (s : Program) where
  -- the waiting call's arguments give way to the reference that is returned
  unfoldable pub answered_with : HeapFrame → ℕ → Instruction → Option HeapFrame
  answered_with fr k (Load a) = None
  answered_with fr k (Build c) = None
  answered_with fr k (Call g) = do
    f ← function s g
    parts ← split (length f.parameters) fr.stack
    Some (heap_onward fr (push parts.0 k))
  answered_with fr k (Branch c b) = None
  answered_with fr k Return = None
  answered_with fr k Stop = None

  -- the machine's table once more, with references for values: only a build changes the heap
  unfoldable pub execute_on : Heap → Instruction → HeapFrame → List HeapFrame → Option HeapState
  execute_on heap (Load a) fr others = do
    k ← slot a fr.stack
    Some (heap_state heap (heap_onward fr (push fr.stack k) ∷ others))
  execute_on heap (Build c) fr others = do
    d ← constructor s c
    parts ← split (length d.arguments) fr.stack
    let new = allocated heap c parts.1
    Some (heap_state new.0 (heap_onward fr (push parts.0 new.1) ∷ others))
  execute_on heap (Call g) fr others = do
    f ← function s g
    parts ← split (length f.parameters) fr.stack
    Some (heap_state heap (entered g parts.1 ∷ fr ∷ others))
  execute_on heap (Branch c b) fr others = do
    parts ← split 1 fr.stack
    k ← slot 1 parts.1
    let taken = heap_onward fr (parts.0 ++ arguments_of heap k)
    Some (heap_state heap ((if eqb (constructor_of heap k) c then taken else heap_frame_at b fr fr.stack) ∷ others))
  execute_on heap Return fr [] = None
  execute_on heap Return fr (waiting ∷ others) = do
    k ← top fr.stack
    ins ← current s (place_of waiting)
    back ← answered_with waiting k ins
    Some (heap_state heap (back ∷ others))
  execute_on heap Stop fr others = Some (heap_state heap [])

  unfoldable pub step_on : Heap → List HeapFrame → Option HeapState
  step_on heap [] = None
  step_on heap (fr ∷ others) = current s (place_of fr) >>= (λ ins. execute_on heap ins fr others)

  abbrev pub heap_step : HeapState → Option HeapState
  heap_step h = step_on h.heap h.frames

---- The start

-- "The arguments' cells are made from the last byte to the first": the cells, constants skipped, and the references to the values
unfoldable pub allocated_for : Program → List ℕ → Heap × List ℕ
allocated_for s [] = ([], [])
allocated_for s (c ∷ bytes) =
    let n = arity_of (constructor s c) in
    let later = allocated_for s bytes in
    let new = allocated later.0 c (take n later.1) in
    (new.0, new.1 ∷ drop n later.1)

abbrev pub heap_start : Program → ℕ → List ℕ → HeapState
heap_start s f bytes = heap_state (allocated_for s bytes).0 (entered f (allocated_for s bytes).1 ∷ [])

---- In order

-- every stack of the frames refers to constants and cells of the heap
abbrev pub FramesRefer : Heap → List HeapFrame → Type 0
FramesRefer heap frames = All (λ fr. All (Refers heap) fr.stack) frames

-- "a cell only ever names cells made before it"; a constant names nothing
abbrev pub NamesEarlier : Heap → Type 0
NamesEarlier heap = (k : ℕ) → Refers heap k → All (λ j. j < k) (arguments_of heap k)

pub record Valid (h : HeapState) : Type 0 where
  pub earlier : NamesEarlier h.heap
  pub refer : FramesRefer h.heap h.frames
