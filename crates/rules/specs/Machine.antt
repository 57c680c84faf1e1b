-- The machine. Document 01, "The machine"; 001, Table 1. It has no limits.
use Rattle.std.specs.Prelude.{if◌then◌else◌, List, [], ◌∷◌, ◌++◌, ℕ, zero, suc, length, eqb, Option, None, Some}
use Rattle.rules.specs.declared.records.Instruction.{Instruction}
use Rattle.rules.specs.declared.records.Instruction.TheVariants.{Load, Build, Call, Branch, Return, Stop}
use Rattle.rules.specs.Program.{Program, constructor, function}
use Rattle.rules.specs.Tree.{Tree, made, label, arguments}
use Rattle.rules.specs.Stacks.{slot, split, push}

-- "Where something needed is missing there is no step and no figure"
infixl 20 ◌>>=◌
abbrev pub ◌>>=◌ : {A B : Type 0} → Option A → (A → Option B) → Option B
None >>= f = None
Some a >>= f = f a

-- "A value is a constructor with its argument values"
abbrev pub Value : Type 0
Value = Tree ℕ

-- "function, instruction i, a stack of values"
pub record Frame : Type 0 where
  pub function : ℕ
  pub instruction : ℕ
  pub stack : List Value

-- "A state is a list of frames": the top frame first
abbrev pub State : Type 0
State = List Frame

-- "The start is one frame: the entry function, instruction 1, the arguments, last on top"
abbrev pub start : ℕ → List Value → State
start f values = record { function = f; instruction = 1; stack = values } ∷ []

-- the same function at instruction i with this stack
abbrev pub frame_at : ℕ → Frame → List Value → Frame
frame_at i fr stack = record { function = fr.function; instruction = i; stack = stack }

abbrev pub onward : Frame → List Value → Frame
onward fr stack = frame_at (suc fr.instruction) fr stack

-- the top of a stack, of values here
abbrev pub top : {A : Type 0} → List A → Option A
top stack = split 1 stack >>= (λ parts. slot 1 parts.1)

module _ (s : Program) where
  -- the instruction at which a frame stands
  unfoldable pub current : Frame → Option Instruction
  current fr = function s fr.function >>= (λ f. slot fr.instruction f.code)

  -- "below, the waiting call's n arguments give way to its top value; i + 1 there"
  unfoldable pub answered : Frame → Value → Instruction → Option Frame
  answered fr v (Load a) = None
  answered fr v (Build c) = None
  answered fr v (Call g) = do
    k ← function s g
    parts ← split (length k.parameters) fr.stack
    Some (onward fr (push parts.0 v))
  answered fr v (Branch c b) = None
  answered fr v Return = None
  answered fr v Stop = None

  -- the top frame's instruction, with the frames below it.
  -- Load: slot a is copied on top; then i + 1.
  -- Build: constructor a takes the place of the top n values, its arguments, first deepest; i + 1.
  -- Call: the frame waits as it is; above it comes function a at 1 with copies of its top n values.
  -- Branch: a top value of constructor a gives way to its arguments, first deepest; i + 1. Any other stays, and b is next.
  -- Return, a frame below: the top frame goes; the waiting call is answered. In the only frame: no step.
  -- Stop: a step, after which no frame is left.
  unfoldable pub execute : Instruction → Frame → List Frame → Option State
  execute (Load a) fr others = do
    v ← slot a fr.stack
    Some (onward fr (push fr.stack v) ∷ others)
  execute (Build c) fr others = do
    k ← constructor s c
    parts ← split (length k.arguments) fr.stack
    Some (onward fr (push parts.0 (made c parts.1)) ∷ others)
  execute (Call g) fr others = do
    k ← function s g
    parts ← split (length k.parameters) fr.stack
    Some (start g parts.1 ++ fr ∷ others)
  execute (Branch c b) fr others = do
    parts ← split 1 fr.stack
    v ← slot 1 parts.1
    Some ((if eqb (label v) c then onward fr (parts.0 ++ arguments v) else frame_at b fr fr.stack) ∷ others)
  execute Return fr [] = None
  execute Return fr (waiting ∷ others) = do
    v ← top fr.stack
    ins ← current waiting
    back ← answered waiting v ins
    Some (back ∷ others)
  execute Stop fr others = Some []

  -- "Only the top frame steps"
  unfoldable pub step : State → Option State
  step [] = None
  step (fr ∷ others) = current fr >>= (λ ins. execute ins fr others)

  -- the state after n steps
  unfoldable pub after : ℕ → State → Option State
  after zero st = Some st
  after (suc n) st = step st >>= (λ next. after n next)

  -- "In the only frame: no step, the top value is the figure", which is called result here
  unfoldable pub returned : {A : Type 0} → Instruction → List A → Option A
  returned (Load a) stack = None
  returned (Build c) stack = None
  returned (Call g) stack = None
  returned (Branch c b) stack = None
  returned Return stack = top stack
  returned Stop stack = None

  unfoldable pub result_of : State → Option Value
  result_of [] = None
  result_of (fr ∷ []) = current fr >>= (λ ins. returned ins fr.stack)
  result_of (fr ∷ waiting ∷ others) = None
