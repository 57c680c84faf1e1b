-- What the steps of the walk ask and say.
use Rattle.std.specs.Prelude.{◌≡◌, List, [], ◌∷◌, false, ℕ, suc, ◌+◌, ◌≤◌, ◌<◌, length}
use Rattle.std.specs.Prelude.{Option, None, Some, Result, Ok, Err, IfSome, IfOk}
use Rattle.rules.specs.declared.answers.Reason.{Reason}
use Rattle.rules.specs.declared.records.Instruction.{Instruction}
use Rattle.rules.specs.Base.{refused, Check, byte_at}
use Rattle.rules.specs.Container.{payload}
use Rattle.rules.specs.Program.{Function}
use Rattle.rules.specs.Records.{head_offset, program_in, function_in}
use Rattle.rules.specs.Stacks.{slot}
use Rattle.rules.specs.Walk.{Arrow, arriving, first}
use Rattle.rules.specs.Shapes.{Shape}
use Rattle.rules.specs.Answers.{refusal_of}
use Rattle.sizing.specs.declared.paths.Saved.{Saved}
use Rattle.sizing.specs.declared.routines.Routine.{Routine}
use Rattle.sizing.specs.declared.walk.Moved.{Moved}
use Rattle.sizing.specs.Right.{shape_in, SavedRight}
use Rattle.sizing.specs.Steps.{arrow_to}
use Rattle.sizing.specs.Chart.{ReachedAt}
use Rattle.sizing.specs.Left.{left_from}
use Rattle.sizing.specs.Routines.{RoutineIs}
use Rattle.sizing.specs.Walking.{Walking, Makes}

-- the parameters as variables
pub record StartIs (arity : ℕ) (st : Saved) : Type 0 where
  pub height : st.height ≡ arity
  pub count : st.count ≡ arity
  pub taken : st.splits.taken ≡ 0
  pub stack : st.stack ≡ 0 ∷ 1 ∷ 2 ∷ 3 ∷ 4 ∷ 5 ∷ 6 ∷ 7 ∷ 8 ∷ 9 ∷ 10 ∷ 11 ∷ 12 ∷ 13 ∷ 14 ∷ 15 ∷ []
  pub list : length st.splits.list ≡ 16

-- a state of function g that is right, at an instruction that is reached with its height, before any build or call
pub record Fit (file : List ℕ) (g i : ℕ) (st : Saved) : Type 0 where
  pub right : SavedRight (program_in file) (function_in file g) st
  pub at : ReachedAt (program_in file) g (function_in file g) i st.height false

pub record FunctionAsks (file heads : List ℕ) (g : ℕ) : Type 0 where
  pub walking : Walking file heads
  pub there : g < byte_at (payload file) 3

-- this instruction, where a state arrives
pub record MoveAsks (file heads : List ℕ) (g i : ℕ) (st : Saved) (ins : Instruction) : Type 0 where
  pub function : FunctionAsks file heads g
  pub fit : Fit file g i st
  pub is : slot i (function_in file g).code ≡ Some ins

pub record LineMoveAsks (file heads : List ℕ) (g : ℕ) (r : Routine) (i : ℕ) (st : Saved) : Type 0 where
  pub ins : Instruction
  pub move : MoveAsks file heads g i st ins
  pub makes : Makes ins
  pub routine : RoutineIs (payload file) (head_offset (payload file) g) r

pub record StepAsks (file heads : List ℕ) (g : ℕ) (r : Routine) (i : ℕ) (st : Saved) : Type 0 where
  pub function : FunctionAsks file heads g
  pub routine : RoutineIs (payload file) (head_offset (payload file) g) r
  pub some_i : 1 ≤ i
  pub fit : Fit file g i st

---- What a step says

-- the shape that a slot holds
abbrev pub standing : Function → Option Saved → Option Shape
standing f None = None
standing f (Some st) = Some (shape_in f st)

-- an arrow to the else target, where a state goes there
abbrev pub sent : Function → Option (ℕ × Saved) → List (Arrow Shape) → List (Arrow Shape)
sent f None arrows = arrows
sent f (Some (t, x)) arrows = (t, shape_in f x) ∷ arrows

-- the arrows that leave
abbrev pub leaving : Function → ℕ → Moved → List (Arrow Shape) → List (Arrow Shape)
leaving f i m arrows = arrow_to f (suc i) m.next (sent f m.other arrows)

-- what is left of the walk behind a step that passed
abbrev pub move_left : List ℕ → ℕ → ℕ → Result Moved Reason → List (Arrow Shape) → Check
move_left file g i (Ok m) arrows =
    left_from (program_in file) g (function_in file g) m.on (leaving (function_in file g) i m arrows)
move_left file g i (Err why) arrows = refused (refusal_of why)

-- where the states go
pub record Lands (file : List ℕ) (g i : ℕ) (m : Moved) : Type 0 where
  pub on : i < m.on
  pub next : IfSome m.next (λ x. (i + 1 ≤ 256) × Fit file g (i + 1) x)
  pub other : IfSome m.other (λ p. (i + 1 < p.0) × (p.0 ≤ 256) × Fit file g p.0 p.1)

-- for all arrows, of which the first to the instruction brings this state
pub record StepSays (file : List ℕ) (g i : ℕ) (st : Saved) (r : Result Moved Reason) : Type 0 where
  pub left : (arrows : List (Arrow Shape)) → first (arriving i arrows) ≡ Some (shape_in (function_in file g) st)
      → left_from (program_in file) g (function_in file g) i arrows ≡ move_left file g i r arrows
  pub lands : IfOk r (Lands file g i)
