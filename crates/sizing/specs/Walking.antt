-- What the code's walk over a function asks and says.
use Rattle.std.specs.Prelude.{◌≡◌, List, false, ℕ, ◌<◌}
use Rattle.std.specs.Prelude.{Some, Result, Ok, Err}
use Rattle.rules.specs.declared.answers.Reason.{Reason}
use Rattle.rules.specs.declared.records.Instruction.{Instruction}
use Rattle.rules.specs.declared.records.Instruction.TheVariants.{Load, Build, Call, Branch, Return, Stop}
use Rattle.rules.specs.Base.{refused, Check, byte_at}
use Rattle.rules.specs.Container.{payload}
use Rattle.rules.specs.Records.{head_offset, program_in, function_in}
use Rattle.rules.specs.Stacks.{slot}
use Rattle.rules.specs.Walk.{Arrow, arriving, first}
use Rattle.rules.specs.Shapes.{Shape}
use Rattle.rules.specs.Answers.{refusal_of}
use Rattle.rules.specs.Established.{Typechecked}
use Rattle.sizing.specs.declared.routines.Routine.{Routine}
use Rattle.sizing.specs.declared.paths.Saved.{Saved}
use Rattle.sizing.specs.Right.{shape_in, SavedRight}
use Rattle.sizing.specs.Chart.{ReachedAt}
use Rattle.sizing.specs.Left.{left_from}
use Rattle.sizing.specs.Routines.{Records, RoutineIs}

-- a file that has passed 1 to 8, and where the heads of its functions stand
pub record Walking (file heads : List ℕ) : Type 0 where
  pub records : Records file heads
  pub typechecked : Typechecked file

---- The straight line from a first build or call on

abbrev pub Makes : Instruction → Type 0
Makes (Load a) = ⊥
Makes (Build c) = Unit {0}
Makes (Call g) = Unit {0}
Makes (Branch c b) = ⊥
Makes Return = ⊥
Makes Stop = ⊥

pub record LineAsks (file heads : List ℕ) (g : ℕ) (r : Routine) (start : ℕ) (st : Saved) : Type 0 where
  pub walking : Walking file heads
  pub there : g < byte_at (payload file) 3
  pub routine : RoutineIs (payload file) (head_offset (payload file) g) r
  pub at : ReachedAt (program_in file) g (function_in file g) start st.height false
  pub makes : (ins : Instruction) → slot start (function_in file g).code ≡ Some ins → Makes ins
  pub right : SavedRight (program_in file) (function_in file g) st

-- what is left of the walk behind the line, where it passed
abbrev pub line_left : List ℕ → ℕ → Result ℕ Reason → List (Arrow Shape) → Check
line_left file g (Ok j) arrows = left_from (program_in file) g (function_in file g) j arrows
line_left file g (Err why) arrows = refused (refusal_of why)

abbrev pub Further : ℕ → Result ℕ Reason → Type 0
Further start (Ok j) = start < j
Further start (Err why) = Unit {0}

-- for all arrows, of which the first to the start brings this state
pub record LineSays (file : List ℕ) (g start : ℕ) (st : Saved) (r : Result ℕ Reason) : Type 0 where
  pub left : (arrows : List (Arrow Shape)) → first (arriving start arrows) ≡ Some (shape_in (function_in file g) st)
      → left_from (program_in file) g (function_in file g) start arrows ≡ line_left file g r arrows
  pub further : Further start r
