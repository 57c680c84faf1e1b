-- What the run asks and ensures.
use Rattle.std.specs.Prelude.{◌≡◌, List, ℕ, suc, ◌-◌, ◌≤◌, ◌<◌, length}
use Rattle.rules.specs.Base.{refusal}
use Rattle.rules.specs.Heap.{value_of}
use Rattle.rules.specs.Prefix.{arity, written}
use Rattle.rules.specs.Records.{program_in}
use Rattle.rules.specs.Run.{Outcome, answer, finished, aborted, refused_with}
use Rattle.store.specs.Cells.{heap_in}
use Rattle.store.specs.Frames.{frames_in, FramesKept}
use Rattle.store.specs.Limits.{LimitsOf}
use Rattle.store.specs.declared.frames.Frame.{Frame}
use Rattle.store.specs.declared.limits.Limits.{Limits}
use Rattle.fetch.specs.Indexed.{Indexed}
use Rattle.fetch.specs.declared.index.Index.{Index}
use Rattle.steps.specs.Stands.{Standing, Spared, answers_on}
use Rattle.steps.specs.Steps.{top_reference, number_for}
use Rattle.steps.specs.declared.state.Registers.{Registers}
use Rattle.machine.specs.declared.run.End.{End}
use Rattle.machine.specs.declared.run.End.TheVariants as ends

-- what a run that ended so answers: the result on top of the stack, the program's own stop,
-- or the number of what was spent at an instruction
abbrev pub Answers : List ℕ → ℕ → Outcome → List ℕ → List ℕ → Registers → ℕ → End → Type 0
Answers file budget said cells stack t i ends.Result =
    (t.base < t.top)
    × (length (written (value_of (heap_in (arity (program_in file)) cells t.used) (top_reference stack t))) < 4294967296)
    × (said ≡ answer (finished (written (value_of (heap_in (arity (program_in file)) cells t.used) (top_reference stack t))))
    (budget - t.left))
Answers file budget said cells stack t i ends.Stops = (0 < t.left) × (said ≡ answer aborted (suc (budget - t.left)))
Answers file budget said cells stack t i ends.Spent = said ≡ answer (refused_with (refusal 14 t.function i)) (budget - t.left)
Answers file budget said cells stack t i (ends.OutOf table) =
    said ≡ answer (refused_with (refusal (number_for table) t.function i)) (budget - t.left)

-- how a run that answers so has ended
pub record EndsAs (file : List ℕ) (m : Limits) (budget : ℕ) (said : Outcome) (cells stack : List ℕ) (t : Registers) (i : ℕ)
    (ws : List Frame) (end : End) : Type 0 where
  pub standing : Standing file m cells stack t i ws
  pub answers : Answers file budget said cells stack t i end

-- the run stands on tables
pub record Begun (file : List ℕ) (index : Index) (m : Limits) (cells stack : List ℕ) (frames : List Frame) (r : Registers) : Type 0 where
  pub indexed : Indexed file index
  pub limits : LimitsOf m cells stack frames
  pub instruction : ℕ
  pub standing : Standing file m cells stack r instruction (frames_in frames r.depth)

-- the whole run
pub record Ends (file : List ℕ) (m : Limits) (cells stack : List ℕ) (frames : List Frame) (r : Registers) (cells' stack' : List ℕ)
    (frames' : List Frame) (t : Registers) (end : End) : Type 0 where
  pub spared : Spared m cells stack cells' stack'
  pub spared_frames : FramesKept m.frames frames frames'
  pub fewer : t.left ≤ r.left
  pub ends : (budget i : ℕ) → r.left ≤ budget → Standing file m cells stack r i (frames_in frames r.depth)
      → (i' : ℕ) × (ws : List Frame)
      × EndsAs file m budget (answers_on (program_in file) m budget cells stack r i (frames_in frames r.depth)) cells' stack' t i' ws end
