-- What a run says and leaves.
use Rattle.std.specs.Prelude.{◌≡◌, List, ℕ, length}
use Rattle.rules.specs.declared.answers.Answer.{Answer}
use Rattle.rules.specs.Run.{Lent, run}
use Rattle.rules.specs.Memory.{output_after, cells_after, stack_after, frames_after}
use Rattle.store.specs.Frames.{no_frame}
use Rattle.store.specs.declared.frames.Frame.{Frame}
use Rattle.rules.specs.Answers.{told_run, measured}

-- the lengths lent
abbrev pub lent_of : List ℕ → List ℕ → List Frame → List ℕ → Lent
lent_of cells stack frames out = record { cells = length cells; stack = length stack; frames = length frames; output = length out }

-- the answer is the definition's, and so is what each lent slice holds at exit
pub record Runs (file : List ℕ) (entry : ℕ) (arguments : List ℕ) (budget : ℕ) (cells stack : List ℕ) (frames : List Frame)
    (out cells' stack' : List ℕ) (frames' : List Frame) (out' : List ℕ) (r : Answer) : Type 0 where
  pub says : told_run r ≡ measured (run file entry arguments budget (lent_of cells stack frames out))
  pub of_cells : cells' ≡ cells_after file entry arguments budget (lent_of cells stack frames out) cells
  pub of_stack : stack' ≡ stack_after file entry arguments budget (lent_of cells stack frames out) stack
  pub of_frames : frames' ≡ frames_after file entry arguments budget (lent_of cells stack frames out) no_frame frames
  pub of_output : out' ≡ output_after file entry arguments budget (lent_of cells stack frames out) out
