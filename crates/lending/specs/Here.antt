-- What a run on a table of its own says and leaves.
use Rattle.std.specs.Prelude.{List, ℕ, replicate}
use Rattle.rules.specs.declared.answers.Answer.{Answer}
use Rattle.store.specs.Frames.{no_frame}
use Rattle.store.specs.declared.frames.Frame.{Frame}
use Rattle.start.specs.Runs.{Runs}

-- a run on so many blank records, which end with it
pub record RunsHere (file : List ℕ) (entry : ℕ) (arguments : List ℕ) (budget : ℕ) (cells stack : List ℕ) (n : ℕ)
    (out cells' stack' out' : List ℕ) (r : Answer) : Type 0 where
  pub frames : List Frame
  pub runs : Runs file entry arguments budget cells stack (replicate n no_frame) out cells' stack' frames out' r
