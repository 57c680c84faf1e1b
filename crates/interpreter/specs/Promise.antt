-- Demand 3 for the code: what run answers for an accepted program is what the tally promise says of its states.
use Rattle.std.specs.Prelude.{◌≡◌, List, ℕ}
use Rattle.rules.specs.declared.answers.Answer.{Answer}
use Rattle.rules.specs.Base.{found}
use Rattle.rules.specs.Program.{Program}
use Rattle.rules.specs.Check.{checked}
use Rattle.rules.specs.Run.{Outcome}
use Rattle.rules.specs.Memory.{result_into}
use Rattle.rules.specs.Answers.{told_run, measured}
use Rattle.rules.specs.Promise.{Answers, Promised}
use Rattle.store.specs.declared.frames.Frame.{Frame}
use Rattle.start.specs.Runs.{lent_of, Runs}

-- an answer and an output that run left for an accepted program: they are those of an outcome that the machine's states give, refused
-- before the start, or from typed arguments through safe states, none larger than the entry's size bound, to an end that document 01 names
pub record RanSafely (file : List ℕ) (s : Program) (entry : ℕ) (arguments : List ℕ) (budget : ℕ) (cells stack : List ℕ)
    (frames : List Frame) (out out' : List ℕ) (r : Answer) : Type 0 where
  pub outcome : Outcome
  pub promised : Promised file s
  pub answers : Answers s entry arguments budget (lent_of cells stack frames out) outcome
  pub says : told_run r ≡ measured outcome
  pub left : out' ≡ result_into out outcome.ending

-- of everything that meets run's contract
abbrev pub RunPromise : Type 0
RunPromise =
    (file : List ℕ) (entry : ℕ) (arguments : List ℕ) (budget : ℕ) (cells stack : List ℕ) (frames : List Frame)
    (out cells' stack' : List ℕ) (frames' : List Frame) (out' : List ℕ) (r : Answer)
    → Runs file entry arguments budget cells stack frames out cells' stack' frames' out' r
    → (s : Program) → checked file ≡ found s → RanSafely file s entry arguments budget cells stack frames out out' r
