-- What the parts of a run ask and ensure after its last step.
use Rattle.std.specs.Prelude.{◌≡◌, List, ℕ, ◌≤◌, ◌<◌, length}
use Rattle.rules.specs.declared.answers.Answer.{Answer}
use Rattle.rules.specs.Run.{Outcome, delivered}
use Rattle.rules.specs.Memory.{result_into}
use Rattle.rules.specs.Answers.{told_run, measured}
use Rattle.rules.specs.Established.{Parsed}
use Rattle.store.specs.declared.frames.Frame.{Frame}
use Rattle.store.specs.declared.limits.Limits.{Limits}
use Rattle.steps.specs.Stands.{Lent}
use Rattle.machine.specs.Runs.{EndsAs}
use Rattle.machine.specs.declared.run.End.{End}
use Rattle.steps.specs.declared.state.Registers.{Registers}

-- what delivering asks: how a run under a budget ended that says so
pub record Ended (file : List ℕ) (m : Limits) (budget : ℕ) (says : Outcome) (cells stack : List ℕ) (r : Registers) (i : ℕ)
    (ws : List Frame) (end : End) : Type 0 where
  pub parsed : Parsed file
  pub lent : Lent m cells stack
  pub few : budget < 4294967296
  pub fewer : r.left ≤ budget
  pub ends : EndsAs file m budget says cells stack r i ws end

-- an outcome delivered into an output
pub record Delivers (a : Outcome) (out out' : List ℕ) (r : Answer) : Type 0 where
  pub says : told_run r ≡ measured (delivered (length out) a)
  pub left : out' ≡ result_into out (delivered (length out) a).ending
