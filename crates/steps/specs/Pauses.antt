-- What the loop over the top frame's steps asks and ensures.
use Rattle.std.specs.Prelude.{List, ℕ, ◌≤◌}
use Rattle.rules.specs.Established.{Parsed}
use Rattle.store.specs.declared.frames.Frame.{Frame}
use Rattle.store.specs.declared.limits.Limits.{Limits}
use Rattle.steps.specs.Stands.{Lent, Standing, LeadsTo, Spared}
use Rattle.steps.specs.Steps.{Rests}
use Rattle.steps.specs.declared.state.Registers.{Registers}
use Rattle.steps.specs.declared.state.Rest.{Rest}

-- the top frame stands on tables above some frames that wait
pub record Ready (file : List ℕ) (m : Limits) (cells stack : List ℕ) (r : Registers) : Type 0 where
  pub parsed : Parsed file
  pub lent : Lent m cells stack
  pub instruction : ℕ
  pub waiting : List Frame
  pub standing : Standing file m cells stack r instruction waiting

-- some steps of the top frame, whatever frames wait below it, until it rests
pub record Pauses (file : List ℕ) (m : Limits) (cells stack : List ℕ) (r : Registers) (cells' stack' : List ℕ) (t : Registers)
    (why : Rest) : Type 0 where
  pub spared : Spared m cells stack cells' stack'
  pub fewer : t.left ≤ r.left
  pub leads : (budget i : ℕ) (ws : List Frame) → r.left ≤ budget → Standing file m cells stack r i ws
      → (i' : ℕ) × LeadsTo file m budget cells stack r i ws cells' stack' t i' ws × Rests file m budget cells' stack' t i' ws why
