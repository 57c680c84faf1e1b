use Rattle.machine.specs.Turns.{settles_above, settles_spent, settles_result}
use native.Mathlib.Omega.{arith}
use Rattle.machine.proofs.run.settled.Goals as goal

pub returns-then-r-ne0 : goal.returns-then-r-ne0
returns-then-r-ne0 c =
    settles_above (λ e. omega (arith, e, c.if-r-ne0.true))

pub returns-then-f-eq5 : goal.returns-then-f-eq5
returns-then-f-eq5 c =
    settles_result (omega (arith, c.if-r-ne0.false)) c.fetch-f.ensures.0 c.if-f-eq5.true

pub returns-else-f-eq5 : goal.returns-else-f-eq5
returns-else-f-eq5 c = settles_spent c.fetch-f.ensures.0 c.if-f-eq5.false
