-- A branch's answer is the answer of fork, whose rule stays as it is.
use Rattle.std.proofs.Common.{arith}
use Rattle.std.proofs.lemmas.Grind.{common_steps}
use Rattle.flow.proofs.flow_step.Goals as goal

pub returns-in-Branch : goal.returns-in-Branch
returns-in-Branch c = grind (arith, common_steps)
