-- The loop keeps that what is left of the pass is the functions from g on.
use Rattle.rules.specs.Container.{payload}
use Rattle.rules.specs.Flow.{flow_of}
use Rattle.rules.proofs.PassLaws.{Passing}
use Rattle.program.proofs.LayoutLaws.{at_function}
use Rattle.flow.proofs.flows.Given as goal

abbrev pub invariant-loop-g : goal.invariant-loop-g
invariant-loop-g l = Passing (at_function flow_of (payload l.file)) l.layout.header.functions l.g
