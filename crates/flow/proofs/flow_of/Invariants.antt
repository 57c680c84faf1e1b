-- The loop keeps that each slot holds what has arrived there so far, and that the rules of the first k instructions have passed.
use Rattle.rules.specs.Container.{payload}
use Rattle.flow.proofs.FlowLaws.{FlowOn}
use Rattle.flow.proofs.flow_of.Given as goal

abbrev pub invariant-loop-k : goal.invariant-loop-k
invariant-loop-k l = FlowOn (payload l.file) l.at l.g l.code l.k l.waiting
