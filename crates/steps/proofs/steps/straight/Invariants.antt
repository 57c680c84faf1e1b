-- By the invariant that some steps of the top frame were taken; each turn is one more.
use Rattle.steps.proofs.LoopLaws.{Went}
use Rattle.steps.proofs.steps.straight.Given as goal

abbrev pub invariant-loop-r : goal.invariant-loop-r
invariant-loop-r l = Went l.file l.m l.initial.cells l.initial.stack l.initial.r l.cells l.stack l.r

abbrev pub decreases-loop-r : goal.decreases-loop-r
decreases-loop-r l = l.r.left
