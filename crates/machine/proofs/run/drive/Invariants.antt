-- By the invariant that the run has come so far (`Drove`); each turn takes a step at least.
use Rattle.machine.proofs.DriveLaws.{Drove}
use Rattle.machine.proofs.run.drive.Given as goal

abbrev pub invariant-loop-next : goal.invariant-loop-next
invariant-loop-next l =
    Drove l.file l.m l.initial.cells l.initial.stack l.initial.frames l.initial.r l.cells l.stack l.frames l.r

abbrev pub decreases-loop-next : goal.decreases-loop-next
decreases-loop-next l = l.r.left
