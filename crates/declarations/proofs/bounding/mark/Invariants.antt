-- `mark` meets its contract: the arguments below `j` are marked, and the others as they were.
use Rattle.declarations.proofs.BoundLaws.{Marked}
use Rattle.declarations.proofs.bounding.mark.Given as goal

abbrev pub invariant-loop-j : goal.invariant-loop-j
invariant-loop-j l = Marked l.fn.found l.four l.j l.found
