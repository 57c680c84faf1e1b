-- The first i coefficients stand in front, and the others are 0.
use Rattle.sizing.proofs.OwnLaws.{FirstFour}
use Rattle.sizing.proofs.line.widen.Given as goal

abbrev pub invariant-loop-i : goal.invariant-loop-i
invariant-loop-i l = FirstFour l.row.coefficients l.coefficients l.i
