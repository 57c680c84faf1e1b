-- The coefficients before i are done.
use Rattle.sizing.proofs.BuildLaws.{Plus}
use Rattle.sizing.proofs.forms.plus.Given as goal

abbrev pub invariant-loop-i : goal.invariant-loop-i
invariant-loop-i l = Plus l.m l.b l.a l.i l.r
