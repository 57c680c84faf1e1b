-- The first i choices are there.
use Rattle.sizing.proofs.ChoiceLaws.{Choosing}
use Rattle.sizing.proofs.forms.chosen.Given as goal

abbrev pub invariant-loop-i : goal.invariant-loop-i
invariant-loop-i l = Choosing l.m l.form l.rest l.i l.x
