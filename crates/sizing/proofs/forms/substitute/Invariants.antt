-- The last i arguments are put in.
use Rattle.std.proofs.Common.{◌-◌, length}
use Rattle.sizing.proofs.SubstLaws.{Substituting}
use Rattle.sizing.proofs.forms.substitute.Given as goal

abbrev pub invariant-loop-i : goal.invariant-loop-i
invariant-loop-i l = Substituting l.row l.arguments (length l.arguments - l.i) l.rest
