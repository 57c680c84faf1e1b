-- The first i rows are done.
use Rattle.std.proofs.Common.{length}
use Rattle.rules.specs.Container.{payload}
use Rattle.sizing.specs.Forms.{forms_in}
use Rattle.sizing.proofs.BoundLaws.{Joining}
use Rattle.sizing.proofs.forms.into_bound.Given as goal

abbrev pub invariant-loop-i : goal.invariant-loop-i
invariant-loop-i l = Joining (payload l.file) (length l.arguments) l.bound (forms_in l.arguments) l.i l.x
