-- It computes: a list of zeros with a 1 in place v.
use mathlib.Core.Path.{refl}
use Rattle.rules.specs.Forms.{variable_only}
use Rattle.sizing.proofs.forms.unit.Goals as goal

pub returns : goal.returns
unfolding variable_only
returns c = refl
