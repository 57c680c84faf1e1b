-- It computes.
use Rattle.std.proofs.Common.{refl}
use Rattle.rules.specs.Forms.{constant_only}
use Rattle.sizing.proofs.forms.constant.Goals as goal

pub returns : goal.returns
unfolding constant_only
returns c = refl
