-- The form has no alternative: it computes.
use mathlib.Core.Path.{refl}
use native.Mathlib.Omega.{arith}
use Rattle.rules.specs.Lists.{l[]}
use Rattle.sizing.proofs.forms.no_form.Goals as goal

pub returns : goal.returns
returns c = (record { few = omega arith; long = refl; wide = l[] }, refl)
