-- The one alternative stands first: it computes.
use Rattle.std.proofs.Common.{refl, arith}
use Rattle.rules.specs.Lists.{l[], ◌l∷◌}
use Rattle.sizing.proofs.forms.single.Goals as goal

pub returns : goal.returns
returns c = record {
  right = record { few = omega arith; long = refl; wide = c.requires l∷ l[] };
  one = refl;
  same = refl;
}
