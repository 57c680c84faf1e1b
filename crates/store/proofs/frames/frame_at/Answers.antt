-- It is the definition.
use Rattle.store.specs.Frames.{frame_in}
use Rattle.store.proofs.frames.frame_at.Goals as goal
use mathlib.Core.Path.{refl}

pub returns : goal.returns
unfolding frame_in
returns c = refl
