-- It is the definition.
use mathlib.Core.Path.{refl}
use Rattle.store.specs.Frames.{FramePut}
use Rattle.store.proofs.frames.put_frame.Goals as goal

pub returns : goal.returns
unfolding FramePut
returns c = refl
