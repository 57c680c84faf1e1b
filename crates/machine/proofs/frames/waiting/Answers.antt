-- The frame's registers in 16 bits each.
use native.Mathlib.Omega.{arith}
use Rattle.fetch.proofs.PlaceLaws.{offset_small}
use Rattle.machine.proofs.frames.waiting.Goals as goal

pub overflow_cast-result-2 : goal.overflow_cast-result-2
overflow_cast-result-2 c = omega (arith, c.number_at.ensures, offset_small c.args.r.at 40000 (omega arith))

pub returns : goal.returns
returns c = rw c.number_at.ensures
