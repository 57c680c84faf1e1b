-- In the block it stands at its place, behind the block's end eight bytes further.
use native.Mathlib.Omega.{arith}
use Rattle.fields.proofs.OnwardLaws.{onward_near, onward_far}
use Rattle.fields.proofs.bytes.byte_from.Goals as goal

pub returns-then-j-left : goal.returns-then-j-left
returns-then-j-left c = onward_near c.requires c.args.j (omega arith) c.if-j-left.true

pub bounds-file-place-2 : goal.bounds-file-place-2
bounds-file-place-2 c = omega (arith, c.requires.far (omega arith))

pub returns : goal.returns
returns c = onward_far c.requires c.args.j (omega arith) c.if-j-left.false
