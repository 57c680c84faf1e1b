-- `blocks::payload_byte` meets its contract: a byte of a verified payload stands at its place in the blocks. Assumes nothing.
use native.Mathlib.Omega.{arith}
use Rattle.rules.proofs.ContainerLaws.{verified_place, verified_byte}
use Rattle.blocks.proofs.payload_byte.Goals as goal

pub bounds-file-k : goal.bounds-file-k
bounds-file-k c = omega (arith, verified_place c.requires.0 c.args.k c.requires.1)

pub returns : goal.returns
returns c = verified_byte c.requires.0 c.args.k c.requires.1
