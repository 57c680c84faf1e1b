-- Blocks of which one is the last, or none.
use Rattle.std.proofs.Common.{arith}
use Rattle.standing.proofs.StandingLaws.{extent_none, extent_some}
use Rattle.standing.proofs.extent.extent.Goals as goal

pub returns-then-file-lt512 : goal.returns-then-file-lt512
returns-then-file-lt512 c = extent_none c.args.file.now (omega arith)

pub returns : goal.returns
returns c = omega (arith, extent_some c.args.file.now (omega arith), c.join.ensures)
