-- The test has no sum that could wrap.
use Rattle.std.proofs.Common.{arith}
use borrow.Author.Tests.{leb-true}
use Rattle.standing.proofs.StandingLaws.{inside_whole}
use Rattle.standing.proofs.extent.is_there.Goals as goal

pub returns-then-size-n-clause-inside : goal.returns-then-size-n-clause-inside
returns-then-size-n-clause-inside c =
    λ t. inside_whole c.args.file.now c.args.size c.args.at (omega (arith, leb-true _ _ t))
