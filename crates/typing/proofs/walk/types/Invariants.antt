-- The loop keeps that what is left of the pass is the functions from g on.
use Rattle.rules.specs.Container.{payload}
use Rattle.rules.specs.Records.{program_in}
use Rattle.rules.specs.Types.{types_of}
use Rattle.program.proofs.LayoutLaws.{at_function}
use Rattle.rules.proofs.PassLaws.{Passing}
use Rattle.typing.proofs.walk.types.Given as goal

abbrev pub invariant-loop-g : goal.invariant-loop-g
invariant-loop-g l = Passing (at_function (types_of (program_in l.file)) (payload l.file)) l.layout.header.functions l.g
