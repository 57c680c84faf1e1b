-- `functions_declared` meets its contract: at each turn what is left to check is the functions from `g` on.
use Rattle.rules.specs.Container.{payload}
use Rattle.rules.specs.Declarations.{signature_rule}
use Rattle.rules.specs.Records.{program_in}
use Rattle.rules.proofs.PassLaws.{Passing}
use Rattle.program.proofs.LayoutLaws.{at_function}
use Rattle.declarations.proofs.declaring.functions_declared.Given as goal

abbrev pub invariant-loop-g : goal.invariant-loop-g
invariant-loop-g l =
    Passing (at_function (signature_rule (program_in l.file).types) (payload l.file)) l.layout.header.functions l.g
