-- `constructors_declared` meets its contract: at each turn what is left to check is the constructors from `k` on.
use Rattle.rules.specs.Container.{payload}
use Rattle.rules.specs.Declarations.{constructor_rule}
use Rattle.rules.specs.Records.{program_in}
use Rattle.rules.proofs.PassLaws.{Passing}
use Rattle.program.proofs.LayoutLaws.{at_constructor}
use Rattle.declarations.proofs.declaring.constructors_declared.Given as goal

abbrev pub invariant-loop-k : goal.invariant-loop-k
invariant-loop-k l = Passing (at_constructor (constructor_rule (program_in l.file).types) (payload l.file)) l.h.constructors l.k
