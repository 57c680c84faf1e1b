-- `function_bounded` meets its contract: at each turn what is left to check is the arguments from `k` on.
use Rattle.rules.specs.Container.{payload}
use Rattle.rules.proofs.PassLaws.{Passing}
use Rattle.declarations.proofs.BoundLaws.{argument_check}
use Rattle.declarations.proofs.bounding.function_bounded.Given as goal

abbrev pub invariant-loop-k : goal.invariant-loop-k
invariant-loop-k l = Passing (argument_check (payload l.file) l.at l.g) l.k-end l.k
