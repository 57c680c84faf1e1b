-- `bounded_arguments` meets its contract: at each turn an argument was found, or is still to be found in the alternatives from `k` on.
use Rattle.rules.specs.Container.{payload}
use Rattle.declarations.proofs.BoundLaws.{Finding}
use Rattle.declarations.proofs.bounding.bounded_arguments.Given as goal

abbrev pub invariant-loop-k : goal.invariant-loop-k
invariant-loop-k l = Finding (payload l.file) l.at l.count l.k l.found
