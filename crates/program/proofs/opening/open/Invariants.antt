-- `open` meets its contract: at each turn g of the functions are checked, and the next stands at `at`.
use Rattle.rules.specs.Container.{payload}
use Rattle.program.proofs.OpenLaws.{Scanned}
use Rattle.program.proofs.opening.open.Given as goal

abbrev pub invariant-loop-g : goal.invariant-loop-g
invariant-loop-g l = Scanned (payload l.file) l.header.functions l.g l.at l.heads
