-- `bounded` meets its contract: at each turn what is left to check is the functions from `g` on.
use Rattle.rules.specs.Container.{payload}
use Rattle.rules.specs.Declarations.{bound_rule}
use Rattle.rules.proofs.PassLaws.{Passing}
use Rattle.program.proofs.LayoutLaws.{at_function}
use Rattle.declarations.proofs.bounding.bounded.Given as goal

abbrev pub invariant-loop-g : goal.invariant-loop-g
invariant-loop-g l = Passing (at_function bound_rule (payload l.file)) l.layout.header.functions l.g
