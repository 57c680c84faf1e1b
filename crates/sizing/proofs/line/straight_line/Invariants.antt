-- The stack is filled with the forms of its entries; then what is left of the walk is the same at each instruction of the line, and all
-- entries are covered.
use Rattle.std.proofs.Common.{◌-◌}
use Rattle.sizing.specs.Steps.{FormsAre}
use Rattle.sizing.proofs.StraightLaws.{Line}
use Rattle.sizing.proofs.line.straight_line.Given as goal

abbrev pub invariant-loop-i : goal.invariant-loop-i
invariant-loop-i l = FormsAre l.file l.st l.i l.stack

abbrev pub invariant-loop-m : goal.invariant-loop-m
invariant-loop-m l = Line l.file l.g l.start l.own l.initial.stack l.initial.height l.stack l.height l.j

abbrev pub decreases-loop-m : goal.decreases-loop-m
decreases-loop-m l = 257 - l.j
