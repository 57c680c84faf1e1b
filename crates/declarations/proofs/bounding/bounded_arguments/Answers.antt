-- `bounded_arguments` meets its contract: at each turn an argument was found, or is still to be found in the alternatives from `k` on.
use Rattle.std.proofs.Common.{refl, ap, arith, ◌∙◌}
use Rattle.rules.specs.Container.{payload}
use Rattle.rules.specs.Records.{alternative_at}
use Rattle.declarations.proofs.BoundLaws.{each_of_four, find_first, find_next, find_end}
use Rattle.declarations.proofs.bounding.bounded_arguments.Goals as goal

pub loop-k-init : goal.loop-k-init
loop-k-init c = find_first (each_of_four _ refl refl refl refl)

pub loop-k-preserved : goal.loop-k-preserved
loop-k-preserved c =
    find_next c.loop-k.invariant (omega arith)
    (c.alternative-a.ensures ∙ ap (alternative_at (payload c.args.file.now)) c.alternative_offset.ensures)
    c.mark.ensures

pub returns : goal.returns
returns c = find_end c.loop-k.invariant (omega arith)
