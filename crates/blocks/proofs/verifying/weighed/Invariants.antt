-- `blocks::verifying::weighed` meets its contract: the loop's sum is that of the bytes passed. Assumes nothing.
use Rattle.std.proofs.Common.{◌≡◌, ◌≤◌, ◌*◌, take}
use Rattle.rules.specs.Container.{weighed}
use Rattle.blocks.proofs.verifying.weighed.Given as goal

abbrev pub invariant-loop-i : goal.invariant-loop-i
invariant-loop-i l = record { few : l.sum ≤ 130560 * l.i; same : l.sum ≡ weighed 1 (take l.i l.b) }
