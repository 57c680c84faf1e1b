-- `blocks::verifying::used_right` meets its contract, in each of its two cases. Assumes nothing.
use Rattle.rules.specs.Container.{used_right}
use Rattle.blocks.proofs.verifying.used_right.Goals as goal

pub returns-then-last : goal.returns-then-last
unfolding used_right
returns-then-last c = rw c.if-last.true

pub returns : goal.returns
unfolding used_right
returns c = rw c.if-last.false
