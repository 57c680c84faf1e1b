-- `blocks::verifying::verify_blocks` meets its contract: what is left to verify decides. Assumes nothing.
use Rattle.std.proofs.Common.{◌≡◌, ◌-◌, ◌*◌, drop}
use Rattle.rules.specs.Container.{verify, verify_blocks}
use Rattle.blocks.proofs.verifying.verify_blocks.Given as goal

abbrev pub invariant-loop-k : goal.invariant-loop-k
invariant-loop-k l = verify l.file ≡ verify_blocks (l.n - l.k) l.k (drop (512 * l.k) l.file)
