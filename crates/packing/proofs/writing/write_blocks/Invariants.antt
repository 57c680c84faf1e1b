-- `packing::writing::write_blocks` meets its contract: the blocks so far stand at the output's front. Assumes nothing.
use Rattle.std.proofs.Common.{◌≡◌}
use Rattle.rules.specs.Container.{blocks_of}
use Rattle.rules.specs.Memory.{front_written}
use Rattle.packing.proofs.writing.write_blocks.Given as goal

abbrev pub invariant-loop-k : goal.invariant-loop-k
invariant-loop-k l = l.out ≡ front_written (blocks_of l.k 0 l.payload) l.initial.out
