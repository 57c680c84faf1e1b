-- `packing::writing::write_blocks` meets its contract: the blocks so far stand at the output's front. Assumes nothing.
use Rattle.std.proofs.Common.{◌≡◌, ◌-◌, ◌+◌, ◌*◌, refl, arith}
use Rattle.rules.specs.Container.{blocks_of}
use Rattle.packing.proofs.PackLaws.{blocks_next}
use Rattle.packing.proofs.writing.write_blocks.Goals as goal

pub loop-k-init : goal.loop-k-init
unfolding blocks_of
loop-k-init c = refl

pub loop-k-preserved : goal.loop-k-preserved
loop-k-preserved c =
    let a = c.args in
    let l = c.loop-k in
    let k = l.k in
    blocks_next k (512 * k + 512 - 512 * k) (c.min-to.result - 504 * k) a.payload.now l.out a.out.now l.invariant
    (omega arith) (omega (arith, c.min-to.ensures)) c.write_block.ensures

pub returns : goal.returns
returns c =
    let e : c.loop-k.k ≡ c.args.n = omega arith in
    rw e at c.loop-k.invariant
