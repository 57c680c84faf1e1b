-- `packing::unpacking::unpack_verified` meets its contract, in each of its two cases. Assumes nothing.
use lib.ListN.{length}
use Rattle.rules.specs.Memory.{copied_into}
use Rattle.blocks.proofs.VerifyLaws.{verified_passed}
use Rattle.packing.proofs.PackLaws.{unpack_short, unpack_fits}
use Rattle.packing.proofs.unpacking.unpack_verified.Goals as goal

pub returns-then-out-n : goal.returns-then-out-n
unfolding copied_into
returns-then-out-n c =
    let e = unpack_short c.args.file.now (length c.args.out.now) (verified_passed _ c.requires.verified.blocks)
    (rw c.requires.long at c.if-out-n.true) in
    (rw (e, ← c.requires.long), rw e)

pub returns : goal.returns
unfolding copied_into
returns c =
    let e = unpack_fits c.args.file.now (length c.args.out.now) (verified_passed _ c.requires.verified.blocks)
    (rw c.requires.long at c.if-out-n.false) in
    (rw (e, c.requires.long), rw e c.copy_payload.ensures)
