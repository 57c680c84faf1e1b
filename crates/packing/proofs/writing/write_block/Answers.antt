-- `packing::writing::write_block` meets its contract: its parts stand one behind the other, and the sum is their checksum. Assumes nothing.
use Rattle.std.proofs.Common.{◌∙◌}
use Rattle.packing.proofs.PackLaws.{block_written}
use Rattle.packing.proofs.writing.write_block.Goals as goal

pub returns : goal.returns
returns c =
    block_written c.args.k c.args.part.now c.args.out.now c.requires.0 c.requires.2
    (c.copy_from_slice.ensures.after ∙ c.to_le_bytes.ensures)
    (c.copy_from_slice-2.ensures.after ∙ c.to_le_bytes-2.ensures) c.copy_from_slice-3.ensures.after c.weighed-sum.ensures
    (c.fill.ensures.after (λ y e. e))
    (c.copy_from_slice-4.ensures.after ∙ c.to_le_bytes-3.ensures)
