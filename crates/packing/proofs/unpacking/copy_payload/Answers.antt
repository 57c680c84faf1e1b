-- `packing::unpacking::copy_payload` meets its contract: the payload's bytes are pasted one by one. Assumes nothing.
use Rattle.std.proofs.Common.{refl, arith}
use native.Mathlib.Nat.{zero-add}
use Rattle.rules.proofs.WriteLaws.{pasted_start, pasted_next, pasted_end}
use Rattle.packing.proofs.unpacking.copy_payload.Goals as goal

pub loop-k-init : goal.loop-k-init
loop-k-init c = pasted_start refl (omega (arith, c.requires.0.long))

pub payload_byte-requires : goal.payload_byte-requires
payload_byte-requires c =
    (c.requires.0.verified, omega (arith, c.requires.0.long))

pub loop-k-preserved : goal.loop-k-preserved
loop-k-preserved c =
    pasted_next c.loop-k.invariant (omega (arith, c.requires.0.long)) refl (omega arith)
    c.payload_byte.ensures

pub returns : goal.returns
returns c = rw zero-add at (pasted_end c.loop-k.invariant (omega (arith, c.requires.0.long)))
