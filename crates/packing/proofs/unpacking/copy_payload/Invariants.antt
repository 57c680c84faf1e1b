-- `packing::unpacking::copy_payload` meets its contract: the payload's bytes are pasted one by one. Assumes nothing.
use Rattle.rules.specs.Container.{payload}
use Rattle.rules.proofs.WriteLaws.{Pasted}
use Rattle.packing.proofs.unpacking.copy_payload.Given as goal

abbrev pub invariant-loop-k : goal.invariant-loop-k
invariant-loop-k l = Pasted l.initial.out 0 (payload l.file) l.k l.out
