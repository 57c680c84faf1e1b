-- The slots hold what arrives at each instruction, and the whole walk comes out as what is left of it.
use Prim.Native.Nat.{◌+◌, ◌-◌}
use Rattle.sizing.proofs.SlotLaws.{Slots}
use Rattle.sizing.proofs.walk.function_sizes.Given as goal

abbrev pub invariant-loop-i : goal.invariant-loop-i
invariant-loop-i l = Slots l.file l.g l.saved l.i

abbrev pub decreases-loop-i : goal.decreases-loop-i
decreases-loop-i l = l.f.last + 1 - l.i
