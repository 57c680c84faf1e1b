-- A slot from 1 to the height is there, and no other.
use Rattle.std.proofs.Common.{sym, ◌∙◌, arith}
use Rattle.operands.specs.Operands.{stack_of}
use Rattle.operands.proofs.OperationLaws.{load_none, load_past, load_goes}
use Rattle.operands.proofs.operation.load.Goals.{then-slot-eq0-via-then-slot-eq0, then-slot-eq0-via-else-slot-eq0+then-slot-st}
use Rattle.operands.proofs.operation.load.Goals as goal

pub returns-then-slot-eq0 : goal.returns-then-slot-eq0
returns-then-slot-eq0 c =
    λ s n f i. elim c.then-slot-eq0.branch [
      | then-slot-eq0-via-then-slot-eq0 w ↦ load_none s n f i c.args.a c.args.st (sym c.from-slot.ensures ∙ w.if-slot-eq0.true)
      | then-slot-eq0-via-else-slot-eq0+then-slot-st w ↦
          load_past s n f i c.args.a c.args.st (omega (arith, c.from-slot.ensures, w.if-slot-st.true))
    ]

pub returns : goal.returns
returns c =
    λ s n f i. load_goes s n f i c.args.a c.args.st (λ z. c.if-slot-eq0.false (c.from-slot.ensures ∙ z))
    (omega (arith, c.from-slot.ensures, c.if-slot-st.false))
    (rw c.from-slot.ensures at (c.onward.ensures s n f i (stack_of c.args.st)))
