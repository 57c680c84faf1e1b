-- There is room for one type more just where the stack has grown.
use Rattle.operands.proofs.OperationLaws.{onward_full, onward_goes}
use Rattle.operands.proofs.operation.onward.Goals as goal

pub returns-in_err-next : goal.returns-in_err-next
returns-in_err-next c = λ s n f i here. onward_full s n f i here _ c.from_residual.ensures c.in_err-next.ensures

pub returns : goal.returns
returns c = λ s n f i here. onward_goes s n f i here _ c.in_ok-next.ensures
