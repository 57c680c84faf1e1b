-- What is below the value is known, and the arguments go on top of it.
use Rattle.operands.proofs.OperationLaws.{branch_unknown, branch_wrong, branch_full, branch_goes}
use Rattle.operands.proofs.operation.branch.Goals as goal

pub returns-in_err-d : goal.returns-in_err-d
returns-in_err-d c = λ s n f i. branch_unknown s n f i _ c.in_err-d.was c.from_residual.ensures _

pub returns-in_err-rest : goal.returns-in_err-rest
returns-in_err-rest c =
    λ s n f i. branch_wrong s n f i _ _ c.in_ok-d.was c.in_err-rest.ensures c.from_residual-in_err-rest.ensures

pub returns-in_err-next : goal.returns-in_err-next
returns-in_err-next c =
    λ s n f i. branch_full s n f i _ _ c.in_ok-d.was c.in_ok-rest.ensures (rw c.from.ensures at c.in_err-next.ensures)
    c.from_residual-in_err-next.ensures

pub returns : goal.returns
returns c =
    λ s n f i. rw c.from-2.ensures (branch_goes s n f i _ _ c.in_ok-d.was c.in_ok-rest.ensures
    (rw c.from.ensures at c.in_ok-next.ensures))
