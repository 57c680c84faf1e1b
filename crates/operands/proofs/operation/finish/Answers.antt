-- The stack ends in the result just where nothing is wrong.
use Rattle.operands.proofs.OperationLaws.{return_wrong, return_ends}
use Rattle.operands.proofs.operation.finish.Goals as goal

pub returns-in_err-below : goal.returns-in_err-below
returns-in_err-below c = λ s n f i q. return_wrong s n f i _ q c.in_err-below.ensures c.from_residual.ensures

pub returns : goal.returns
returns c = λ s n f i q. return_ends s n f i _ q c.in_ok-below.ensures
