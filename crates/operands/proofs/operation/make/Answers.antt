-- What is below the arguments is known, and the result goes on top of it.
use Rattle.operands.proofs.OperationLaws.{make_unknown, make_wrong, make_goes}
use Rattle.operands.proofs.operation.make.Goals as goal

pub returns-in_err-d : goal.returns-in_err-d
returns-in_err-d c = λ s n f i here. make_unknown s n f i _ c.in_err-d.was c.from_residual.ensures here

pub returns-in_err-rest : goal.returns-in_err-rest
returns-in_err-rest c =
    λ s n f i here. make_wrong s n f i here _ c.in_ok-d.was (rw c.from.ensures at c.in_err-rest.ensures)
    c.from_residual-in_err-rest.ensures

pub returns : goal.returns
returns c =
    λ s n f i here. make_goes s n f i here _ c.in_ok-d.was (rw c.from.ensures at c.in_ok-rest.ensures)
    (c.onward.ensures s n f i here)
