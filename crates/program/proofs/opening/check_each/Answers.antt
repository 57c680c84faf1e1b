-- `check_each` meets its contract: at each turn what is left to check is the records from `k` on.
use Rattle.std.proofs.Common.{sym, arith}
use Rattle.std.proofs.lemmas.Result.{err_from_is_err_and}
use Rattle.rules.proofs.PassLaws.{pass_first, pass_stop, pass_next, pass_end}
use Rattle.program.proofs.opening.check_each.Goals as goal

pub loop-k-init : goal.loop-k-init
loop-k-init g c = λ test says. pass_first

pub returns-in_err-read_right : goal.returns-in_err-read_right
returns-in_err-read_right g c = λ test says.
    let p = err_from_is_err_and c.from_residual.result c.from_residual.ensures.1 in
    rw (p.1, p.2) (pass_stop (c.loop-k.invariant test says) (omega arith) (sym (rw c.SIZE.ensures at
    (c.in_err-read_right.ensures.says test says))))

pub loop-k-preserved : goal.loop-k-preserved
loop-k-preserved g c = λ test says.
    pass_next (c.loop-k.invariant test says) (omega arith) (sym (rw c.SIZE.ensures at (c.in_ok-read_right.ensures.says test says)))

pub returns : goal.returns
returns g c = λ test says. pass_end (c.loop-k.invariant test says) (omega arith)
