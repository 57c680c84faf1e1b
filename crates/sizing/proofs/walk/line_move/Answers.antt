-- What `straight_line` says, as a step.
use Rattle.std.proofs.lemmas.Result.{err_from_is_err_and}
use Rattle.sizing.proofs.MoveLaws.{line_move_asks, said_line_end, said_line_refused}
use Rattle.sizing.proofs.walk.line_move.Goals as goal

pub straight_line-requires : goal.straight_line-requires
straight_line-requires c = line_move_asks c.requires

pub returns-in_err-on : goal.returns-in_err-on
returns-in_err-on c =
    let p = err_from_is_err_and c.from_residual.result c.from_residual.ensures.1 in
    rw (p.1, p.2) (said_line_refused c.requires c.in_err-on.ensures)

pub returns : goal.returns
returns c = rw c.stay.ensures (said_line_end c.requires c.in_ok-on.ensures)
