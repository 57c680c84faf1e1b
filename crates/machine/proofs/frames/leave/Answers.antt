-- The waiting frame's numbers are widened, and the top value takes the place of the call's arguments.
use native.Mathlib.Omega.{arith}
use Rattle.machine.specs.Turns.{leave_goes}
use Rattle.machine.proofs.frames.leave.Goals as goal

pub function_arity-n-requires : goal.function_arity-n-requires
function_arity-n-requires c =
    (c.requires.0.0, c.requires.0.1)

pub place_behind-requires : goal.place_behind-requires
place_behind-requires c =
    rw (c.code_at-code.ensures, c.from-function.ensures)
    (c.requires.1.3, c.requires.1.4, omega (arith, c.from.ensures, c.requires.1.1))

pub overflow_sub-result-3 : goal.overflow_sub-result-3
overflow_sub-result-3 c = c.requires.2.1

pub returns : goal.returns
returns c =
    let code = c.code_at-code.ensures in
    let function = c.from-function.ensures in
    let behind = c.place_behind.ensures in
    let arity = c.function_arity-n.ensures in
    rw (code, function, c.from-2.ensures, arity)
    (leave_goes (rw (code, function, c.from.ensures) at behind.0) behind.1)
