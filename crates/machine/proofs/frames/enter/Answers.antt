-- The callee's frame has copies of its arguments, or a table is full.
use native.Mathlib.Omega.{arith}
use Rattle.machine.specs.Turns.{enter_deep, enter_full, enter_goes}
use Rattle.fetch.proofs.IndexLaws.{function_small}
use Rattle.machine.proofs.frames.enter.Goals as goal

pub function_arity-n-requires : goal.function_arity-n-requires
function_arity-n-requires c =
    (c.requires.0.0, c.requires.0.1)

pub returns-then-depth-m : goal.returns-then-depth-m
returns-then-depth-m c = enter_deep (omega arith)

pub returns-then-top-n : goal.returns-then-top-n
returns-then-top-n c = enter_full (omega arith) (omega arith)

pub copy_within-requires : goal.copy_within-requires
copy_within-requires c =
    let small = function_small c.requires.0.0.parsed c.args.g c.requires.0.1 in
    (omega arith, omega arith, omega (arith, small))

pub code_at-code-requires : goal.code_at-code-requires
code_at-code-requires c =
    (function_small c.requires.0.0.parsed c.args.g c.requires.0.1).0

pub returns : goal.returns
returns c =
    let arity = c.function_arity-n.ensures in
    rw (c.code_at-code.ensures, arity)
    (enter_goes (omega arith) (omega arith) (rw arity at c.copy_within.ensures))
