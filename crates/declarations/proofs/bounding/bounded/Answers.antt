-- `bounded` meets its contract: at each turn what is left to check is the functions from `g` on.
use Rattle.std.proofs.Common.{arith, sym, ◌∙◌}
use Rattle.std.proofs.lemmas.Result.{err_from_is_err_and}
use Rattle.rules.specs.Declarations.{bound_rule, bounds_right}
use Rattle.rules.proofs.PassLaws.{pass_stop, pass_next, pass_end}
use Rattle.program.proofs.LayoutLaws.{functions_few, functions_pass, function_placed, function_here}
use Rattle.declarations.proofs.bounding.bounded.Goals as goal

pub bounds-layout-g : goal.bounds-layout-g
bounds-layout-g c = omega (arith, functions_few c.requires.headed)

pub function_bounded-requires : goal.function_bounded-requires
function_bounded-requires c = (c.requires.headed.parsed.verified, function_placed c.requires c.loop-g.g (omega arith))

pub returns-in_err-function_bounded : goal.returns-in_err-function_bounded
unfolding bounds_right
returns-in_err-function_bounded c =
    let p = err_from_is_err_and c.from_residual.result c.from_residual.ensures.1 in
    rw (p.1, p.2)
    (pass_stop c.loop-g.invariant (omega arith) (function_here c.requires bound_rule c.loop-g.g (omega arith)
    (sym c.in_err-function_bounded.ensures))
    ∙ sym (functions_pass c.requires.headed bound_rule))

pub loop-g-preserved : goal.loop-g-preserved
loop-g-preserved c =
    pass_next c.loop-g.invariant (omega arith) (function_here c.requires bound_rule c.loop-g.g (omega arith)
    (sym c.in_ok-function_bounded.ensures))

pub returns : goal.returns
unfolding bounds_right
returns c = pass_end c.loop-g.invariant (omega arith) ∙ sym (functions_pass c.requires.headed bound_rule)
