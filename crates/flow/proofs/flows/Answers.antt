-- The loop keeps that what is left of the pass is the functions from g on.
use Rattle.std.proofs.Common.{arith, sym, ◌∙◌}
use Rattle.std.proofs.lemmas.Result.{err_from_is_err_and}
use Rattle.rules.specs.Flow.{flow_of, flow_right}
use Rattle.rules.proofs.PassLaws.{pass_stop, pass_next, pass_end}
use Rattle.program.proofs.LayoutLaws.{functions_few, functions_pass, function_placed, function_here}
use Rattle.flow.proofs.flows.Goals as goal

pub bounds-layout-g : goal.bounds-layout-g
bounds-layout-g c = omega (arith, functions_few c.requires.headed)

pub flow_of-requires : goal.flow_of-requires
flow_of-requires c = (c.requires.headed.parsed.verified, function_placed c.requires c.loop-g.g (omega arith))

pub returns-in_err-flow_of : goal.returns-in_err-flow_of
unfolding flow_right
returns-in_err-flow_of c =
    let p = err_from_is_err_and c.from_residual.result c.from_residual.ensures.1 in
    rw (p.1, p.2)
    (pass_stop c.loop-g.invariant (omega arith) (function_here c.requires flow_of c.loop-g.g (omega arith) (sym c.in_err-flow_of.ensures))
    ∙ sym (functions_pass c.requires.headed flow_of))

pub loop-g-preserved : goal.loop-g-preserved
loop-g-preserved c =
    pass_next c.loop-g.invariant (omega arith) (function_here c.requires flow_of c.loop-g.g (omega arith) (sym c.in_ok-flow_of.ensures))

pub returns : goal.returns
unfolding flow_right
returns c = pass_end c.loop-g.invariant (omega arith) ∙ sym (functions_pass c.requires.headed flow_of)
