-- The loop keeps that what is left of the pass is the functions from g on.
use Rattle.std.proofs.Common.{arith, sym, ◌∙◌}
use Rattle.std.proofs.lemmas.Result.{err_from_is_err_and}
use Rattle.rules.specs.Records.{program_in}
use Rattle.rules.specs.Types.{types_of, types_right}
use Rattle.program.proofs.LayoutLaws.{functions_pass}
use Rattle.rules.proofs.PassLaws.{pass_stop, pass_next, pass_end}
use Rattle.typing.proofs.walk.types.Goals as goal

pub types_of-requires : goal.types_of-requires
types_of-requires c = (c.requires.0, c.requires.1, omega arith)

pub returns-in_err-types_of : goal.returns-in_err-types_of
unfolding types_right
returns-in_err-types_of c =
    let p = err_from_is_err_and c.from_residual.result c.from_residual.ensures.1 in
    rw (p.1, p.2)
    (pass_stop c.loop-g.invariant (omega arith) (sym c.in_err-types_of.ensures)
    ∙ sym (functions_pass c.requires.1.headed (types_of (program_in _))))

pub loop-g-preserved : goal.loop-g-preserved
loop-g-preserved c = pass_next c.loop-g.invariant (omega arith) (sym c.in_ok-types_of.ensures)

pub returns : goal.returns
unfolding types_right
returns c = pass_end c.loop-g.invariant (omega arith) ∙ sym (functions_pass c.requires.1.headed (types_of (program_in _)))
