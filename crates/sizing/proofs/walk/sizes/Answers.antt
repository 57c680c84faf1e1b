-- The loop keeps that what is left of the pass is the functions from g on.
use Rattle.std.proofs.Common.{sym, ◌∙◌, arith}
use Rattle.std.proofs.lemmas.Result.{err_from_is_err_and}
use Rattle.rules.specs.Records.{program_in}
use Rattle.rules.specs.Shapes.{sizes_of, sizes_right}
use Rattle.rules.proofs.PassLaws.{pass_first, pass_stop, pass_next, pass_end}
use Rattle.program.proofs.LayoutLaws.{functions_pass}
use Rattle.sizing.proofs.SizesLaws.{sizes_asks}
use Rattle.sizing.proofs.walk.sizes.Goals as goal

pub loop-g-init : goal.loop-g-init
loop-g-init c = pass_first

pub function_sizes-requires : goal.function_sizes-requires
function_sizes-requires c =
    sizes_asks c.requires.0 c.requires.1 (λ k. omega (arith, c.type_inv.file k)) c.loop-g.g (omega arith)

pub returns-in_err-function_sizes : goal.returns-in_err-function_sizes
unfolding sizes_right
returns-in_err-function_sizes c =
    let p = err_from_is_err_and c.from_residual.result c.from_residual.ensures.1 in
    rw (p.1, p.2) (pass_stop c.loop-g.invariant (omega arith) (sym c.in_err-function_sizes.ensures)
    ∙ sym (functions_pass c.requires.1.headed (sizes_of (program_in _))))

pub loop-g-preserved : goal.loop-g-preserved
loop-g-preserved c = pass_next c.loop-g.invariant (omega arith) (sym c.in_ok-function_sizes.ensures)

pub returns : goal.returns
unfolding sizes_right
returns c =
    pass_end c.loop-g.invariant (omega arith)
    ∙ sym (functions_pass c.requires.1.headed (sizes_of (program_in _)))
