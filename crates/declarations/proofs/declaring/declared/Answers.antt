-- The constructors decide, and where they pass the functions do.
use Rattle.std.proofs.Common.{refl, sym, ◌∙◌}
use Rattle.std.proofs.lemmas.Result.{err_from_is_err_and}
use Rattle.declarations.proofs.DeclareLaws.{declarations_by}
use Rattle.declarations.proofs.declaring.declared.Goals as goal

pub returns-in_err-constructors_declared : goal.returns-in_err-constructors_declared
returns-in_err-constructors_declared c =
    let p = err_from_is_err_and c.from_residual.result c.from_residual.ensures.1 in
    rw (p.1, p.2) (sym (declarations_by _ (sym c.in_err-constructors_declared.ensures) refl))

pub returns : goal.returns
returns c = c.functions_declared.ensures ∙ sym (declarations_by _ (sym c.in_ok-constructors_declared.ensures) refl)
