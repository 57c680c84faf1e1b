-- `begin_accepted` meets its contract: no such entry, arguments that are not right, or the call.
use mathlib.Core.Path.{refl}
use native.Mathlib.Omega.{arith}
use Rattle.std.proofs.lemmas.Result.{err_from_is_err_and}
use Rattle.program.proofs.LayoutLaws.{functions_few}
use Rattle.start.proofs.CallLaws.{head_there, no_entry, bad_arguments, callable}
use Rattle.start.proofs.accepted.begin_accepted.Goals as goal

pub returns-then-entry-from : goal.returns-then-entry-from
returns-then-entry-from c frames out l =
    no_entry c.requires.0 c.requires.1 _ _ _ frames out (omega (arith, c.if-entry-from.true, c.from.ensures))

pub bounds-layout-entry : goal.bounds-layout-entry
bounds-layout-entry c = omega (arith, c.if-entry-from.false, c.from.ensures, functions_few c.requires.1.headed)

pub check_arguments-requires-clause-head_there : goal.check_arguments-requires-clause-head_there
check_arguments-requires-clause-head_there c =
    head_there c.requires.1 (omega (arith, c.if-entry-from.false, c.from.ensures)) refl

pub returns-in_err-check_arguments : goal.returns-in_err-check_arguments
returns-in_err-check_arguments c =
    let p = err_from_is_err_and c.from_residual.result c.from_residual.ensures.1 in
    rw (p.1, p.2) (λ frames out l. bad_arguments c.requires.0 c.requires.1 _ _ _ frames out
    (omega (arith, c.if-entry-from.false, c.from.ensures)) refl c.in_err-check_arguments.ensures)

pub begin_called-requires : goal.begin_called-requires
begin_called-requires c = (
  callable c.requires.0 c.requires.1 (omega (arith, c.if-entry-from.false, c.from.ensures)) refl c.in_ok-check_arguments.ensures
      c.index_of-index.ensures,
  c.requires.2,
)
