-- `begin` meets its contract: a program that is not accepted is refused before the start.
use Rattle.std.proofs.lemmas.Result.{err_from_is_err_and}
use borrow.Author.Rules.{rules}
use Rattle.start.proofs.BeginLaws.{not_checked}
use Rattle.start.proofs.begin.Goals as goal

pub begin_accepted-requires : goal.begin_accepted-requires
begin_accepted-requires c =
    let a = c.in_ok-layout.ensures.accepted in
    (a.0, a.1, search rules)

pub returns-in_err-layout : goal.returns-in_err-layout
returns-in_err-layout c =
    let p = err_from_is_err_and c.from_residual.result c.from_residual.ensures.1 in
    rw (p.1, p.2) (λ frames out l. not_checked c.args.file.now _ _ _ _ _ frames out _ c.in_err-layout.ensures.refuses)
