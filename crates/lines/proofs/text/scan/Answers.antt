-- `lines::text::scan` meets its contract: all lines before the place have codes. Assumes nothing.
use Rattle.std.proofs.Common.{◌∙◌, sym, arith}
use Rattle.std.proofs.lemmas.List.{take_rest}
use Rattle.lines.proofs.ScanLaws.{none_of, some_of, passed_wrong, passed_next, passed_end}
use Rattle.lines.proofs.text.scan.Goals as goal

pub returns-then-is_none : goal.returns-then-is_none
returns-then-is_none c =
    let none = sym (rw take_rest at c.code.ensures) ∙ none_of c.code.result c.is_none.ensures c.if-is_none.true in
    passed_wrong _ _ c.loop-i.i c.loop-i.invariant (omega (arith, c.div_ceil-i-end.ensures)) none

pub loop-i-preserved : goal.loop-i-preserved
loop-i-preserved c =
    let some = some_of c.code.result (rw c.if-is_none.false at c.is_none.ensures) in
    passed_next _ _ c.loop-i.i c.loop-i.invariant (sym (rw take_rest at c.code.ensures) ∙ some.1)

pub returns : goal.returns
returns c = passed_end _ _ c.loop-i.i c.loop-i.invariant (omega (arith, c.div_ceil-i-end.ensures))
