-- `lines::text::deliver` meets its contract, in each of its two cases. Assumes nothing.
use Rattle.std.proofs.Common.{length}
use Rattle.rules.specs.Lines.{entries}
use Rattle.rules.specs.Memory.{copied_into}
use Rattle.lines.proofs.ScanLaws.{all_scanned}
use Rattle.lines.proofs.WrittenLaws.{list_needed, list_short, list_fits}
use Rattle.lines.proofs.text.deliver.Goals as goal

pub returns-then-out-needed : goal.returns-then-out-needed
unfolding copied_into
returns-then-out-needed c =
    let a = c.args in
    let (cs, is, s) = all_scanned (entries a.index.now.table.now) a.text.now c.requires in
    let e = list_short a.cons a.nil s (length a.out.now) c.if-out-needed.true in
    (rw (is, e), rw (is, e))

pub returns : goal.returns
unfolding copied_into
returns c =
    let a = c.args in
    let (cs, is, s) = all_scanned (entries a.index.now.table.now) a.text.now c.requires in
    let e = list_fits a.cons a.nil s (length a.out.now) c.if-out-needed.false in
    (rw (is, e, list_needed a.cons a.nil s), rw (is, e) (c.write.ensures cs is))
