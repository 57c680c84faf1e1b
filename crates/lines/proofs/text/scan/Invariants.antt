-- `lines::text::scan` meets its contract: all lines before the place have codes. Assumes nothing.
use Rattle.rules.specs.Lines.{entries}
use Rattle.lines.proofs.ScanLaws.{Passed}
use Rattle.lines.proofs.text.scan.Given as goal

abbrev pub invariant-loop-i : goal.invariant-loop-i
invariant-loop-i l = Passed (entries l.index.table.now) l.text l.i
