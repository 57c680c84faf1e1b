-- `lines::text::write` meets its contract: so many lines are written, whatever their codes are. Assumes nothing.
use Rattle.rules.specs.Lines.{entries}
use Rattle.lines.proofs.WrittenLaws.{Writing}
use Rattle.lines.proofs.text.write.Given as goal

abbrev pub invariant-loop-i : goal.invariant-loop-i
invariant-loop-i l = Writing (entries l.index.table.now) l.text l.cons l.nil l.initial.out l.i l.out
