-- `lines::index::marks` meets its contract: the marks are those of the entries from entry k on. Assumes nothing.
use Rattle.std.proofs.Common.{◌*◌, drop}
use Rattle.rules.specs.Lines.{entries}
use Rattle.lines.specs.Marks.{Marked}
use Rattle.lines.proofs.index.marks.Given as goal

abbrev pub invariant-loop-k : goal.invariant-loop-k
invariant-loop-k l = Marked (entries (drop (4 * l.k) l.table)) l.marks
