-- `lines::table::right` meets its contract: the entries before the place are right, so the others decide. Assumes nothing.
use Rattle.std.proofs.Common.{◌≡◌, ◌*◌, drop}
use Rattle.rules.specs.Base.{all}
use Rattle.rules.specs.Lines.{letters_right, entries, table_right}
use Rattle.lines.proofs.table.right.Given as goal

abbrev pub invariant-loop-k : goal.invariant-loop-k
invariant-loop-k l = table_right l.table ≡ all letters_right (entries (drop (4 * l.k) l.table))
