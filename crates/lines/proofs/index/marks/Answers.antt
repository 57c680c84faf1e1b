-- `lines::index::marks` meets its contract: the marks are those of the entries from entry k on. Assumes nothing.
use Rattle.std.proofs.Common.{◌≡◌, ◌≤◌, ◌+◌, ◌-◌, ◌*◌, ◌/◌, length, arith}
use Rattle.lines.proofs.TableLaws.{entries_end, right_even, entry_there}
use Rattle.lines.proofs.MarkLaws.{marked_none, marked_entry}
use Rattle.lines.proofs.index.marks.Goals as goal

pub loop-k-init : goal.loop-k-init
loop-k-init c =
    let table = c.args.table.now in
    rw (entries_end table (4 * (length table / 4)) (omega (arith, right_even table c.requires))) marked_none

pub number-requires : goal.number-requires
number-requires c =
    let even = right_even c.args.table.now c.requires in
    entry_there c.args.table.now c.requires _ _ (omega arith) (omega (arith, even)) (omega arith)

pub loop-k-preserved : goal.loop-k-preserved
loop-k-preserved c =
    let l = c.loop-k in
    let table = c.args.table.now in
    let at = 4 * (l.k - 1) in
    let next : 4 * l.k ≡ at + 4 = omega arith in
    let there : at + 4 ≤ length table = omega arith in
    marked_entry table at (at + 4 - at) l.marks (omega arith) there (entry_there table c.requires at (at + 4 - at) (omega arith)
    (omega arith) there).1
    c.number.ensures.0 (rw next at l.invariant)
