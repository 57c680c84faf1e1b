-- `lines::table::right` meets its contract: the entries before the place are right, so the others decide. Assumes nothing.
use Rattle.std.proofs.Common.{◌≡◌, ◌+◌, ◌*◌, ◌∙◌, sym, arith}
use Rattle.std.proofs.lemmas.List.{take_rest}
use Rattle.lines.proofs.TableLaws.{entries_end, table_uneven, table_even, letters_wrong, letters_next}
use Rattle.lines.proofs.table.right.Goals as goal

pub returns-then-table-ne0 : goal.returns-then-table-ne0
returns-then-table-ne0 c = sym (table_uneven c.args.table.now c.if-table-ne0.true)

pub loop-k-init : goal.loop-k-init
loop-k-init c = table_even c.args.table.now c.if-table-ne0.false

pub returns-then-not-letters : goal.returns-then-not-letters
returns-then-not-letters c =
    let table = c.args.table.now in
    let at = 4 * c.loop-k.k in
    sym (c.loop-k.invariant ∙ letters_wrong table at (omega arith) (rw take_rest at (sym c.letters.ensures ∙ c.if-not-letters.true)))

pub loop-k-preserved : goal.loop-k-preserved
loop-k-preserved c =
    let table = c.args.table.now in
    let at = 4 * c.loop-k.k in
    let next : 4 * (c.loop-k.k + 1) ≡ at + 4 = omega arith in
    rw next (c.loop-k.invariant ∙ letters_next table at (omega arith) (rw take_rest at (sym c.letters.ensures ∙ c.if-not-letters.false)))

pub returns : goal.returns
returns c = sym (c.loop-k.invariant ∙ rw (entries_end c.args.table.now (4 * c.loop-k.k) (omega arith)))
