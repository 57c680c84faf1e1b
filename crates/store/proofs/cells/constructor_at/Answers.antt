-- A constant is the number of its constructor. Of a cell it is the first number.
use mathlib.Core.Path.{sym}
use native.Mathlib.Omega.{arith}
use borrow.Author.Tests.{le-ltb, lt-ltb}
use Rattle.store.specs.Cells.{constructor_in, label_in, cell_of, cells_to, CellRoom}
use Rattle.store.proofs.CellLaws.{constant_label}
use Rattle.store.proofs.cells.constructor_at.Goals as goal

pub returns-then-k-lt-CONSTANTS : goal.returns-then-k-lt-CONSTANTS
returns-then-k-lt-CONSTANTS c =
    let a = c.args in
    (sym (constant_label a.cells.now a.k (lt-ltb _ 64 c.if-k-lt-CONSTANTS.true)), omega arith)

pub bounds-cells-k : goal.bounds-cells-k
unfolding CellRoom cells_to
bounds-cells-k c = omega (arith, c.if-k-lt-CONSTANTS.false)

pub returns : goal.returns
unfolding label_in constructor_in cell_of
returns c =
    rw (le-ltb c.args.k 64 c.if-k-lt-CONSTANTS.false) (c.from.ensures, omega arith)
