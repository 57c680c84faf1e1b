-- A number of the cell after the first. The reference is no constant, so it is not below 64.
use native.Mathlib.Omega.{arith}
use borrow.Author.Tests.{ltb-false}
use Rattle.store.specs.Cells.{argument_in, cell_of, cells_to, CellRoom}
use Rattle.store.proofs.cells.argument_at.Goals as goal

pub bounds-cells-k : goal.bounds-cells-k
unfolding CellRoom cells_to
bounds-cells-k c =
    omega (arith, ltb-false c.args.k 64 c.requires.2)

pub returns : goal.returns
unfolding argument_in cell_of
returns c = (c.from.ensures, omega arith)
