-- The numbers of the cell after the first are copied. The reference is no constant, so it is not below 64.
use native.Mathlib.Omega.{arith}
use borrow.Author.Tests.{ltb-false}
use Rattle.store.specs.Cells.{arguments_in, cell_of, cells_to, CellRoom}
use Rattle.store.proofs.cells.spread.Goals as goal

pub copy-requires : goal.copy-requires
unfolding CellRoom cells_to
copy-requires c =
    omega (arith, ltb-false c.args.k 64 c.requires.2)

pub returns : goal.returns
unfolding arguments_in cell_of
returns c = c.copy.ensures
