-- A constructor, zeros, and arguments in their place are a cell. Its number is the cell's place behind the constants.
use Prim.Native.Nat.{◌+◌, ◌*◌}
use native.Mathlib.Omega.{arith}
use lib.ListN.{length-set}
use Rattle.store.specs.Cells.{CellRoom}
use Rattle.store.proofs.CopyLaws.{cleared_four, placed}
use Rattle.store.proofs.RefLaws.{length_refs}
use Rattle.store.proofs.cells.put_cell.Goals as goal

pub returns : goal.returns
unfolding CellRoom
returns c =
    let a = c.args in
    let e = length-set a.cells.now (5 * a.i) a.c in
    let zeros = cleared_four (5 * a.i + 1) _ _ _ (omega arith) (omega (arith, e)) (c.fill.ensures.after (λ y e. e)) in (
      omega arith,
      placed a.i a.c _ a.cells.now _ _ (omega arith) (omega (arith, length_refs a.stack.now a.from a.n)) zeros c.copy.ensures,
    )
