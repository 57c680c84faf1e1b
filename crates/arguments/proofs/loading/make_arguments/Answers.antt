-- The cells and references made are those of the bytes that follow. A constant makes no cell.
use Prim.Native.Nat.{◌+◌, ◌-◌, ◌≤◌, ◌<◌}
use mathlib.Core.Path.{◌∙◌, refl}
use native.Mathlib.Omega.{arith}
use lib.ListN.{length-set}
use Rattle.store.proofs.CellLaws.{room_less, room_kept, cells_kept_length}
use Rattle.arguments.proofs.LoadingLaws.{made_none, made_all, byte_known, byte_few, byte_room, byte_fits, byte_constant, byte_cell}
use Rattle.arguments.proofs.loading.make_arguments.Goals.{After-constructor_arity-n}
use Rattle.arguments.proofs.loading.make_arguments.Goals.{then-n-ne0, else-n-ne0}
use Rattle.arguments.proofs.loading.make_arguments.Goals as goal

-- the byte's arguments are among the references, and with the new one they fit
room_here : (c : After-constructor_arity-n)
    → (c.loop-i.at + c.constructor_arity-n.result ≤ 256)
    × (0 < c.loop-i.at + c.constructor_arity-n.result)
room_here c =
    let l = c.loop-i in
    byte_room c.requires.loading (l.i - 1) (omega arith) c.from.ensures c.constructor_arity-n.ensures (omega arith) l.invariant.made

pub loop-i-init : goal.loop-i-init
loop-i-init c = record { made = made_none; long = refl }

pub constructor_arity-n-requires : goal.constructor_arity-n-requires
constructor_arity-n-requires c = byte_known c.requires.loading (c.loop-i.i - 1) (omega arith) c.from.ensures

pub put_cell-number-requires : goal.put_cell-number-requires
put_cell-number-requires c =
    let l = c.loop-i in
    let a = c.requires in
    let q = c.constructor_arity-n.ensures in
    let fits = byte_fits a.loading (l.i - 1) (omega arith) c.from.ensures q (omega arith) l.invariant.made c.if-n-ne0.true in
    let kept = room_kept _ _ _ (cells_kept_length _ _ _ l.invariant.made.kept) a.room in (
      room_less _ _ (l.used + 1) kept (omega (arith, fits)),
      omega (arith, fits, a.few),
      byte_few a.loading (l.i - 1) (omega arith) c.from.ensures q,
      omega (arith, room_here (goal.at.put_cell-number-requires c).After-constructor_arity-n),
    )

pub overflow_add-at : goal.overflow_add-at
overflow_add-at c = omega (arith, room_here (goal.at.overflow_add-at c).After-constructor_arity-n)

pub overflow_sub-at : goal.overflow_sub-at
overflow_sub-at c = omega (arith, room_here (goal.at.overflow_sub-at c).After-constructor_arity-n)

pub offset_bounds-numbers-at : goal.offset_bounds-numbers-at
offset_bounds-numbers-at c = omega (arith, room_here (goal.at.offset_bounds-numbers-at c).After-constructor_arity-n)

pub bounds-numbers-at : goal.bounds-numbers-at
bounds-numbers-at c = omega (arith, room_here (goal.at.bounds-numbers-at c).After-constructor_arity-n)

pub loop-i-preserved : goal.loop-i-preserved
loop-i-preserved c =
    let l = c.loop-i in
    let x = l.invariant in
    let q = c.constructor_arity-n.ensures in record {
      made = elim c.if-n-ne0.branch [
        | then-n-ne0 w ↦ rw (w.cells-is, w.used-is, w.number-is ∙ w.put_cell-number.ensures.0)
            (byte_cell c.requires.loading (l.i - 1) (omega arith) c.from.ensures q (omega arith) x.made x.long w.if-n-ne0.true
            c.from-number.ensures w.put_cell-number.ensures.1)
        | else-n-ne0 w ↦ rw (w.cells-is, w.used-is, w.number-is)
            (byte_constant c.requires.loading (l.i - 1) (omega arith) c.from.ensures q (omega arith) x.made x.long w.if-n-ne0.false
            c.from-number.ensures)
      ];
      long = simp length-set x.long;
    }

pub returns : goal.returns
returns c = made_all (omega arith) c.loop-i.invariant.made
