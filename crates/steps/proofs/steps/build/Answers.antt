-- A constant is its own reference. A cell takes the place of its arguments on the stack, or a table is full.
use Prim.Native.Nat.{◌+◌}
use mathlib.Core.Path.{◌∙◌, sym}
use native.Mathlib.Omega.{arith}
use Rattle.store.proofs.CellLaws.{room_less}
use Rattle.steps.specs.Steps.{build_full, build_constant, build_short, build_goes}
use Rattle.fetch.proofs.IndexLaws.{constructor_small}
use Rattle.steps.proofs.steps.build.Goals as goal

pub constructor_arity-n-requires : goal.constructor_arity-n-requires
constructor_arity-n-requires c = c.requires.0

pub returns-then-from-m : goal.returns-then-from-m
returns-then-from-m c = build_full (omega arith)

pub overflow_cast-stack : goal.overflow_cast-stack
overflow_cast-stack c =
    omega (arith, constructor_small c.requires.0.0 c.args.c c.requires.0.1)

pub returns-then-n-eq0 : goal.returns-then-n-eq0
returns-then-n-eq0 c =
    let arity = c.constructor_arity-n.ensures in
    rw arity (build_constant (omega arith) (sym arity ∙ c.if-n-eq0.true))

pub returns-then-used-m : goal.returns-then-used-m
returns-then-used-m c =
    let arity = c.constructor_arity-n.ensures in
    build_short (omega arith) (λ e. c.if-n-eq0.false (arity ∙ e)) (omega arith)

pub overflow_cast-c : goal.overflow_cast-c
overflow_cast-c c =
    omega (arith, constructor_small c.requires.0.0 c.args.c c.requires.0.1)

pub put_cell-requires : goal.put_cell-requires
put_cell-requires c =
    let lent = c.requires.1 in
    let small = constructor_small c.requires.0.0 c.args.c c.requires.0.1 in (
      room_less c.args.cells.now c.args.m.cells (c.args.r.used + 1) lent.cell_room (omega arith),
      omega (arith, lent.few_cells),
      omega (arith, small),
      omega (arith, lent.stack_room),
    )

pub returns : goal.returns
returns c =
    let arity = c.constructor_arity-n.ensures in
    let put = c.put_cell.ensures in
    rw (put.0, arity)
    (build_goes (omega arith) (λ e. c.if-n-eq0.false (arity ∙ e)) (omega arith) (rw arity at put.1))
