-- The top value is of the constructor or not, a constant or not, and its arguments have room or not. `is` says that the constructor
-- read is the top value's, and `one` that the test for a constant is of the top value.
use mathlib.Core.Path.{sym, ◌∙◌}
use native.Mathlib.Omega.{arith}
use Rattle.store.specs.Cells.{cells_to}
use Rattle.store.proofs.CellLaws.{room_less, cells_inside}
use Rattle.steps.specs.Steps.{branch_passes, branch_constant, branch_full, branch_takes}
use Rattle.fetch.proofs.IndexLaws.{constructor_small}
use Rattle.steps.proofs.steps.branch.Goals as goal

pub constructor_at-requires : goal.constructor_at-requires
constructor_at-requires c =
    let a = c.args in
    let top = c.from-k in
    let inside = cells_inside top.result a.m.cells (omega (arith, top.ensures, c.requires.lent.3)) in (
      room_less a.cells.now a.m.cells (cells_to top.result) c.requires.lent.0.cell_room inside,
      omega
          (arith, top.ensures, c.requires.lent.3, c.requires.lent.0.few_cells),
    )

pub overflow_sub-b : goal.overflow_sub-b
overflow_sub-b c =
    let is = rw c.from-k.ensures at c.constructor_at.ensures.0 in
    (c.requires.b_nonzero (λ e. c.if-constructor_at-c.true (is ∙ e))).0

pub place_behind-requires : goal.place_behind-requires
place_behind-requires c =
    let is = rw c.from-k.ensures at c.constructor_at.ensures.0 in
    let other = c.requires.b_nonzero (λ e. c.if-constructor_at-c.true (is ∙ e)) in
    (other.2, other.3, omega (arith, other.1))

pub returns-then-constructor_at-c : goal.returns-then-constructor_at-c
returns-then-constructor_at-c c =
    let is = rw c.from-k.ensures at c.constructor_at.ensures.0 in
    let behind = c.place_behind.ensures in
    branch_passes (λ e. c.if-constructor_at-c.true (is ∙ e)) behind.0 behind.1

pub returns-then-is_constant : goal.returns-then-is_constant
returns-then-is_constant c =
    let is = rw c.from-k.ensures at c.constructor_at.ensures.0 in
    let one = rw c.from-k.ensures at c.is_constant.ensures in
    branch_constant (sym is ∙ c.if-constructor_at-c.false) (sym one ∙ c.if-is_constant.true)

pub constructor_arity-n-requires : goal.constructor_arity-n-requires
constructor_arity-n-requires c =
    let is = rw c.from-k.ensures at c.constructor_at.ensures.0 in
    let one = rw c.from-k.ensures at c.is_constant.ensures in
    c.requires.parsed (sym is ∙ c.if-constructor_at-c.false) (sym one ∙ c.if-is_constant.false)

pub overflow_add-last : goal.overflow_add-last
overflow_add-last c =
    let is = rw c.from-k.ensures at c.constructor_at.ensures.0 in
    let one = rw c.from-k.ensures at c.is_constant.ensures in
    let known = c.requires.parsed (sym is ∙ c.if-constructor_at-c.false) (sym one ∙ c.if-is_constant.false) in
    omega (arith, constructor_small known.0 c.args.c known.1)

pub returns-then-last-n : goal.returns-then-last-n
returns-then-last-n c =
    let is = rw c.from-k.ensures at c.constructor_at.ensures.0 in
    let one = rw c.from-k.ensures at c.is_constant.ensures in
    branch_full (sym is ∙ c.if-constructor_at-c.false) (sym one ∙ c.if-is_constant.false) (omega arith)

pub spread-requires : goal.spread-requires
spread-requires c =
    let is = rw c.from-k.ensures at c.constructor_at.ensures.0 in
    let tested = c.is_constant.ensures in
    let one = rw c.from-k.ensures at tested in
    let a = c.args in
    let top = c.from-k in
    let lent = c.requires.lent.0 in
    let known = c.requires.parsed (sym is ∙ c.if-constructor_at-c.false) (sym one ∙ c.if-is_constant.false) in
    let inside = cells_inside top.result a.m.cells (omega (arith, top.ensures, c.requires.lent.3)) in (
      room_less a.cells.now a.m.cells (cells_to top.result) lent.cell_room inside,
      omega (arith, top.ensures, c.requires.lent.3, c.requires.lent.0.few_cells),
      sym tested ∙ c.if-is_constant.false,
      omega (arith, constructor_small known.0 a.c known.1),
      omega (arith, lent.stack_room),
    )

pub returns : goal.returns
returns c =
    let is = rw c.from-k.ensures at c.constructor_at.ensures.0 in
    let one = rw c.from-k.ensures at c.is_constant.ensures in
    let arity = c.constructor_arity-n.ensures in
    let put = rw (c.from-k.ensures, arity) at c.spread.ensures in
    rw arity
    (branch_takes (sym is ∙ c.if-constructor_at-c.false) (sym one ∙ c.if-is_constant.false) (omega (arith, c.if-last-n.false)) put)
