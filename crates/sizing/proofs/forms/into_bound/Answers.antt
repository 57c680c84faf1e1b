-- The first i rows are done.
use Rattle.std.proofs.Common.{length, arith}
use Rattle.rules.specs.Container.{payload}
use Rattle.sizing.specs.Forms.{forms_in, Formed}
use Rattle.sizing.specs.Bounds.{row_in}
use Rattle.sizing.proofs.BoundLaws.{row_form, only_row, joining_start, joining_many, joining_over, joining_next, joining_end}
use Rattle.sizing.proofs.forms.into_bound.Goals.{In_ok-y}
use Rattle.sizing.proofs.forms.into_bound.Goals as goal

-- what row i makes of the arguments
made : (c : In_ok-y) → let a = c.args in
    Formed c.in_ok-y.y (row_form (length a.arguments.now) (row_in (payload a.file.now) a.bound c.loop-i.i) (forms_in a.arguments.now))
made c = rw c.row_of-in-loop-i.ensures at c.in_ok-y.ensures

pub row_of-requires : goal.row_of-requires
row_of-requires c =
    (c.requires.0, c.requires.1.there 0 c.requires.1.some)

pub substitute-requires : goal.substitute-requires
substitute-requires c =
    (rw c.row_of.ensures (c.requires.1.each 0 c.requires.1.some), c.requires.2)

pub returns-then-k-eq1 : goal.returns-then-k-eq1
returns-then-k-eq1 c =
    let a = c.args in
    only_row (payload a.file.now) (length a.arguments.now) a.bound (forms_in a.arguments.now) (rw c.rows-k.ensures at c.if-k-eq1.true) _
    (rw c.row_of.ensures at c.substitute.ensures)

pub loop-i-init : goal.loop-i-init
loop-i-init c =
    let a = c.args in
    joining_start (payload a.file.now) (length a.arguments.now) a.bound (forms_in a.arguments.now) c.no_form-x.result
    c.no_form-x.ensures.0 c.no_form-x.ensures.1

pub row_of-requires-in-loop-i : goal.row_of-requires-in-loop-i
row_of-requires-in-loop-i c =
    let r = c.rows-k.ensures in
    (c.requires.0, c.requires.1.there c.loop-i.i (omega (arith, c.loop-i-test.true)))

pub substitute-requires-in-loop-i : goal.substitute-requires-in-loop-i
substitute-requires-in-loop-i c =
    let r = c.rows-k.ensures in
    (rw c.row_of-in-loop-i.ensures (c.requires.1.each c.loop-i.i (omega (arith, c.loop-i-test.true))), c.requires.2)

pub returns-in_err-y : goal.returns-in_err-y
returns-in_err-y c =
    let r = c.rows-k.ensures in
    rw c.from_residual.ensures
    (joining_many c.loop-i.invariant (omega (arith, c.loop-i-test.true)) (rw c.row_of-in-loop-i.ensures at c.in_err-y.ensures))

pub overflow_add-x : goal.overflow_add-x
overflow_add-x c =
    let a = c.loop-i.invariant.right.few in
    let b = (made (goal.at.overflow_add-x c).In_ok-y).right.few in
    omega arith

pub returns-then-x-y-gt16 : goal.returns-then-x-y-gt16
returns-then-x-y-gt16 c =
    let r = c.rows-k.ensures in
    joining_over c.loop-i.invariant (omega (arith, c.loop-i-test.true)) (made (goal.at.returns-then-x-y-gt16 c).In_ok-y) c.if-x-y-gt16.true

pub append-requires : goal.append-requires
append-requires c =
    (c.loop-i.invariant.right, (made (goal.at.append-requires c).In_ok-y).right, c.if-x-y-gt16.false)

pub loop-i-preserved : goal.loop-i-preserved
loop-i-preserved c =
    let r = c.rows-k.ensures in
    let e = c.append.ensures in
    joining_next c.loop-i.invariant (omega (arith, c.loop-i-test.true)) (made (goal.at.loop-i-preserved c).In_ok-y)
    c.append.new.x e.0 e.1 e.2

pub returns : goal.returns
returns c =
    joining_end c.loop-i.invariant (let r = c.rows-k.ensures in omega arith) c.requires.1.some
