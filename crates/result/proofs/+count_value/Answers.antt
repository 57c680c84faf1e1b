-- What is counted and the bytes still to come are together the value's bytes.
use mathlib.Core.Path.{sym, ◌∙◌}
use native.Mathlib.Omega.{arith}
use Rattle.result.proofs.ResultLaws.{counting_start, counting_few, counting_end, counting_whole, counting_next}
use Rattle.result.proofs.ResultLaws.{counting_constant, counting_last, visit_cell, visit_readable, visit_earlier, visit_few}
use Rattle.result.proofs.+count_value.Goals as goal

pub loop-j-init : goal.loop-j-init
loop-j-init t c = counting_start c.args.file.now.now c.args.cells.now c.args.k 0 c.requires.readable c.arity_of-n.ensures

pub argument_at-child-requires : goal.argument_at-child-requires
argument_at-child-requires t c =
    let i = c.loop-j.invariant in
    (i.at.readable.room, i.at.readable.small, visit_cell i.at c.loop-j-test.true, omega (arith, counting_few i))

pub overflow_add-j : goal.overflow_add-j
overflow_add-j t c = omega (arith, counting_few c.loop-j.invariant)

pub loop-j-preserved-then-is_constant : goal.loop-j-preserved-then-is_constant
loop-j-preserved-then-is_constant t c =
    let constant = sym c.is_constant.ensures ∙ c.if-is_constant.true in
    counting_constant c.loop-j.invariant c.loop-j-test.true c.argument_at-child.ensures.0 constant

pub overflow_add-j-else-is_constant : goal.overflow_add-j-else-is_constant
overflow_add-j-else-is_constant t c = omega (arith, counting_few c.loop-j.invariant)

pub count_value-total-requires : goal.count_value-total-requires
count_value-total-requires t c =
    let i = c.loop-j.invariant in
    let more = c.loop-j-test.true in
    let named = c.argument_at-child.ensures.0 in
    let whole = counting_whole i more named in (
      omega (arith, c.decreases, visit_earlier i.at more named, i.low),
      (visit_readable i.at more named, omega (arith, whole.0, c.requires.k_len_bound)),
    )

pub overflow_add-total-then-j-n : goal.overflow_add-total-then-j-n
overflow_add-total-then-j-n t c =
    let whole = counting_whole c.loop-j.invariant c.loop-j-test.true c.argument_at-child.ensures.0 in
    omega (arith, whole.0, c.requires.k_len_bound, c.count_value-total.ensures)

pub overflow_add-j-then-j-n : goal.overflow_add-j-then-j-n
overflow_add-j-then-j-n t c = omega (arith, counting_few c.loop-j.invariant)

pub loop-j-preserved-then-j-n : goal.loop-j-preserved-then-j-n
loop-j-preserved-then-j-n t c =
    rw c.count_value-total.ensures (counting_next c.loop-j.invariant c.loop-j-test.true c.argument_at-child.ensures.0)

pub arity_of-n-requires-else-j-n : goal.arity_of-n-requires-else-j-n
arity_of-n-requires-else-j-n t c = visit_readable c.loop-j.invariant.at c.loop-j-test.true c.argument_at-child.ensures.0

pub loop-j-smaller : goal.loop-j-smaller
loop-j-smaller t c =
    let at = c.loop-j.invariant.at in
    let more = c.loop-j-test.true in
    let named = c.argument_at-child.ensures.0 in
    omega (arith, visit_few at more named c.arity_of-n-else-j-n.ensures, visit_earlier at more named)

pub loop-j-preserved : goal.loop-j-preserved
loop-j-preserved t c =
    counting_last c.loop-j.invariant c.loop-j-test.true c.argument_at-child.ensures.0 c.if-j-n.false c.arity_of-n-else-j-n.ensures

pub returns : goal.returns
returns t c = omega (arith, counting_end c.loop-j.invariant c.loop-j-test.false)
