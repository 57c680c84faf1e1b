-- What is written and the bytes still to come are together the value's bytes.
use Prim.Native.Nat.{ℕ, ◌+◌}
use mathlib.Core.Path.{refl, sym, ap, ◌∙◌}
use mathlib.Core.List.{List}
use native.Mathlib.Omega.{arith}
use lib.ListN.{set, length-set}
use lib.Seq.{sets}
use Rattle.result.proofs.ValueLaws.{rest, label_few}
use Rattle.result.proofs.ResultLaws.{writing_start, writing_end, writing_next, writing_constant, writing_last, counting_few}
use Rattle.result.proofs.ResultLaws.{counting_whole, length_all, sets_all, visit_cell, visit_readable, visit_earlier, visit_few}
use Rattle.result.proofs.+write_value.Goals as goal

pub overflow_cast-out : goal.overflow_cast-out
overflow_cast-out t c =
    let x = c.args in
    omega (arith, label_few x.file.now.now x.cells.now x.k c.requires.readable, c.constructor_at.ensures.0)

pub bounds-out-at : goal.bounds-out-at
bounds-out-at t c =
    let x = c.args in
    omega (arith, c.requires.k_in_bounds, length_all x.file.now.now x.cells.now x.k c.requires.readable)

pub loop-j-init : goal.loop-j-init
loop-j-init t c =
    let x = c.args in
    writing_start x.file.now.now x.cells.now x.k x.at _ c.requires.readable c.arity_of-n.ensures

pub argument_at-child-requires : goal.argument_at-child-requires
argument_at-child-requires t c =
    let i = c.loop-j.invariant.count in
    (i.at.readable.room, i.at.readable.small, visit_cell i.at c.loop-j-test.true, omega (arith, counting_few i))

pub bounds-out-next : goal.bounds-out-next
bounds-out-next t c =
    let i = c.loop-j.invariant in
    let whole = counting_whole i.count c.loop-j-test.true c.argument_at-child.ensures.0 in
    omega (arith, whole.0, whole.1, simp length-set at i.long, c.requires.k_in_bounds)

pub overflow_add-j : goal.overflow_add-j
overflow_add-j t c = omega (arith, counting_few c.loop-j.invariant.count)

pub loop-j-preserved-then-is_constant : goal.loop-j-preserved-then-is_constant
loop-j-preserved-then-is_constant t c =
    let constant = sym c.is_constant.ensures ∙ c.if-is_constant.true in
    writing_constant c.loop-j.invariant c.loop-j-test.true c.argument_at-child.ensures.0 (simp length-set) constant refl

pub overflow_add-j-else-is_constant : goal.overflow_add-j-else-is_constant
overflow_add-j-else-is_constant t c = omega (arith, counting_few c.loop-j.invariant.count)

pub write_value-next-requires : goal.write_value-next-requires
write_value-next-requires t c =
    let i = c.loop-j.invariant in
    let more = c.loop-j-test.true in
    let named = c.argument_at-child.ensures.0 in
    let whole = counting_whole i.count more named in (
      omega (arith, c.decreases, visit_earlier i.count.at more named, i.count.low),
      (visit_readable i.count.at more named, omega (arith, whole.0, simp length-set at i.long, c.requires.k_in_bounds)),
    )

pub overflow_add-j-then-j-n : goal.overflow_add-j-then-j-n
overflow_add-j-then-j-n t c = omega (arith, counting_few c.loop-j.invariant.count)

pub loop-j-preserved-then-j-n : goal.loop-j-preserved-then-j-n
loop-j-preserved-then-j-n t c =
    let w = c.write_value-next in
    writing_next c.loop-j.invariant c.loop-j-test.true c.argument_at-child.ensures.0 w.auto.out w.ensures.0 w.ensures.1

pub constructor_at-requires-else-j-n : goal.constructor_at-requires-else-j-n
constructor_at-requires-else-j-n t c =
    let r = visit_readable c.loop-j.invariant.count.at c.loop-j-test.true c.argument_at-child.ensures.0 in
    (r.room, r.small)

pub overflow_cast-out-else-j-n : goal.overflow_cast-out-else-j-n
overflow_cast-out-else-j-n t c =
    let r = visit_readable c.loop-j.invariant.count.at c.loop-j-test.true c.argument_at-child.ensures.0 in
    omega (arith, label_few _ _ _ r, c.constructor_at-else-j-n.ensures.0)

pub bounds-out-next-else-j-n : goal.bounds-out-next-else-j-n
bounds-out-next-else-j-n t c =
    let i = c.loop-j.invariant in
    let whole = counting_whole i.count c.loop-j-test.true c.argument_at-child.ensures.0 in
    omega (arith, whole.0, whole.1, simp length-set at i.long, c.requires.k_in_bounds)

pub arity_of-n-requires-else-j-n : goal.arity_of-n-requires-else-j-n
arity_of-n-requires-else-j-n t c = visit_readable c.loop-j.invariant.count.at c.loop-j-test.true c.argument_at-child.ensures.0

pub loop-j-smaller : goal.loop-j-smaller
loop-j-smaller t c =
    let at = c.loop-j.invariant.count.at in
    let more = c.loop-j-test.true in
    let named = c.argument_at-child.ensures.0 in
    omega (arith, visit_few at more named c.arity_of-n-else-j-n.ensures, visit_earlier at more named)

pub loop-j-preserved : goal.loop-j-preserved
loop-j-preserved t c =
    let l = c.loop-j in
    writing_last l.invariant c.loop-j-test.true c.argument_at-child.ensures.0 (simp length-set) c.if-j-n.false
    c.arity_of-n-else-j-n.ensures (ap (set l.out l.next) c.constructor_at-else-j-n.ensures.0)

pub returns : goal.returns
returns t c =
    let x = c.args in
    let behind : List ℕ = rest x.file.now.now x.cells.now x.k 0 in
    let e = writing_end c.loop-j.invariant c.loop-j-test.false in (
      e.0,
      e.1 ∙ ap (λ (y : ℕ). sets (set x.out.now x.at y) (x.at + 1) behind) c.constructor_at.ensures.0
          ∙ sym (sets_all x.file.now.now x.cells.now x.k c.requires.readable x.out.now x.at),
    )
