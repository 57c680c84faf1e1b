-- The last i arguments are put in.
use Rattle.std.proofs.Common.{◌≡◌, ◌+◌, ◌-◌, ◌<◌, length, arith}
use Rattle.sizing.proofs.SubstLaws.{substituting_start, substituting_skip, substituting_asks, substituting_next}
use Rattle.sizing.proofs.SubstLaws.{substituting_many, substituting_one_asks, substituting_one}
use Rattle.sizing.proofs.PutLaws.{constant_wide}
use Rattle.sizing.proofs.forms.substitute.Goals as goal

pub single-rest-requires : goal.single-rest-requires
single-rest-requires c = rw c.constant.ensures (constant_wide c.from.result)

pub loop-i-init : goal.loop-i-init
loop-i-init c =
    let e = c.single-rest.ensures in
    let z : length c.args.arguments.now - 0 ≡ length c.args.arguments.now = omega arith in
    rw z (substituting_start c.args.row c.args.arguments.now c.requires.0 c.requires.1 c.single-rest.result e.right e.one
    (rw (c.constant.ensures, c.from.ensures) at e.same))

pub loop-i-preserved-then-m-eq0 : goal.loop-i-preserved-then-m-eq0
loop-i-preserved-then-m-eq0 c =
    let n = length c.args.arguments.now in
    let k = n - 1 - c.loop-i.i in
    let i : c.loop-i.i < n = c.loop-i-test.true in
    let below : k < n = omega arith in
    let e : n - c.loop-i.i ≡ k + 1 = omega arith in
    let p = rw e at c.loop-i.invariant in
    let z : n - (c.loop-i.i + 1) ≡ k = omega arith in
    rw z (substituting_skip c.args.row c.args.arguments.now c.requires.0 c.requires.1 k c.loop-i.rest below p
    (rw c.from-m.ensures at c.if-m-eq0.true))

pub overflow_add-arguments : goal.overflow_add-arguments
overflow_add-arguments c =
    let n = length c.args.arguments.now in
    let k = n - 1 - c.loop-i.i in
    let i : c.loop-i.i < n = c.loop-i-test.true in
    let below : k < n = omega arith in
    let e : n - c.loop-i.i ≡ k + 1 = omega arith in
    let p = rw e at c.loop-i.invariant in
    let m = rw c.from-m.ensures at c.if-m-eq0.false in
    let q = substituting_asks c.args.row c.args.arguments.now c.requires.0 c.requires.1 k c.loop-i.rest below p m in
    omega (arith, q.1.right.few, q.2.few)

pub plus-requires : goal.plus-requires
plus-requires c =
    let n = length c.args.arguments.now in
    let k = n - 1 - c.loop-i.i in
    let i : c.loop-i.i < n = c.loop-i-test.true in
    let below : k < n = omega arith in
    let e : n - c.loop-i.i ≡ k + 1 = omega arith in
    let p = rw e at c.loop-i.invariant in
    let m = rw c.from-m.ensures at c.if-m-eq0.false in
    rw c.from-m.ensures (substituting_one_asks c.args.row c.args.arguments.now c.requires.0 c.requires.1 k c.loop-i.rest below p m
    c.if-arguments-k-eq2.true)

pub loop-i-preserved-then-arguments-k-eq2 : goal.loop-i-preserved-then-arguments-k-eq2
loop-i-preserved-then-arguments-k-eq2 c =
    let n = length c.args.arguments.now in
    let k = n - 1 - c.loop-i.i in
    let i : c.loop-i.i < n = c.loop-i-test.true in
    let below : k < n = omega arith in
    let e : n - c.loop-i.i ≡ k + 1 = omega arith in
    let p = rw e at c.loop-i.invariant in
    let m = rw c.from-m.ensures at c.if-m-eq0.false in
    let z : n - (c.loop-i.i + 1) ≡ k = omega arith in
    rw z (substituting_one c.args.row c.args.arguments.now c.requires.0 c.requires.1 k c.loop-i.rest below p m c.if-arguments-k-eq2.true
    (rw c.from-m.ensures at c.plus.ensures))

pub chosen-requires : goal.chosen-requires
chosen-requires c =
    let n = length c.args.arguments.now in
    let k = n - 1 - c.loop-i.i in
    let i : c.loop-i.i < n = c.loop-i-test.true in
    let below : k < n = omega arith in
    let e : n - c.loop-i.i ≡ k + 1 = omega arith in
    let p = rw e at c.loop-i.invariant in
    let m = rw c.from-m.ensures at c.if-m-eq0.false in
    rw c.from-m.ensures (substituting_asks c.args.row c.args.arguments.now c.requires.0 c.requires.1 k c.loop-i.rest below p m)

pub returns-in_err-rest : goal.returns-in_err-rest
returns-in_err-rest c =
    let n = length c.args.arguments.now in
    let k = n - 1 - c.loop-i.i in
    let i : c.loop-i.i < n = c.loop-i-test.true in
    let below : k < n = omega arith in
    let e : n - c.loop-i.i ≡ k + 1 = omega arith in
    let p = rw e at c.loop-i.invariant in
    rw c.from_residual.ensures
    (substituting_many c.args.row c.args.arguments.now c.requires.0 c.requires.1 k c.loop-i.rest below p
    (rw c.from-m.ensures at c.in_err-rest.ensures))

pub loop-i-preserved : goal.loop-i-preserved
loop-i-preserved c =
    let n = length c.args.arguments.now in
    let k = n - 1 - c.loop-i.i in
    let i : c.loop-i.i < n = c.loop-i-test.true in
    let below : k < n = omega arith in
    let e : n - c.loop-i.i ≡ k + 1 = omega arith in
    let p = rw e at c.loop-i.invariant in
    let z : n - (c.loop-i.i + 1) ≡ k = omega arith in
    rw z (substituting_next c.args.row c.args.arguments.now c.requires.0 c.requires.1 k c.loop-i.rest below p c.in_ok-rest.rest
    (rw c.from-m.ensures at c.in_ok-rest.ensures))

pub returns : goal.returns
returns c =
    let z : length c.args.arguments.now - c.loop-i.i ≡ 0 = omega arith in
    let q = rw z at c.loop-i.invariant in
    record { right = q.right; some = q.some; same = q.same }
