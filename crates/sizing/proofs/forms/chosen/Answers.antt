-- The first i choices are there.
use mathlib.Core.Path.{◌≡◌}
use Prim.Native.Nat.{◌≤◌, ◌*◌}
use native.Mathlib.Omega.{arith}
use native.Mathlib.Nat.{mul-le-mul}
use Rattle.sizing.proofs.ChoiceLaws.{choosing_start, choice_first, choice_second, choice_below, choosing_next}
use Rattle.sizing.proofs.ChoiceLaws.{choosing_end, choosing_many}
use borrow.Author.Rules.{rules}
use Rattle.sizing.proofs.forms.chosen.Goals as goal

pub overflow_mul-n : goal.overflow_mul-n
overflow_mul-n c =
    let s = c.requires in
    let z : c.args.form.now.count * c.args.rest.now.count ≤ 256 = mul-le-mul {n₂ = 16} {m₂ = 16} s.1.right.few s.2.few in
    omega arith

pub returns-then-n-gt16 : goal.returns-then-n-gt16
returns-then-n-gt16 c =
    choosing_many c.args.m c.args.form.now c.args.rest.now c.requires.1 c.requires.2 c.requires.3 c.requires.4
    (λ z. absurd (omega (arith, z, c.requires.5))) c.if-n-gt16.true

pub loop-i-init : goal.loop-i-init
loop-i-init c =
    choosing_start c.args.m c.args.form.now c.args.rest.now c.requires.1 c.requires.2 c.requires.3
    c.requires.4 c.no_form-x.result c.no_form-x.ensures.0

pub offset_bounds-form-i : goal.offset_bounds-form-i
offset_bounds-form-i c =
    let l = choice_first c.args.m c.args.form.now c.args.rest.now c.requires.1 c.requires.2 c.requires.3
    c.requires.4 c.loop-i.i (omega arith) in
    let f = c.requires.1.right.few in
    search rules

pub bounds-form-i : goal.bounds-form-i
bounds-form-i c =
    let l = choice_first c.args.m c.args.form.now c.args.rest.now c.requires.1 c.requires.2 c.requires.3
    c.requires.4 c.loop-i.i (omega arith) in
    let f = c.requires.1.right.few in
    search rules

pub offset_bounds-rest-i : goal.offset_bounds-rest-i
offset_bounds-rest-i c =
    let l = choice_second c.args.m c.args.form.now c.args.rest.now c.requires.1 c.requires.2 c.requires.3
    c.requires.4 c.loop-i.i (omega arith) in
    let f = c.requires.2.few in
    search rules

pub bounds-rest-i : goal.bounds-rest-i
bounds-rest-i c =
    let l = choice_second c.args.m c.args.form.now c.args.rest.now c.requires.1 c.requires.2 c.requires.3
    c.requires.4 c.loop-i.i (omega arith) in
    let f = c.requires.2.few in
    search rules

pub plus-requires : goal.plus-requires
plus-requires c =
    let b = choice_below c.args.m c.args.form.now c.args.rest.now c.requires.1 c.requires.2 c.requires.3
    c.requires.4 c.loop-i.i (omega arith) in
    (c.requires.0, b.0, b.1)

pub loop-i-preserved : goal.loop-i-preserved
loop-i-preserved c =
    choosing_next c.args.m c.args.form.now c.args.rest.now c.requires.1 c.requires.2 c.requires.3
    c.requires.4 c.loop-i.i (omega arith) c.if-n-gt16.false c.loop-i.x c.plus.result
    c.loop-i.invariant c.plus.ensures

pub returns : goal.returns
returns c =
    let e : c.loop-i.i ≡ c.args.form.now.count * c.args.rest.now.count = omega arith in
    choosing_end c.args.m c.args.form.now c.args.rest.now c.requires.1 c.requires.2 c.requires.3 c.requires.4
    (λ z. absurd (omega (arith, z, c.requires.5))) c.if-n-gt16.false c.loop-i.x (rw e at c.loop-i.invariant)
