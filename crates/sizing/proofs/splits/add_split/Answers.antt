-- What is left of the parts to add; or the variable is not there, and nothing changes.
use mathlib.Core.Path.{◌≡◌, refl, sym, ap, ◌∙◌}
use Prim.Native.Nat.{ℕ, ◌≤◌, ◌+◌, ◌-◌, ◌*◌, ◌<◌}
use native.Mathlib.Omega.{arith}
use native.Mathlib.Nat.{sub-zero, add-zero, mul-le-mul, le_trans}
use Rattle.rules.specs.Records.{program_in}
use Rattle.sizing.specs.Put.{coefficient, put}
use Rattle.sizing.specs.Splits.{split_a}
use Rattle.sizing.proofs.PutLaws.{cleared_wide, cleared_below, put_absent}
use Rattle.sizing.proofs.SplitLaws.{split_wide}
use Rattle.sizing.proofs.CodeLaws.{bumped_wide, bumped_other, spanned_step, spanned_end}
use Rattle.sizing.proofs.splits.add_split.Goals.{After-weight_of-w}
use Rattle.sizing.proofs.splits.add_split.Goals as goal

pub returns-then-c-eq0 : goal.returns-then-c-eq0
returns-then-c-eq0 c =
    let s = program_in c.args.file.now in
    let p = c.args.p in
    let e = rw c.from-v.ensures at c.if-c-eq0.true in
    sym (put_absent p.variable (split_a s p) c.args.a (split_wide s p) c.requires.1.bounded.0 e)

pub weight_of-w-requires : goal.weight_of-w-requires
weight_of-w-requires c =
    (c.requires.0, c.requires.1.weight)

pub loop-j-init : goal.loop-j-init
loop-j-init c =
    let p = c.args.p in
    let a = c.args.a in
    let b = c.requires.1.bounded in
    rw c.from-v.ensures (record {
      wide = cleared_wide p.variable a b.0;
      constant = refl;
      left = rw (add-zero p.first, sub-zero p.parts);
      low = λ i l. le_trans (cleared_below p.variable a i) (b.1 i);
    })

pub overflow_add-r-in-loop-j : goal.overflow_add-r-in-loop-j
overflow_add-r-in-loop-j c =
    let l = c.loop-j in
    rw (c.from-first.ensures, c.from-v.ensures)
    (omega (arith, l.invariant.low (c.args.p.first + l.j) (omega arith), c.requires.1.bounded.1 c.args.p.variable))

pub loop-j-preserved : goal.loop-j-preserved
loop-j-preserved c =
    let l = c.loop-j in
    let p = c.args.p in
    let v = coefficient c.args.a c.from-v.result in
    let at = p.first + l.j in
    let below : l.j < p.parts = omega arith in
    rw c.from-first.ensures (record {
      wide = bumped_wide at v l.r l.invariant.wide;
      constant = l.invariant.constant;
      left = l.invariant.left ∙ spanned_step v p.first l.j p.parts c.weight_of-w.result l.r l.invariant.wide c.requires.1.parts below;
      low = λ i g. rw (bumped_other at v l.r i (λ e. omega arith)) (l.invariant.low i (omega arith));
    })

-- what the weight adds to the constant
cost : (c : After-weight_of-w) → coefficient c.args.a c.from-v.result * c.weight_of-w.result ≤ 3825
cost c =
    mul-le-mul {n₂ = 15} {m₂ = 255} (c.requires.1.bounded.1 c.from-v.result)
    (rw c.weight_of-w.ensures c.requires.1.weight.light)

pub overflow_mul-r : goal.overflow_mul-r
overflow_mul-r c = rw c.from.ensures (omega (arith, cost (goal.at.overflow_mul-r c).After-weight_of-w))

pub overflow_add-r-2 : goal.overflow_add-r-2
overflow_add-r-2 c =
    rw c.from.ensures (omega (arith, cost (goal.at.overflow_add-r-2 c).After-weight_of-w, c.requires.1.bounded.2))

pub returns : goal.returns
unfolding put
returns c =
    let l = c.loop-j in
    let p = c.args.p in
    let w = c.weight_of-w.result in
    let v = coefficient c.args.a c.from-v.result in
    let e : p.parts - l.j ≡ 0 = omega arith in
    rw (← c.weight_of-w.ensures, ← c.from-v.ensures, c.from.ensures)
    (sym ((rw (← c.from-v.ensures) at l.invariant.left) ∙ spanned_end v (p.first + l.j) (p.parts - l.j) w l.r l.invariant.wide e
    ∙ ap (λ (k : ℕ). record { coefficients = l.r.coefficients; constant = k + v * w }) l.invariant.constant))
