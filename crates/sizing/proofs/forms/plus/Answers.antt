-- The coefficients before i are done.
use mathlib.Core.Path.{refl}
use Prim.Native.Nat.{ℕ, ◌≤◌, ◌*◌}
use native.Mathlib.Omega.{arith}
use native.Mathlib.Nat.{mul-le-mul}
use Rattle.sizing.specs.Put.{coefficient}
use Rattle.sizing.proofs.BuildLaws.{plus_next, plus_end}
use Rattle.sizing.proofs.forms.plus.Goals as goal

term : (m x : ℕ) → m ≤ 15 → x ≤ 15 → m * x ≤ 225
term m x h g = mul-le-mul {n₂ = 15} {m₂ = 15} h g

large : (m x : ℕ) → m ≤ 15 → x ≤ 131072 → m * x ≤ 1966080
large m x h g = mul-le-mul {n₂ = 15} {m₂ = 131072} h g

pub loop-i-init : goal.loop-i-init
loop-i-init c =
    record { wide = c.requires.2.0; done = λ k l. absurd (omega arith); left = λ k l. refl; constant = refl }

pub overflow_mul-r : goal.overflow_mul-r
overflow_mul-r c =
    let l = c.loop-i in
    omega (arith, term c.args.m (coefficient c.args.b l.i) c.requires.0 (c.requires.1.1 l.i))

pub overflow_add-r : goal.overflow_add-r
overflow_add-r c =
    let l = c.loop-i in
    omega (arith, term c.args.m (coefficient c.args.b l.i) c.requires.0 (c.requires.1.1 l.i), c.requires.2.1 l.i)

pub loop-i-preserved : goal.loop-i-preserved
loop-i-preserved c =
    let l = c.loop-i in
    plus_next c.args.m c.args.b c.args.a l.i l.r (omega arith) l.invariant

pub overflow_mul-r-2 : goal.overflow_mul-r-2
overflow_mul-r-2 c =
    rw c.from.ensures (omega (arith, large c.args.m c.args.b.constant c.requires.0 c.requires.1.2))

pub overflow_add-r-2 : goal.overflow_add-r-2
overflow_add-r-2 c =
    rw c.from.ensures (omega (arith, large c.args.m c.args.b.constant c.requires.0 c.requires.1.2, c.requires.2.2))

pub returns : goal.returns
returns c =
    let l = c.loop-i in
    rw c.from.ensures (plus_end c.args.m c.args.b c.args.a l.i l.r (omega arith) c.requires.2.0 c.requires.1.0 l.invariant)
