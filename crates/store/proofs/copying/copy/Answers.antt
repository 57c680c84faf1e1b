-- One number after the other, as many as are asked for.
use mathlib.Core.Path.{◌≡◌}
use native.Mathlib.Omega.{arith}
use Rattle.store.proofs.CopyLaws.{copied_none, copied_one, copied_two, copied_three, copied_four}
use Rattle.store.proofs.copying.copy.Goals as goal

pub returns-then-n-eq0 : goal.returns-then-n-eq0
returns-then-n-eq0 c =
    let a = c.args in
    let e : a.n ≡ 0 = omega arith in
    rw e (copied_none a.from.now a.at a.to a.out.now)

pub returns-then-n-eq1 : goal.returns-then-n-eq1
returns-then-n-eq1 c =
    let a = c.args in
    let e : a.n ≡ 1 = omega arith in
    rw e (copied_one a.from.now a.at a.to a.out.now (omega arith))

pub returns-then-n-eq2 : goal.returns-then-n-eq2
returns-then-n-eq2 c =
    let a = c.args in
    let e : a.n ≡ 2 = omega arith in
    rw e (copied_two a.from.now a.at a.to a.out.now (omega arith))

pub returns-then-n-eq3 : goal.returns-then-n-eq3
returns-then-n-eq3 c =
    let a = c.args in
    let e : a.n ≡ 3 = omega arith in
    rw e (copied_three a.from.now a.at a.to a.out.now (omega arith))

pub returns : goal.returns
returns c =
    let a = c.args in
    let e : a.n ≡ 4 = omega arith in
    rw e (copied_four a.from.now a.at a.to a.out.now (omega arith))
