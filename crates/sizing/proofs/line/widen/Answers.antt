-- The first i coefficients stand in front, and the others are 0.
use Rattle.std.proofs.Common.{◌≡◌, arith}
use Rattle.sizing.proofs.OwnLaws.{four_first, four_next, four_end}
use Rattle.sizing.proofs.line.widen.Goals as goal

pub loop-i-init : goal.loop-i-init
loop-i-init c = four_first

pub loop-i-preserved : goal.loop-i-preserved
loop-i-preserved c = rw c.from.ensures (four_next (omega arith) c.loop-i.invariant)

pub returns : goal.returns
returns c =
    let e : c.loop-i.i ≡ 4 = omega arith in
    rw c.from-2.ensures (four_end c.args.row.coefficients c.loop-i.coefficients c.args.row.constant c.requires.four
    (rw e at c.loop-i.invariant))
