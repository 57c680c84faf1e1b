-- `deliver_result` meets its contract: the result is written just where it fits.
use native.Mathlib.Omega.{arith}
use Rattle.delivery.proofs.FinishLaws.{delivers_result, delivers_short}
use Rattle.delivery.proofs.deliver_result.Goals as goal

pub returns-then-out-needed : goal.returns-then-out-needed
returns-then-out-needed c = delivers_short _ _ _ c.count-needed.ensures (omega (arith, c.if-out-needed.true, c.count-needed.ensures))

pub returns : goal.returns
returns c =
    delivers_result _ _ _ c.count-needed.ensures (omega (arith, c.if-out-needed.false, c.count-needed.ensures)) c.write.ensures
