-- By the invariant that some steps of the top frame were taken; each turn is one more.
use native.Mathlib.Omega.{arith}
use Rattle.steps.proofs.LoopLaws.{went_none, went_more, ready_again, pauses_rest, pauses_spent}
use Rattle.steps.proofs.steps.straight.Goals as goal

pub loop-r-init : goal.loop-r-init
loop-r-init c = went_none _ _ _ _ _

pub one-requires : goal.one-requires
one-requires c = (ready_again _ _ _ _ _ _ _ _ c.loop-r.invariant c.requires, omega arith)

pub returns-in-Err : goal.returns-in-Err
returns-in-Err c = pauses_rest _ _ _ _ _ _ _ _ c.loop-r.invariant _ _ _ c.in-Err.ensures

pub loop-r-preserved : goal.loop-r-preserved
loop-r-preserved c = went_more _ _ _ _ _ _ _ _ c.loop-r.invariant _ _ _ c.in-Ok.ensures

pub returns : goal.returns
returns c = pauses_spent _ _ _ _ _ _ _ _ c.loop-r.invariant (omega arith)
