-- Each goal is a law of `DriveLaws`.
use Rattle.machine.proofs.DriveLaws.{drove_none, ready_now, rested_now, turn_less, drove_more, drove_ends}
use Rattle.machine.proofs.run.drive.Goals as goal

pub loop-next-init : goal.loop-next-init
loop-next-init c = drove_none _ _ _ _ _ _ _ c.requires

pub straight-why-requires : goal.straight-why-requires
straight-why-requires c = ready_now _ _ _ _ _ _ _ c.requires _ _ _ _ c.loop-next.invariant

pub turn-requires : goal.turn-requires
turn-requires c = (_, rested_now _ _ _ _ _ _ _ c.requires _ _ _ _ c.loop-next.invariant _ _ _ _ c.straight-why.ensures)

pub loop-next-smaller : goal.loop-next-smaller
loop-next-smaller c =
    turn_less _ _ _ _ _ _ _ c.requires _ _ _ _ c.loop-next.invariant _ _ _ _ c.straight-why.ensures _ _ _ c.in-Ok.ensures

pub loop-next-preserved : goal.loop-next-preserved
loop-next-preserved c =
    drove_more _ _ _ _ _ _ _ c.requires _ _ _ _ c.loop-next.invariant _ _ _ _ c.straight-why.ensures _ _ _ c.in-Ok.ensures

pub returns-in-Err : goal.returns-in-Err
returns-in-Err c =
    drove_ends _ _ _ _ _ _ _ c.requires _ _ _ _ c.loop-next.invariant _ _ _ _ c.straight-why.ensures _ _ _ c.in-Err.ensures
