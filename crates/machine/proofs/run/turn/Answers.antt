-- What holds of each way is a law of `TurnLaws`: at a call the frame that rests goes into the table, at a return the one below comes back.
use Rattle.machine.proofs.TurnLaws.{waiting_ready, waiting_small, put_ready, enter_ready, enter_room, call_turned, frame_ready}
use Rattle.machine.proofs.TurnLaws.{leave_ready, leave_waits, leave_left, leave_turned, settled_ready, over_turned}
use native.Mathlib.Omega.{arith}
use Rattle.machine.proofs.run.turn.Goals.{in_default-via-in-Returns+else-r-ne0, in_default-via-in_default}
use Rattle.machine.proofs.run.turn.Goals as goal

pub waiting-requires : goal.waiting-requires
waiting-requires c =
    (waiting_ready _ _ _ _ _ _ _ c.requires.1, waiting_small _ _ _ _ _ _ _ c.requires.1)

pub put_frame-requires : goal.put_frame-requires
put_frame-requires c = put_ready _ _ _ _ _ _ _ c.requires.1

pub enter-requires : goal.enter-requires
enter-requires c =
    let rested = rw c.in-Calls.is at c.requires.1 in
    (enter_ready _ _ _ _ _ _ _ rested, enter_room _ _ _ _ _ _ _ rested)

pub frame_at-requires : goal.frame_at-requires
frame_at-requires c = frame_ready _ _ _ _ _ _ _ c.requires.1

pub leave-requires : goal.leave-requires
leave-requires c =
    let rested = rw c.in-Returns.is at c.requires.1 in
    let waits = c.if-r-ne0.true in (
      leave_ready _ _ _ _ _ _ _ rested waits,
      leave_waits _ _ _ _ _ _ _ rested waits _ c.frame_at.ensures,
      leave_left _ _ _ _ _ _ _ rested waits,
    )

pub returns-in-Returns : goal.returns-in-Returns
returns-in-Returns c = λ cells rested.
    rw c.in-Returns.is (leave_turned _ _ _ _ _ _ _ (rw c.in-Returns.is at rested) c.if-r-ne0.true _ c.frame_at.ensures c.leave.ensures)

pub returns-in-Ok : goal.returns-in-Ok
returns-in-Ok c = λ cells rested.
    rw c.in-Calls.is
    (call_turned _ _ _ _ _ _ _ (rw c.in-Calls.is at rested) _ c.waiting.ensures _ c.put_frame.ensures c.in-Ok.ensures)

pub returns-in-Err : goal.returns-in-Err
returns-in-Err c = λ cells rested.
    rw c.in-Calls.is
    (call_turned _ _ _ _ _ _ _ (rw c.in-Calls.is at rested) _ c.waiting.ensures _ c.put_frame.ensures c.in-Err.ensures)

pub over-requires : goal.over-requires
over-requires c = (
  settled_ready _ _ _ _ _ _ _ c.requires.1,
  λ g e. elim c.in_default.branch [
    | in_default-via-in-Returns+else-r-ne0 w ↦ grind (arith, e, w.in-Returns.is)
    | in_default-via-in_default w ↦ w.in_default.not-Calls g e
  ],
)

pub returns-in_default : goal.returns-in_default
returns-in_default c = λ cells rested. over_turned _ _ _ _ _ _ rested.indexed.parsed
    (λ e. elim c.in_default.branch [
      | in_default-via-in-Returns+else-r-ne0 w ↦ w.if-r-ne0.false
      | in_default-via-in_default w ↦ absurd (w.in_default.not-Returns e)
    ])
    c.over.ensures
