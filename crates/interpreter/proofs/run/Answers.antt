-- What begin ensures is what driving asks; what driving ensures is what delivering and wiping ask; and the answer is that of the run.
use Rattle.std.proofs.Common.{refl}
use Rattle.store.proofs.FrameLaws.{frame_room_length}
use Rattle.interpreter.proofs.RunningLaws.{says, begun, ended, wiping, runs}
use Rattle.interpreter.proofs.run.Goals as goal

pub drive-end-requires : goal.drive-end-requires
drive-end-requires c =
    let p = c.in-Ok.ensures in
    begun (p.fitting c.args.frames.now c.args.out.now refl) p.small p.loaded p.at_first

pub finish-answer-requires : goal.finish-answer-requires
finish-answer-requires c =
    let p = c.in-Ok.ensures in
    let b = p.fitting c.args.frames.now c.args.out.now refl in
    let (i, ws, e) = ended b p.small p.loaded p.at_first c.drive-end.ensures in
    (says b, i, ws, e)

pub clear_frames-requires : goal.clear_frames-requires
clear_frames-requires c =
    let p = c.in-Ok.ensures in
    let b = p.fitting c.args.frames.now c.args.out.now refl in
    frame_room_length _ _ (wiping b p.small p.loaded p.at_first c.drive-end.ensures).frame_room

pub returns-in-Ok : goal.returns-in-Ok
returns-in-Ok c =
    let p = c.in-Ok.ensures in
    let b = p.fitting c.args.frames.now c.args.out.now refl in
    let e = ended b p.small p.loaded p.at_first c.drive-end.ensures in
    let f = c.finish-answer.ensures in
    runs b p.small p.loaded p.at_first c.drive-end.ensures f.1 c.clear_frames.ensures (f.0 (says b) e.0 e.1 e.2)

pub returns-in-Err : goal.returns-in-Err
returns-in-Err c = c.in-Err.ensures _ _ refl
