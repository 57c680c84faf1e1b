-- From a frame that rests at a call or a return to the next top frame.
use Prim.Native.Nat.{ℕ, suc, ◌+◌, ◌-◌, ◌/◌, ◌≤◌, ◌<◌}
use mathlib.Core.Path.{◌≡◌, refl, sym, ap, ◌∙◌, subst}
use mathlib.Core.List.{List, ◌∷◌}
use Rattle.std.specs.Prelude.{Some, Result, Ok, Err}
use native.Mathlib.Omega.{arith}
use native.Mathlib.Numerals.{add-one}
use lib.ListN.{length, get_or, set}
use Rattle.rules.specs.Base.{byte_at}
use Rattle.rules.specs.Container.{payload}
use Rattle.rules.specs.Established.{Verified, Parsed}
use Rattle.rules.specs.Machine.{current}
use Rattle.rules.specs.Records.{program_in}
use Rattle.rules.specs.declared.records.Instruction.TheVariants.{Call, Return}
use Rattle.store.specs.Cells.{refs, RefsPut}
use Rattle.store.specs.Frames.{frame_in, frames_in, FrameRoom, FramePut, FramesKept}
use Rattle.store.specs.declared.frames.Frame.{Frame}
use Rattle.store.specs.declared.limits.Limits.{Limits}
use Rattle.store.proofs.RefLaws.{length_refs, put_one, put_kept, kept_refl}
use Rattle.store.proofs.FrameLaws.{frames_length, frames_put, frames_below, frames_top, frame_put_kept, frames_kept_refl}
use Rattle.store.proofs.FrameLaws.{frame_room_less, frame_room_length}
use Rattle.fetch.specs.Arities.{inputs, place}
use Rattle.fetch.specs.Indexed.{Indexed, function_arity, code_at}
use Rattle.fetch.specs.Places.{offset_at, Inside, StandsAt}
use Rattle.fetch.proofs.IndexLaws.{in_range, function_read, code_stands}
use Rattle.fetch.proofs.PlaceLaws.{stands_number}
use Rattle.fetch.specs.declared.index.Index.{Index}
use Rattle.steps.specs.Stands.{Standing, LeadsTo}
use Rattle.steps.specs.Steps.{Rests}
use Rattle.steps.specs.declared.state.Registers.{Registers}
use Rattle.steps.specs.declared.state.Rest.{Rest}
use Rattle.steps.specs.declared.state.Rest.TheVariants.{Calls, Returns, Stops, Spent, OutOf}
use Rattle.steps.specs.declared.state.Table.{Table}
use Rattle.steps.specs.declared.state.Table.TheVariants.{Stack, Frames}
use Rattle.machine.specs.Turns.{Rested, Over, Turned, waiting_for, entered, Enters, enter_deep, enter_full}
use Rattle.machine.specs.Turns.{enter_goes, left, Leaves, leave_goes, Settles, Closes, closes_result, closes_stops, closes_spent}
use Rattle.machine.specs.Turns.{closes_full}
use Rattle.machine.specs.declared.run.End.{End}
use Rattle.machine.specs.declared.run.End.TheVariants as ends
use Rattle.steps.proofs.StandLaws.{current_known}
use Rattle.steps.proofs.StepLaws.{same_place}
use Rattle.steps.proofs.OneLaws.{fetch_there, function_there}
use Rattle.machine.proofs.EndLaws.{settled_over}
use Rattle.machine.proofs.CallLaws.{call_known, call_deep, call_frames, call_stack, call_goes}
use Rattle.machine.proofs.ReturnLaws.{leave_linked, leave_deep, leave_goes_on}

-- a table without room for the callee ends the run
abbrev pub or_over : Result Registers Table → Result Registers End
or_over (Ok t) = Ok t
or_over (Err table) = Err (ends.OutOf table)

module _ (file : List ℕ) (index : Index) (m : Limits) (cells stack : List ℕ) (frames : List Frame) (r : Registers)
    {why : Rest} (rested : Rested file index m cells stack frames r why) where
  abbrev i : ℕ
  i = rested.instruction

  abbrev ws : List Frame
  ws = frames_in frames r.depth

  abbrev ok : Standing file m cells stack r rested.instruction (frames_in frames r.depth)
  ok = rested.standing

  here_known : r.function < length (program_in file).functions
  here_known = function_there file rested.indexed.parsed m cells stack r i ws ok

  pub waiting_ready : Inside r.code × Inside r.at × (r.code ≤ 40000) × (r.at ≤ 40000) × (offset_at r.code ≤ offset_at r.at)
  waiting_ready = (
    ok.laid.code.inside,
    ok.laid.at.inside,
    omega (arith, ok.laid.code_near),
    ok.laid.at_near,
    (stands_number file r.function i r.code r.at ok.laid.code ok.laid.at).0,
  )

  pub waiting_small : (r.function < 32) × (r.base ≤ r.top) × (r.top ≤ 65535)
  waiting_small = (
    (function_read rested.indexed.parsed r.function here_known).3,
    ok.laid.bottom,
    omega (arith, ok.laid.places, rested.limits.few_places),
  )

  pub settled_ready : Verified file × Inside r.at × (offset_at r.at + 4 ≤ length (payload file))
  settled_ready = fetch_there file rested.indexed.parsed m cells stack r i ws ok

  -- there is room for the top frame
  top_room : FrameRoom frames (suc r.depth)
  top_room = frame_room_less frames m.frames (suc r.depth) rested.limits.frame_room ok.laid.deep

  pub put_ready : r.depth < length frames
  put_ready = frame_room_length frames (suc r.depth) top_room

  pub frame_ready : r.depth - 1 < length frames
  frame_ready = omega (arith, put_ready)

---- Call

module _ (file : List ℕ) (index : Index) (m : Limits) (cells stack : List ℕ) (frames : List Frame) (r : Registers) {g : ℕ}
    (rested : Rested file index m cells stack frames r (Calls g)) where
  abbrev at_call : ℕ
  at_call = rested.instruction

  abbrev below_call : List Frame
  below_call = frames_in frames r.depth

  abbrev call_ok : Standing file m cells stack r rested.instruction (frames_in frames r.depth)
  call_ok = rested.standing

  cur : current (program_in file) (place r.function rested.instruction) ≡ Some (Call g)
  cur = rested.rests.1

  callee : (g < byte_at (payload file) 3) × (function_arity file g ≡ inputs (program_in file) g)
      × (inputs (program_in file) g ≤ 4) × (g < 32)
  callee = function_read rested.indexed.parsed g (call_known file m cells stack r at_call below_call call_ok g cur)

  pub enter_ready : Indexed file index × (g < byte_at (payload file) 3) × (function_arity file g ≤ r.top)
  enter_ready =
      (rested.indexed, callee.0, omega (arith, callee.1, call_deep file m cells stack r at_call below_call call_ok g cur))

  pub enter_room : (r.top ≤ m.stack) × (m.stack ≤ length stack) × (m.stack ≤ 65535) × (r.depth < 65535) × (0 < r.left)
  enter_room = (
    call_ok.laid.places,
    rested.limits.stack_room,
    rested.limits.few_places,
    omega (arith, call_ok.laid.deep, rested.limits.few_frames),
    rested.rests.0,
  )

  code : StandsAt file g 1 (code_at index g) × (code_at index g ≤ 33000)
  code = code_stands file index rested.indexed g (call_known file m cells stack r at_call below_call call_ok g cur)

  module _ (w : Frame) (is : w ≡ waiting_for r ((offset_at r.at - offset_at r.code) / 4 + 1)) (frames' : List Frame)
      (put : FramePut r.depth w frames frames') where
    -- the frame in the table is the one that waits, at whatever instruction it stands
    waits : (j : ℕ) (vs : List Frame) → Standing file m cells stack r j vs → w ≡ waiting_for r j
    waits j vs on =
        is ∙ ap (waiting_for r) (stands_number file r.function j r.code r.at on.laid.code on.laid.at).1

    below : frames_in frames' r.depth ≡ frames_in frames r.depth
    below = frames_below r.depth w frames frames' put

    kept_frames : FramesKept m.frames frames frames'
    kept_frames = frame_put_kept r.depth w frames frames' put m.frames call_ok.laid.deep

    -- the tables refuse
    refused : (x : Table)
        → ((budget j : ℕ) (fits : r.left ≤ budget) (on : Standing file m cells stack r j (frames_in frames r.depth))
        → current (program_in file) (place r.function j) ≡ Some (Call g)
        → Over file m budget cells stack r j (frames_in frames r.depth) (ends.OutOf x))
        → Turned file m cells stack frames r (Calls g) stack frames' (Err (ends.OutOf x))
    refused x lacks = record {
      spared_stack = kept_refl m.stack stack;
      spared_frames = kept_frames;
      less = tt;
      gives = λ budget j fits on at.
          rw below (same_place file m budget cells stack r j below_call fits on, lacks budget j fits on at.1);
    }

    entered_turned : (stack' : List ℕ) → r.depth + 1 < m.frames → r.top + inputs (program_in file) g ≤ m.stack
        → RefsPut r.top (refs stack (r.top - inputs (program_in file) g) (inputs (program_in file) g)) stack stack'
        → Turned file m cells stack frames r (Calls g) stack' frames'
        (Ok (entered r g (inputs (program_in file) g) (code_at index g)))
    entered_turned stack' deep room copied =
        let n = inputs (program_in file) g in
        record {
          spared_stack = put_kept r.top _ stack stack' copied m.stack (omega (arith, length_refs stack (r.top - n) n));
          spared_frames = kept_frames;
          less = omega (arith, rested.rests.0);
          gives = λ budget j fits on at.
              let up : frames_in frames' (r.depth + 1) ≡ waiting_for r j ∷ frames_in frames r.depth =
              ap (frames_in frames') (add-one r.depth)
              ∙ frames_put r.depth w frames frames' (top_room file index m cells stack frames r rested) put
              ∙ ap (λ (x : Frame). x ∷ frames_in frames r.depth) (waits j below_call on) in
              subst
              (λ (vs : List Frame). (k : ℕ) × LeadsTo file m budget cells stack r j (frames_in frames r.depth) cells stack'
              (entered r g n (code_at index g)) k vs) (sym up) (
                1,
                call_goes file m cells stack r j below_call on g at.1 budget fits at.0 stack' (code_at index g) copied code.0 code.1
                    deep room,
              );
        }

    turned_by : {stack' : List ℕ} {t : Result Registers Table}
        → Enters m stack r g (inputs (program_in file) g) (code_at index g) stack' t
        → Turned file m cells stack frames r (Calls g) stack' frames' (or_over t)
    turned_by (enter_deep f) = refused Frames
        (λ budget j fits on at. call_frames file m cells stack r j below_call on g at budget fits rested.rests.0 f)
    turned_by (enter_full f l) = refused Stack
        (λ budget j fits on at. call_stack file m cells stack r j below_call on g at budget fits rested.rests.0 f l)
    turned_by (enter_goes f l p) = entered_turned _ f l p

    pub call_turned : {stack' : List ℕ} {t : Result Registers Table}
        → Enters m stack r g (function_arity file g) (code_at index g) stack' t
        → Turned file m cells stack frames r (Calls g) stack' frames' (or_over t)
    call_turned {stack'} {t} x =
        turned_by (subst (λ (n : ℕ). Enters m stack r g n (code_at index g) stack' t) callee.1 x)

---- An end

-- nothing is done
ended : (file : List ℕ) (m : Limits) (cells stack : List ℕ) (frames : List Frame) (r : Registers) (why : Rest) (end : End)
    → ((budget j : ℕ) → Standing file m cells stack r j (frames_in frames r.depth)
    → Rests file m budget cells stack r j (frames_in frames r.depth) why
    → Over file m budget cells stack r j (frames_in frames r.depth) end)
    → Turned file m cells stack frames r why stack frames (Err end)
ended file m cells stack frames r why end over = record {
  spared_stack = kept_refl m.stack stack;
  spared_frames = frames_kept_refl m.frames frames;
  less = tt;
  gives = λ budget j fits on at. (same_place file m budget cells stack r j (frames_in frames r.depth) fits on, over budget j on at);
}

module _ (file : List ℕ) (m : Limits) (cells stack : List ℕ) (frames : List Frame) (r : Registers) where
  stops_turned : Turned file m cells stack frames r Stops stack frames (Err ends.Stops)
  stops_turned = ended file m cells stack frames r Stops ends.Stops (λ budget j on at. at)

  spent_turned : Parsed file → {end : End} → Settles (payload file) r end
      → Turned file m cells stack frames r Spent stack frames (Err end)
  spent_turned parsed {end} settles =
      ended file m cells stack frames r Spent end (λ budget j on at.
      settled_over file parsed m budget cells stack r j (frames_in frames r.depth) on (frames_length frames r.depth) at settles)

  full_turned : (x : Table) → Turned file m cells stack frames r (OutOf x) stack frames (Err (ends.OutOf x))
  full_turned x = ended file m cells stack frames r (OutOf x) (ends.OutOf x) (λ budget j on at. at)

  result_turned : r.depth ≡ 0 → Turned file m cells stack frames r Returns stack frames (Err ends.Result)
  result_turned alone =
      ended file m cells stack frames r Returns ends.Result (λ budget j on at. (omega (arith, frames_length frames r.depth), at.1))

  -- in whatever way it ends
  pub over_turned : Parsed file → {why : Rest} {end : End} → (why ≡ Returns → r.depth ≡ 0) → Closes (payload file) r why end
      → Turned file m cells stack frames r why stack frames (Err end)
  over_turned parsed alone closes_result = result_turned (alone refl)
  over_turned parsed alone closes_stops = stops_turned
  over_turned parsed alone (closes_spent settles) = spent_turned parsed settles
  over_turned parsed alone (closes_full {table = x}) = full_turned x

---- Return

module _ (file : List ℕ) (index : Index) (m : Limits) (cells stack : List ℕ) (frames : List Frame) (r : Registers)
    (rested : Rested file index m cells stack frames r Returns) (waits : r.depth ≡ 0 → ⊥) where
  abbrev at_return : ℕ
  at_return = rested.instruction

  abbrev back_ok : Standing file m cells stack r rested.instruction (frames_in frames r.depth)
  back_ok = rested.standing

  abbrev w : Frame
  w = frame_in frames (r.depth - 1)

  abbrev vs : List Frame
  vs = frames_in frames (r.depth - 1)

  split_off : frames_in frames r.depth ≡ frame_in frames (r.depth - 1) ∷ frames_in frames (r.depth - 1)
  split_off =
      let d : r.depth ≡ suc (r.depth - 1) = omega arith in
      ap (frames_in frames) d ∙ frames_top frames (r.depth - 1)

  on_w : (j : ℕ) → Standing file m cells stack r j (frames_in frames r.depth)
      → Standing file m cells stack r j (frame_in frames (r.depth - 1) ∷ frames_in frames (r.depth - 1))
  on_w j on = subst (λ (x : List Frame). Standing file m cells stack r j x) split_off on

  returns_here : current (program_in file) (place r.function rested.instruction) ≡ Some Return
  returns_here = rested.rests.1

  -- the frame below is at a call of this function, with its arguments on top
  high : (frame_in frames (r.depth - 1)).height ≤ r.base
  high = (leave_linked file m cells stack r at_return w vs (on_w at_return back_ok) returns_here).0

  enough : inputs (program_in file) r.function ≤ (frame_in frames (r.depth - 1)).height
  enough = (leave_linked file m cells stack r at_return w vs (on_w at_return back_ok) returns_here).1

  called : current (program_in file) (place (frame_in frames (r.depth - 1)).function (frame_in frames (r.depth - 1)).instruction)
      ≡ Some (Call r.function)
  called = (leave_linked file m cells stack r at_return w vs (on_w at_return back_ok) returns_here).3

  here_arity : (r.function < byte_at (payload file) 3) × (function_arity file r.function ≡ inputs (program_in file) r.function)
      × (inputs (program_in file) r.function ≤ 4) × (r.function < 32)
  here_arity = function_read rested.indexed.parsed r.function (here_known file index m cells stack frames r rested)

  range : ((frame_in frames (r.depth - 1)).function < 32) × ((frame_in frames (r.depth - 1)).instruction ≤ 256)
  range = (in_range rested.indexed.parsed).at w.function w.instruction (Call r.function) called

  code_there : StandsAt file (frame_in frames (r.depth - 1)).function 1 (code_at index (frame_in frames (r.depth - 1)).function)
      × (code_at index (frame_in frames (r.depth - 1)).function ≤ 33000)
  code_there = code_stands file index rested.indexed w.function
      (current_known (program_in file) w.function w.instruction called)

  pub leave_ready : Indexed file index × (r.function < byte_at (payload file) 3) × (function_arity file r.function ≤ r.base)
      × (r.base < r.top) × (r.top ≤ length stack) × (r.top ≤ 65535)
  leave_ready = (
    rested.indexed,
    here_arity.0,
    omega (arith, here_arity.1, high, enough),
    leave_deep file m cells stack r at_return w vs (on_w at_return back_ok) returns_here,
    omega (arith, back_ok.laid.places, rested.limits.stack_room),
    omega (arith, back_ok.laid.places, rested.limits.few_places),
  )

  pub leave_waits : (x : Frame) → x ≡ frame_in frames (r.depth - 1)
      → (x.function < 32) × (x.instruction ≤ 256) × (x.height ≤ r.base) × Inside (code_at index x.function)
      × (code_at index x.function ≤ 33000)
  leave_waits x q = subst
      (λ (y : Frame). (y.function < 32) × (y.instruction ≤ 256) × (y.height ≤ r.base) × Inside (code_at index y.function)
      × (code_at index y.function ≤ 33000)) (sym q) (range.0, range.1, high, code_there.0.inside, code_there.1)

  pub leave_left : (0 < r.depth) × (0 < r.left)
  leave_left = (omega arith, rested.rests.0)

  turned_back : {stack' : List ℕ} {t : Registers}
      → Leaves stack r (frame_in frames (r.depth - 1)) (inputs (program_in file) r.function)
      (code_at index (frame_in frames (r.depth - 1)).function) stack' t
      → Turned file m cells stack frames r Returns stack' frames (Ok t)
  turned_back (leave_goes {at = at} behind near) =
      let n = inputs (program_in file) r.function in
      let there : r.base - n < length stack = omega (arith, leave_ready.3, leave_ready.4) in
      record {
        spared_stack = put_kept (r.base - n) _ stack _ (put_one stack (r.base - n) _ there) m.stack
            (omega (arith, leave_ready.3, back_ok.laid.places));
        spared_frames = frames_kept_refl m.frames frames;
        less = omega (arith, rested.rests.0);
        gives = λ budget j fits on now. (
          suc w.instruction,
          subst (λ (x : List Frame). LeadsTo file m budget cells stack r j x cells (set stack (r.base - n) (get_or stack (r.top - 1) 0))
              (left r w n (code_at index w.function) at) (suc w.instruction) vs) (sym split_off)
              (leave_goes_on file m cells stack r j w vs (on_w j on) now.1 budget fits now.0
              (code_at index w.function) at code_there.0 code_there.1 behind near rested.limits.stack_room),
        );
      }

  pub leave_turned : (x : Frame) → x ≡ frame_in frames (r.depth - 1) → {stack' : List ℕ} {t : Registers}
      → Leaves stack r x (function_arity file r.function) (code_at index x.function) stack' t
      → Turned file m cells stack frames r Returns stack' frames (Ok t)
  leave_turned x q {stack'} {t} l =
      turned_back (subst (λ (n : ℕ). Leaves stack r w n (code_at index w.function) stack' t) here_arity.1
      (subst (λ (y : Frame). Leaves stack r y (function_arity file r.function) (code_at index y.function) stack' t) q l))
