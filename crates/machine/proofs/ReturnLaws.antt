-- Return, in the only frame and above a waiting call.
use Prim.Native.Nat.{ℕ, suc, ◌+◌, ◌-◌, ◌≤◌, ◌<◌}
use mathlib.Core.Path.{◌≡◌, refl, sym, ap, ap₂, ◌∙◌, subst}
use mathlib.Core.List.{List, [], ◌∷◌}
use Rattle.std.specs.Prelude.{None, Some}
use native.Mathlib.Omega.{arith}
use lib.ListN.{length, get_or, set}
use Rattle.rules.specs.Heap.{HeapFrame, HeapState, heap_state, heap_onward, execute_on, heap_step}
use Rattle.rules.specs.HeapRun.{end_on, result_on}
use Rattle.rules.specs.Machine.{current, top}
use Rattle.rules.specs.Program.{Program}
use Rattle.rules.specs.Records.{program_in}
use Rattle.rules.specs.Stacks.{split, push}
use Rattle.rules.specs.declared.records.Instruction.TheVariants.{Call, Return}
use Rattle.rules.proofs.MachineLaws.{bind_some}
use Rattle.store.specs.Cells.{refs}
use Rattle.store.specs.declared.frames.Frame.{Frame}
use Rattle.store.specs.declared.limits.Limits.{Limits}
use Rattle.store.proofs.RefLaws.{refs_split_few, refs_split, refs_top, put_one}
use Rattle.fetch.specs.Arities.{inputs, place}
use Rattle.fetch.specs.Places.{StandsAt, Behind}
use Rattle.fetch.proofs.ArityLaws.{get_some, inputs_is}
use Rattle.fetch.proofs.PlaceLaws.{behind_stands}
use Rattle.steps.specs.Stands.{waiting_on, top_on, state_in, Linked, Laid, Standing, LeadsTo}
use Rattle.machine.specs.Turns.{left}
use Rattle.steps.specs.declared.state.Registers.{Registers}
use Rattle.steps.proofs.ContinueLaws.{step_is, exec_return}
use Rattle.steps.proofs.StandLaws.{lives, put_state}
use Rattle.steps.proofs.StepLaws.{took}

-- above a waiting frame w
module _ (file : List ℕ) (m : Limits) (cells stack : List ℕ) (r : Registers) (i : ℕ) (w : Frame) (ws : List Frame)
    (ok : Standing file m cells stack r i (w ∷ ws)) (cur : current (program_in file) (place r.function i) ≡ Some Return) where
  abbrev s : Program
  s = program_in file

  abbrev fr : HeapFrame
  fr = top_on stack r i

  -- the frame that waits
  abbrev wait : HeapFrame
  wait = record { function = w.function; instruction = w.instruction; stack = refs stack (r.base - w.height) w.height }

  abbrev others : List HeapFrame
  others = waiting_on stack ws (r.base - w.height)

  abbrev here : HeapState
  here = state_in (program_in file) cells stack r i (w ∷ ws)

  abbrev h : ℕ
  h = r.top - r.base

  abbrev n : ℕ
  n = inputs (program_in file) r.function

  pub leave_linked : (w.height ≤ r.base) × (inputs (program_in file) r.function ≤ w.height)
      × (r.function < length (program_in file).functions)
      × (current (program_in file) (place w.function w.instruction) ≡ Some (Call r.function))
      × Linked (program_in file) ws (r.base - w.height) w.function
  unfolding Linked
  leave_linked = ok.laid.linked

  ends : end_on (program_in file) here.heap here.frames ≡ None
  unfolding end_on result_on waiting_on
  ends = refl

  steps_to : heap_step (program_in file) here ≡ execute_on (program_in file) here.heap Return fr (wait ∷ others)
  unfolding waiting_on
  steps_to = step_is s here.heap fr (wait ∷ others) cur

  pub leave_deep : r.base < r.top
  unfolding execute_on
  leave_deep =
      let x = lives file m cells stack r i (w ∷ ws) ok ends in
      let k = bind_some (top (refs stack r.base h)) _ (sym steps_to ∙ x.1) in
      let p = bind_some (split 1 (refs stack r.base h)) _ k.1 in
      omega (arith, refs_split_few stack r.base h 1 p.1)

  abbrev k : ℕ
  k = get_or stack (r.top - 1) 0

  abbrev next : HeapState
  next = heap_state here.heap (heap_onward wait (push (refs stack (r.base - w.height) (w.height - n)) k) ∷ others)

  steps : heap_step (program_in file) here ≡ Some next
  steps =
      let f = get_some s.functions r.function leave_linked.2 in
      let e : r.base + h - 1 ≡ r.top - 1 = omega (arith, ok.laid.bottom) in
      let t : top (refs stack r.base h) ≡ Some k =
      refs_top stack r.base h (omega (arith, leave_deep)) ∙ ap (λ (j : ℕ). Some (get_or stack j 0)) e in
      let q = refs_split stack (r.base - w.height) w.height n leave_linked.1 in
      steps_to
      ∙ exec_return s here.heap fr others wait r.function t leave_linked.3 f.1
      (ap (λ (x : ℕ). split x wait.stack) (sym (inputs_is s r.function f.1)) ∙ q)

  module _ (budget : ℕ) (fits : r.left ≤ budget) (some_left : 0 < r.left) (code at : ℕ) (stands : StandsAt file w.function 1 code)
      (near : code ≤ 33000) (behind : Behind code w.instruction at) (close : at ≤ 40000) (long : m.stack ≤ length stack) where
    abbrev t : Registers
    t = left r w (inputs (program_in file) r.function) code at

    abbrev stack' : List ℕ
    stack' = set stack (r.base - inputs (program_in file) r.function) (get_or stack (r.top - 1) 0)

    laid : Laid file m cells (left r w (inputs (program_in file) r.function) code at) (suc w.instruction) ws
    laid =
        let e : 1 + w.instruction ≡ suc w.instruction = omega arith in
        record {
          code = stands;
          code_near = near;
          at = subst (λ (j : ℕ). StandsAt file w.function j at) e (behind_stands file w.function 1 code w.instruction at stands
              behind);
          at_near = close;
          known = ok.laid.known;
          bottom = omega (arith, leave_linked.0, leave_linked.1);
          places = omega (arith, leave_linked.0, leave_linked.1, leave_deep, ok.laid.places);
          taken = ok.laid.taken;
          linked = leave_linked.4;
          depth = omega (arith, ok.laid.depth);
          deep = omega (arith, ok.laid.deep);
        }

    pub leave_goes_on : LeadsTo file m budget cells stack r i (w ∷ ws) cells
        (set stack (r.base - inputs (program_in file) r.function) (get_or stack (r.top - 1) 0))
        (left r w (inputs (program_in file) r.function) code at) (suc w.instruction) ws
    leave_goes_on =
        let there : r.base - n < length stack = omega (arith, leave_deep, ok.laid.places) in
        let p = put_state s ws (r.base - w.height) w.function (r.base - n) (k ∷ []) stack stack' leave_linked.4
        (put_one stack (r.base - n) k there) (omega (arith, leave_linked.1)) in
        let e : r.base - n - (r.base - w.height) ≡ w.height - n = omega (arith, leave_linked.0, leave_linked.1) in
        let on_top : push (refs stack (r.base - w.height) (w.height - n)) k
        ≡ refs stack' (r.base - w.height) (r.base - n + 1 - (r.base - w.height)) =
        ap (λ (x : ℕ). push (refs stack (r.base - w.height) x) k) (sym e) ∙ sym p.0 in
        took file m budget cells stack r i (w ∷ ws) fits ok cells stack' t (suc w.instruction) ws ends
        (steps ∙ ap₂ (λ (x : List ℕ) (y : List HeapFrame). Some (heap_state here.heap (heap_onward wait x ∷ y))) on_top (sym p.1)) laid
        (omega arith)
