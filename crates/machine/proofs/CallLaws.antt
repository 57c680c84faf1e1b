-- Call: the frame waits as it is; above it comes the function that it calls, at 1, with copies of its top n values.
use Prim.Native.Nat.{ℕ, ◌+◌, ◌-◌, ◌≤◌, ◌<◌}
use mathlib.Core.Path.{◌≡◌, refl, sym, ap, ap₂, ◌∙◌}
use mathlib.Core.List.{List, ◌∷◌}
use Rattle.std.specs.Prelude.{None, Some}
use native.Mathlib.Omega.{arith}
use lib.ListN.{length}
use Rattle.rules.specs.Heap.{HeapFrame, HeapState, heap_state, entered, execute_on, heap_step}
use Rattle.rules.specs.HeapRun.{end_on}
use Rattle.rules.specs.Machine.{current, returned}
use Rattle.rules.specs.Program.{Function, Program, function}
use Rattle.rules.specs.Records.{program_in}
use Rattle.rules.specs.Stacks.{split}
use Rattle.rules.specs.declared.records.Instruction.TheVariants.{Call}
use Rattle.rules.proofs.ListLaws.{at_less}
use Rattle.rules.proofs.MachineLaws.{bind_some}
use Rattle.store.specs.Cells.{refs, RefsPut}
use Rattle.store.specs.declared.frames.Frame.{Frame}
use Rattle.store.specs.declared.limits.Limits.{Limits}
use Rattle.store.proofs.RefLaws.{length_refs, refs_split_few, refs_split, put_low}
use Rattle.fetch.specs.Arities.{inputs, place}
use Rattle.fetch.specs.Places.{StandsAt}
use Rattle.fetch.proofs.ArityLaws.{inputs_is}
use Rattle.steps.specs.Stands.{waiting_on, top_on, state_in, Linked, Laid, Standing, LeadsTo}
use Rattle.steps.specs.Steps.{Refuses}
use Rattle.machine.specs.Turns.{waiting_for, entered as entered_from}
use Rattle.steps.specs.declared.state.Registers.{Registers}
use Rattle.steps.proofs.ContinueLaws.{heights_on, step_is, not_ended, exec_call}
use Rattle.steps.proofs.StandLaws.{waiting_same, waiting_heights, waiting_length, lives}
use Rattle.steps.proofs.StepLaws.{took, refuses_frames, refuses_stack}

module _ (file : List ℕ) (m : Limits) (cells stack : List ℕ) (r : Registers) (i : ℕ) (ws : List Frame)
    (ok : Standing file m cells stack r i ws) (g : ℕ) (cur : current (program_in file) (place r.function i) ≡ Some (Call g)) where
  abbrev s : Program
  s = program_in file

  abbrev fr : HeapFrame
  fr = top_on stack r i

  abbrev others : List HeapFrame
  others = waiting_on stack ws r.base

  abbrev here : HeapState
  here = state_in (program_in file) cells stack r i ws

  abbrev h : ℕ
  h = r.top - r.base

  abbrev n : ℕ
  n = inputs (program_in file) g

  ends : end_on (program_in file) here.heap here.frames ≡ None
  unfolding returned
  ends = not_ended s here.heap fr others cur refl

  shape : (f : Function) × (function (program_in file) g ≡ Some f) × (length f.parameters ≤ r.top - r.base)
  unfolding execute_on
  shape =
      let x = lives file m cells stack r i ws ok ends in
      let f = bind_some (function s g) _ (sym (step_is s here.heap fr others cur) ∙ x.1) in
      let p = bind_some (split (length f.0.parameters) (refs stack r.base h)) _ f.2 in
      (f.0, f.1, refs_split_few stack r.base h (length f.0.parameters) p.1)

  is_inputs : inputs (program_in file) g ≡ length shape.0.parameters
  is_inputs = inputs_is s g shape.1

  pub call_known : g < length (program_in file).functions
  call_known = at_less s.functions g shape.1

  pub call_deep : r.base + inputs (program_in file) g ≤ r.top
  call_deep = omega (arith, shape.2, is_inputs, ok.laid.bottom)

  abbrev next : HeapState
  next = heap_state here.heap (entered g (refs stack (r.base + (h - n)) n) ∷ fr ∷ others)

  steps : heap_step (program_in file) here ≡ Some next
  steps =
      let q = refs_split stack r.base h n (omega (arith, call_deep)) in
      let q' : split (length shape.0.parameters) (refs stack r.base h)
      ≡ Some (refs stack r.base (h - n), refs stack (r.base + (h - n)) n) =
      ap (λ (x : ℕ). split x (refs stack r.base h)) (sym is_inputs) ∙ q in
      step_is s here.heap fr others cur ∙ exec_call s here.heap fr others g shape.1 q'

  heights : heights_on next.frames ≡ r.top + n
  unfolding heights_on
  heights = omega (
    arith,
    length_refs stack (r.base + (h - n)) n,
    length_refs stack r.base h,
    waiting_heights s stack ws r.base r.function ok.laid.linked,
    ok.laid.bottom,
  )

  tall : length next.frames ≡ r.depth + 2
  tall = omega (arith, waiting_length stack ws r.base, ok.laid.depth)

  module _ (budget : ℕ) (fits : r.left ≤ budget) (left : 0 < r.left) where
    pub call_frames : m.frames ≤ r.depth + 1 → Refuses file m budget cells stack r i ws 17
    call_frames f = refuses_frames file m budget cells stack r i ws fits ok left next ends steps (omega (arith, tall))

    pub call_stack : r.depth + 1 < m.frames → m.stack < r.top + inputs (program_in file) g
        → Refuses file m budget cells stack r i ws 16
    call_stack f f' =
        refuses_stack file m budget cells stack r i ws fits ok left next ends steps (omega (arith, tall)) (omega (arith, heights))

    module _ (stack' : List ℕ) (code : ℕ)
        (put : RefsPut r.top (refs stack (r.top - inputs (program_in file) g) (inputs (program_in file) g)) stack
        stack')
        (stands : StandsAt file g 1 code) (near : code ≤ 33000) (deep : r.depth + 1 < m.frames)
        (room : r.top + inputs (program_in file) g ≤ m.stack) where
      abbrev w : Frame
      w = waiting_for r i

      abbrev t : Registers
      t = entered_from r g (inputs (program_in file) g) code

      low : r.top - h ≡ r.base
      low = omega (arith, ok.laid.bottom)

      -- the frame that waits, and those below it, are as they were
      waits : waiting_on stack' (waiting_for r i ∷ ws) r.top ≡ fr ∷ others
      unfolding waiting_on
      waits = rw low (ap₂ (λ (x : List ℕ) (y : List HeapFrame). record { function = r.function; instruction = i; stack = x } ∷ y)
          (put_low r.top _ stack stack' put r.base h (omega (arith, ok.laid.bottom)))
          (waiting_same s stack stack' ws r.base r.function ok.laid.linked (λ j l. put.low j (omega (arith, ok.laid.bottom)))))

      on_top : refs stack (r.base + (h - n)) n ≡ refs stack' r.top (r.top + n - r.top)
      on_top =
          let e : r.base + (h - n) ≡ r.top - n = omega (arith, call_deep) in
          let f : r.top + n - r.top ≡ n = omega arith in
          ap (λ (x : ℕ). refs stack x n) e ∙ sym put.put ∙ ap (refs stack' r.top) (length_refs stack (r.top - n) n)
          ∙ ap (refs stack' r.top) (sym f)

      linked : Linked (program_in file) (waiting_for r i ∷ ws) r.top g
      unfolding Linked
      linked = (omega arith, omega (arith, call_deep), call_known, cur, rw low ok.laid.linked)

      laid : Laid file m cells (entered_from r g (inputs (program_in file) g) code) 1 (waiting_for r i ∷ ws)
      laid = record {
        code = stands;
        code_near = near;
        at = stands;
        at_near = omega arith;
        known = ok.laid.known;
        bottom = omega arith;
        places = room;
        taken = ok.laid.taken;
        linked = linked;
        depth = omega (arith, ok.laid.depth);
        deep = deep;
      }

      pub call_goes : LeadsTo file m budget cells stack r i ws cells stack' (entered_from r g (inputs (program_in file) g) code) 1
          (waiting_for r i ∷ ws)
      call_goes =
          took file m budget cells stack r i ws fits ok cells stack' t 1 (w ∷ ws) ends
          (steps ∙ ap₂ (λ (x : List ℕ) (y : List HeapFrame). Some (heap_state here.heap (entered g x ∷ y))) on_top (sym waits)) laid
          (omega arith)
