-- Load: slot a is copied on top.
use Prim.Native.Nat.{ℕ, suc, ◌+◌, ◌-◌, ◌≤◌, ◌<◌}
use mathlib.Core.Path.{◌≡◌, refl, sym, ap, ap₂, ◌∙◌}
use mathlib.Core.List.{List, [], ◌∷◌}
use Rattle.std.specs.Prelude.{None, Some, Result}
use native.Mathlib.Omega.{arith}
use lib.ListN.{length, get_or, set, length-append}
use Rattle.rules.specs.Heap.{HeapFrame, HeapState, heap_state, heap_onward, execute_on, heap_step}
use Rattle.rules.specs.HeapRun.{end_on}
use Rattle.rules.specs.Machine.{current, returned}
use Rattle.rules.specs.Program.{Program}
use Rattle.rules.specs.Records.{program_in}
use Rattle.rules.specs.Stacks.{push, slot}
use Rattle.rules.specs.declared.records.Instruction.TheVariants.{Load}
use Rattle.rules.proofs.MachineLaws.{bind_some}
use Rattle.store.specs.Cells.{refs}
use Rattle.store.specs.declared.frames.Frame.{Frame}
use Rattle.store.specs.declared.limits.Limits.{Limits}
use Rattle.store.proofs.RefLaws.{length_refs, refs_slot, put_one}
use Rattle.fetch.specs.Arities.{place}
use Rattle.fetch.specs.Places.{Behind}
use Rattle.steps.specs.Stands.{waiting_on, top_on, state_in, Standing, LeadsTo}
use Rattle.steps.specs.Steps.{moved, counted, Loads, load_full, load_goes, Comes}
use Rattle.steps.specs.declared.state.Registers.{Registers}
use Rattle.steps.specs.declared.state.Rest.{Rest}
use Rattle.steps.proofs.ContinueLaws.{heights_on, step_is, not_ended}
use Rattle.steps.proofs.StandLaws.{waiting_heights, waiting_length, lives, put_state}
use Rattle.steps.proofs.StepLaws.{took, refuses_stack, same_place, moved_laid, next_stands}

module _ (file : List ℕ) (m : Limits) (cells stack : List ℕ) (r : Registers) (i : ℕ) (ws : List Frame)
    (ok : Standing file m cells stack r i ws) (a : ℕ) (cur : current (program_in file) (place r.function i) ≡ Some (Load a)) where
  abbrev s : Program
  s = program_in file

  abbrev fr : HeapFrame
  fr = top_on stack r i

  abbrev others : List HeapFrame
  others = waiting_on stack ws r.base

  abbrev here : HeapState
  here = state_in (program_in file) cells stack r i ws

  abbrev h : ℕ
  h = r.top - r.base

  ends : end_on (program_in file) here.heap here.frames ≡ None
  unfolding returned
  ends = not_ended s here.heap fr others cur refl

  found_slot : (k : ℕ) × (slot a (refs stack r.base (r.top - r.base)) ≡ Some k)
  unfolding execute_on
  found_slot =
      let x = lives file m cells stack r i ws ok ends in
      let b = bind_some (slot a (refs stack r.base h)) _ (sym (step_is s here.heap fr others cur) ∙ x.1) in
      (b.0, b.1)

  slot_is : (0 < a) × (a ≤ r.top - r.base) × (found_slot.0 ≡ get_or stack (r.base + a - 1) 0)
  slot_is = refs_slot stack r.base h a found_slot.1

  pub load_slot : (0 < a) × (r.base + a ≤ r.top)
  load_slot = (slot_is.0, omega (arith, slot_is.1, ok.laid.bottom))

  -- the value that is copied
  abbrev k : ℕ
  k = get_or stack (r.base + a - 1) 0

  abbrev next : HeapState
  next = heap_state here.heap (heap_onward fr (push (refs stack r.base h) k) ∷ others)

  steps : heap_step (program_in file) here ≡ Some next
  unfolding execute_on
  steps =
      let e : slot a (refs stack r.base h) ≡ Some k = found_slot.1 ∙ ap Some slot_is.2 in
      step_is s here.heap fr others cur ∙ rw e

  heights : heights_on next.frames ≡ r.top + 1
  unfolding heights_on
  heights = omega (
    arith,
    length-append (refs stack r.base h) (k ∷ []),
    length_refs stack r.base h,
    waiting_heights s stack ws r.base r.function ok.laid.linked,
    ok.laid.bottom,
  )

  -- where the stack has room
  goes : (budget : ℕ) → r.left ≤ budget → 0 < r.left → r.top < m.stack → r.top < length stack → (at : ℕ) → Behind r.at 1 at
      → at ≤ 40000
      → LeadsTo file m budget cells stack r i ws cells (set stack r.top (get_or stack (r.base + a - 1) 0)) (counted (moved r at (r.top
      + 1))) (suc i) ws
  goes budget fits left room there at behind near =
      let p = put_state s ws r.base r.function r.top (k ∷ []) stack (set stack r.top k) ok.laid.linked
      (put_one stack r.top k there) ok.laid.bottom in
      took file m budget cells stack r i ws fits ok cells (set stack r.top k) (counted (moved r at (r.top + 1))) (suc i) ws ends
      (steps ∙ ap₂ (λ (x : List ℕ) (y : List HeapFrame). Some (heap_state here.heap (heap_onward fr x ∷ y))) (sym p.0) (sym p.1))
      (moved_laid file m cells r i ws ok.laid at (suc i) (r.top + 1) (next_stands file r.function i r.at at ok.laid.at behind)
      near (omega (arith, ok.laid.bottom)) (omega arith)) (omega arith)

  pub load_comes : (budget : ℕ) (fits : r.left ≤ budget) → 0 < r.left → m.stack ≤ length stack → (at : ℕ)
      → Behind r.at 1 at → at ≤ 40000 → {stack' : List ℕ} {t : Result Registers Rest} → Loads m stack r at a stack' t
      → Comes file m budget cells stack r i ws cells stack' t
  load_comes budget fits left long at behind near (load_full f) = (
    same_place file m budget cells stack r i ws fits ok,
    refuses_stack file m budget cells stack r i ws fits ok left next ends steps
        (omega (arith, waiting_length stack ws r.base, ok.laid.depth, ok.laid.deep)) (omega (arith, heights)),
  )
  load_comes budget fits left long at behind near (load_goes f) =
      (suc i, goes budget fits left f (omega arith) at behind near)
