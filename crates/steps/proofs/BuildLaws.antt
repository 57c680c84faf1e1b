-- Build: constructor c takes the place of the top n values. A constant takes no cell.
use Prim.Native.Nat.{ℕ, suc, ◌+◌, ◌-◌, ◌≤◌, ◌<◌}
use mathlib.Core.Path.{◌≡◌, refl, sym, ap, ap₂, ◌∙◌, subst}
use mathlib.Core.List.{List, [], ◌∷◌, ◌++◌}
use Rattle.std.specs.Prelude.{None, Some, Result}
use native.Mathlib.Omega.{arith}
use native.Mathlib.Numerals.{add-one}
use lib.ListN.{length, set, length-append}
use Rattle.rules.specs.Heap.{Heap, HeapFrame, HeapState, heap_state, cell, allocated, heap_onward, execute_on, heap_step, number_of}
use Rattle.rules.specs.HeapRun.{end_on}
use Rattle.rules.specs.Machine.{current, returned}
use Rattle.rules.specs.Program.{Constructor, Program, constructor}
use Rattle.rules.specs.Records.{program_in}
use Rattle.rules.specs.Stacks.{push, split}
use Rattle.rules.specs.declared.records.Instruction.TheVariants.{Build}
use Rattle.rules.proofs.ListLaws.{at_less}
use Rattle.rules.proofs.MachineLaws.{bind_some}
use Rattle.rules.proofs.HeapLaws.{allocated_constant, allocated_cell}
use Rattle.rules.proofs.PrefixLaws.{arity_is}
use Rattle.store.specs.Cells.{refs, constructor_in, heap_in, CellPut}
use Rattle.store.specs.declared.frames.Frame.{Frame}
use Rattle.store.specs.declared.limits.Limits.{Limits}
use Rattle.store.proofs.RefLaws.{length_refs, refs_split_few, refs_split, put_one}
use Rattle.store.proofs.CellLaws.{heap_length, heap_put, constructor_kept}
use Rattle.rules.specs.Prefix.{arity}
use Rattle.fetch.specs.Arities.{place, NumbersInRange}
use Rattle.fetch.specs.Places.{Behind}
use Rattle.steps.specs.Stands.{waiting_on, top_on, state_in, Laid, Standing, LeadsTo}
use Rattle.steps.specs.Steps.{moved, moved_over, counted, Builds, build_full, build_constant, build_short, build_goes, Comes}
use Rattle.steps.specs.declared.state.Registers.{Registers}
use Rattle.steps.specs.declared.state.Rest.{Rest}
use Rattle.steps.proofs.ContinueLaws.{heights_on, step_is, not_ended, exec_build}
use Rattle.steps.proofs.StandLaws.{waiting_heights, waiting_length, lives, put_state, below_or_last}
use Rattle.steps.proofs.StepLaws.{took, refuses_stack, refuses_cells, same_place, moved_laid, next_stands}

module _ (file : List ℕ) (m : Limits) (cells stack : List ℕ) (r : Registers) (i : ℕ) (ws : List Frame)
    (ok : Standing file m cells stack r i ws) (c : ℕ) (cur : current (program_in file) (place r.function i) ≡ Some (Build c)) where
  abbrev s : Program
  s = program_in file

  abbrev fr : HeapFrame
  fr = top_on stack r i

  abbrev others : List HeapFrame
  others = waiting_on stack ws r.base

  abbrev here : HeapState
  here = state_in (program_in file) cells stack r i ws

  abbrev h : ℕ
  h = r.top - r.base

  abbrev n : ℕ
  n = arity (program_in file) c

  ends : end_on (program_in file) here.heap here.frames ≡ None
  unfolding returned
  ends = not_ended s here.heap fr others cur refl

  shape : (d : Constructor) × (constructor (program_in file) c ≡ Some d) × (length d.arguments ≤ r.top - r.base)
  unfolding execute_on
  shape =
      let x = lives file m cells stack r i ws ok ends in
      let d = bind_some (constructor s c) _ (sym (step_is s here.heap fr others cur) ∙ x.1) in
      let p = bind_some (split (length d.0.arguments) (refs stack r.base h)) _ d.2 in
      (d.0, d.1, refs_split_few stack r.base h (length d.0.arguments) p.1)

  is_arity : arity (program_in file) c ≡ length shape.0.arguments
  is_arity = arity_is s c shape.1

  pub build_known : c < length (program_in file).constructors
  build_known = at_less s.constructors c shape.1

  pub build_deep : r.base + arity (program_in file) c ≤ r.top
  build_deep = omega (arith, shape.2, is_arity, ok.laid.bottom)

  -- what the new cell names
  abbrev made : List ℕ
  made = refs stack (r.base + (h - n)) n

  abbrev next : HeapState
  next =
      heap_state (allocated here.heap c made).0 (heap_onward fr (push (refs stack r.base (h - n)) (allocated here.heap c made).1) ∷
      others)

  steps : heap_step (program_in file) here ≡ Some next
  steps =
      let q = refs_split stack r.base h n (omega (arith, build_deep)) in
      let q' : split (length shape.0.arguments) (refs stack r.base h) ≡ Some (refs stack r.base (h - n), made) =
      ap (λ (x : ℕ). split x (refs stack r.base h)) (sym is_arity) ∙ q in
      step_is s here.heap fr others cur ∙ exec_build s here.heap fr others c shape.1 q'

  heights : heights_on next.frames ≡ r.top - n + 1
  unfolding heights_on
  heights = omega (
    arith,
    length-append (refs stack r.base (h - n)) ((allocated here.heap c made).1 ∷ []),
    length_refs stack r.base (h - n),
    waiting_heights s stack ws r.base r.function ok.laid.linked,
    build_deep,
  )

  tall : length next.frames ≤ m.frames
  tall = omega (arith, waiting_length stack ws r.base, ok.laid.depth, ok.laid.deep)

  -- the top frame behind the build, with a number on top
  abbrev behind_with : Heap → ℕ → HeapState
  behind_with heap number = heap_state heap (heap_onward fr (push (refs stack r.base (h - n)) number) ∷ others)

  -- a number put in the place of the arguments
  top_put : (number : ℕ) → r.top - arity (program_in file) c < length stack
      → (push (refs stack r.base (h - n)) number
      ≡ refs (set stack (r.top - arity (program_in file) c) number) r.base (r.top - arity (program_in file) c + 1 - r.base))
      × (waiting_on (set stack (r.top - arity (program_in file) c) number) ws r.base ≡ others)
  top_put number there =
      let p = put_state s ws r.base r.function (r.top - n) (number ∷ []) stack (set stack (r.top - n) number)
      ok.laid.linked (put_one stack (r.top - n) number there) (omega (arith, build_deep)) in
      let e : r.top - n - r.base ≡ h - n = omega arith in
      (ap (λ (x : ℕ). push (refs stack r.base x) number) (sym e) ∙ sym p.0, p.1)

  -- of no arguments a constant
  module _ (none_of : arity (program_in file) c ≡ 0) (room : r.top - arity (program_in file) c < m.stack) where
    constant_step : heap_step (program_in file) here ≡ Some (behind_with here.heap c)
    constant_step =
        steps ∙ ap (λ (x : Heap × ℕ). Some (behind_with x.0 x.1))
        (allocated_constant here.heap c made (length_refs stack (r.base + (h - n)) n ∙ none_of))

    constant_goes : (budget : ℕ) → r.left ≤ budget → 0 < r.left → r.top - arity (program_in file) c < length stack → (at : ℕ)
        → Behind r.at 1 at → at ≤ 40000
        → LeadsTo file m budget cells stack r i ws cells (set stack (r.top - arity (program_in file) c) c)
        (counted (moved r at (r.top - arity (program_in file) c + 1))) (suc i) ws
    constant_goes budget fits left there at behind near =
        let p = top_put c there in
        took file m budget cells stack r i ws fits ok cells (set stack (r.top - n) c) (counted (moved r at (r.top - n + 1))) (suc i) ws
        ends
        (constant_step
        ∙ ap₂ (λ (x : List ℕ) (y : List HeapFrame). Some (heap_state here.heap (heap_onward fr x ∷ y))) p.0 (sym p.1))
        (moved_laid file m cells r i ws ok.laid at (suc i) (r.top - n + 1)
        (next_stands file r.function i r.at at ok.laid.at behind) near (omega (arith, build_deep)) (omega arith)) (omega arith)

  -- of others a cell
  module _ (any : arity (program_in file) c ≡ 0 → ⊥) where
    a_cell : allocated here.heap c made ≡ (here.heap ++ (cell c made ∷ []), number_of (length here.heap))
    a_cell = allocated_cell here.heap c made (omega (arith, length_refs stack (r.base + (h - n)) n, any))

    large : length next.heap ≡ r.used + 1
    large =
        ap (λ (x : Heap × ℕ). length x.0) a_cell
        ∙ omega (arith, length-append here.heap (cell c made ∷ []), heap_length (arity s) cells r.used)

    -- where the tables have room
    module _ (range : NumbersInRange (program_in file)) (cells' : List ℕ)
        (put : CellPut r.used c (refs stack (r.top - arity (program_in file) c) (arity (program_in file) c)) cells cells')
        (room : r.top - arity (program_in file) c < m.stack) (more : r.used < m.cells) where
      from : r.base + (r.top - r.base - arity (program_in file) c) ≡ r.top - arity (program_in file) c
      from = omega (arith, build_deep)

      heap_is : here.heap ++ (cell c made ∷ []) ≡ heap_in (arity (program_in file)) cells' (r.used + 1)
      heap_is =
          ap (λ (x : ℕ). here.heap ++ (cell c (refs stack x n) ∷ [])) from
          ∙ sym (heap_put (arity s) r.used c (refs stack (r.top - n) n) cells cells' put (length_refs stack (r.top - n) n)
          (λ k l. range.few (constructor_in cells k)))
          ∙ ap (heap_in (arity s) cells') (sym (add-one r.used))

      cell_step : heap_step (program_in file) here
          ≡ Some (behind_with (heap_in (arity (program_in file)) cells' (r.used + 1)) (number_of r.used))
      cell_step =
          steps ∙ ap (λ (x : Heap × ℕ). Some (behind_with x.0 x.1)) a_cell
          ∙ ap₂ (λ (x : Heap) (k : ℕ). Some (behind_with x (number_of k))) heap_is (heap_length (arity s) cells r.used)

      known : (k : ℕ) → k < r.used + 1 → constructor_in cells' k < length (program_in file).constructors
      known = below_or_last (λ k. constructor_in cells' k < length s.constructors) r.used
          (λ k l. rw (constructor_kept r.used c _ cells cells' put k l) (ok.laid.known k l)) (rw put.constructor build_known)

      laid : (at : ℕ) → Behind r.at 1 at → at ≤ 40000
          → Laid file m cells' (counted (moved_over r at (r.top - arity (program_in file) c + 1))) (suc i) ws
      laid at behind near = record {
        code = ok.laid.code;
        code_near = ok.laid.code_near;
        at = next_stands file r.function i r.at at ok.laid.at behind;
        at_near = near;
        known = known;
        bottom = omega (arith, build_deep);
        places = omega arith;
        taken = omega arith;
        linked = ok.laid.linked;
        depth = ok.laid.depth;
        deep = ok.laid.deep;
      }

      cell_goes : (budget : ℕ) → r.left ≤ budget → 0 < r.left → r.top - arity (program_in file) c < length stack → (at : ℕ)
          → Behind r.at 1 at → at ≤ 40000
          → LeadsTo file m budget cells stack r i ws cells' (set stack (r.top - arity (program_in file) c) (number_of r.used))
          (counted (moved_over r at (r.top - arity (program_in file) c + 1))) (suc i) ws
      cell_goes budget fits left there at behind near =
          let p = top_put (number_of r.used) there in
          took file m budget cells stack r i ws fits ok cells' (set stack (r.top - n) (number_of r.used))
          (counted (moved_over r at (r.top - n + 1))) (suc i) ws ends
          (cell_step
          ∙ ap₂ (λ (x : List ℕ) (y : List HeapFrame). Some (heap_state (heap_in (arity s) cells' (r.used + 1)) (heap_onward fr x ∷ y)))
          p.0 (sym p.1))
          (laid at behind near) (omega arith)

  pub build_comes : NumbersInRange (program_in file) → (budget : ℕ) (fits : r.left ≤ budget) → 0 < r.left → m.stack ≤ length stack
      → (at : ℕ) → Behind r.at 1 at → at ≤ 40000 → (k : ℕ) → k ≡ arity (program_in file) c
      → {cells' stack' : List ℕ} {t : Result Registers Rest} → Builds m cells stack r at c k cells' stack' t
      → Comes file m budget cells stack r i ws cells' stack' t
  build_comes range budget fits left long at behind near k e {cells'} {stack'} {t} x =
      from_arity (subst (λ (z : ℕ). Builds m cells stack r at c z cells' stack' t) e x)
    where
      from_arity : {cells' stack' : List ℕ} {t : Result Registers Rest}
          → Builds m cells stack r at c (arity (program_in file) c) cells' stack' t
          → Comes file m budget cells stack r i ws cells' stack' t
      from_arity (build_full f) = (
        same_place file m budget cells stack r i ws fits ok,
        refuses_stack file m budget cells stack r i ws fits ok left next ends steps tall (omega (arith, heights)),
      )
      from_arity (build_constant f z) = (suc i, constant_goes z f budget fits left (omega arith) at behind near)
      from_arity (build_short f z g) = (
        same_place file m budget cells stack r i ws fits ok,
        refuses_cells file m budget cells stack r i ws fits ok left next ends steps tall (omega (arith, heights))
            (omega (arith, large z)),
      )
      from_arity (build_goes f z g p) = (suc i, cell_goes z range _ p f g budget fits left (omega arith) at behind near)
