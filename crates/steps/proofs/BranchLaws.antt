-- Branch: a top value of constructor c gives way to its arguments, of which a constant has none; with any other, b is next.
use Prim.Native.Nat.{ℕ, suc, ◌+◌, ◌-◌, ◌≤◌, ◌<◌}
use mathlib.Core.Path.{◌≡◌, refl, sym, ap, ap₂, ◌∙◌, subst}
use mathlib.Core.List.{List, ◌∷◌, ◌++◌}
use Rattle.std.specs.Prelude.{None, Some, Result}
use mathlib.Core.Bool.{false, true}
use native.Mathlib.Omega.{arith}
use native.Mathlib.Nat.{add-zero}
use lib.ListN.{length, get_or, length-append}
use borrow.Author.Tests.{eq-eqb, ne_eqb}
use Rattle.rules.specs.Heap.{Cell, HeapFrame, HeapState, heap_state, cell, is_constant, number_of, cell_at, heap_onward, heap_frame_at}
use Rattle.rules.specs.Heap.{constructor_of, arguments_of, execute_on, heap_step}
use Rattle.rules.specs.HeapRun.{end_on}
use Rattle.rules.specs.Lists.{All, ◌l∷◌}
use Rattle.rules.specs.Machine.{current, returned}
use Rattle.rules.specs.Program.{Program}
use Rattle.rules.specs.Records.{program_in}
use Rattle.rules.specs.Stacks.{split}
use Rattle.rules.specs.declared.records.Instruction.{Instruction}
use Rattle.rules.specs.declared.records.Instruction.TheVariants.{Branch}
use Rattle.rules.proofs.MachineLaws.{bind_some}
use Rattle.store.specs.Cells.{refs, arguments_in, cell_of, label_in, arity_in, RefsPut}
use Rattle.store.specs.declared.frames.Frame.{Frame}
use Rattle.store.specs.declared.limits.Limits.{Limits}
use Rattle.store.proofs.RefLaws.{length_refs, refs_split_few, refs_split, refs_all, put_none}
use Rattle.store.proofs.CellLaws.{heap_length, heap_reference, cell_inside, cell_label, constant_arity, cell_arity, arguments_length}
use Rattle.rules.specs.Prefix.{arity}
use Rattle.fetch.specs.Arities.{place}
use Rattle.fetch.specs.Places.{StandsAt, Behind}
use Rattle.fetch.proofs.PlaceLaws.{behind_stands}
use Rattle.steps.specs.Stands.{waiting_on, top_on, state_in, Standing, LeadsTo}
use Rattle.steps.specs.Steps.{moved, counted, top_reference, Branches, branch_passes, branch_constant, branch_full, branch_takes, Comes}
use Rattle.steps.specs.declared.state.Registers.{Registers}
use Rattle.steps.specs.declared.state.Rest.{Rest}
use Rattle.steps.proofs.ContinueLaws.{heights_on, step_is, not_ended, branched, exec_branch}
use Rattle.steps.proofs.StandLaws.{waiting_length, lives, put_state, top_heights, current_next}
use Rattle.steps.proofs.StepLaws.{took, refuses_stack, same_place, moved_laid, next_stands}

module _ (file : List ℕ) (m : Limits) (cells stack : List ℕ) (r : Registers) (i : ℕ) (ws : List Frame)
    (ok : Standing file m cells stack r i ws) (c b : ℕ) (cur : current (program_in file) (place r.function i) ≡ Some (Branch c b)) where
  abbrev s : Program
  s = program_in file

  abbrev fr : HeapFrame
  fr = top_on stack r i

  abbrev others : List HeapFrame
  others = waiting_on stack ws r.base

  abbrev here : HeapState
  here = state_in (program_in file) cells stack r i ws

  abbrev h : ℕ
  h = r.top - r.base

  -- the reference to the top value
  abbrev k : ℕ
  k = top_reference stack r

  ends : end_on (program_in file) here.heap here.frames ≡ None
  unfolding returned
  ends = not_ended s here.heap fr others cur refl

  deep : 1 ≤ r.top - r.base
  unfolding execute_on
  deep =
      let x = lives file m cells stack r i ws ok ends in
      let p = bind_some (split 1 (refs stack r.base h)) _ (sym (step_is s here.heap fr others cur) ∙ x.1) in
      refs_split_few stack r.base h 1 p.1

  pub branch_deep : r.base < r.top
  branch_deep = omega (arith, deep)

  last : r.base + (r.top - r.base - 1) ≡ r.top - 1
  last = omega (arith, deep)

  pub branch_old : top_reference stack r < number_of r.used
  branch_old =
      let x = refs_all stack r.base h (first ok.valid.refer) (h - 1) (omega (arith, deep)) in
      let y : get_or stack (r.top - 1) 0 < number_of (length here.heap) = rw last at x in
      omega (arith, y, heap_length (arity s) cells r.used)
    where
      first : {P : HeapFrame → Type 0} {x : HeapFrame} {xs : List HeapFrame} → All P (x ∷ xs) → P x
      first (p l∷ ps) = p

  abbrev rest : List ℕ
  rest = refs stack r.base (h - 1)

  abbrev next : HeapState
  next = heap_state here.heap (branched (program_in file) here.heap fr others c b rest k ∷ others)

  steps : heap_step (program_in file) here ≡ Some next
  unfolding refs
  steps =
      step_is s here.heap fr others cur
      ∙ exec_branch s here.heap fr others c b (refs_split stack r.base h 1 deep) (ap (λ (j : ℕ). Some (get_or stack j 0)) last)

  the_cell : cell_at here.heap k
      ≡ cell (label_in cells k) (arguments_in cells (cell_of k) (arity_in (arity (program_in file)) cells k))
  the_cell = heap_reference cells k (arity s) r.used branch_old

  the_constructor : constructor_of here.heap k ≡ label_in cells k
  the_constructor = ap (λ (x : Cell). x.constructor) the_cell

  the_arguments : arguments_of here.heap k ≡ arguments_in cells (cell_of k) (arity_in (arity (program_in file)) cells k)
  the_arguments = ap (λ (x : Cell). x.arguments) the_cell

  -- a constant is no cell's constructor, so nothing is known of its own number
  pub branch_known : label_in cells (top_reference stack r) ≡ c → is_constant (top_reference stack r) ≡ false
      → c < length (program_in file).constructors
  branch_known y e = rw (sym (cell_label cells k e) ∙ y) at (ok.laid.known (cell_of k) (cell_inside k e r.used branch_old))

  -- not this constructor
  module _ (other : label_in cells (top_reference stack r) ≡ c → ⊥) where
    passes : next ≡ heap_state here.heap (heap_frame_at b fr fr.stack ∷ others)
    passes = simp (ne_eqb _ _ (λ (e : constructor_of here.heap k ≡ c). other (sym the_constructor ∙ e)))

    -- there is an instruction
    pub branch_target : (ins : Instruction) × (current (program_in file) (place r.function b) ≡ Some ins)
    branch_target = current_next file m cells stack r i ws ok (steps ∙ ap Some passes)

    passed : (budget : ℕ) → r.left ≤ budget → 0 < r.left → 0 < b → (at : ℕ) → Behind r.code (b - 1) at → at ≤ 40000
        → LeadsTo file m budget cells stack r i ws cells stack (counted (moved r at r.top)) b ws
    passed budget fits left low at behind near =
        let e : 1 + (b - 1) ≡ b = omega arith in
        took file m budget cells stack r i ws fits ok cells stack (counted (moved r at r.top)) b ws ends (steps ∙ ap Some passes)
        (moved_laid file m cells r i ws ok.laid at b r.top
        (subst (λ (j : ℕ). StandsAt file r.function j at) e (behind_stands file r.function 1 r.code (b - 1) at ok.laid.code
        behind))
        near ok.laid.bottom ok.laid.places) (omega arith)

  -- this constructor
  module _ (same : label_in cells (top_reference stack r) ≡ c) where
    taken : next
        ≡ heap_state here.heap
        (heap_onward fr (rest ++ arguments_in cells (cell_of k) (arity_in (arity (program_in file)) cells k)) ∷ others)
    taken =
        simp (eq-eqb _ _ (the_constructor ∙ same))
        (ap (λ (l : List ℕ). heap_state here.heap (heap_onward fr (rest ++ l) ∷ others)) the_arguments)

    -- with so many arguments
    module _ (n : ℕ) (has : arity_in (arity (program_in file)) cells (top_reference stack r) ≡ n) where
      heights : heights_on next.frames ≡ r.top - 1 + n
      heights =
          ap (λ (x : HeapState). heights_on x.frames) taken
          ∙ top_heights s stack ws r.base r.function ok.laid.linked r.function (suc i) _ (r.top - 1 + n) (omega (
            arith,
            length-append rest (arguments_in cells (cell_of k) (arity_in (arity s) cells k)),
            length_refs stack r.base (h - 1),
            arguments_length cells (cell_of k) (arity_in (arity s) cells k),
            has,
            deep,
          ))

      goes : (budget : ℕ) → r.left ≤ budget → 0 < r.left → r.top - 1 + n ≤ m.stack → (stack' : List ℕ)
          → RefsPut (r.top - 1) (arguments_in cells (cell_of (top_reference stack r)) n) stack stack' → (at : ℕ)
          → Behind r.at 1 at → at ≤ 40000
          → LeadsTo file m budget cells stack r i ws cells stack' (counted (moved r at (r.top - 1 + n))) (suc i) ws
      goes budget fits left room stack' put at behind near =
          let l : List ℕ = arguments_in cells (cell_of k) n in
          let p = put_state s ws r.base r.function (r.top - 1) l stack stack' ok.laid.linked put (omega (arith, deep)) in
          let e : r.top - 1 - r.base ≡ h - 1 = omega arith in
          let top_is : rest ++ arguments_in cells (cell_of k) (arity_in (arity s) cells k) ≡ refs stack' r.base (r.top - 1 + n - r.base) =
          ap₂ (λ (x y : ℕ). refs stack r.base x ++ arguments_in cells (cell_of k) y) (sym e) has ∙ sym p.0
          ∙ ap (λ (x : ℕ). refs stack' r.base (r.top - 1 + x - r.base)) (arguments_length cells (cell_of k) n) in
          took file m budget cells stack r i ws fits ok cells stack' (counted (moved r at (r.top - 1 + n))) (suc i) ws ends
          (steps ∙ ap Some taken
          ∙ ap₂ (λ (x : List ℕ) (y : List HeapFrame). Some (heap_state here.heap (heap_onward fr x ∷ y))) top_is (sym p.1))
          (moved_laid file m cells r i ws ok.laid at (suc i) (r.top - 1 + n)
          (next_stands file r.function i r.at at ok.laid.at behind) near (omega (arith, deep)) room) (omega arith)

    constant_goes : is_constant (top_reference stack r) ≡ true → (budget : ℕ) → r.left ≤ budget → 0 < r.left → (at : ℕ)
        → Behind r.at 1 at → at ≤ 40000
        → LeadsTo file m budget cells stack r i ws cells stack (counted (moved r at (r.top - 1))) (suc i) ws
    unfolding arguments_in refs
    constant_goes e budget fits left at behind near =
        subst (λ (x : ℕ). LeadsTo file m budget cells stack r i ws cells stack (counted (moved r at x)) (suc i) ws) (add-zero (r.top - 1))
        (goes 0 (constant_arity cells k (arity s) e) budget fits left (omega (arith, ok.laid.places)) stack (put_none (r.top - 1) stack)
        at behind near)

    cell_has : is_constant (top_reference stack r) ≡ false → arity_in (arity (program_in file)) cells (top_reference stack r)
        ≡ arity (program_in file) c
    cell_has e = cell_arity cells k (arity s) e ∙ ap (arity s) same

  pub branch_comes : (budget : ℕ) (fits : r.left ≤ budget) → 0 < r.left → (at : ℕ) → Behind r.at 1 at → at ≤ 40000
      → ((label_in cells (top_reference stack r) ≡ c → ⊥) → 0 < b) → (n : ℕ)
      → (label_in cells (top_reference stack r) ≡ c → is_constant (top_reference stack r) ≡ false → n ≡ arity (program_in file) c)
      → {stack' : List ℕ} {t : Result Registers Rest} → Branches m cells stack r at c b n stack' t
      → Comes file m budget cells stack r i ws cells stack' t
  branch_comes budget fits left at behind near low n is (branch_passes other there close) =
      (b, passed other budget fits left (low other) _ there close)
  branch_comes budget fits left at behind near low n is (branch_constant same one) =
      (suc i, constant_goes same one budget fits left at behind near)
  branch_comes budget fits left at behind near low n is (branch_full same one f) = (
    same_place file m budget cells stack r i ws fits ok,
    refuses_stack file m budget cells stack r i ws fits ok left next ends steps
        (omega (arith, waiting_length stack ws r.base, ok.laid.depth, ok.laid.deep))
        (omega (arith, heights same n (cell_has same one ∙ sym (is same one)))),
  )
  branch_comes budget fits left at behind near low n is (branch_takes same one f p) =
      (suc i, goes same n (cell_has same one ∙ sym (is same one)) budget fits left f _ p at behind near)
