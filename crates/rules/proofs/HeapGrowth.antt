-- A step over heap cells keeps the order of the cells, and every value that is made.
use Rattle.std.specs.Prelude.{if◌then◌else◌, Option, Some}
use mathlib.Core.Path.{◌≡◌, refl, sym, ap, ◌∙◌, subst}
use mathlib.Core.List.{List, [], ◌∷◌, ◌++◌}
use mathlib.Core.Bool.{Bool, true, false}
use Prim.Native.Nat.{ℕ, ◌+◌, ◌≤◌, ◌<◌}
use native.Mathlib.Omega.{arith}
use lib.ListN.{length, length-append}
use lib.Dec.{eqb, ltb}
use borrow.Author.Tests.{ltb-true, ltb-false}
use Rattle.rules.specs.declared.records.Instruction.{Instruction}
use Rattle.rules.specs.declared.records.Instruction.TheVariants.{Load, Build, Call, Branch, Return, Stop}
use Rattle.rules.specs.Lists.{All, l[], ◌l∷◌}
use Rattle.rules.specs.Program.{Program, constructor, function}
use Rattle.rules.specs.Stacks.{slot, split}
use Rattle.rules.specs.Machine.{top, current}
use Rattle.rules.specs.Prefix.{arity_of, arity}
use Rattle.rules.specs.Run.{one_unless_constant, cells_taken_by, cells_taken}
use Rattle.rules.specs.Heap.{Cell, Heap, HeapFrame, HeapState, heap_state, cell, number_of, cell_at, allocated, constructor_of}
use Rattle.rules.specs.Heap.{arguments_of, Refers, value_of, heap_frame_at, heap_onward, place_of, answered_with, execute_on, step_on}
use Rattle.rules.specs.Heap.{heap_step, FramesRefer, NamesEarlier, Valid}
use Rattle.rules.proofs.ListLaws.{none_some, some_inj, at_less, cut, all_map, all_append, all_slot, all_parts}
use Rattle.rules.proofs.MachineLaws.{bind_some, all_top}
use Rattle.rules.proofs.HeapLaws.{cell_last, cell_kept, allocated_kept}

-- the second heap has the first one's cells, and so many more
pub record Grown (h h' : HeapState) (more : ℕ) : Type 0 where
  pub valid : Valid h'
  pub cells : length h'.heap ≡ length h.heap + more
  pub kept : (k : ℕ) → Refers h.heap k → value_of h'.heap k ≡ value_of h.heap k

---- What is allocated

-- a cell over references to the heap comes last
pub earlier_allocated : (heap : Heap) → NamesEarlier heap → (c : ℕ) (refs : List ℕ) → All (Refers heap) refs
    → NamesEarlier (allocated heap c refs).0
earlier_allocated heap earlier c [] there k below = earlier k below
earlier_allocated heap earlier c (r ∷ refs) there k below = one (ltb k (number_of (length heap))) refl
  where
    new : Cell
    new = cell c (r ∷ refs)

    Names : ℕ → Cell → Type 0
    Names i x = All (λ j. j < i) x.arguments

    one : (t : Bool) → ltb k (number_of (length heap)) ≡ t → Names k (cell_at (heap ++ (new ∷ [])) k)
    one true e =
        let l = ltb-true k (number_of (length heap)) e in
        subst (Names k) (sym (cell_kept heap (new ∷ []) k l)) (earlier k l)
    one false e =
        let behind = ltb-false k (number_of (length heap)) e in
        let last : k ≡ number_of (length heap) = omega (arith, below, behind, length-append heap (new ∷ [])) in
        rw last (subst (Names (number_of (length heap))) (sym (cell_last heap new)) there)

-- what refers to the heap still does
pub refers_allocated : (heap : Heap) (c : ℕ) (refs : List ℕ) (k : ℕ) → Refers heap k → Refers (allocated heap c refs).0 k
refers_allocated heap c [] k there = there
refers_allocated heap c (r ∷ refs) k there = omega (arith, length-append heap (cell c (r ∷ refs) ∷ []))

-- and so does the new reference
pub new_refers : (heap : Heap) (c : ℕ) → c < 64 → (refs : List ℕ) → Refers (allocated heap c refs).0 (allocated heap c refs).1
new_refers heap c small [] = omega arith
new_refers heap c small (r ∷ refs) = omega (arith, length-append heap (cell c (r ∷ refs) ∷ []))

-- the cells that it takes
pub allocated_cells : (heap : Heap) (c : ℕ) (refs : List ℕ) (n : ℕ) → length refs ≡ n
    → length (allocated heap c refs).0 ≡ length heap + one_unless_constant n
allocated_cells heap c [] n e = rw (← e) (omega arith)
allocated_cells heap c (r ∷ refs) n e = rw (← e) (length-append heap (cell c (r ∷ refs) ∷ []))

---- A step

module _ (s : Program) (few : length s.constructors ≤ 64) (heap : Heap) (earlier : NamesEarlier heap) (fr : HeapFrame)
    (others : List HeapFrame) (here : All (Refers heap) fr.stack) (below : FramesRefer heap others) where
  abbrev Grows : Instruction → Type 0
  Grows ins = (h' : HeapState) → execute_on s heap ins fr others ≡ Some h'
      → Grown (heap_state heap (fr ∷ others)) h' (cells_taken s (Some ins))

  -- where the heap is as it was
  same_heap : (frames : List HeapFrame) → FramesRefer heap frames → {h' : HeapState}
      → ◌≡◌ {A = Option HeapState} (Some (heap_state heap frames)) (Some h')
      → Grown (heap_state heap (fr ∷ others)) h' 0
  same_heap frames refer e = rw (← some_inj e)
      (record { valid = record { earlier = earlier; refer = refer }; cells = omega arith; kept = λ k there. refl })

  load_grows : (a : ℕ) → Grows (Load a)
  unfolding execute_on cells_taken_by
  load_grows a h' e =
      let r = bind_some (slot a fr.stack) _ e in
      same_heap _ (all_append here (all_slot a r.1 here l∷ l[]) l∷ below) r.2

  build_grows : (c : ℕ) → Grows (Build c)
  unfolding execute_on cells_taken_by arity_of
  build_grows c h' e =
      let d = bind_some (constructor s c) _ e in
      let p = bind_some (split (length d.0.arguments) fr.stack) _ d.2 in
      let refs : List ℕ = p.0.1 in
      let parts = all_parts _ p.1 here in
      let still = refers_allocated heap c refs in
      let new = new_refers heap c (omega (arith, few, at_less s.constructors c d.1)) refs in
      let many : length refs ≡ arity s c = (cut _ _ _ _ p.1).1 ∙ sym (ap arity_of d.1) in
      rw (← some_inj p.2)
      (record {
        valid = record {
          earlier = earlier_allocated heap earlier c refs parts.1;
          refer = all_append (all_map still parts.0) (new l∷ l[]) l∷ all_map (λ w l. all_map still l) below;
        };
        cells = allocated_cells heap c refs (arity s c) many;
        kept = allocated_kept heap earlier c refs;
      })

  call_grows : (g : ℕ) → Grows (Call g)
  unfolding execute_on cells_taken_by
  call_grows g h' e =
      let f = bind_some (function s g) _ e in
      let p = bind_some (split (length f.0.parameters) fr.stack) _ f.2 in
      same_heap _ ((all_parts _ p.1 here).1 l∷ here l∷ below) p.2

  branch_grows : (c b : ℕ) → Grows (Branch c b)
  unfolding execute_on cells_taken_by
  branch_grows c b h' e =
      let p = bind_some (split 1 fr.stack) _ e in
      let q = bind_some (slot 1 p.0.1) _ p.2 in
      let parts = all_parts 1 p.1 here in
      let there = all_slot 1 q.1 parts.1 in
      same_heap _ (chosen q.0 there parts.0 (eqb (constructor_of heap q.0) c) l∷ below) q.2
    where
      chosen : (k : ℕ) → Refers heap k → {rest : List ℕ} → All (Refers heap) rest → (t : Bool)
          → All (Refers heap) (if t then heap_onward fr (rest ++ arguments_of heap k) else heap_frame_at b fr fr.stack).stack
      chosen k there p true = all_append p (all_map (λ j l. omega (arith, l, there)) (earlier k there))
      chosen k there p false = here

  answered_refers : (w : HeapFrame) (k : ℕ) (ins : Instruction) {back : HeapFrame} → All (Refers heap) w.stack → Refers heap k
      → answered_with s w k ins ≡ Some back → All (Refers heap) back.stack
  unfolding answered_with
  answered_refers w k (Load a) l there e = none_some e
  answered_refers w k (Build c) l there e = none_some e
  answered_refers w k (Call g) l there e =
      let f = bind_some (function s g) _ e in
      let p = bind_some (split (length f.0.parameters) w.stack) _ f.2 in
      rw (← some_inj p.2) (all_append (all_parts _ p.1 l).0 (there l∷ l[]))
  answered_refers w k (Branch c b) l there e = none_some e
  answered_refers w k Return l there e = none_some e
  answered_refers w k Stop l there e = none_some e

  return_grows : (ws : List HeapFrame) → FramesRefer heap ws → (h' : HeapState) → execute_on s heap Return fr ws ≡ Some h'
      → Grown (heap_state heap (fr ∷ others)) h' 0
  unfolding execute_on
  return_grows [] l[] h' e = none_some e
  return_grows (w ∷ ws) (l l∷ ls) h' e =
      let k = bind_some (top fr.stack) _ e in
      let ins = bind_some (current s (place_of w)) _ k.2 in
      let back = bind_some (answered_with s w k.0 ins.0) _ ins.2 in
      same_heap _ (answered_refers w k.0 ins.0 l (all_top k.1 here) back.1 l∷ ls) back.2

  stop_grows : Grows Stop
  unfolding execute_on cells_taken_by
  stop_grows h' e = same_heap [] l[] e

  executes_grows : (ins : Instruction) → Grows ins
  unfolding cells_taken_by
  executes_grows (Load a) = load_grows a
  executes_grows (Build c) = build_grows c
  executes_grows (Call g) = call_grows g
  executes_grows (Branch c b) = branch_grows c b
  executes_grows Return = return_grows others below
  executes_grows Stop = stop_grows

-- what a step takes of the cells
abbrev pub takes_on : Program → List HeapFrame → ℕ
takes_on s [] = 0
takes_on s (fr ∷ others) = cells_taken s (current s (place_of fr))

step_grows : (s : Program) → length s.constructors ≤ 64 → (heap : Heap) → NamesEarlier heap
    → (h' : HeapState) (frames : List HeapFrame) → FramesRefer heap frames
    → step_on s heap frames ≡ Some h' → Grown (heap_state heap frames) h' (takes_on s frames)
unfolding step_on
step_grows s few heap earlier h' [] l[] e = none_some e
step_grows s few heap earlier h' (fr ∷ others) (here l∷ below) e =
    let ins = bind_some (current s (place_of fr)) _ e in
    rw ins.1 (executes_grows s few heap earlier fr others here below ins.0 h' ins.2)

pub heap_grows : (s : Program) → length s.constructors ≤ 64 → (h h' : HeapState) → Valid h → heap_step s h ≡ Some h'
    → Grown h h' (takes_on s h.frames)
heap_grows s few h h' ok e = step_grows s few h.heap ok.earlier h' h.frames ok.refer e
