-- The machine over heap cells steps as the machine over the values that they stand for.
use Rattle.std.specs.Prelude.{if◌then◌else◌, Option, Some}
use mathlib.Core.Path.{◌≡◌, refl, sym, ap, ap₂, ◌∙◌}
use mathlib.Core.List.{List, [], ◌∷◌, ◌++◌, map}
use mathlib.Core.Bool.{Bool, true, false}
use Prim.Native.Nat.{ℕ, zero, suc, ◌-◌, ◌≤◌, ◌<◌}
use native.Mathlib.Omega.{arith}
use lib.ListN.{length, get_or, get_or-append}
use lib.Dec.{eqb}
use borrow.Author.Tests.{ltb-false, lt-ltb, le-ltb}
use Rattle.rules.specs.declared.records.Instruction.{Instruction}
use Rattle.rules.specs.declared.records.Instruction.TheVariants.{Load, Build, Call, Branch, Return, Stop}
use Rattle.rules.specs.Lists.{All, l[], ◌l∷◌}
use Rattle.rules.specs.Program.{Program, constructor, function}
use Rattle.rules.specs.Tree.{made, label, arguments}
use Rattle.rules.specs.Stacks.{slot, split, push}
use Rattle.rules.specs.Machine.{Value, Frame, State, frame_at, onward, top, current, answered, execute, step}
use Rattle.rules.specs.Heap.{Cell, Heap, HeapFrame, HeapState, heap_state, cell, is_constant, number_of, cell_at, allocated}
use Rattle.rules.specs.Heap.{constructor_of, arguments_of, Refers, value_in, value_of, frame_of, state_of, heap_frame_at, heap_onward}
use Rattle.rules.specs.Heap.{place_of}
use Rattle.rules.specs.Heap.{answered_with, execute_on, step_on, heap_step, FramesRefer, NamesEarlier, Valid}
use Rattle.rules.proofs.ListLaws.{at_less, all_slot, all_parts}
use Rattle.rules.proofs.MapLaws.{option_map, both_map, map-append, map_slot, map_split, map_alike, bind_both, bind_mapped}
use Rattle.rules.proofs.Models.{to_from}

---- What a number stands for

pub constant_at : (heap : Heap) (c : ℕ) → is_constant c ≡ true → cell_at heap c ≡ cell c []
unfolding cell_at
constant_at heap c e = rw e

pub cell_at_lem : (heap : Heap) (k : ℕ) → is_constant k ≡ false → cell_at heap k ≡ get_or heap (k - 64) (cell 0 [])
unfolding cell_at
cell_at_lem heap k e = rw e

-- the cell that comes last
pub cell_last : (heap : Heap) (c : Cell) → cell_at (heap ++ (c ∷ [])) (number_of (length heap)) ≡ c
cell_last heap c =
    let i : number_of (length heap) - 64 ≡ length heap = omega arith in
    cell_at_lem (heap ++ (c ∷ [])) (number_of (length heap)) (le-ltb (number_of (length heap)) 64 (omega arith))
    ∙ ap (λ (j : ℕ). get_or (heap ++ (c ∷ [])) j (cell 0 [])) i ∙ last heap
  where
    last : (cells : Heap) → get_or (cells ++ (c ∷ [])) (length cells) (cell 0 []) ≡ c
    last [] = refl
    last (x ∷ cells) = last cells

-- cells made later change nothing
pub cell_kept : (heap more : Heap) (k : ℕ) → Refers heap k → cell_at (heap ++ more) k ≡ cell_at heap k
cell_kept heap more k there = one (is_constant k) refl
  where
    one : (t : Bool) → is_constant k ≡ t → cell_at (heap ++ more) k ≡ cell_at heap k
    one true e = constant_at (heap ++ more) k e ∙ sym (constant_at heap k e)
    one false e =
        cell_at_lem (heap ++ more) k e ∙ get_or-append heap more (cell 0 []) (k - 64) (omega (arith, there, ltb-false k 64 e))
        ∙ sym (cell_at_lem heap k e)

---- What is allocated

pub allocated_constant : (heap : Heap) (c : ℕ) (refs : List ℕ) → length refs ≡ 0 → allocated heap c refs ≡ (heap, c)
allocated_constant heap c [] e = refl
allocated_constant heap c (k ∷ refs) e = absurd (omega (arith, e))

pub allocated_cell : (heap : Heap) (c : ℕ) (refs : List ℕ) → 0 < length refs
    → allocated heap c refs ≡ (heap ++ (cell c refs ∷ []), number_of (length heap))
allocated_cell heap c [] h = absurd (omega (arith, h))
allocated_cell heap c (k ∷ refs) h = refl

---- The value of a reference

module _ (heap : Heap) (earlier : NamesEarlier heap) where
  -- fuel beyond the reference changes nothing
  pub value_fuel : (f g k : ℕ) → Refers heap k → k < f → k < g → value_in heap f k ≡ value_in heap g k
  unfolding value_in
  value_fuel zero g k there a b = absurd (omega arith)
  value_fuel (suc f) zero k there a b = absurd (omega arith)
  value_fuel (suc f) (suc g) k there a b =
      ap (made (constructor_of heap k))
      (map_alike (value_in heap f) (value_in heap g) (λ j l. value_fuel f g j (omega arith) (omega arith) (omega arith)) (earlier k there))

  -- cells made later change nothing
  pub value_kept : (more : Heap) (f k : ℕ) → Refers heap k → value_in (heap ++ more) f k ≡ value_in heap f k
  unfolding value_in
  value_kept more zero k there = refl
  value_kept more (suc f) k there =
      ap (λ (x : Cell). made x.constructor (map (value_in (heap ++ more) f) x.arguments)) (cell_kept heap more k there)
      ∙ ap (made (constructor_of heap k))
      (map_alike (value_in (heap ++ more) f) (value_in heap f) (λ j l. value_kept more f j (omega arith)) (earlier k there))

  pub value_label : (k : ℕ) → label (value_of heap k) ≡ constructor_of heap k
  unfolding value_in
  value_label k = refl

  pub value_arguments : (k : ℕ) → Refers heap k → arguments (value_of heap k) ≡ map (value_of heap) (arguments_of heap k)
  unfolding value_in
  value_arguments k there =
      to_from (map (value_in heap k) (arguments_of heap k))
      ∙ map_alike (value_in heap k) (value_of heap) (λ j l. value_fuel k (suc j) j (omega arith) l (omega arith)) (earlier k there)

  -- what is allocated stands for the constructor over the values of its references
  pub allocated_value : (c : ℕ) → c < 64 → (refs : List ℕ) → All (Refers heap) refs
      → value_of (allocated heap c refs).0 (allocated heap c refs).1 ≡ made c (map (value_of heap) refs)
  unfolding value_in
  allocated_value c small [] there =
      ap (λ (x : Cell). made x.constructor (map (value_in heap c) x.arguments)) (constant_at heap c (lt-ltb c 64 small))
  allocated_value c small (r ∷ refs) there =
      let n = number_of (length heap) in
      let new : Heap = cell c (r ∷ refs) ∷ [] in
      ap (λ (x : Cell). made x.constructor (map (value_in (heap ++ new) n) x.arguments)) (cell_last heap (cell c (r ∷ refs)))
      ∙ ap (made c) (map_alike (value_in (heap ++ new) n) (value_of heap)
      (λ j l. value_kept new n j l ∙ value_fuel n (suc j) j l l (omega arith)) there)

  -- and what stood before is as it was
  pub allocated_kept : (c : ℕ) (refs : List ℕ) (k : ℕ) → Refers heap k → value_of (allocated heap c refs).0 k ≡ value_of heap k
  allocated_kept c [] k there = refl
  allocated_kept c (r ∷ refs) k there = value_kept (cell c (r ∷ refs) ∷ []) (suc k) k there

---- A step

module _ (s : Program) (heap : Heap) where
  abbrev val : ℕ → Value
  val = value_of heap

  pub top_mapped : (stack : List ℕ) → top (map val stack) ≡ option_map val (top stack)
  top_mapped stack = rw (map_split val 1 stack) (bind_mapped (both_map val) val (split 1 stack) _ _ (λ parts e. map_slot val 1 parts.1))

  answers_alike : (w : HeapFrame) (k : ℕ) (ins : Instruction)
      → answered s (frame_of heap w) (val k) ins ≡ option_map (frame_of heap) (answered_with s w k ins)
  unfolding answered answered_with
  answers_alike w k (Load a) = refl
  answers_alike w k (Build c) = refl
  answers_alike w k (Call g) =
      bind_both (frame_of heap) (function s g) _ _
      (λ f e. rw (map_split val (length f.parameters) w.stack)
      (bind_mapped (both_map val) (frame_of heap) (split (length f.parameters) w.stack) _ _
      (λ parts e'. ap (λ (l : List Value). Some (onward (frame_of heap w) l)) (sym (map-append val parts.0 (k ∷ []))))))
  answers_alike w k (Branch c b) = refl
  answers_alike w k Return = refl
  answers_alike w k Stop = refl

  return_alike : (fr : HeapFrame) (others : List HeapFrame)
      → execute s Return (frame_of heap fr) (map (frame_of heap) others) ≡ option_map state_of (execute_on s heap Return fr others)
  unfolding execute execute_on current
  return_alike fr [] = refl
  return_alike fr (w ∷ others) =
      rw (top_mapped fr.stack)
      (bind_mapped val state_of (top fr.stack) _ _
      (λ k e. bind_both state_of (current s (place_of w)) _ _
      (λ ins e'. rw (answers_alike w k ins) (bind_mapped (frame_of heap) state_of (answered_with s w k ins) _ _ (λ back e''. refl)))))

  module _ (few : length s.constructors ≤ 64) (earlier : NamesEarlier heap) (fr : HeapFrame) (others : List HeapFrame)
      (here : All (Refers heap) fr.stack) (below : FramesRefer heap others) where
    abbrev under : State
    under = map (frame_of heap) others

    abbrev Alike : Instruction → Type 0
    Alike ins = execute s ins (frame_of heap fr) under ≡ option_map state_of (execute_on s heap ins fr others)

    -- the top frame goes on with a stack
    abbrev goes_on : List Value → Option State
    goes_on stack = Some (onward (frame_of heap fr) stack ∷ under)

    load_alike : (a : ℕ) → Alike (Load a)
    unfolding execute execute_on
    load_alike a =
        rw (map_slot val a fr.stack)
        (bind_mapped val state_of (slot a fr.stack) _ _ (λ k e. ap goes_on (sym (map-append val fr.stack (k ∷ [])))))

    build_alike : (c : ℕ) → Alike (Build c)
    unfolding execute execute_on
    build_alike c =
        bind_both state_of (constructor s c) _ _
        (λ d e. rw (map_split val (length d.arguments) fr.stack)
        (bind_mapped (both_map val) state_of (split (length d.arguments) fr.stack) _ _
        (λ parts e'. built (omega (arith, few, at_less s.constructors c e)) parts.0 parts.1 (all_parts _ e' here))))
      where
        built : c < 64 → (rest refs : List ℕ) → All (Refers heap) rest × All (Refers heap) refs
            → goes_on (push (map val rest) (made c (map val refs)))
            ≡ Some (state_of (heap_state (allocated heap c refs).0 (heap_onward fr (push rest (allocated heap c refs).1) ∷ others)))
        built small rest refs p =
            let heap' : Heap = (allocated heap c refs).0 in
            let kept : (k : ℕ) → Refers heap k → val k ≡ value_of heap' k = λ k there. sym (allocated_kept heap earlier c refs k there) in
            let frames : under ≡ map (frame_of heap') others =
            map_alike (frame_of heap) (frame_of heap')
            (λ w l. ap (λ (stack : List Value). record { function = w.function; instruction = w.instruction; stack = stack })
            (map_alike val (value_of heap') kept l)) below in
            let new : ℕ = (allocated heap c refs).1 in
            let stack : push (map val rest) (made c (map val refs)) ≡ map (value_of heap') (push rest new) =
            ap₂ (λ (l : List Value) (x : Value). push l x) (map_alike val (value_of heap') kept p.0)
            (sym (allocated_value heap earlier c small refs p.1))
            ∙ sym (map-append (value_of heap') rest (new ∷ [])) in
            ap₂ (λ (l : List Value) (st : State). Some (onward (frame_of heap fr) l ∷ st)) stack frames

    call_alike : (g : ℕ) → Alike (Call g)
    unfolding execute execute_on
    call_alike g =
        bind_both state_of (function s g) _ _
        (λ f e. rw (map_split val (length f.parameters) fr.stack)
        (bind_mapped (both_map val) state_of (split (length f.parameters) fr.stack) _ _ (λ parts e'. refl)))

    branch_alike : (c b : ℕ) → Alike (Branch c b)
    unfolding execute execute_on value_in
    branch_alike c b =
        rw (map_split val 1 fr.stack)
        (bind_mapped (both_map val) state_of (split 1 fr.stack) _ _
        (λ parts e. rw (map_slot val 1 parts.1)
        (bind_mapped val state_of (slot 1 parts.1) _ _
        (λ k e'. chosen parts.0 k (all_slot 1 e' (all_parts 1 e here).1) (eqb (constructor_of heap k) c)))))
      where
        over : List ℕ → ℕ → Bool → Frame
        over rest k t =
            if t
            then onward (frame_of heap fr) (map val rest ++ arguments (val k))
            else frame_at b (frame_of heap fr) (map val fr.stack)

        over_on : List ℕ → ℕ → Bool → HeapFrame
        over_on rest k t = if t then heap_onward fr (rest ++ arguments_of heap k) else heap_frame_at b fr fr.stack

        chosen : (rest : List ℕ) (k : ℕ) → Refers heap k → (t : Bool)
            → ◌≡◌ {A = Option State} (Some (over rest k t ∷ under)) (Some (state_of (heap_state heap (over_on rest k t ∷ others))))
        chosen rest k there true =
            ap goes_on (ap (λ (l : List Value). map val rest ++ l) (value_arguments heap earlier k there)
            ∙ sym (map-append val rest (arguments_of heap k)))
        chosen rest k there false = refl

    stop_alike : Alike Stop
    unfolding execute execute_on
    stop_alike = refl

    executes_alike : (ins : Instruction) → Alike ins
    executes_alike (Load a) = load_alike a
    executes_alike (Build c) = build_alike c
    executes_alike (Call g) = call_alike g
    executes_alike (Branch c b) = branch_alike c b
    executes_alike Return = return_alike fr others
    executes_alike Stop = stop_alike

stepped : (s : Program) (heap : Heap) → length s.constructors ≤ 64 → NamesEarlier heap
    → (frames : List HeapFrame) → FramesRefer heap frames
    → step s (map (frame_of heap) frames) ≡ option_map state_of (step_on s heap frames)
unfolding step step_on current
stepped s heap few earlier [] l[] = refl
stepped s heap few earlier (fr ∷ others) (here l∷ below) =
    bind_both state_of (current s (place_of fr)) _ _ (λ ins e. executes_alike s heap few earlier fr others here below ins)

-- one step over cells is one step over the values
pub heap_step_lem : (s : Program) → length s.constructors ≤ 64 → (h : HeapState) → Valid h
    → step s (state_of h) ≡ option_map state_of (heap_step s h)
heap_step_lem s few h ok = stepped s h.heap few ok.earlier h.frames ok.refer
