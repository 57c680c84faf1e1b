-- The run over heap cells, one decision at a time: when a state ends it, and what its next step does.
use Rattle.std.specs.Prelude.{if◌then◌else◌}
use Prim.Native.Nat.{ℕ, zero, suc, ◌+◌, ◌≤◌, ◌<◌}
use mathlib.Core.Path.{◌≡◌, refl, sym, ap, ap₂, ◌∙◌}
use mathlib.Core.List.{List, [], ◌∷◌, ◌++◌, map}
use Rattle.std.specs.Prelude.{Option, None, Some}
use lib.ListN.{length, length-map}
use lib.Dec.{eqb}
use borrow.Author.Tests.{le-leb, lt-leb}
use Rattle.rules.specs.Base.{Refusal, refusal, found, refused}
use Rattle.rules.specs.Heap.{Heap, HeapFrame, HeapState, heap_state, allocated, constructor_of, arguments_of, value_of, frame_of, state_of}
use Rattle.rules.specs.Heap.{heap_frame_at, heap_onward, entered, place_of, answered_with, execute_on, step_on, heap_step, Valid}
use Rattle.rules.specs.HeapRun.{end_on, result_on, step_on_within, continued_on}
use Rattle.rules.specs.Machine.{State, current, returned, step, top}
use Rattle.rules.specs.Program.{Constructor, Function, Program, constructor, function}
use Rattle.rules.specs.Run.{Tables, Ending, refused_with, answer, heights, fits, refusal_at}
use Rattle.rules.specs.Stacks.{slot, split, push}
use Rattle.rules.specs.declared.records.Instruction.{Instruction}
use Rattle.rules.specs.declared.records.Instruction.TheVariants.{Build, Call, Branch, Return}
use Rattle.rules.proofs.HeapLaws.{heap_step_lem}
use Rattle.rules.proofs.ListLaws.{none_some, some_inj}
use Rattle.rules.proofs.MapLaws.{option_map}

-- "all heights added"
unfoldable pub heights_on : List HeapFrame → ℕ
heights_on [] = 0
heights_on (fr ∷ others) = length fr.stack + heights_on others

heights_on_lem : (heap : Heap) (frames : List HeapFrame) → heights (map (frame_of heap) frames) ≡ heights_on frames
unfolding heights heights_on
heights_on_lem heap [] = refl
heights_on_lem heap (fr ∷ others) = ap₂ ◌+◌ (length-map fr.stack (value_of heap)) (heights_on_lem heap others)

module _ (s : Program) (m : Tables) where
  pub ended_on : (left steps : ℕ) (h : HeapState) {e : Ending (List ℕ)} → end_on s h.heap h.frames ≡ Some e
      → continued_on s m left steps h ≡ answer e steps
  unfolding continued_on
  ended_on zero steps h e = rw (continued_on, e)
  ended_on (suc left) steps h e = rw (continued_on, e)

  pub spent_on : (steps : ℕ) (heap : Heap) (fr : HeapFrame) (others : List HeapFrame) → end_on s heap (fr ∷ others) ≡ None
      → continued_on s m 0 steps (heap_state heap (fr ∷ others))
      ≡ answer (refused_with (refusal 14 fr.function fr.instruction)) steps
  unfolding continued_on refusal_at
  spent_on steps heap fr others e = rw (continued_on, e)

  module _ (left steps : ℕ) (heap : Heap) (fr : HeapFrame) (others : List HeapFrame) (next : HeapState)
      (ends : end_on s heap (fr ∷ others) ≡ None) (goes : heap_step s (heap_state heap (fr ∷ others)) ≡ Some next) where
    high : heights (state_of next) ≡ heights_on next.frames
    high = heights_on_lem next.heap next.frames

    tall : length (state_of next) ≡ length next.frames
    tall = length-map next.frames (frame_of next.heap)

    abbrev here : HeapState
    here = heap_state heap (fr ∷ others)

    found_on : step_on_within s m heap (fr ∷ others) ≡ found next
        → continued_on s m (suc left) steps here ≡ continued_on s m left (suc steps) next
    unfolding continued_on
    found_on e = rw (continued_on, ends, e)

    refused_on : {x : Refusal} → step_on_within s m heap (fr ∷ others) ≡ refused x
        → continued_on s m (suc left) steps here ≡ answer (refused_with x) steps
    unfolding continued_on
    refused_on e = rw (continued_on, ends, e)

    pub goes_on_lem : length next.frames ≤ m.frames → heights_on next.frames ≤ m.stack → length next.heap ≤ m.cells
        → continued_on s m (suc left) steps here ≡ continued_on s m left (suc steps) next
    unfolding step_on_within fits
    goes_on_lem f h k =
        found_on (rw goes (simp (
          le-leb (length (state_of next)) m.frames (rw tall f),
          le-leb (heights (state_of next)) m.stack (rw high h),
          le-leb (length next.heap) m.cells k,
        )))

    pub no_frames : m.frames < length next.frames
        → continued_on s m (suc left) steps here ≡ answer (refused_with (refusal 17 fr.function fr.instruction)) steps
    unfolding step_on_within fits
    no_frames f = refused_on (rw goes (simp (lt-leb (length (state_of next)) m.frames (rw tall f))))

    pub no_stack_lem : length next.frames ≤ m.frames → m.stack < heights_on next.frames
        → continued_on s m (suc left) steps here ≡ answer (refused_with (refusal 16 fr.function fr.instruction)) steps
    unfolding step_on_within fits
    no_stack_lem f h =
        refused_on (rw goes (simp (
          le-leb (length (state_of next)) m.frames (rw tall f),
          lt-leb (heights (state_of next)) m.stack (rw high h),
        )))

    pub no_cells : length next.frames ≤ m.frames → heights_on next.frames ≤ m.stack → m.cells < length next.heap
        → continued_on s m (suc left) steps here ≡ answer (refused_with (refusal 15 fr.function fr.instruction)) steps
    unfolding step_on_within fits
    no_cells f h k =
        refused_on (rw goes (simp (
          le-leb (length (state_of next)) m.frames (rw tall f),
          le-leb (heights (state_of next)) m.stack (rw high h),
          lt-leb (length next.heap) m.cells k,
        )))

---- At an instruction

module _ (s : Program) (heap : Heap) (fr : HeapFrame) (others : List HeapFrame) {ins : Instruction}
    (cur : current s (place_of fr) ≡ Some ins) where
  pub step_is : heap_step s (heap_state heap (fr ∷ others)) ≡ execute_on s heap ins fr others
  unfolding step_on
  step_is = rw cur

  no_result : (os : List HeapFrame) → returned s ins fr.stack ≡ None → result_on s (fr ∷ os) ≡ None
  unfolding result_on
  no_result [] n = rw cur n
  no_result (w ∷ os) n = refl

  -- at an instruction that is no return the run does not end
  pub not_ended : returned s ins fr.stack ≡ None → end_on s heap (fr ∷ others) ≡ None
  unfolding end_on
  not_ended n = rw (no_result others n)

-- where the machine over values has a step, the one over cells has it too
pub step_there : (s : Program) → length s.constructors ≤ 64 → (h : HeapState) → Valid h → {next : State}
    → step s (state_of h) ≡ Some next → (h' : HeapState) × (heap_step s h ≡ Some h') × (state_of h' ≡ next)
step_there s few h ok {next} e = go (heap_step s h) refl
  where
    go : (o : Option HeapState) → heap_step s h ≡ o → (h' : HeapState) × (heap_step s h ≡ Some h') × (state_of h' ≡ next)
    go None q = none_some (sym (heap_step_lem s few h ok ∙ ap (option_map state_of) q) ∙ e)
    go (Some h') q = (h', q, some_inj (sym (heap_step_lem s few h ok ∙ ap (option_map state_of) q) ∙ e))

---- What an instruction does, once what it needs is there

module _ (s : Program) (heap : Heap) (fr : HeapFrame) (others : List HeapFrame) where
  pub exec_build : (c : ℕ) {d : Constructor} {p : List ℕ × List ℕ} → constructor s c ≡ Some d
      → split (length d.arguments) fr.stack ≡ Some p
      → execute_on s heap (Build c) fr others
      ≡ Some (heap_state (allocated heap c p.1).0 (heap_onward fr (push p.0 (allocated heap c p.1).1) ∷ others))
  unfolding execute_on
  exec_build c e q = rw (e, q)

  pub exec_call : (g : ℕ) {f : Function} {p : List ℕ × List ℕ} → function s g ≡ Some f → split (length f.parameters) fr.stack ≡ Some p
      → execute_on s heap (Call g) fr others ≡ Some (heap_state heap (entered g p.1 ∷ fr ∷ others))
  unfolding execute_on
  exec_call g e q = rw (e, q)

  -- where a branch goes with a top reference of some constructor
  abbrev pub branched : ℕ → ℕ → List ℕ → ℕ → HeapFrame
  branched c b rest k =
      if eqb (constructor_of heap k) c then heap_onward fr (rest ++ arguments_of heap k) else heap_frame_at b fr fr.stack

  pub exec_branch : (c b : ℕ) {k : ℕ} {p : List ℕ × List ℕ} → split 1 fr.stack ≡ Some p → slot 1 p.1 ≡ Some k
      → execute_on s heap (Branch c b) fr others ≡ Some (heap_state heap (branched c b p.0 k ∷ others))
  unfolding execute_on
  exec_branch c b e q = rw (e, q)

  pub exec_return : (w : HeapFrame) {k : ℕ} (g : ℕ) {f : Function} {p : List ℕ × List ℕ} → top fr.stack ≡ Some k
      → current s (place_of w) ≡ Some (Call g) → function s g ≡ Some f → split (length f.parameters) w.stack ≡ Some p
      → execute_on s heap Return fr (w ∷ others) ≡ Some (heap_state heap (heap_onward w (push p.0 k) ∷ others))
  unfolding execute_on answered_with
  exec_return w g a b c q = rw (a, b, c, q)
