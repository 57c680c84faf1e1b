-- How a run ends where its top frame rests for good: with the result, by stop, or with no step left.
use Prim.Native.Nat.{ℕ, zero, suc, ◌+◌, ◌-◌, ◌%◌, ◌<◌}
use mathlib.Core.Path.{◌≡◌, refl, sym, ap, ◌∙◌}
use mathlib.Core.List.{List, [], ◌∷◌}
use Rattle.std.specs.Prelude.{None, Some}
use mathlib.Core.Bool.{Bool, true, false}
use native.Mathlib.Omega.{arith}
use lib.ListN.{length, get_or}
use lib.Dec.{eqb}
use borrow.Author.Tests.{eqb-true, eqb-false}
use Rattle.rules.specs.Base.{refusal}
use Rattle.rules.specs.Container.{payload}
use Rattle.rules.specs.Established.{Parsed}
use Rattle.rules.specs.Heap.{Heap, HeapFrame, HeapState, heap_state, value_of, frame_of, state_of, execute_on, heap_step}
use Rattle.rules.specs.HeapRun.{end_on, result_on, continued_on}
use Rattle.rules.specs.Machine.{Frame as Framed, current, returned, result_of, top}
use Rattle.rules.specs.Prefix.{arity, written}
use Rattle.rules.specs.Program.{Program}
use Rattle.rules.specs.Records.{program_in}
use Rattle.rules.specs.Run.{Outcome, answer, finished, aborted, refused_with}
use Rattle.rules.specs.Stacks.{split}
use Rattle.rules.specs.declared.records.Instruction.{Instruction}
use Rattle.rules.specs.declared.records.Instruction.TheVariants.{Return, Stop}
use Rattle.rules.proofs.HeapLaws.{top_mapped}
use Rattle.rules.proofs.ListLaws.{none_some}
use Rattle.rules.proofs.MapLaws.{option_map}
use Rattle.store.specs.Cells.{refs, heap_in}
use Rattle.store.specs.Limits.{tables}
use Rattle.store.specs.declared.frames.Frame.{Frame}
use Rattle.store.specs.declared.limits.Limits.{Limits}
use Rattle.store.proofs.RefLaws.{refs_top}
use Rattle.store.proofs.CellLaws.{heap_length}
use Rattle.fetch.specs.Arities.{place}
use Rattle.fetch.specs.Places.{offset_at}
use Rattle.fetch.specs.Words.{WordThere}
use Rattle.steps.specs.Stands.{waiting_on, top_on, state_in, Standing, answers_on}
use Rattle.steps.specs.Steps.{top_reference}
use Rattle.machine.specs.Turns.{Over, Settles, settles_above, settles_spent, settles_result}
use Rattle.machine.specs.Runs.{Answers}
use Rattle.machine.specs.declared.run.End.{End}
use Rattle.machine.specs.declared.run.End.TheVariants as ends
use Rattle.steps.specs.declared.state.Registers.{Registers}
use Rattle.steps.proofs.ContinueLaws.{heights_on, ended_on, spent_on, goes_on_lem, step_is, not_ended}
use Rattle.steps.proofs.OneLaws.{at_load, at_build, at_call, at_branch, at_return, at_stop}
use Rattle.steps.proofs.StandLaws.{after_none, lives}

-- above waiting frames nothing ends
waiting_some : (s : Program) (heap : Heap) (fr w : HeapFrame) (others : List HeapFrame) → end_on s heap (fr ∷ w ∷ others) ≡ None
unfolding end_on result_on
waiting_some s heap fr w others = refl

returned_there : (s : Program) (fr : Framed) → current s fr ≡ Some Return → result_of s (fr ∷ []) ≡ top fr.stack
unfolding result_of returned
returned_there s fr e = rw e

---- A return in the only frame

module _ (file : List ℕ) (m : Limits) (cells stack : List ℕ) (r : Registers) (i : ℕ) (ok : Standing file m cells stack r i [])
    (cur : current (program_in file) (place r.function i) ≡ Some Return) where
  abbrev s : Program
  s = program_in file

  abbrev fr : HeapFrame
  fr = top_on stack r i

  abbrev here : HeapState
  here = state_in (program_in file) cells stack r i []

  abbrev h : ℕ
  h = r.top - r.base

  -- what ends there is what the top of the stack is
  result_is : result_on (program_in file) here.frames ≡ top (refs stack r.base (r.top - r.base))
  unfolding result_on waiting_on returned
  result_is = rw cur

  none_there : r.top - r.base ≡ 0 → end_on (program_in file) here.heap here.frames ≡ None
  unfolding end_on waiting_on refs split
  none_there e = let q : result_on s here.frames ≡ None = result_is ∙ ap (λ (n : ℕ). top (refs stack r.base n)) e in rw q

  stuck : heap_step (program_in file) here ≡ None
  unfolding execute_on waiting_on
  stuck = step_is s here.heap fr [] cur

  pub result_deep : r.base < r.top
  result_deep = go (r.top - r.base) refl
    where
      go : (n : ℕ) → r.top - r.base ≡ n → r.base < r.top
      go zero e = none_some (sym stuck ∙ (lives file m cells stack r i [] ok (none_there e)).1)
      go (suc n) e = omega (arith, e)

  value_there : top (refs stack r.base (r.top - r.base)) ≡ Some (top_reference stack r)
  value_there =
      let e : r.base + h - 1 ≡ r.top - 1 = omega (arith, ok.laid.bottom) in
      refs_top stack r.base h (omega (arith, result_deep)) ∙ ap (λ (j : ℕ). Some (get_or stack j 0)) e

  pub result_ends : end_on (program_in file) here.heap here.frames
      ≡ Some (finished (written (value_of here.heap (top_reference stack r))))
  unfolding end_on waiting_on
  result_ends = rw (result_is ∙ value_there)

  result_value : result_of (program_in file) (state_of here) ≡ Some (value_of here.heap (top_reference stack r))
  unfolding result_of waiting_on current
  result_value =
      let q : current s (frame_of here.heap fr) ≡ Some Return = cur in
      returned_there s (frame_of here.heap fr) q ∙ top_mapped s here.heap fr.stack ∙ ap (option_map (value_of here.heap))
      value_there

  pub result_short : length (written (value_of here.heap (top_reference stack r))) < 4294967296
  result_short =
      ok.sound.bounded 0 (state_of here) (value_of here.heap (top_reference stack r)) (after_none s (state_of here)) result_value

---- Stop

module _ (file : List ℕ) (m : Limits) (budget : ℕ) (cells stack : List ℕ) (r : Registers) (i : ℕ) (ws : List Frame)
    (ok : Standing file m cells stack r i ws) where
  abbrev fr₁ : HeapFrame
  fr₁ = top_on stack r i

  abbrev others : List HeapFrame
  others = waiting_on stack ws r.base

  abbrev heap : Heap
  heap = heap_in (arity (program_in file)) cells r.used

  pub stop_ends : current (program_in file) (place r.function i) ≡ Some Stop → 0 < r.left
      → answers_on (program_in file) m budget cells stack r i ws ≡ answer aborted (suc (budget - r.left))
  unfolding returned execute_on end_on heights_on
  stop_ends cur left =
      let e : r.left ≡ suc (r.left - 1) = omega arith in
      let next : HeapState = heap_state heap [] in
      ap (λ (k : ℕ). continued_on (program_in file) (tables m) k (budget - r.left) (state_in (program_in file) cells stack r i ws)) e
      ∙ goes_on_lem (program_in file) (tables m) (r.left - 1) (budget - r.left) heap fr₁ others next
      (not_ended (program_in file) heap fr₁ others cur refl) (step_is (program_in file) heap fr₁ others cur) (omega arith) (omega arith)
      (omega (arith, heap_length (arity (program_in file)) cells r.used, ok.laid.taken))
      ∙ ended_on (program_in file) (tables m) (r.left - 1) (suc (budget - r.left)) next refl

  ---- No step is left

  pub spent_ends : end_on (program_in file) heap (fr₁ ∷ others) ≡ None → r.left ≡ 0
      → answers_on (program_in file) m budget cells stack r i ws ≡ answer (refused_with (refusal 14 r.function i)) (budget - r.left)
  spent_ends ends none_left =
      ap (λ (k : ℕ). continued_on (program_in file) (tables m) k (budget - r.left) (state_in (program_in file) cells stack r i ws))
      none_left
      ∙ spent_on (program_in file) (tables m) (budget - r.left) heap fr₁ others ends

  -- frames wait
  pub waiting_on_lem : (length ws ≡ 0 → ⊥) → end_on (program_in file) heap (fr₁ ∷ others) ≡ None
  unfolding waiting_on
  waiting_on_lem n = go ws n
    where
      go : (vs : List Frame) → (length vs ≡ 0 → ⊥) → end_on (program_in file) heap (fr₁ ∷ waiting_on stack vs r.base) ≡ None
      go [] z = absurd (z refl)
      go (v ∷ vs) z = waiting_some (program_in file) heap fr₁ _ _

  -- or the instruction is no return
  pub no_return : Parsed file → {w : ℕ} → WordThere (payload file) (offset_at r.at) w → (w % 256 ≡ 5 → ⊥)
      → end_on (program_in file) heap (fr₁ ∷ others) ≡ None
  unfolding returned
  no_return parsed {w} word n = one (eqb (w % 256) 1) refl
    where
      none_here : {ins : Instruction} → current (program_in file) (place r.function i) ≡ Some ins
          → returned (program_in file) ins fr₁.stack ≡ None → end_on (program_in file) heap (fr₁ ∷ others) ≡ None
      none_here cur q = not_ended (program_in file) heap fr₁ others cur q

      four : (t : Bool) → (w % 256 ≡ 1 → ⊥) → (w % 256 ≡ 2 → ⊥) → (w % 256 ≡ 3 → ⊥) → eqb (w % 256) 4 ≡ t
          → end_on (program_in file) heap (fr₁ ∷ others) ≡ None
      four true n₁ n₂ n₃ e =
          none_here (at_branch file parsed m cells stack r i ws ok word (eqb-true (w % 256) 4 e)) refl
      four false n₁ n₂ n₃ e =
          none_here (at_stop file parsed m cells stack r i ws ok word n₁ n₂ n₃ (eqb-false (w % 256) 4 e) n) refl

      three : (t : Bool) → (w % 256 ≡ 1 → ⊥) → (w % 256 ≡ 2 → ⊥) → eqb (w % 256) 3 ≡ t → end_on (program_in file) heap (fr₁ ∷ others) ≡ None
      three true n₁ n₂ e = none_here (at_call file parsed m cells stack r i ws ok word (eqb-true (w % 256) 3 e)) refl
      three false n₁ n₂ e = four (eqb (w % 256) 4) n₁ n₂ (eqb-false (w % 256) 3 e) refl

      two : (t : Bool) → (w % 256 ≡ 1 → ⊥) → eqb (w % 256) 2 ≡ t → end_on (program_in file) heap (fr₁ ∷ others) ≡ None
      two true n₁ e = none_here (at_build file parsed m cells stack r i ws ok word (eqb-true (w % 256) 2 e)) refl
      two false n₁ e = three (eqb (w % 256) 3) n₁ (eqb-false (w % 256) 2 e) refl

      one : (t : Bool) → eqb (w % 256) 1 ≡ t → end_on (program_in file) heap (fr₁ ∷ others) ≡ None
      one true e = none_here (at_load file parsed m cells stack r i ws ok word (eqb-true (w % 256) 1 e)) refl
      one false e = two (eqb (w % 256) 2) (eqb-false (w % 256) 1 e) refl

---- The end of a run

-- a frame with no step left has the result, or the run is refused there
pub settled_over : (file : List ℕ) → Parsed file → (m : Limits) (budget : ℕ) (cells stack : List ℕ) (r : Registers) (i : ℕ)
    (ws : List Frame) → Standing file m cells stack r i ws → length ws ≡ r.depth → r.left ≡ 0 → {end : End}
    → Settles (payload file) r end → Over file m budget cells stack r i ws end
settled_over file parsed m budget cells stack r i ws ok depth none_left (settles_above n) =
    spent_ends file m budget cells stack r i ws ok (waiting_on_lem file m budget cells stack r i ws ok (λ z. n (sym depth ∙ z)))
    none_left
settled_over file parsed m budget cells stack r i ws ok depth none_left (settles_spent word n) =
    spent_ends file m budget cells stack r i ws ok (no_return file m budget cells stack r i ws ok parsed word n) none_left
settled_over file parsed m budget cells stack r i ws ok depth none_left (settles_result d word five) =
    (depth ∙ d, at_return file parsed m cells stack r i ws ok word five)

module _ (file : List ℕ) (m : Limits) (budget : ℕ) (said : Outcome) (cells stack : List ℕ) (r : Registers) (i : ℕ) where
  -- the result on top of the stack
  with_result : (ws : List Frame) → length ws ≡ 0 → Standing file m cells stack r i ws
      → said ≡ answers_on (program_in file) m budget cells stack r i ws → current (program_in file) (place r.function i) ≡ Some Return
      → Answers file budget said cells stack r i ends.Result
  with_result [] e ok same cur = (
    result_deep file m cells stack r i ok cur,
    result_short file m cells stack r i ok cur,
    same ∙ ended_on (program_in file) (tables m) r.left (budget - r.left) (state_in (program_in file) cells stack r i [])
        (result_ends file m cells stack r i ok cur),
  )
  with_result (w ∷ ws) e ok same cur = absurd (omega (arith, e))

  pub answered : (ws : List Frame) → Standing file m cells stack r i ws
      → said ≡ answers_on (program_in file) m budget cells stack r i ws → (end : End) → Over file m budget cells stack r i ws end
      → Answers file budget said cells stack r i end
  answered ws ok same ends.Result (alone, cur) = with_result ws alone ok same cur
  answered ws ok same ends.Stops (left, cur) = (left, same ∙ stop_ends file m budget cells stack r i ws ok cur left)
  answered ws ok same ends.Spent refused = same ∙ refused
  answered ws ok same (ends.OutOf table) refused = same ∙ refused
