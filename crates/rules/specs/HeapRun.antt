-- The run over heap cells, under a step budget and tables of given lengths.
use Rattle.std.specs.Prelude.{List, [], ◌∷◌, ℕ, zero, suc, length, Option, None, Some}
use Rattle.rules.specs.Base.{refusal, Tried, found, refused, ◌>>=◌, or_refuse}
use Rattle.rules.specs.Program.{Program}
use Rattle.rules.specs.Machine.{◌>>=◌ as ◌>>=ᵒ◌, current, returned}
use Rattle.rules.specs.Heap.{Heap, HeapFrame, HeapState, value_of, state_of, place_of, heap_step, heap_start}
use Rattle.rules.specs.Prefix.{written}
use Rattle.rules.specs.Run.{Tables, Ending, finished, aborted, refused_with, Outcome, answer, fits, refusal_at, loaded}

module _ (s : Program) where
  -- a reference to the result, where the only frame stands at a return
  unfoldable pub result_on : List HeapFrame → Option ℕ
  result_on [] = None
  result_on (fr ∷ []) = current s (place_of fr) >>=ᵒ (λ ins. returned s ins fr.stack)
  result_on (fr ∷ waiting ∷ others) = None

  -- how a state ends the run, if it does
  unfoldable pub end_on : Heap → List HeapFrame → Option (Ending (List ℕ))
  end_on heap [] = Some aborted
  end_on heap (fr ∷ others) = result_on (fr ∷ others) >>=ᵒ (λ k. Some (finished (written (value_of heap k))))

  -- a step where the tables have room for the state after it: its cells are those of the heap
  unfoldable pub step_on_within : Tables → Heap → List HeapFrame → Tried HeapState
  step_on_within m heap [] = refused (refusal 0 0 0)
  step_on_within m heap (fr ∷ others) = do
    next ← or_refuse (heap_step s (record { heap = heap; frames = fr ∷ others })) (refusal 0 fr.function fr.instruction)
    _ ← fits m (state_of next) (length next.heap) fr.function fr.instruction
    found next

  -- with so many steps left of the budget, from a state that so many steps led to
  unfoldable pub continued_on : Tables → ℕ → ℕ → HeapState → Outcome
  continued_on m zero steps h =
      elim (end_on h.heap h.frames) [
        | Some e ↦ answer e steps
        | None ↦ answer (refused_with (refusal_at 14 (state_of h))) steps
      ]
  continued_on m (suc left) steps h =
      elim (end_on h.heap h.frames) [
        | Some e ↦ answer e steps
        | None ↦ elim (step_on_within m h.heap h.frames) [
          | found next ↦ continued_on m left (suc steps) next
          | refused r ↦ answer (refused_with r) steps
        ]
      ]

  unfoldable pub started_on : Tables → ℕ → ℕ → List ℕ → Outcome
  started_on m budget entry bytes =
      elim (loaded s m entry bytes) [
        | found st ↦ continued_on m budget 0 (heap_start s entry bytes)
        | refused r ↦ answer (refused_with r) 0
      ]
