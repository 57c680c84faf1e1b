-- A run that has begun, from its start to what it says and leaves, and what soundness says of the start.
use mathlib.Core.Path.{◌≡◌, sym, ap, ◌∙◌}
use mathlib.Core.List.{List, [], ◌∷◌}
use Rattle.std.specs.Prelude.{None, Some}
use mathlib.Core.Bool.{true}
use Prim.Native.Nat.{ℕ, ◌*◌, ◌≤◌}
use lib.ListN.{length}
use Rattle.rules.specs.declared.answers.Answer.{Answer}
use Rattle.rules.specs.Base.{found, passed}
use Rattle.rules.specs.Lists.{Bytes}
use Rattle.rules.specs.Program.{Function, Program, function}
use Rattle.rules.specs.Machine.{Value, State, start, step, result_of}
use Rattle.rules.specs.Prefix.{arguments_right, values}
use Rattle.rules.specs.Check.{checked}
use Rattle.rules.specs.Heap.{heap_start}
use Rattle.rules.specs.HeapRun.{continued_on, started_on}
use Rattle.rules.specs.Run.{Lent, Tables, with_arguments, usable, Outcome, end_of, finished_with, loaded, started, delivered}
use Rattle.rules.specs.Memory.{table_after}
use Rattle.rules.specs.Promise.{Lives, given_up, has_result, goes_on_lem}
use Rattle.rules.proofs.ListLaws.{none_some}
use Rattle.rules.proofs.PrefixLaws.{arguments_typed}
use Rattle.rules.proofs.HeapRun.{heap_fact}
use Rattle.rules.proofs.RunLaws.{run_checked}
use Rattle.rules.proofs.MemoryLaws.{begun_loaded}
use Rattle.rules.proofs.Promise.{tally_promise}
use Rattle.rules.proofs.ResultLaws.{result_fact}
use Rattle.rules.proofs.WordsSmall.{few_constructors}
use Rattle.store.specs.Frames.{no_frame}
use Rattle.store.specs.declared.frames.Frame.{Frame}
use Rattle.steps.specs.Stands.{SoundFrom}
use Rattle.start.specs.Runs.{lent_of, Runs}
use Rattle.delivery.specs.Delivers.{Delivers}

-- from a start that fits the tables, the run over cells
started_on_lem : (s : Program) → length s.constructors ≤ 64 → (m : Tables) (budget entry : ℕ) (bytes : List ℕ) {st : State}
    → loaded s m entry bytes ≡ found st
    → started s m budget entry bytes ≡ continued_on s m budget 0 (heap_start s entry bytes)
unfolding started_on
started_on_lem s few m budget entry bytes e = sym (heap_fact s few m budget entry bytes) ∙ rw (e, started_on)

module _ (file : List ℕ) (entry : ℕ) (arguments : List ℕ) (budget : ℕ) (cells stack : List ℕ) (frames : List Frame) (out : List ℕ)
    {s : Program} (e : checked file ≡ found s) where
  abbrev lent : Lent
  lent = lent_of cells stack frames out

  pub has_begun : {st : State} {a : Outcome} {cells' stack' : List ℕ} {frames' : List Frame} {out' : List ℕ} {r : Answer}
      → loaded s (usable lent) entry arguments ≡ found st → continued_on s (usable lent) budget 0 (heap_start s entry arguments) ≡ a
      → Delivers a out out' r
      → cells' ≡ table_after true 0 (5 * (usable lent).cells) cells → stack' ≡ table_after true 0 (usable lent).stack stack
      → frames' ≡ table_after true no_frame (usable lent).frames frames
      → Runs file entry arguments budget cells stack frames out cells' stack' frames' out' r
  has_begun w c d ec es ef =
      let whole = run_checked with_arguments file entry arguments budget lent e
      ∙ ap (delivered (length out)) (started_on_lem s (few_constructors file s e) (usable lent) budget entry arguments w ∙ c) in
      let b = begun_loaded file entry arguments lent e w in
      record {
        says = d.says ∙ rw whole;
        of_cells = ec ∙ rw b;
        of_stack = es ∙ rw b;
        of_frames = ef ∙ rw b;
        of_output = d.left ∙ rw whole;
      }

---- What soundness says of the start

module _ (file : List ℕ) (s : Program) (small : Bytes file) (e : checked file ≡ found s) (entry : ℕ) (f : Function)
    (known : function s entry ≡ Some f) (bytes : List ℕ) (right : arguments_right s f bytes ≡ passed) where
  pub start_sound : SoundFrom s (start entry (values s bytes))
  unfolding end_of
  start_sound = record {
    safe =
        λ n reached r none_yet. one reached ((tally_promise file s e).states entry f known (values s bytes)
        (arguments_typed s f bytes right).1 n reached r).lives none_yet;
    bounded = λ n reached v r w. result_fact file s small e entry f known bytes right n reached v r w;
  }
    where
      ended : (st : State) (v : Value) → result_of s st ≡ Some v → end_of s st ≡ None → ⊥
      ended [] v w o = none_some (sym o)
      ended (fr ∷ frs) v w o = none_some (sym o ∙ ap finished_with w)

      one : (st : State) → Lives s st → end_of s st ≡ None → (next : State) × (step s st ≡ Some next)
      one st (given_up w) o = absurd (none_some (sym o ∙ ap (end_of s) w))
      one st (has_result v w) o = absurd (ended st v w o)
      one st (goes_on_lem next w) o = (next, w)
