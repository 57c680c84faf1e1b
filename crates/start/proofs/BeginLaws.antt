-- How a run begins: refused before its start, or with room for it.
use mathlib.Core.Path.{◌≡◌, ap, ◌∙◌}
use mathlib.Core.List.{List, [], ◌∷◌}
use mathlib.Core.Bool.{false}
use Prim.Native.Nat.{ℕ, suc, ◌+◌, ◌≤◌, ◌<◌}
use native.Mathlib.Omega.{arith}
use lib.ListN.{length, get_or}
use borrow.Author.Tests.{le-leb, lt-leb}
use Rattle.rules.specs.declared.answers.Answer.{Answer}
use Rattle.rules.specs.declared.answers.Reason.{Reason}
use Rattle.rules.specs.declared.answers.Ending.{Ending}
use Rattle.rules.specs.declared.answers.Ending.TheVariants as ends
use Rattle.rules.specs.Base.{refusal, found, refused, passed}
use Rattle.rules.specs.Lists.{l[], ◌l∷◌, Bytes}
use Rattle.rules.specs.Program.{Function, Program}
use Rattle.rules.specs.Machine.{Value, start}
use Rattle.rules.specs.Prefix.{arguments_right, values}
use Rattle.rules.specs.Check.{checked}
use Rattle.rules.specs.Run.{Lent, Tables, usable, refused_with, answer, heights, fits, loaded, with_arguments, delivered, run}
use Rattle.rules.specs.Memory.{result_into, begun, table_after}
use Rattle.rules.specs.Answers.{refusal_of}
use Rattle.rules.proofs.ListLaws.{all2_length}
use Rattle.rules.proofs.PrefixLaws.{arguments_typed}
use Rattle.rules.proofs.RunLaws.{started_refused, deliver_refused, run_refused, run_checked}
use Rattle.rules.proofs.MemoryLaws.{begun_not_checked, begun_not_loaded}
use Rattle.store.specs.declared.frames.Frame.{Frame}
use Rattle.start.specs.Runs.{lent_of, Runs}

-- an answer
abbrev pub said : Ending → ℕ → Answer
said e n = record { ending = e; steps = n }

-- what every slice of bytes says
pub bytes_all_lem : (l : List ℕ) → ((i : ℕ) → get_or l i 0 < 256) → Bytes l
bytes_all_lem [] h = l[]
bytes_all_lem (x ∷ l) h = h 0 l∷ bytes_all_lem l (λ i. h (suc i))

-- as many values as parameters
pub values_length : (s : Program) (f : Function) (bytes : List ℕ) → arguments_right s f bytes ≡ passed
    → length (values s bytes) ≡ length f.parameters
values_length s f bytes e = all2_length (arguments_typed s f bytes e).1

---- Room for the start

module _ (t : Tables) (entry : ℕ) (vs : List Value) (n : ℕ) where
  pub no_frame_lem : t.frames ≡ 0 → fits t (start entry vs) n entry 1 ≡ refused (refusal 17 entry 1)
  unfolding fits
  no_frame_lem h = rw (lt-leb 1 t.frames (omega arith))

  module _ (frame : 0 < t.frames) where
    pub no_slots : t.stack < length vs → fits t (start entry vs) n entry 1 ≡ refused (refusal 16 entry 1)
    unfolding fits heights
    no_slots h = rw (le-leb 1 t.frames frame, lt-leb (length vs + 0) t.stack (omega arith))

    module _ (slots : length vs ≤ t.stack) where
      pub no_cells : t.cells < n → fits t (start entry vs) n entry 1 ≡ refused (refusal 15 entry 1)
      unfolding fits heights
      no_cells h = rw (le-leb 1 t.frames frame, le-leb (length vs + 0) t.stack (omega arith), lt-leb n t.cells h)

      pub all_fit : n ≤ t.cells → fits t (start entry vs) n entry 1 ≡ passed
      unfolding fits heights
      all_fit h = rw (le-leb 1 t.frames frame, le-leb (length vs + 0) t.stack (omega arith), le-leb n t.cells h)

---- The whole run

module _ (file : List ℕ) (entry : ℕ) (arguments : List ℕ) (budget : ℕ) (cells stack : List ℕ) (frames : List Frame) (out : List ℕ) where
  abbrev lent : Lent
  lent = lent_of cells stack frames out

  not_begun : (reason : Reason) → run file entry arguments budget lent ≡ answer (refused_with (refusal_of reason)) 0
      → begun file entry arguments lent ≡ false
      → Runs file entry arguments budget cells stack frames out cells stack frames out (said (ends.Refused reason) 0)
  unfolding table_after result_into
  not_begun reason e b = record { says = rw e; of_cells = rw b; of_stack = rw b; of_frames = rw b; of_output = rw e }

  pub not_checked : (reason : Reason) → checked file ≡ refused (refusal_of reason)
      → Runs file entry arguments budget cells stack frames out cells stack frames out (said (ends.Refused reason) 0)
  not_checked reason e =
      not_begun reason (run_refused with_arguments file entry arguments budget lent e) (begun_not_checked file entry arguments lent e)

  module _ {s : Program} (e : checked file ≡ found s) where
    pub not_loaded : (reason : Reason) → loaded s (usable lent) entry arguments ≡ refused (refusal_of reason)
        → Runs file entry arguments budget cells stack frames out cells stack frames out (said (ends.Refused reason) 0)
    not_loaded reason w =
        not_begun reason
        (run_checked with_arguments file entry arguments budget lent e
        ∙ ap (delivered (length out)) (started_refused with_arguments s (usable lent) budget entry arguments w)
        ∙ deliver_refused (length out) 0 (refusal_of reason))
        (begun_not_loaded file entry arguments lent e w)
