-- From a step of the machine over heap cells to what a step function ensures; one law for all operations.
use Prim.Native.Nat.{ℕ, suc, ◌-◌, ◌≤◌, ◌<◌}
use mathlib.Core.Path.{◌≡◌, refl, ap, ◌∙◌, subst}
use mathlib.Core.List.{List}
use Rattle.std.specs.Prelude.{None, Some}
use native.Mathlib.Omega.{arith}
use native.Mathlib.Numerals.{add-one}
use lib.ListN.{length}
use Rattle.rules.specs.Heap.{HeapFrame, HeapState, heap_step}
use Rattle.rules.specs.HeapRun.{end_on, continued_on}
use Rattle.rules.specs.Program.{Program}
use Rattle.rules.specs.Records.{program_in}
use Rattle.rules.proofs.HeapGrowth.{heap_grows}
use Rattle.store.specs.Limits.{tables}
use Rattle.store.specs.declared.frames.Frame.{Frame}
use Rattle.store.specs.declared.limits.Limits.{Limits}
use Rattle.store.proofs.RefLaws.{length_refs}
use Rattle.store.proofs.CellLaws.{heap_length}
use Rattle.rules.specs.Prefix.{arity}
use Rattle.fetch.specs.Places.{StandsAt, Behind}
use Rattle.fetch.proofs.PlaceLaws.{behind_stands}
use Rattle.steps.specs.Stands.{waiting_on, top_on, state_in, Laid, Standing, LeadsTo}
use Rattle.steps.specs.Steps.{moved, counted, Refuses}
use Rattle.steps.specs.declared.state.Registers.{Registers}
use Rattle.steps.proofs.ContinueLaws.{heights_on, goes_on_lem, no_frames, no_stack_lem, no_cells}
use Rattle.steps.proofs.StandLaws.{waiting_heights, waiting_length, sound_next}

-- what a state that is in order takes of the stack
laid_heights : (file : List ℕ) (m : Limits) (cells stack : List ℕ) (r : Registers) (i : ℕ) (ws : List Frame)
    → Laid file m cells r i ws → heights_on (state_in (program_in file) cells stack r i ws).frames ≡ r.top
unfolding heights_on
laid_heights file m cells stack r i ws ok = omega (
  arith,
  length_refs stack r.base (r.top - r.base),
  waiting_heights (program_in file) stack ws r.base r.function ok.linked,
  ok.bottom,
)

module _ (file : List ℕ) (m : Limits) (budget : ℕ) (cells stack : List ℕ) (r : Registers) (i : ℕ) (ws : List Frame)
    (fits : r.left ≤ budget) (ok : Standing file m cells stack r i ws) where
  abbrev s : Program
  s = program_in file

  abbrev fr : HeapFrame
  fr = top_on stack r i

  abbrev others : List HeapFrame
  others = waiting_on stack ws r.base

  abbrev here : HeapState
  here = state_in (program_in file) cells stack r i ws

  -- the step leads to a state that other registers and tables stand for
  pub took : (cells' stack' : List ℕ) (t : Registers) (i' : ℕ) (ws' : List Frame) → end_on (program_in file) here.heap here.frames ≡
      None
      → heap_step (program_in file) here ≡ Some (state_in (program_in file) cells' stack' t i' ws') → Laid file m cells' t i' ws'
      → r.left ≡ suc t.left → LeadsTo file m budget cells stack r i ws cells' stack' t i' ws'
  took cells' stack' t i' ws' ends e laid one = record {
    standing = record {
      few = ok.few;
      laid = laid;
      valid = (heap_grows s ok.few here next ok.valid e).valid;
      sound = sound_next file m cells stack r i ws ok next e;
    };
    fewer = omega arith;
    same =
        let later : suc (budget - r.left) ≡ budget - t.left = omega arith in
        ap (λ (k : ℕ). continued_on s (tables m) k (budget - r.left) here) one
        ∙ goes_on_lem s (tables m) t.left (budget - r.left) here.heap fr others next ends e
        (omega (arith, waiting_length stack' ws' t.base, laid.depth, laid.deep))
        (omega (arith, laid_heights file m cells' stack' t i' ws' laid, laid.places))
        (omega (arith, heap_length (arity s) cells' t.used, laid.taken))
        ∙ ap (λ (k : ℕ). continued_on s (tables m) t.left k next) later;
  }
    where
      next : HeapState
      next = state_in (program_in file) cells' stack' t i' ws'

  -- no step is taken
  pub same_place : LeadsTo file m budget cells stack r i ws cells stack r i ws
  same_place = record { standing = ok; fewer = omega arith; same = refl }

  ---- The tables refuse the state behind the step

  module _ (left : 0 < r.left) (next : HeapState) (ends : end_on (program_in file) here.heap here.frames ≡ None)
      (e : heap_step (program_in file) here ≡ Some next) where
    one : r.left ≡ suc (r.left - 1)
    one = omega arith

    from : continued_on (program_in file) (tables m) r.left (budget - r.left) here
        ≡ continued_on (program_in file) (tables m) (suc (r.left - 1)) (budget - r.left) here
    from = ap (λ (k : ℕ). continued_on s (tables m) k (budget - r.left) here) one

    pub refuses_frames : m.frames < length next.frames → Refuses file m budget cells stack r i ws 17
    refuses_frames f = from ∙ no_frames s (tables m) (r.left - 1) (budget - r.left) here.heap fr others next ends e f

    pub refuses_stack : length next.frames ≤ m.frames → m.stack < heights_on next.frames
        → Refuses file m budget cells stack r i ws 16
    refuses_stack f h = from ∙ no_stack_lem s (tables m) (r.left - 1) (budget - r.left) here.heap fr others next ends e f h

    pub refuses_cells : length next.frames ≤ m.frames → heights_on next.frames ≤ m.stack → m.cells < length next.heap
        → Refuses file m budget cells stack r i ws 15
    refuses_cells f h k = from ∙ no_cells s (tables m) (r.left - 1) (budget - r.left) here.heap fr others next ends e f h k

-- the top frame at another place of its code
pub moved_laid : (file : List ℕ) (m : Limits) (cells : List ℕ) (r : Registers) (i : ℕ) (ws : List Frame) → Laid file m cells r i ws
    → (at i' top : ℕ) → StandsAt file r.function i' at → at ≤ 40000 → r.base ≤ top → top ≤ m.stack
    → Laid file m cells (counted (moved r at top)) i' ws
moved_laid file m cells r i ws ok at i' top stands near low high = record {
  code = ok.code;
  code_near = ok.code_near;
  at = stands;
  at_near = near;
  known = ok.known;
  bottom = low;
  places = high;
  taken = ok.taken;
  linked = ok.linked;
  depth = ok.depth;
  deep = ok.deep;
}

-- the instruction behind it
pub next_stands : (file : List ℕ) (f i at next : ℕ) → StandsAt file f i at → Behind at 1 next → StandsAt file f (suc i) next
next_stands file f i at next s b = subst (λ (k : ℕ). StandsAt file f k next) (add-one i) (behind_stands file f i at 1 next s b)
