-- Every state that an accepted program reaches is safe: the states of the tally promise.
use mathlib.Core.Path.{◌≡◌, refl, sym, ◌∙◌}
use mathlib.Core.List.{List, ◌∷◌}
use Rattle.std.specs.Prelude.{Option, None, Some}
use Prim.Native.Nat.{ℕ, ◌≤◌}
use Rattle.rules.specs.declared.records.Instruction.{Instruction}
use Rattle.rules.specs.Program.{Function, Program, function}
use Rattle.rules.specs.Shapes.{Shape, shape_at}
use Rattle.rules.specs.Values.{size, sizes, Has, Typed, bound_at}
use Rattle.rules.specs.Machine.{Value, Frame, State, start, current, after, result_of}
use Rattle.rules.specs.Promise.{worked_out, Kept, Safe}
use Rattle.rules.specs.Facts.{ProgressFact}
use Rattle.rules.proofs.ListLaws.{some_inj, all_map, all2_length}
use Rattle.rules.proofs.FormLaws.{under_bound}
use Rattle.rules.proofs.Progress as progress
use Rattle.rules.proofs.Progress.{Done, Inv, running, bottom, GoesOn, goes, lives, waiting, every_frame, result_given}
use Rattle.rules.proofs.TypedSound.{TypedFn, entered_typed, GoodTyped, GivesTyped, does_typed}
use Rattle.rules.proofs.Sound.{SizedFn, within, entered_sized, GoodSized, GivesSized, does_sized}
use Rattle.rules.proofs.Accepted.{Passed, light, types_stand, types_accepted, sizes_accepted, types_low}

abbrev shapes_at : Program → Option Function → ℕ → ℕ → Option Shape
shapes_at s None n i = None
shapes_at s (Some f) n i = shape_at s n f i

-- from an entry function with arguments of the declared types
module _ {bytes : List ℕ} {s : Program} (P : Passed bytes s) (n : ℕ) (f : Function) (at_f : function s n ≡ Some f) (us : List Value)
    (typed : Typed s us f.parameters) where
  abbrev pub limit : ℕ
  limit = bound_at f.bound (sizes s us)

  abbrev WithinBound : ℕ → Type 0
  WithinBound m = m ≤ limit

  abbrev ty : ℕ → ℕ → Option (List ℕ)
  ty g = worked_out s (function s g) g

  abbrev sh : ℕ → ℕ → Option Shape
  sh g = shapes_at s (function s g) g

  pub typed_fn : (g : ℕ) (G : Function) → function s g ≡ Some G → TypedFn s g G (ty g)
  typed_fn g G e = rw e (types_accepted P g G e)

  pub sized_fn : (g : ℕ) (G : Function) → function s g ≡ Some G → SizedFn s g G (sh g)
  sized_fn g G e = rw e (sizes_accepted P g G e)

  abbrev Good : Frame → List Value → Type 0
  Good fr vs = GoodSized s ty typed_fn sh sized_fn (light P) WithinBound fr vs

  abbrev pub Gives : ℕ → List Value → Value → Type 0
  Gives g vs v = GivesSized s ty typed_fn sh sized_fn (light P) WithinBound g vs v

  pub does : (fr : Frame) (vs : List Value) → Good fr vs → (ins : Instruction) × (current s fr ≡ Some ins) × Done s Good Gives ins fr vs
  does = does_sized s ty typed_fn sh sized_fn (light P) WithinBound

  abbrev pub Invariant : State → Type 0
  Invariant st = Inv s Good Gives does n us st

  abbrev pub Going : State → Type 0
  Going st = GoesOn s Good Gives does n us st

  pub begins : Invariant (start n us)
  begins =
      running (
        entered_typed s ty typed_fn n f at_f us typed,
        entered_sized s ty typed_fn sh sized_fn (light P) WithinBound n f at_f us (all2_length typed) (λ m u. under_bound (sizes s us) m u),
      ) (bottom refl refl)

  pub going : (fr : Frame) (frs : List Frame) → Invariant (fr ∷ frs) → Going (fr ∷ frs)
  going fr frs (running {us = vs} k ch) = goes s Good Gives does n us fr vs frs k ch

  pub kept_after : (k : ℕ) (st last : State) → Invariant st → after s k st ≡ Some last → Invariant last
  kept_after = progress.kept_after s Good Gives does n us

  -- a result is of the function's result type, and within the limit
  pub given : (v : Value) → Gives n us v → Has s v f.result × (size s v ≤ limit)
  given v g =
      let same : g.0 ≡ f = some_inj (sym g.1 ∙ at_f) in
      (rw same at g.2, under_bound (sizes s us) (size s v) (rw same at g.3))

  pub result_kept : (st : State) (v : Value) → Invariant st → result_of s st ≡ Some v → Has s v f.result × (size s v ≤ limit)
  result_kept st v h e = given v (result_given s Good Gives does n us st v h e)

  frame_kept : (fr : Frame) (vs : List Value) → Good fr vs → Kept s limit fr
  frame_kept fr vs (t, k) = record {
    types = t.ts;
    worked_out_lem = t.types_at_lem;
    height = all2_length t.typed;
    low = types_low P fr.function t.f t.at_f fr.instruction t.ts (rw t.at_f at t.types_at_lem);
    typed = t.typed;
    small = all_map (λ v u. k.limited (size s v) u) (within s ty typed_fn sh sized_fn (light P) WithinBound k);
  }

  safe : (st : State) → Invariant st → Safe s limit st
  safe st h = record {
    lives = lives s Good Gives does n us st h;
    frames = every_frame s Good Gives does n us frame_kept st h;
    calls = waiting s Good Gives does n us st h;
  }

-- every state after any number of steps is safe
pub states_safe : {file : List ℕ} {s : Program} → Passed file s → (n : ℕ) (f : Function) → function s n ≡ Some f → (us : List Value)
    → Typed s us f.parameters
    → (k : ℕ) (st : State) → after s k (start n us) ≡ Some st → Safe s (bound_at f.bound (sizes s us)) st
states_safe P n f at_f us typed k st r =
    safe P n f at_f us typed st (kept_after P n f at_f us typed k (start n us) st (begins P n f at_f us typed) r)

---- Types alone

pub progress_fact : ProgressFact
progress_fact bytes s reads flow types n f at_f us typed k st r = (
  lives s Good' Gives' moves n us st reached,
  waiting s Good' Gives' moves n us st reached,
)
  where
    table : ℕ → ℕ → Option (List ℕ)
    table g = worked_out s (function s g) g

    stands : (g : ℕ) (G : Function) → function s g ≡ Some G → TypedFn s g G (table g)
    stands g G e = rw e (types_stand bytes reads flow types g G e)

    Good' : Frame → List Value → Type 0
    Good' fr vs = GoodTyped s table stands fr vs

    Gives' : ℕ → List Value → Value → Type 0
    Gives' g vs v = GivesTyped s table stands g vs v

    moves : (fr : Frame) (vs : List Value) → Good' fr vs → (ins : Instruction) × (current s fr ≡ Some ins) × Done s Good' Gives' ins fr vs
    moves fr vs h = does_typed s table stands fr vs h

    reached : Inv s Good' Gives' moves n us st
    reached =
        progress.kept_after s Good' Gives' moves n us k (start n us) st
        (running (entered_typed s table stands n f at_f us typed) (bottom refl refl)) r
