-- Laws of the state that registers and tables stand for.
use Prim.Native.Nat.{ℕ, zero, suc, ◌+◌, ◌-◌, ◌≤◌, ◌<◌}
use mathlib.Core.Path.{◌≡◌, refl, sym, ap, ap₂, ◌∙◌, subst}
use mathlib.Core.Logic.{⊎_elim}
use native.Mathlib.Nat.{eq-or-lt_of_le}
use mathlib.Core.List.{List, [], ◌∷◌, ◌++◌, map}
use Rattle.std.specs.Prelude.{Option, None, Some}
use native.Mathlib.Omega.{arith}
use lib.ListN.{length, get_or}
use Rattle.rules.specs.Heap.{Heap, HeapFrame, HeapState, heap_state, frame_of, state_of, place_of, heap_step}
use Rattle.rules.specs.HeapRun.{end_on}
use Rattle.rules.specs.Machine.{Frame as Framed, State, current, step, after, result_of}
use Rattle.rules.specs.Program.{Program, function}
use Rattle.rules.specs.Records.{program_in}
use Rattle.rules.specs.Run.{end_of}
use Rattle.rules.specs.declared.records.Instruction.{Instruction}
use Rattle.rules.proofs.HeapLaws.{heap_step_lem}
use Rattle.rules.proofs.HeapRun.{end_alike}
use Rattle.rules.proofs.ListLaws.{none_some, at_less}
use Rattle.rules.proofs.MachineLaws.{bind_some}
use Rattle.rules.proofs.MapLaws.{option_map}
use Rattle.store.specs.Cells.{refs, RefsPut}
use Rattle.store.specs.declared.frames.Frame.{Frame}
use Rattle.store.specs.declared.limits.Limits.{Limits}
use Rattle.fetch.specs.Arities.{place}
use Rattle.store.proofs.RefLaws.{length_refs, refs_same, put_on}
use Rattle.steps.specs.Stands.{waiting_on, state_in, Linked, SoundFrom, Standing}
use Rattle.steps.specs.declared.state.Registers.{Registers}
use Rattle.steps.proofs.ContinueLaws.{heights_on, step_there}

module _ (s : Program) where
  -- waiting frames are as they were where the stack below the top frame is
  pub waiting_same : (stack stack' : List ℕ) (ws : List Frame) (e g : ℕ) → Linked s ws e g
      → ((j : ℕ) → j < e → get_or stack' j 0 ≡ get_or stack j 0) → waiting_on stack' ws e ≡ waiting_on stack ws e
  unfolding waiting_on Linked
  waiting_same stack stack' [] e g l h = refl
  waiting_same stack stack' (w ∷ ws) e g l h =
      ap₂ (λ (x : List ℕ) (y : List HeapFrame). record { function = w.function; instruction = w.instruction; stack = x } ∷ y)
      (refs_same stack' stack (e - w.height) (e - w.height) w.height (λ j k. h (e - w.height + j) (omega (arith, l.0))))
      (waiting_same stack stack' ws (e - w.height) w.function l.4 (λ j k. h j (omega arith)))

  pub waiting_heights : (stack : List ℕ) (ws : List Frame) (e g : ℕ) → Linked s ws e g → heights_on (waiting_on stack ws e) ≡ e
  unfolding waiting_on Linked heights_on
  waiting_heights stack [] e g l = sym l
  waiting_heights stack (w ∷ ws) e g l = omega (
    arith,
    length_refs stack (e - w.height) w.height,
    waiting_heights stack ws (e - w.height) w.function l.4,
    l.0,
  )

pub waiting_length : (stack : List ℕ) (ws : List Frame) (e : ℕ) → length (waiting_on stack ws e) ≡ length ws
unfolding waiting_on
waiting_length stack [] e = refl
waiting_length stack (w ∷ ws) e = ap suc (waiting_length stack ws (e - w.height))

---- Soundness

after_next : (s : Program) (k : ℕ) (st : State) {a : State} → step s st ≡ Some a → after s (suc k) st ≡ after s k a
unfolding after
after_next s k st e = rw e

pub after_none : (s : Program) (st : State) → after s 0 st ≡ Some st
unfolding after
after_none s st = refl

sound_later : (s : Program) (st : State) {a : State} → step s st ≡ Some a → SoundFrom s st → SoundFrom s a
sound_later s st e x = record {
  safe = λ k r q. x.safe (suc k) r (after_next s k st e ∙ q);
  bounded = λ k r v q. x.bounded (suc k) r v (after_next s k st e ∙ q);
}

-- a frame of a sound state has an instruction
pub sound_current : (s : Program) (others : State) (fr : Framed) → SoundFrom s (fr ∷ others) → (ins : Instruction)
    × (current s fr ≡ Some ins)
unfolding result_of end_of step
sound_current s others fr ok = go (current s fr) refl
  where
    ends : (os : State) → current s fr ≡ None → end_of s (fr ∷ os) ≡ None
    ends [] e = let q : result_of s (fr ∷ []) ≡ None = rw e in rw (q, end_of)
    ends (w ∷ os) e = refl

    stuck : current s fr ≡ None → step s (fr ∷ others) ≡ None
    stuck e = rw e

    go : (o : Option Instruction) → current s fr ≡ o → (ins : Instruction) × (current s fr ≡ Some ins)
    go None e = let x = ok.safe 0 (fr ∷ others) (after_none s (fr ∷ others)) (ends others e) in none_some (sym (stuck e) ∙ x.1)
    go (Some ins) e = (ins, e)

module _ (file : List ℕ) (m : Limits) (cells stack : List ℕ) (r : Registers) (i : ℕ) (ws : List Frame)
    (ok : Standing file m cells stack r i ws) where
  abbrev s : Program
  s = program_in file

  abbrev here : HeapState
  here = state_in (program_in file) cells stack r i ws

  -- a state that does not end the run has a step
  pub lives : end_on (program_in file) here.heap here.frames ≡ None → (next : HeapState) × (heap_step (program_in file) here ≡ Some next)
  lives e =
      let x = ok.sound.safe 0 (state_of here) (after_none s (state_of here)) (end_alike s here.heap here.frames ∙ e) in
      let y = step_there s ok.few here ok.valid x.1 in
      (y.0, y.1)

  -- what is behind a step is sound
  pub sound_next : (next : HeapState) → heap_step (program_in file) here ≡ Some next → SoundFrom (program_in file) (state_of next)
  sound_next next e = sound_later s (state_of here) (heap_step_lem s ok.few here ok.valid ∙ ap (option_map state_of) e) ok.sound

  -- where the next state has one frame or more, its top frame has an instruction
  pub current_next : {heap : Heap} {fr : HeapFrame} {others : List HeapFrame} → heap_step (program_in file) here ≡ Some
      (heap_state heap (fr ∷ others))
      → (ins : Instruction) × (current (program_in file) (place_of fr) ≡ Some ins)
  unfolding current
  current_next {heap} {fr} {others} e =
      sound_current s (map (frame_of heap) others) (frame_of heap fr) (sound_next (heap_state heap (fr ∷ others)) e)

-- references put on the top frame's stack: what it holds then, and the frames below
pub put_state : (s : Program) (ws : List Frame) (base g to : ℕ) (l stack stack' : List ℕ) → Linked s ws base g → RefsPut to l stack stack'
    → base ≤ to
    → (refs stack' base (to + length l - base) ≡ refs stack base (to - base) ++ l) × (waiting_on stack' ws base ≡ waiting_on stack ws base)
put_state s ws base g to l stack stack' linked p low =
    let e : to + length l - base ≡ to - base + length l = omega arith in
    (rw e (put_on to l stack stack' p base low), waiting_same s stack stack' ws base g linked (λ j k. p.low j (omega arith)))

-- what holds below a number and at it
pub below_or_last : (P : ℕ → Type 0) (n : ℕ) → ((k : ℕ) → k < n → P k) → P n → (k : ℕ) → k < n + 1 → P k
below_or_last P n below last k l = let b : k ≤ n = omega arith in ⊎_elim (λ e. subst P (sym e) last) (λ l'. below k l') (eq-or-lt_of_le b)

-- a top frame with another stack, above the waiting frames
pub top_heights : (s : Program) (stack : List ℕ) (ws : List Frame) (base g : ℕ) → Linked s ws base g → (f i : ℕ) (l : List ℕ) (n : ℕ)
    → length l + base ≡ n
    → heights_on (record { function = f; instruction = i; stack = l } ∷ waiting_on stack ws base) ≡ n
unfolding heights_on
top_heights s stack ws base g linked f i l n e = omega (arith, e, waiting_heights s stack ws base g linked)

-- instructions are counted from 1
pub current_first : (s : Program) (f i : ℕ) {ins : Instruction} → current s (place f i) ≡ Some ins → 0 < i
unfolding current
current_first s f zero e = let b = bind_some (function s f) _ e in none_some b.2
current_first s f (suc i) e = omega arith

pub current_known : (s : Program) (f i : ℕ) {ins : Instruction} → current s (place f i) ≡ Some ins → f < length s.functions
unfolding current
current_known s f i e = let b = bind_some (function s f) _ e in at_less s.functions f b.1
