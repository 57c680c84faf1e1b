-- Frames that keep what is known of them: if each instruction does, every state that is reached has the result, has stopped or has a next
-- step. What is known of a frame, and of the value that a function gives, is left open: types alone, or types and sizes.
use mathlib.Core.Path.{◌≡◌, refl, sym, ◌∙◌}
use mathlib.Core.List.{List, [], ◌∷◌, ◌++◌}
use Rattle.std.specs.Prelude.{Option, None, Some}
use Prim.Native.Nat.{ℕ, zero, suc}
use lib.ListN.{length}
use Rattle.rules.specs.declared.records.Instruction.{Instruction}
use Rattle.rules.specs.declared.records.Instruction.TheVariants.{Call, Return, Stop}
use Rattle.rules.specs.Lists.{All, l[], ◌l∷◌}
use Rattle.rules.specs.Program.{Function, Program, function}
use Rattle.rules.specs.Stacks.{split, push}
use Rattle.rules.specs.Machine.{◌>>=◌, Value, Frame, State, start, onward, frame_at, top, current, answered, execute, step, after}
use Rattle.rules.specs.Machine.{returned, result_of}
use Rattle.rules.specs.Promise.{Lives, given_up, has_result, goes_on_lem, Waiting}
use Rattle.rules.proofs.ListLaws.{none_some, some_inj}
use Rattle.rules.proofs.MachineLaws.{result_stops}

-- `Good fr us`: of a frame whose function was called with us. `Gives g us v`: of a value that function g gives, called with us
module _ (s : Program) (Good : Frame → List Value → Type 0) (Gives : ℕ → List Value → Value → Type 0) where
  -- what the instruction of the top frame does: the frame stays, calls, returns or stops
  pub data Done (ins : Instruction) (fr : Frame) (us : List Value) : Type 0 where
    stays : (j : ℕ) (stack : List Value) → ((others : List Frame) → execute s ins fr others ≡ Some (frame_at j fr stack ∷ others))
        → Good (frame_at j fr stack) us → Done ins fr us
    calls : (g : ℕ) (vs : List Value) (G : Function) (rest : List Value) → ins ≡ Call g → function s g ≡ Some G
        → split (length G.parameters) fr.stack ≡ Some (rest, vs) → Good (record { function = g; instruction = 1; stack = vs }) vs
        → ((v : Value) → Gives g vs v → Good (onward fr (push rest v)) us) → Done ins fr us
    returns : (v : Value) → ins ≡ Return → top fr.stack ≡ Some v → Gives fr.function us v → Done ins fr us
    stops : ins ≡ Stop → Done ins fr us

  module _ (does : (fr : Frame) (us : List Value) → Good fr us → (ins : Instruction) × (current s fr ≡ Some ins) × Done ins fr us)
      (entry : ℕ) (begin : List Value) where
    -- the frames below one of function g called with vs: each waits at its call
    pub data Chain : ℕ → List Value → List Frame → Type 0 where
      bottom : {g : ℕ} {vs : List Value} → g ≡ entry → vs ≡ begin → Chain g vs []
      waits : {g : ℕ} {vs : List Value} {fr : Frame} {us : List Value} {others : List Frame} (G : Function) (rest : List Value)
          → function s g ≡ Some G → current s fr ≡ Some (Call g) → split (length G.parameters) fr.stack ≡ Some (rest, vs)
          → Good fr us → ((v : Value) → Gives g vs v → Good (onward fr (push rest v)) us)
          → Chain fr.function us others → Chain g vs (fr ∷ others)

    pub data Inv : State → Type 0 where
      over : Inv []
      running : {fr : Frame} {us : List Value} {others : List Frame} → Good fr us → Chain fr.function us others → Inv (fr ∷ others)

    -- a state steps to a good one, or has a result that is good
    pub data GoesOn (st : State) : Type 0 where
      stepped : (next : State) → step s st ≡ Some next → Inv next → GoesOn st
      resulted : (v : Value) → result_of s st ≡ Some v → step s st ≡ None → Gives entry begin v → GoesOn st

    answers : {fr : Frame} {us : List Value} {others : List Frame} (v : Value) → current s fr ≡ Some Return → top fr.stack ≡ Some v
        → Gives fr.function us v → Chain fr.function us others → GoesOn (fr ∷ others)
    unfolding step result_of returned execute answered
    answers v ec et h (bottom e e') = resulted v (rw (ec, et)) (rw ec) (rw (← e, ← e') h)
    answers v ec et h (waits {fr = w} {others = others} G rest e ew cut k again ch) =
        stepped (onward w (push rest v) ∷ others) (rw (ec, et, ew, e, cut)) (running (again v h) ch)

    pub goes : (fr : Frame) (us : List Value) (others : List Frame) → Good fr us → Chain fr.function us others → GoesOn (fr ∷ others)
    unfolding step execute
    goes fr us others k ch = let d = does fr us k in one d.0 d.1 d.2
      where
        one : (ins : Instruction) → current s fr ≡ Some ins → Done ins fr us → GoesOn (fr ∷ others)
        one ins ec (stays j stack e k') = stepped (frame_at j fr stack ∷ others) (rw ec (e others)) (running k' ch)
        one ins ec (calls g vs G rest q eg cut k' again) =
            stepped (start g vs ++ fr ∷ others) (rw (ec, q, eg, cut)) (running k' (waits G rest eg (rw q at ec) cut k again ch))
        one ins ec (returns v q et h) = answers v (rw q at ec) et h ch
        one ins ec (stops q) = stepped [] (rw (ec, q)) over

    pub going : (st : State) → Inv st → (st ≡ [] → ⊥) → GoesOn st
    going [] over h = absurd (h refl)
    going (fr ∷ others) (running {us = us} k ch) h = goes fr us others k ch

    kept : (st next : State) → Inv st → step s st ≡ Some next → Inv next
    unfolding step
    kept [] next h e = none_some e
    kept (fr ∷ others) next (running {us = us} k ch) e = one (goes fr us others k ch)
      where
        one : GoesOn (fr ∷ others) → Inv next
        one (stepped st' e' h') = rw (some_inj (sym e' ∙ e)) at h'
        one (resulted v e' w o) = absurd (none_some (sym w ∙ e))

    pub kept_after : (k : ℕ) (st last : State) → Inv st → after s k st ≡ Some last → Inv last
    unfolding after
    kept_after zero st last h e = rw (some_inj e) at h
    kept_after (suc k) st last h e = one (step s st) refl e (λ next. kept_after k next last)
      where
        one : (o : Option State) → step s st ≡ o → (o >>= (λ next. after s k next)) ≡ Some last
            → ((next : State) → Inv next → after s k next ≡ Some last → Inv last) → Inv last
        one None w e ih = none_some e
        one (Some next) w e ih = ih next (kept st next h w) e

    -- a result is one that the entry function gives
    pub result_given : (st : State) (v : Value) → Inv st → result_of s st ≡ Some v → Gives entry begin v
    unfolding result_of
    result_given [] v h e = none_some e
    result_given (fr ∷ others) v (running {us = us} k ch) e = one (goes fr us others k ch)
      where
        one : GoesOn (fr ∷ others) → Gives entry begin v
        one (stepped next w h') = absurd (none_some (sym (result_stops s (fr ∷ others) e) ∙ w))
        one (resulted v' e' w o) = rw (some_inj (sym e' ∙ e)) at o

    -- a state lives, and each waiting frame stands at its call
    pub lives : (st : State) → Inv st → Lives s st
    lives [] over = given_up refl
    lives (fr ∷ others) (running {us = us} k ch) = one (goes fr us others k ch)
      where
        one : GoesOn (fr ∷ others) → Lives s (fr ∷ others)
        one (stepped next e h) = goes_on_lem next e
        one (resulted v e w o) = has_result v e

    chain_waits : (fr : Frame) {vs : List Value} {others : List Frame} → Chain fr.function vs others → Waiting s (fr ∷ others)
    chain_waits fr (bottom e e') = tt
    chain_waits fr (waits {fr = below} G rest e ec cut k again ch) = (ec, chain_waits below ch)

    pub waiting : (st : State) → Inv st → Waiting s st
    waiting [] over = tt
    waiting (fr ∷ others) (running k ch) = chain_waits fr ch

    -- what is known of a good frame is known of every frame
    module _ {P : Frame → Type 0} (tells : (fr : Frame) (us : List Value) → Good fr us → P fr) where
      chain_all : {g : ℕ} {vs : List Value} {others : List Frame} → Chain g vs others → All P others
      chain_all (bottom e e') = l[]
      chain_all (waits {fr = fr} {us = us} G rest e ec cut k again ch) = tells fr us k l∷ chain_all ch

      pub every_frame : (st : State) → Inv st → All P st
      every_frame [] over = l[]
      every_frame (fr ∷ others) (running {us = us} k ch) = tells fr us k l∷ chain_all ch
