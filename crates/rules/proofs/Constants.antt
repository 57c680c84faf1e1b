-- Constants take no cell: the run by today's rule next to the run by the rule before. Both go through the same states with the same frames
-- and stack, and never more cells are in use now than before; so they are short only where they pass the most that can be used now.
use mathlib.Core.Path.{◌≡◌, refl, sym, ap, ◌∙◌}
use mathlib.Core.List.{List, [], ◌∷◌}
use Rattle.std.specs.Prelude.{Option, None, Some}
use mathlib.Core.Logic.{◌⊎◌, inl, inr}
use Prim.Native.Nat.{ℕ, zero, suc, ◌+◌, ◌≤◌, ◌<◌}
use native.Mathlib.Omega.{arith}
use lib.ListN.{length}
use Rattle.rules.specs.declared.records.Instruction.{Instruction}
use Rattle.rules.specs.declared.records.Instruction.TheVariants.{Load, Build, Call, Branch, Return, Stop}
use Rattle.rules.specs.Base.{Refusal, refusal, Tried, found, refused, Check, passed}
use Rattle.rules.specs.Program.{Function, Program, function}
use Rattle.rules.specs.Machine.{State, start, current, step}
use Rattle.rules.specs.Check.{checked}
use Rattle.rules.specs.Prefix.{arguments_right, arity, values}
use Rattle.rules.specs.Run.{Lent, Tables, CellRule, every_one, with_arguments, usable_by, cells_taken_by, cells_loaded_by, Ending}
use Rattle.rules.specs.Run.{refused_with, Outcome, answer, fits, refusal_at, end_of, Point, step_within_by, continued_by, loaded_by}
use Rattle.rules.specs.Run.{started_by, delivered}
use Rattle.rules.specs.Memory.{result_into}
use Rattle.rules.specs.Promise.{takes_by, builds_by, Room, NoRoom, frames, stack, heap}
use Rattle.rules.specs.Constants.{Gives15, now_needs, before, now, ConstantsFact}
use Rattle.rules.proofs.RunLaws.{fits_found, fits_refused, step_within_lem, continued_ended, continued_spent, continued_short}
use Rattle.rules.proofs.RunLaws.{continued_on_lem, started_refused, started_loaded, load_no_entry, load_bad_arguments, load_no_room}
use Rattle.rules.proofs.RunLaws.{load_begins, refusal_delivered, run_refused, run_checked}
use Rattle.rules.proofs.Promise.{place_number}

---- The rule before is the base's: every argument byte and every build takes a cell

pub every_byte : (s : Program) (bytes : List ℕ) → cells_loaded_by every_one s bytes ≡ length bytes
unfolding cells_loaded_by
every_byte s [] = refl
every_byte s (c ∷ bytes) = omega (arith, every_byte s bytes)

pub every_build : (s : Program) (c : ℕ) → cells_taken_by every_one s (Some (Build c)) ≡ 1
unfolding cells_taken_by
every_build s c = refl

---- By any rule

-- where the machine has no step the tables are not asked
step_stuck : (rule : CellRule) (s : Program) (m : Tables) (st : State) (cells : ℕ) → step s st ≡ None
    → step_within_by rule s m st cells ≡ refused (refusal_at 0 st)
unfolding step_within_by refusal_at
step_stuck rule s m [] cells e = refl
step_stuck rule s m (fr ∷ others) cells e = rw e

-- the cells of no steps; and of k steps, where the run took one and more: those of the first and those of the steps behind it
builds_none : (rule : CellRule) (s : Program) (st : State) → builds_by rule s zero st ≡ 0
unfolding builds_by
builds_none rule s st = refl

builds_on : (rule : CellRule) (s : Program) (cells steps total k : ℕ) (st next : State) → step s st ≡ Some next → suc steps ≤ total
    → total ≡ k + steps → (k' : ℕ) × (total ≡ k' + suc steps)
    × (cells + builds_by rule s k st ≡ (cells + takes_by rule s st) + builds_by rule s k' next)
unfolding builds_by
builds_on rule s cells steps total zero st next e grown took = absurd (omega arith)
builds_on rule s cells steps total (suc k) st next e grown took = (k, omega arith, rw e (omega arith))

-- `now_needs` by what was loaded: the cells of a run that took so many steps
abbrev needed : CellRule → Program → List ℕ → ℕ → Tried State → ℕ
needed rule s bytes steps (found st) = cells_loaded_by rule s bytes + builds_by rule s steps st
needed rule s bytes steps (refused r) = 0

-- the tables are asked for a state: P is what comes where they have room, Q what comes with the number of the first that is short.
-- `Stepping` of RunLaws has this form
abbrev Tested : Tables → State → ℕ → Type 0 → (ℕ → Type 0) → Type 0
Tested m st cells P Q = (P × Room m st cells) ⊎ ((number : ℕ) × NoRoom m st cells number × Q number)

module _ (rule : CellRule) (s : Program) (m : Tables) where
  -- an answer counts the steps that led to where it began
  steps_grow : (left steps : ℕ) (st : State) (cells : ℕ) → steps ≤ (continued_by rule s m left steps st cells).steps
  steps_grow zero steps st cells = one (end_of s st) refl
    where
      one : (o : Option (Ending (List ℕ))) → end_of s st ≡ o → steps ≤ (continued_by rule s m zero steps st cells).steps
      one (Some x) e = rw (continued_ended rule s m zero steps st cells e) (omega arith)
      one None e = rw (continued_spent rule s m steps st cells e) (omega arith)
  steps_grow (suc left) steps st cells = one (λ p. steps_grow left (suc steps) p.0 p.1) (end_of s st) refl
    where
      Later : Type 0
      Later = (p : Point) → suc steps ≤ (continued_by rule s m left (suc steps) p.0 p.1).steps

      Goal : Type 0
      Goal = steps ≤ (continued_by rule s m (suc left) steps st cells).steps

      two : Later → end_of s st ≡ None → (t : Tried Point) → step_within_by rule s m st cells ≡ t → Goal
      two ih e (refused r) h = rw (continued_short rule s m left steps st cells e h) (omega arith)
      two ih e (found p) h = rw (continued_on_lem rule s m left steps st cells e h) (omega (arith, ih p))

      one : Later → (o : Option (Ending (List ℕ))) → end_of s st ≡ o → Goal
      one ih (Some x) e = rw (continued_ended rule s m (suc left) steps st cells e) (omega arith)
      one ih None e = two ih e (step_within_by rule s m st cells) refl

  -- past 11 and 12 the tables are asked for the start
  abbrev Loading : ℕ → List ℕ → Type 0
  Loading entry bytes =
      Tested m (start entry (values s bytes)) (cells_loaded_by rule s bytes)
      (loaded_by rule s m entry bytes ≡ found (start entry (values s bytes)))
      (λ number. loaded_by rule s m entry bytes ≡ refused (refusal number entry 1))

  load_within : (entry : ℕ) (bytes : List ℕ) (f : Function) → function s entry ≡ Some f → arguments_right s f bytes ≡ passed
      → Loading entry bytes
  load_within entry bytes f e a = one (fits m (start entry (values s bytes)) (cells_loaded_by rule s bytes) entry 1) refl
    where
      one : (t : Check) → fits m (start entry (values s bytes)) (cells_loaded_by rule s bytes) entry 1 ≡ t → Loading entry bytes
      one (found u) h = inl (load_begins rule s m entry bytes f e a h, fits_found m _ _ entry 1 h)
      one (refused r) h =
          let q = fits_refused m _ _ entry 1 h in
          inr (q.0, q.1, load_no_room rule s m entry bytes f e a h ∙ ap refused q.2)

---- By two rules

-- the answer now and the answer before: the same where what is needed can be used, else now 15
abbrev Compared : ℕ → ℕ → Outcome → Outcome → Type 0
Compared most need b a = (need ≤ most → b ≡ a) × (most < need → Gives15 b)

enough_now : {most need : ℕ} {b a : Outcome} → need ≤ most → b ≡ a → Compared most need b a
enough_now h e = (λ w. e, λ over. absurd (omega arith))

short_now : {most need : ℕ} {b a : Outcome} → most < need → Gives15 b → Compared most need b a
short_now h g = (λ w. absurd (omega arith), λ over. g)

-- an answer that is a refusal by 15
gives : (a : Outcome) (r : Refusal) (steps : ℕ) → r.number ≡ 15 → a ≡ answer (refused_with r) steps → Gives15 a
gives a r steps n e = (r, ap (λ (x : Outcome). x.ending) e, n)

module _ (old new : CellRule) (s : Program) (fewer : (n : ℕ) → new.taken n ≤ old.taken n) where
  taken_fewer : (o : Option Instruction) → cells_taken_by new s o ≤ cells_taken_by old s o
  unfolding cells_taken_by
  taken_fewer None = omega arith
  taken_fewer (Some (Load a)) = omega arith
  taken_fewer (Some (Build c)) = fewer (arity s c)
  taken_fewer (Some (Call g)) = omega arith
  taken_fewer (Some (Branch c b)) = omega arith
  taken_fewer (Some Return) = omega arith
  taken_fewer (Some Stop) = omega arith

  takes_fewer : (st : State) → takes_by new s st ≤ takes_by old s st
  takes_fewer [] = omega arith
  takes_fewer (fr ∷ others) = taken_fewer (current s fr)

  loads_fewer : (bytes : List ℕ) → cells_loaded_by new s bytes ≤ cells_loaded_by old s bytes
  unfolding cells_loaded_by
  loads_fewer [] = omega arith
  loads_fewer (c ∷ bytes) = omega (arith, fewer (arity s c), loads_fewer bytes)

  module _ (lent : Lent) where
    -- the tables before and now, of one length but for the cells
    abbrev m : Tables
    m = usable_by old lent

    abbrev w : Tables
    w = usable_by new lent

    -- both are asked for the same state: where there was room there is room now, or the cells are over the most that can be used now;
    -- where there was none it was for want of cells, or the same number is short now
    data Both (cells : ℕ) (P P' : Type 0) (Q Q' : ℕ → Type 0) : Type 0 where
      fit : P → P' → cells ≤ new.most → Both cells P P' Q Q'
      over : P → Q' 15 → new.most < cells → Both cells P P' Q Q'
      short_cells : Q 15 → Both cells P P' Q Q'
      short_alike : (number : ℕ) → Q number → Q' number → Both cells P P' Q Q'

    both : (st : State) (cells cells' : ℕ) {P P' : Type 0} {Q Q' : ℕ → Type 0} → cells' ≤ cells → Tested m st cells P Q
        → Tested w st cells' P' Q' → Both cells' P P' Q Q'
    both st cells cells' le (inl (p, r)) (inl (p', r')) = fit p p' (omega (arith, r'.2))
    both st cells cells' le (inl (p, r)) (inr (number, frames a, q')) = absurd (omega (arith, r.0))
    both st cells cells' le (inl (p, r)) (inr (number, stack a b, q')) = absurd (omega (arith, r.1))
    both st cells cells' le (inl (p, r)) (inr (number, heap a b c, q')) = over p q' (omega (arith, r.2))
    both st cells cells' le (inr (number, frames a, q)) (inl (p', r')) = absurd (omega (arith, r'.0))
    both st cells cells' le (inr (number, frames a, q)) (inr (number', frames a', q')) = short_alike 17 q q'
    both st cells cells' le (inr (number, frames a, q)) (inr (number', stack a' b', q')) = absurd (omega arith)
    both st cells cells' le (inr (number, frames a, q)) (inr (number', heap a' b' c', q')) = absurd (omega arith)
    both st cells cells' le (inr (number, stack a b, q)) (inl (p', r')) = absurd (omega (arith, r'.1))
    both st cells cells' le (inr (number, stack a b, q)) (inr (number', frames a', q')) = absurd (omega arith)
    both st cells cells' le (inr (number, stack a b, q)) (inr (number', stack a' b', q')) = short_alike 16 q q'
    both st cells cells' le (inr (number, stack a b, q)) (inr (number', heap a' b' c', q')) = absurd (omega arith)
    both st cells cells' le (inr (number, heap a b c, q)) t = short_cells q

    -- the rest of a run, which before took k steps more: the cells in use now are at most those before, and can be used
    abbrev Rest : ℕ → ℕ → State → ℕ → ℕ → ℕ → Type 0
    Rest left steps st cells cells' k =
        cells' ≤ cells → cells' ≤ new.most → (Gives15 (continued_by old s m left steps st cells) → ⊥)
        → (continued_by old s m left steps st cells).steps ≡ k + steps
        → Compared new.most (cells' + builds_by new s k st) (continued_by new s w left steps st cells')
        (continued_by old s m left steps st cells)

    -- both end where they are: no step more, so nothing more is needed
    ends_alike : (steps : ℕ) (st : State) (cells k : ℕ) (b a : Outcome) {x : Ending (List ℕ)} → cells ≤ new.most → a.steps ≡ k + steps
        → b ≡ answer x steps → a ≡ answer x steps → Compared new.most (cells + builds_by new s k st) b a
    ends_alike steps st cells zero b a can took e' e = enough_now (omega (arith, builds_none new s st)) (e' ∙ sym e)
    ends_alike steps st cells (suc k) b a can took e' e = absurd (omega (arith, ap (λ (x : Outcome). x.steps) e))

    continued_compared : (left steps : ℕ) (st : State) (cells cells' k : ℕ) → Rest left steps st cells cells' k
    continued_compared zero steps st cells cells' k le can but took = one (end_of s st) refl
      where
        one : (o : Option (Ending (List ℕ))) → end_of s st ≡ o
            → Compared new.most (cells' + builds_by new s k st) (continued_by new s w zero steps st cells')
            (continued_by old s m zero steps st cells)
        one (Some x) e =
            ends_alike steps st cells' k _ _ can took (continued_ended new s w zero steps st cells' e)
            (continued_ended old s m zero steps st cells e)
        one None e =
            ends_alike steps st cells' k _ _ can took (continued_spent new s w steps st cells' e) (continued_spent old s m steps st cells e)
    continued_compared (suc left) steps st cells cells' k le can but took =
        one (λ next c c' k'. continued_compared left (suc steps) next c c' k') (end_of s st) refl
      where
        Later : Type 0
        Later = (next : State) (c c' k' : ℕ) → Rest left (suc steps) next c c' k'

        Goal : Type 0
        Goal =
            Compared new.most (cells' + builds_by new s k st) (continued_by new s w (suc left) steps st cells')
            (continued_by old s m (suc left) steps st cells)

        Stepped : State → Type 0
        Stepped next =
            Both (cells' + takes_by new s st) (step_within_by old s m st cells ≡ found (next, cells + takes_by old s st))
            (step_within_by new s w st cells' ≡ found (next, cells' + takes_by new s st))
            (λ number. step_within_by old s m st cells ≡ refused (refusal_at number st))
            (λ number. step_within_by new s w st cells' ≡ refused (refusal_at number st))

        -- where there was room the run took this step, and k' more behind it
        behind : end_of s st ≡ None → (next : State) → step s st ≡ Some next
            → step_within_by old s m st cells ≡ found (next, cells + takes_by old s st) → (k' : ℕ)
            × ((continued_by old s m left (suc steps) next (cells + takes_by old s st)).steps ≡ k' + suc steps)
            × (cells' + builds_by new s k st ≡ (cells' + takes_by new s st) + builds_by new s k' next)
        behind e next h p =
            builds_on new s cells' steps _ k st next h (steps_grow old s m left (suc steps) next _)
            (rw (continued_on_lem old s m left steps st cells e p) at took)

        three : Later → end_of s st ≡ None → (next : State) → step s st ≡ Some next → Stepped next → Goal
        three ih e next h (fit p p' can') =
            let (k', took', need) = behind e next h p in
            let on = continued_on_lem old s m left steps st cells e p in
            rw (on, continued_on_lem new s w left steps st cells' e p', need)
            (ih next _ _ k' (omega (arith, takes_fewer st)) can' (rw on at but) took')
        three ih e next h (over p q' more) =
            let (k', took', need) = behind e next h p in
            short_now (omega (arith, need))
            (gives _ (refusal_at 15 st) steps (place_number 15 st) (continued_short new s w left steps st cells' e q'))
        three ih e next h (short_cells q) =
            absurd (but (gives _ (refusal_at 15 st) steps (place_number 15 st) (continued_short old s m left steps st cells e q)))
        three ih e next h (short_alike number q q') =
            ends_alike steps st cells' k _ _ can took (continued_short new s w left steps st cells' e q')
            (continued_short old s m left steps st cells e q)

        two : Later → end_of s st ≡ None → (o : Option State) → step s st ≡ o → Goal
        two ih e None h =
            ends_alike steps st cells' k _ _ can took
            (continued_short new s w left steps st cells' e (step_stuck new s w st cells' h))
            (continued_short old s m left steps st cells e (step_stuck old s m st cells h))
        two ih e (Some next) h =
            three ih e next h (both next (cells + takes_by old s st) (cells' + takes_by new s st) (omega (arith, takes_fewer st))
            (step_within_lem old s m st cells next h) (step_within_lem new s w st cells' next h))

        one : Later → (o : Option (Ending (List ℕ))) → end_of s st ≡ o → Goal
        one ih (Some x) e =
            ends_alike steps st cells' k _ _ can took (continued_ended new s w (suc left) steps st cells' e)
            (continued_ended old s m (suc left) steps st cells e)
        one ih None e = two ih e (step s st) refl

    -- from the start
    started_compared : (budget entry : ℕ) (bytes : List ℕ) → (Gives15 (started_by old s m budget entry bytes) → ⊥)
        → Compared new.most (needed new s bytes (started_by old s m budget entry bytes).steps (loaded_by old s m entry bytes))
        (started_by new s w budget entry bytes) (started_by old s m budget entry bytes)
    started_compared budget entry bytes but = one (function s entry) refl
      where
        begin : State
        begin = start entry (values s bytes)

        Goal : Type 0
        Goal =
            Compared new.most (needed new s bytes (started_by old s m budget entry bytes).steps (loaded_by old s m entry bytes))
            (started_by new s w budget entry bytes) (started_by old s m budget entry bytes)

        alike : {r : Refusal} → loaded_by new s w entry bytes ≡ refused r → loaded_by old s m entry bytes ≡ refused r → Goal
        alike e' e =
            enough_now (rw e (omega arith))
            (started_refused new s w budget entry bytes e' ∙ sym (started_refused old s m budget entry bytes e))

        three : Both (cells_loaded_by new s bytes) (loaded_by old s m entry bytes ≡ found begin)
            (loaded_by new s w entry bytes ≡ found begin)
            (λ number. loaded_by old s m entry bytes ≡ refused (refusal number entry 1))
            (λ number. loaded_by new s w entry bytes ≡ refused (refusal number entry 1)) → Goal
        three (fit p p' can) =
            let on = started_loaded old s m budget entry bytes p in
            rw (p, on, started_loaded new s w budget entry bytes p')
            (continued_compared budget 0 begin _ _ _ (loads_fewer bytes) can (rw on at but) (omega arith))
        three (over p q' more) =
            short_now (rw p (omega arith)) (gives _ (refusal 15 entry 1) 0 refl (started_refused new s w budget entry bytes q'))
        three (short_cells q) =
            absurd (but (gives _ (refusal 15 entry 1) 0 refl (started_refused old s m budget entry bytes q)))
        three (short_alike number q q') = alike q' q

        two : (f : Function) → function s entry ≡ Some f → (t : Check) → arguments_right s f bytes ≡ t → Goal
        two f e (refused r) a = alike (load_bad_arguments new s w entry bytes f e a) (load_bad_arguments old s m entry bytes f e a)
        two f e (found u) a =
            three (both begin (cells_loaded_by old s bytes) (cells_loaded_by new s bytes) (loads_fewer bytes)
            (load_within old s m entry bytes f e a) (load_within new s w entry bytes f e a))

        one : (o : Option Function) → function s entry ≡ o → Goal
        one None e = alike (load_no_entry new s w entry bytes e) (load_no_entry old s m entry bytes e)
        one (Some f) e = two f e (arguments_right s f bytes) refl

---- The whole run

-- 15 is delivered as it is
gives_delivered : (room : ℕ) (a : Outcome) → Gives15 a → Gives15 (delivered room a)
gives_delivered room a (r, e, n) = (r, refusal_delivered room a r e, n)

-- and an answer delivered keeps its steps, so what is needed is the same
delivered_compared : (room most : ℕ) (need : ℕ → ℕ) (b a : Outcome) → Compared most (need a.steps) b a
    → Compared most (need (delivered room a).steps) (delivered room b) (delivered room a)
unfolding delivered
delivered_compared room most need b a c = (λ h. ap (delivered room) (c.0 h), λ h. gives_delivered room b (c.1 h))

constants_fewer : (n : ℕ) → with_arguments.taken n ≤ every_one.taken n
constants_fewer zero = omega arith
constants_fewer (suc n) = omega arith

module _ (file : List ℕ) (entry : ℕ) (arguments : List ℕ) (lent : Lent) where
  needs_checked : (s : Program) → checked file ≡ found s → (steps : ℕ) → now_needs file entry arguments lent steps
      ≡ needed with_arguments s arguments steps (loaded_by every_one s (usable_by every_one lent) entry arguments)
  needs_checked s e steps = one (loaded_by every_one s (usable_by every_one lent) entry arguments) refl
    where
      one : (t : Tried State) → loaded_by every_one s (usable_by every_one lent) entry arguments ≡ t
          → now_needs file entry arguments lent steps ≡ needed with_arguments s arguments steps t
      one (found st) h = rw (e, h)
      one (refused r) h = rw (e, h)

  run_compared : (budget : ℕ) → (Gives15 (before file entry arguments budget lent) → ⊥)
      → Compared 65471 (now_needs file entry arguments lent (before file entry arguments budget lent).steps)
      (now file entry arguments budget lent) (before file entry arguments budget lent)
  run_compared budget but = one (checked file) refl
    where
      one : (k : Tried Program) → checked file ≡ k
          → Compared 65471 (now_needs file entry arguments lent (before file entry arguments budget lent).steps)
          (now file entry arguments budget lent) (before file entry arguments budget lent)
      one (refused r) e =
          enough_now (rw e (omega arith))
          (run_refused with_arguments file entry arguments budget lent e ∙ sym (run_refused every_one file entry arguments budget lent e))
      one (found s) e =
          let on = run_checked every_one file entry arguments budget lent e in
          let said : Outcome = started_by every_one s (usable_by every_one lent) budget entry arguments in
          let gave : Gives15 said → ⊥ = λ g. (rw on at but) (gives_delivered lent.output said g) in
          rw (
            needs_checked s e (before file entry arguments budget lent).steps,
            on,
            run_checked with_arguments file entry arguments budget lent e,
          )
          (delivered_compared lent.output 65471
          (λ n. needed with_arguments s arguments n (loaded_by every_one s (usable_by every_one lent) entry arguments)) _ _
          (started_compared every_one with_arguments s constants_fewer lent budget entry arguments gave))

-- "A run that gave anything but 15 before gives the same answer, unless it now needs over 65,471 cells"
pub constants_fact : ConstantsFact
constants_fact file entry arguments budget lent but =
    let c = run_compared file entry arguments lent budget but in
    (λ h. let e = c.0 h in record { answer = e; output = λ out. ap (λ (x : Outcome). result_into out x.ending) e }, c.1)
