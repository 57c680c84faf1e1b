-- The tally promise: the run goes through the machine's states, and what it answers is told by the state at which it ends.
use Rattle.std.specs.Prelude.{if◌then◌else◌, Option, None, Some}
use mathlib.Core.Path.{◌≡◌, refl, sym, ap, ◌∙◌}
use mathlib.Core.List.{List, [], ◌∷◌, ◌++◌}
use mathlib.Core.Bool.{Bool, true, false, ◌&&◌}
use mathlib.Core.Logic.{inl, inr}
use Prim.Native.Nat.{ℕ, zero, suc, ◌+◌, ◌≤◌}
use native.Mathlib.Omega.{arith}
use native.Mathlib.Nat.{add-zero}
use lib.ListN.{length}
use lib.Dec.{leb, eqb}
use borrow.Author.Tests.{leb-true, leb-false}
use Rattle.rules.specs.Base.{Refusal, refusal, found, refused, Check, passed}
use Rattle.rules.specs.Program.{Function, Program, constructor, function}
use Rattle.rules.specs.Machine.{Value, State, start, step, after, result_of}
use Rattle.rules.specs.Values.{size, Has, Typed}
use Rattle.rules.specs.Check.{checked}
use Rattle.rules.specs.Prefix.{read_byte, read_bytes, arguments_right, values, written}
use Rattle.rules.specs.Run.{Lent, Tables, usable, Ending, finished, aborted, refused_with, Outcome, answer, fits, refusal_at, end_of}
use Rattle.rules.specs.Run.{with_arguments, cells_loaded, continued, loaded, started, delivered_in, delivered, run}
use Rattle.rules.specs.Promise.{takes, builds_by, builds, Room, NoRoom, frames, stack, heap, Ends, with_result, undelivered, stopped}
use Rattle.rules.specs.Promise.{spent, short, Ran, Answers, no_entry, bad_arguments, no_room, began, TallyPromise}
use Rattle.rules.specs.Facts.{NumberFact}
use Rattle.rules.proofs.ListLaws.{none_some, some_inj}
use Rattle.rules.proofs.TriedLaws.{Refuses, refuses_bind, refuses_required, refuses_some}
use Rattle.rules.proofs.Progress.{stepped, resulted}
use Rattle.rules.proofs.Accepted.{Passed, checked_parts}
use Rattle.rules.proofs.MachineLaws.{after_next, result_stops, builds_next}
use Rattle.rules.proofs.RunLaws.{Stepping, step_within_lem, continued_ended, continued_spent, continued_short, continued_on_lem}
use Rattle.rules.proofs.RunLaws.{started_refused, started_loaded, fits_found, fits_refused, load_no_entry, load_bad_arguments}
use Rattle.rules.proofs.RunLaws.{load_no_room, load_begins, run_checked}
use Rattle.rules.proofs.PrefixLaws.{arguments_typed}
use Rattle.rules.proofs.Reachable.{states_safe, limit, Invariant, Going, begins, going, given}

-- an entry function with arguments of the declared types, and what is lent
module _ {file : List ℕ} {s : Program} (P : Passed file s) (n : ℕ) (f : Function) (at_f : function s n ≡ Some f) (us : List Value)
    (typed : Typed s us f.parameters) (m : Tables) (budget room cells₀ : ℕ) where
  abbrev B : ℕ
  B = limit P n f at_f us typed

  abbrev Good : State → Type 0
  Good st = Invariant P n f at_f us typed st

  abbrev Ending-at : ℕ → State → Ending (List ℕ) → Type 0
  Ending-at steps st e = Ends s f B m budget room (start n us) cells₀ steps st e

  abbrev Ok : Outcome → Type 0
  Ok a = Ran s f B m budget room (start n us) cells₀ (delivered room a)

  -- there was room for each state up to here
  abbrev Fitted : ℕ → Type 0
  Fitted steps = (k : ℕ) (st : State) → k ≤ steps → after s k (start n us) ≡ Some st → Room m st (cells₀ + builds s k (start n us))

  fitted_next : (steps : ℕ) (next : State) → Fitted steps → after s (suc steps) (start n us) ≡ Some next
      → Room m next (cells₀ + builds s (suc steps) (start n us)) → Fitted (suc steps)
  fitted_next steps next h r fits_next k st le e = one (leb k steps) refl
    where
      one : (t : Bool) → leb k steps ≡ t → Room m st (cells₀ + builds s k (start n us))
      one true w = h k st (leb-true _ _ w) e
      one false w =
          let is : k ≡ suc steps = omega (arith, leb-false k steps w) in
          let same : next ≡ st = some_inj (sym r ∙ rw is at e) in
          rw (is, ← same) fits_next

  -- a result is delivered, or there is no room for it
  delivers : (st : State) (v : Value) → result_of s st ≡ Some v → Has s v f.result → size s v ≤ B → (steps : ℕ)
      → Ending-at steps st (delivered_in room (finished (written v)))
  unfolding delivered_in
  delivers st v e h l steps = one (leb (length (written v)) room) refl
    where
      one : (t : Bool) → leb (length (written v)) room ≡ t
          → Ending-at steps st (if t then finished (written v) else refused_with (refusal 13 (length (written v)) 0))
      one true w = with_result v e h l (leb-true _ _ w)
      one false w = undelivered v e h l (leb-false _ _ w)

  -- a state ends the run, or steps
  data Now (st : State) : Type 0 where
    done : (e : Ending (List ℕ)) → end_of s st ≡ Some e → ((steps : ℕ) → Ending-at steps st (delivered_in room e)) → Now st
    on : end_of s st ≡ None → (next : State) → step s st ≡ Some next → Good next → Now st

  now : (st : State) → Good st → Now st
  unfolding end_of delivered_in
  now [] h = done aborted refl (λ steps. stopped refl)
  now (fr ∷ frs) h = one (going P n f at_f us typed fr frs h)
    where
      one : Going P n f at_f us typed (fr ∷ frs) → Now (fr ∷ frs)
      one (resulted v e w o) =
          let g = given P n f at_f us typed v o in
          done (finished (written v)) (rw e) (delivers (fr ∷ frs) v e g.0 g.1)
      one (stepped next e h') = two (result_of s (fr ∷ frs)) refl
        where
          two : (x : Option Value) → result_of s (fr ∷ frs) ≡ x → Now (fr ∷ frs)
          two (Some v) w = absurd (none_some (sym (result_stops s (fr ∷ frs) w) ∙ e))
          two None w = on (rw w) next e h'

  -- from a state that so many steps led to
  continued_ran : (left steps : ℕ) (st : State) (cells : ℕ) → steps + left ≡ budget → Good st → after s steps (start n us) ≡ Some st
      → Fitted steps → cells ≡ cells₀ + builds s steps (start n us) → Ok (continued s m left steps st cells)
  unfolding delivered delivered_in
  continued_ran zero steps st cells b h r fit c = one (now st h)
    where
      one : Now st → Ok (continued s m zero steps st cells)
      one (done e w k) =
          rw (continued_ended with_arguments s m zero steps st cells w)
          (record { last = st; reached = r; within_budget = omega arith; fitted = fit; ending = k steps })
      one (on w next e h') =
          rw (continued_spent with_arguments s m steps st cells w)
          (record { last = st; reached = r; within_budget = omega arith; fitted = fit; ending = spent (omega arith) next e })
  continued_ran (suc left) steps st cells b h r fit c =
      one (now st h) (λ next c' g r' fit' e. continued_ran left (suc steps) next c' (omega arith) g r' fit' e)
    where
      Later : Type 0
      Later =
          (next : State) (c' : ℕ) → Good next → after s (suc steps) (start n us) ≡ Some next → Fitted (suc steps)
          → c' ≡ cells₀ + builds s (suc steps) (start n us) → Ok (continued s m left (suc steps) next c')

      one : Now st → Later → Ok (continued s m (suc left) steps st cells)
      one (done e w k) ih =
          rw (continued_ended with_arguments s m (suc left) steps st cells w)
          (record { last = st; reached = r; within_budget = omega arith; fitted = fit; ending = k steps })
      one (on w next e h') ih = two (step_within_lem with_arguments s m st cells next e)
        where
          more : cells + takes s st ≡ cells₀ + builds s (suc steps) (start n us)
          more = omega (arith, builds_next s steps (start n us) st next r e)

          two : Stepping with_arguments s m st cells next → Ok (continued s m (suc left) steps st cells)
          two (inl q) =
              let r' = after_next s steps (start n us) st next r e in
              rw (continued_on_lem with_arguments s m left steps st cells w q.0)
              (ih next (cells + takes s st) h' r' (fitted_next steps next fit r' (rw more at q.1)) more)
          two (inr q) = rw (continued_short with_arguments s m left steps st cells w q.2) (record {
            last = st;
            reached = r;
            within_budget = omega arith;
            fitted = fit;
            ending = short (omega arith) next e q.0 (rw more at q.1);
          })

  begins_fitted : Room m (start n us) cells₀ → Fitted 0
  unfolding after builds_by
  begins_fitted fits-start zero st le r = rw (← some_inj r, add-zero cells₀) fits-start
  begins_fitted fits-start (suc k) st le r = absurd (omega arith)

  -- from the start
  started_ran : (st : State) → start n us ≡ st → Room m st cells₀ → Ok (continued s m budget 0 st cells₀)
  unfolding after builds_by
  started_ran st e fits-start =
      rw (← e) (continued_ran budget 0 (start n us) cells₀ (omega arith) (begins P n f at_f us typed) refl
      (begins_fitted (rw (sym e) at fits-start)) (omega arith))

---- The promise

module _ (file : List ℕ) (s : Program) (e : checked file ≡ found s) where
  runs : (entry : ℕ) (arguments : List ℕ) (budget : ℕ) (lent : Lent)
      → Answers s entry arguments budget lent (run file entry arguments budget lent)
  unfolding delivered delivered_in
  runs entry arguments budget lent = rw (run_checked with_arguments file entry arguments budget lent e) (one (function s entry) refl)
    where
      Goal : Type 0
      Goal = Answers s entry arguments budget lent (delivered lent.output (started s (usable lent) budget entry arguments))

      begin : State
      begin = start entry (values s arguments)

      refuses : {r : Refusal} → loaded s (usable lent) entry arguments ≡ refused r
          → delivered lent.output (started s (usable lent) budget entry arguments) ≡ answer (refused_with r) 0
      refuses w = ap (delivered lent.output) (started_refused with_arguments s (usable lent) budget entry arguments w)

      three : (f : Function) → function s entry ≡ Some f → arguments_right s f arguments ≡ passed → (t : Check)
          → fits (usable lent) (start entry (values s arguments)) (cells_loaded s arguments) entry 1 ≡ t → Goal
      three f at_f right (refused r) w =
          let q = fits_refused (usable lent) begin (cells_loaded s arguments) entry 1 w in
          let not_loaded = load_no_room with_arguments s (usable lent) entry arguments f at_f right w in
          no_room f at_f right (arguments_typed s f arguments right).1 q.0 q.1
          (refuses not_loaded ∙ ap (λ (x : Refusal). answer (refused_with x) 0) q.2)
      three f at_f right (found u) w =
          let typed = (arguments_typed s f arguments right).1 in
          let begins = load_begins with_arguments s (usable lent) entry arguments f at_f right w in
          rw (started_loaded with_arguments s (usable lent) budget entry arguments begins)
          (began f at_f right typed (started_ran (checked_parts file s e) entry f at_f (values s arguments) typed (usable lent) budget
          lent.output (cells_loaded s arguments) begin refl (fits_found (usable lent) begin (cells_loaded s arguments) entry 1 w)))

      two : (f : Function) → function s entry ≡ Some f → (t : Check) → arguments_right s f arguments ≡ t → Goal
      two f at_f (refused r) a =
          bad_arguments f at_f r a (refuses (load_bad_arguments with_arguments s (usable lent) entry arguments f at_f a))
      two f at_f (found tt) a =
          three f at_f a (fits (usable lent) (start entry (values s arguments)) (cells_loaded s arguments) entry 1) refl

      one : (o : Option Function) → function s entry ≡ o → Goal
      one None e₁ = no_entry e₁ (refuses (load_no_entry with_arguments s (usable lent) entry arguments e₁))
      one (Some f) e₁ = two f e₁ (arguments_right s f arguments) refl

-- demand 3
pub tally_promise : TallyPromise
tally_promise file s e = record { states = states_safe (checked_parts file s e); runs = runs file s e }

---- Its numbers

abbrev RunNumber : Refusal → Type 0
RunNumber r = (11 ≤ r.number) × (r.number ≤ 17)

byte_numbers : (s : Program) (offset c : ℕ) (pending : List ℕ) → Refuses RunNumber (read_byte s offset c pending)
unfolding read_byte
byte_numbers s offset c [] = (omega arith, omega arith)
byte_numbers s offset c (t ∷ pending) =
    refuses_some RunNumber (constructor s c) _ _ (omega arith, omega arith)
    (λ k. refuses_required RunNumber (eqb k.result t && leb (length (k.arguments ++ pending)) 256) _ _ (omega arith, omega arith) tt)

bytes_numbers : (s : Program) (offset : ℕ) (bytes pending : List ℕ) → Refuses RunNumber (read_bytes s offset bytes pending)
unfolding read_bytes
bytes_numbers s offset [] [] = tt
bytes_numbers s offset [] (t ∷ pending) = (omega arith, omega arith)
bytes_numbers s offset (c ∷ bytes) pending =
    refuses_bind RunNumber (read_byte s offset c pending) _ (byte_numbers s offset c pending)
    (λ later. bytes_numbers s (suc offset) bytes later)

arguments_numbers : (s : Program) (f : Function) (args : List ℕ) → Refuses RunNumber (arguments_right s f args)
unfolding arguments_right
arguments_numbers s f args =
    refuses_required RunNumber (leb (length args) 65535) _ _ (omega arith, omega arith) (bytes_numbers s 0 args f.parameters)

pub no_room_number : {m : Tables} {st : State} {cells number : ℕ} → NoRoom m st cells number → (15 ≤ number) × (number ≤ 17)
no_room_number (frames h) = (omega arith, omega arith)
no_room_number (stack h k) = (omega arith, omega arith)
no_room_number (heap h k l) = (omega arith, omega arith)

pub place_number : (k : ℕ) (st : State) → (refusal_at k st).number ≡ k
unfolding refusal_at
place_number k [] = refl
place_number k (fr ∷ frs) = refl

pub number_fact : NumberFact
number_fact file s e entry arguments budget lent r w = one (runs file s e entry arguments budget lent)
  where
    at_end : {f : Function} {limit room steps cells : ℕ} {begin st : State} (x : Ending (List ℕ)) → x ≡ refused_with r
        → Ends s f limit (usable lent) budget room begin cells steps st x → RunNumber r
    at_end x q (with_result v e' h l k) = let z : ◌≡◌ {A = ℕ} 0 1 = cc in absurd (omega arith)
    at_end x q (undelivered v e' h l k) = let p : refusal 13 (length (written v)) 0 ≡ r = cc in rw (← p) (omega arith, omega arith)
    at_end x q (stopped h) = let z : ◌≡◌ {A = ℕ} 0 1 = cc in absurd (omega arith)
    at_end {st} x q (spent b next h) = let p : refusal_at 14 st ≡ r = cc in rw (← p, place_number 14 st) (omega arith, omega arith)
    at_end {st} x q (short b next h number gone) =
        let p : refusal_at number st ≡ r = cc in
        let k = no_room_number gone in
        rw (← p, place_number number st) (omega arith, omega arith)

    same : {x : Refusal} → run file entry arguments budget lent ≡ answer (refused_with x) 0 → x ≡ r
    same {x} q = let p : refused_with x ≡ refused_with r = sym (ap (λ (a : Outcome). a.ending) q) ∙ w in cc

    one : Answers s entry arguments budget lent (run file entry arguments budget lent) → RunNumber r
    one (no_entry h q) = rw (← same q) (omega arith, omega arith)
    one (bad_arguments f at_f x h q) = rw (← same q) (rw h at (arguments_numbers s f arguments))
    one (no_room f at_f h typed number gone q) = let k = no_room_number gone in rw (← same q) (omega (arith, k.0), omega (arith, k.1))
    one (began f at_f h typed ran) = at_end _ w ran.ending
