-- The run one decision at a time: what is loaded, one law for each way in which it ends or goes on.
use mathlib.Core.Path.{◌≡◌, refl, sym, ap, ◌∙◌}
use mathlib.Core.List.{List, [], ◌∷◌}
use Rattle.std.specs.Prelude.{None, Some}
use mathlib.Core.Bool.{Bool, true, false}
use mathlib.Core.Logic.{◌⊎◌, inl, inr}
use Prim.Native.Nat.{ℕ, zero, suc, ◌+◌, ◌≤◌, ◌<◌}
use lib.ListN.{length}
use lib.Dec.{leb}
use borrow.Author.Tests.{leb-true, leb-false, le-leb, lt-leb}
use Rattle.rules.specs.Base.{◌>>=◌ as ◌>>=ᵗ◌, Refusal, refusal, found, refused, Check, passed, require}
use Rattle.rules.specs.Program.{Function, Program, function}
use Rattle.rules.specs.Machine.{State, start, current, step}
use Rattle.rules.specs.Check.{checked}
use Rattle.rules.specs.Prefix.{arguments_right, values}
use Rattle.rules.specs.Run.{Lent, Tables, CellRule, usable_by, cells_taken_by, cells_loaded_by, Ending, finished, aborted, refused_with}
use Rattle.rules.specs.Run.{Outcome, answer, heights, fits, refusal_at, end_of, Point, step_within_by, continued_by, loaded_by, started_by}
use Rattle.rules.specs.Run.{delivered_in, delivered, run_by}
use Rattle.rules.specs.Promise.{takes_by, Room, NoRoom, frames, stack, heap}
use Rattle.rules.proofs.ListLaws.{none_some}
use Rattle.rules.proofs.TriedLaws.{refused_found, after_required, required}

---- Room in the tables

-- where the tables have room for a state, and where not
pub fits_found : (m : Tables) (st : State) (cells f i : ℕ) {u : Unit {0}} → fits m st cells f i ≡ found u → Room m st cells
unfolding fits
fits_found m st cells f i e =
    let a = after_required (leb (length st) m.frames) _ _ e in
    let b = after_required (leb (heights st) m.stack) _ _ a.1 in
    (leb-true _ _ a.0, leb-true _ _ b.0, leb-true _ _ (required (leb cells m.cells) _ b.1))

pub fits_refused : (m : Tables) (st : State) (cells f i : ℕ) {r : Refusal} → fits m st cells f i ≡ refused r → (number : ℕ)
    × NoRoom m st cells number × (r ≡ refusal number f i)
unfolding fits
fits_refused m st cells f i {r} e = one (leb (length st) m.frames) refl (leb (heights st) m.stack) refl (leb cells m.cells) refl e
  where
    one : (a : Bool) → leb (length st) m.frames ≡ a → (b : Bool) → leb (heights st) m.stack ≡ b → (c : Bool)
        → leb cells m.cells ≡ c
        → (require a (refusal 17 f i) >>=ᵗ (λ _. require b (refusal 16 f i) >>=ᵗ (λ _. require c (refusal 15 f i)))) ≡ refused r
        → (number : ℕ) × NoRoom m st cells number × (r ≡ refusal number f i)
    one false ea b eb c ec e = (17, frames (leb-false _ _ ea), cc)
    one true ea false eb c ec e = (16, stack (leb-true _ _ ea) (leb-false _ _ eb), cc)
    one true ea true eb false ec e = (15, heap (leb-true _ _ ea) (leb-true _ _ eb) (leb-false _ _ ec), cc)
    one true ea true eb true ec e = absurd (refused_found (sym e))

---- A step

-- a step within the tables, or 15 to 17 at the top frame's place
abbrev pub Stepping : CellRule → Program → Tables → State → ℕ → State → Type 0
Stepping rule s m st cells next =
    ((step_within_by rule s m st cells ≡ found (next, cells + takes_by rule s st)) × Room m next (cells + takes_by rule s st))
    ⊎ ((number : ℕ) × NoRoom m next (cells + takes_by rule s st) number
    × (step_within_by rule s m st cells ≡ refused (refusal_at number st)))

pub step_within_lem : (rule : CellRule) (s : Program) (m : Tables) (st : State) (cells : ℕ) (next : State) → step s st ≡ Some next
    → Stepping rule s m st cells next
unfolding step_within_by step refusal_at
step_within_lem rule s m [] cells next e = none_some e
step_within_lem rule s m (fr ∷ frs) cells next e = one (fits m next cells' fr.function fr.instruction) refl
  where
    cells' : ℕ
    cells' = cells + cells_taken_by rule s (current s fr)

    one : (t : Check) → fits m next cells' fr.function fr.instruction ≡ t → Stepping rule s m (fr ∷ frs) cells next
    one (found u) w = inl (rw (e, w), fits_found m next cells' fr.function fr.instruction w)
    one (refused r) w =
        let q = fits_refused m next cells' fr.function fr.instruction w in
        let is : step_within_by rule s m (fr ∷ frs) cells ≡ refused r = rw (e, w) in
        inr (q.0, q.1, is ∙ ap refused q.2)

---- The rest of a run

module _ (rule : CellRule) (s : Program) (m : Tables) where
  pub continued_ended : (left steps : ℕ) (st : State) (cells : ℕ) {e : Ending (List ℕ)} → end_of s st ≡ Some e
      → continued_by rule s m left steps st cells ≡ answer e steps
  unfolding continued_by
  continued_ended zero steps st cells h = rw (h, continued_by)
  continued_ended (suc left) steps st cells h = rw (h, continued_by)

  pub continued_spent : (steps : ℕ) (st : State) (cells : ℕ) → end_of s st ≡ None
      → continued_by rule s m zero steps st cells ≡ answer (refused_with (refusal_at 14 st)) steps
  unfolding continued_by
  continued_spent steps st cells h = rw (h, continued_by)

  pub continued_short : (left steps : ℕ) (st : State) (cells : ℕ) {r : Refusal} → end_of s st ≡ None
      → step_within_by rule s m st cells ≡ refused r
      → continued_by rule s m (suc left) steps st cells ≡ answer (refused_with r) steps
  unfolding continued_by
  continued_short left steps st cells h w = rw (h, continued_by, w)

  pub continued_on_lem : (left steps : ℕ) (st : State) (cells : ℕ) {p : Point} → end_of s st ≡ None
      → step_within_by rule s m st cells ≡ found p
      → continued_by rule s m (suc left) steps st cells ≡ continued_by rule s m left (suc steps) p.0 p.1
  unfolding continued_by
  continued_on_lem left steps st cells h w = rw (h, continued_by, w)

---- The start

pub started_refused : (rule : CellRule) (s : Program) (m : Tables) (budget entry : ℕ) (args : List ℕ) {r : Refusal}
    → loaded_by rule s m entry args ≡ refused r
    → started_by rule s m budget entry args ≡ answer (refused_with r) 0
unfolding started_by
started_refused rule s m budget entry args e = rw (e, started_by)

pub started_loaded : (rule : CellRule) (s : Program) (m : Tables) (budget entry : ℕ) (args : List ℕ) {st : State}
    → loaded_by rule s m entry args ≡ found st
    → started_by rule s m budget entry args ≡ continued_by rule s m budget 0 st (cells_loaded_by rule s args)
unfolding started_by
started_loaded rule s m budget entry args e = rw (e, started_by)

module _ (rule : CellRule) (s : Program) (m : Tables) (entry : ℕ) (bytes : List ℕ) where
  pub load_no_entry : function s entry ≡ None → loaded_by rule s m entry bytes ≡ refused (refusal 11 entry 0)
  unfolding loaded_by
  load_no_entry e = rw e

  module _ (f : Function) (e : function s entry ≡ Some f) where
    pub load_bad_arguments : {r : Refusal} → arguments_right s f bytes ≡ refused r → loaded_by rule s m entry bytes ≡ refused r
    unfolding loaded_by
    load_bad_arguments a = rw (e, a)

    pub load_no_room : {r : Refusal} → arguments_right s f bytes ≡ passed
        → fits m (start entry (values s bytes)) (cells_loaded_by rule s bytes) entry 1 ≡ refused r
        → loaded_by rule s m entry bytes ≡ refused r
    unfolding loaded_by
    load_no_room a w = rw (e, a, w)

    pub load_begins : arguments_right s f bytes ≡ passed
        → fits m (start entry (values s bytes)) (cells_loaded_by rule s bytes) entry 1 ≡ passed
        → loaded_by rule s m entry bytes ≡ found (start entry (values s bytes))
    unfolding loaded_by
    load_begins a w = rw (e, a, w)

---- The output

module _ (room steps : ℕ) where
  pub deliver_result : (bytes : List ℕ) → length bytes ≤ room
      → delivered room (answer (finished bytes) steps) ≡ answer (finished bytes) steps
  unfolding delivered delivered_in
  deliver_result bytes h = rw (le-leb (length bytes) room h)

  pub deliver_short : (bytes : List ℕ) → room < length bytes
      → delivered room (answer (finished bytes) steps) ≡ answer (refused_with (refusal 13 (length bytes) 0)) steps
  unfolding delivered delivered_in
  deliver_short bytes h = rw (lt-leb (length bytes) room h)

  pub deliver_aborted : delivered room (answer aborted steps) ≡ answer aborted steps
  unfolding delivered delivered_in
  deliver_aborted = refl

  pub deliver_refused : (r : Refusal) → delivered room (answer (refused_with r) steps) ≡ answer (refused_with r) steps
  unfolding delivered delivered_in
  deliver_refused r = refl

-- what is delivered of a refusal is that refusal
pub refusal_delivered : (room : ℕ) (a : Outcome) (r : Refusal) → a.ending ≡ refused_with r → (delivered room a).ending ≡ refused_with r
unfolding delivered delivered_in
refusal_delivered room a r e = rw e

---- The whole run

pub run_refused : (rule : CellRule) (file : List ℕ) (entry : ℕ) (bytes : List ℕ) (budget : ℕ) (lent : Lent) {r : Refusal}
    → checked file ≡ refused r
    → run_by rule file entry bytes budget lent ≡ answer (refused_with r) 0
unfolding run_by
run_refused rule file entry bytes budget lent e = rw (e, run_by)

pub run_checked : (rule : CellRule) (file : List ℕ) (entry : ℕ) (bytes : List ℕ) (budget : ℕ) (lent : Lent) {s : Program}
    → checked file ≡ found s
    → run_by rule file entry bytes budget lent ≡ delivered lent.output (started_by rule s (usable_by rule lent) budget entry bytes)
unfolding run_by
run_checked rule file entry bytes budget lent e = rw (e, run_by)
