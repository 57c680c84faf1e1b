-- With more room in the tables a run that did not end for want of it ends the same: each test that passed passes again.
use mathlib.Core.Path.{◌≡◌, refl, sym, ap, ◌∙◌}
use mathlib.Core.List.{List, [], ◌∷◌}
use Rattle.std.specs.Prelude.{Option, None, Some}
use mathlib.Core.Logic.{◌⊎◌, inl, inr}
use Prim.Native.Nat.{ℕ, zero, suc, ◌+◌, ◌≤◌}
use native.Mathlib.Omega.{arith}
use native.Mathlib.Nat.{le_trans}
use lib.ListN.{length}
use borrow.Author.Tests.{le-leb}
use Rattle.rules.specs.Base.{Refusal, Tried, found, refused, Check, passed}
use Rattle.rules.specs.Program.{Function, Program, function}
use Rattle.rules.specs.Machine.{State, start, current, step}
use Rattle.rules.specs.Check.{checked}
use Rattle.rules.specs.Prefix.{arguments_right, values}
use Rattle.rules.specs.Run.{with_arguments, Lent, Tables, usable, Ending, refused_with, Outcome, heights, fits, cells_taken, end_of}
use Rattle.rules.specs.Run.{Point, cells_loaded, step_within_by, step_within, continued, loaded, started, run}
use Rattle.rules.specs.Promise.{Room, NoRoom, frames, stack, heap}
use Rattle.rules.specs.Facts.{RoomFact}
use Rattle.rules.proofs.RunLaws.{fits_found, fits_refused, continued_ended, continued_spent, continued_short, continued_on_lem}
use Rattle.rules.proofs.RunLaws.{started_refused, started_loaded, load_no_entry, load_bad_arguments, load_no_room, load_begins}
use Rattle.rules.proofs.RunLaws.{refusal_delivered, run_refused, run_checked}

-- a number that is not for want of room in a table; and an ending that is no refusal for want of it
abbrev NotTable : ℕ → Type 0
NotTable n = (n ≡ 15 → ⊥) × (n ≡ 16 → ⊥) × (n ≡ 17 → ⊥)

abbrev EndsElse : Ending (List ℕ) → Type 0
EndsElse e = (r : Refusal) → e ≡ refused_with r → NotTable r.number

-- tables with at least as much room
abbrev Wider : Tables → Tables → Type 0
Wider m w = (m.cells ≤ w.cells) × (m.stack ≤ w.stack) × (m.frames ≤ w.frames)

usable_wider : (lent more : Lent) → lent.cells ≤ more.cells → lent.stack ≤ more.stack → lent.frames ≤ more.frames
    → Wider (usable lent) (usable more)
usable_wider lent more c t f = (omega arith, omega arith, omega arith)

fits_room : (m : Tables) (st : State) (cells f i : ℕ) → Room m st cells → fits m st cells f i ≡ passed
unfolding fits
fits_room m st cells f i (a, b, c) =
    rw (le-leb (length st) m.frames a, le-leb (heights st) m.stack b, le-leb cells m.cells c)

-- the same answer in both, or a refusal for want of room in the first
abbrev Same : {A : Type 0} → Tried A → Tried A → Type 0
Same t u = (u ≡ t) ⊎ ((r : Refusal) × (t ≡ refused r) × (NotTable r.number → ⊥))

no_table : {m : Tables} {st : State} {cells number : ℕ} → NoRoom m st cells number → NotTable number → ⊥
no_table (frames a) n = n.2 refl
no_table (stack a b) n = n.1 refl
no_table (heap a b c) n = n.0 refl

module _ (s : Program) (m w : Tables) (wider : Wider m w) where
  fits_same : (st : State) (cells f i : ℕ) → Same (fits m st cells f i) (fits w st cells f i)
  fits_same st cells f i = one (fits m st cells f i) refl
    where
      one : (t : Check) → fits m st cells f i ≡ t → Same t (fits w st cells f i)
      one (found u) e =
          let r = fits_found m st cells f i e in
          inl (fits_room w st cells f i (le_trans r.0 wider.2, le_trans r.1 wider.1, le_trans r.2 wider.0))
      one (refused r) e =
          let q = fits_refused m st cells f i e in
          inr (r, refl, rw q.2 (no_table q.1))

  step_same : (st : State) (cells : ℕ) → Same (step_within s m st cells) (step_within s w st cells)
  unfolding step_within_by
  step_same [] cells = inl refl
  step_same (fr ∷ others) cells = one (step s (fr ∷ others)) refl
    where
      two : (next : State) → step s (fr ∷ others) ≡ Some next
          → Same (fits m next (cells + cells_taken s (current s fr)) fr.function fr.instruction)
          (fits w next (cells + cells_taken s (current s fr)) fr.function fr.instruction)
          → Same (step_within s m (fr ∷ others) cells) (step_within s w (fr ∷ others) cells)
      two next e (inl same) = inl (rw (e, same))
      two next e (inr (r, h, short)) = inr (r, rw (e, h), short)

      one : (o : Option State) → step s (fr ∷ others) ≡ o → Same (step_within s m (fr ∷ others) cells) (step_within s w (fr ∷ others) cells)
      one None e = inl (rw e)
      one (Some next) e = two next e (fits_same next (cells + cells_taken s (current s fr)) fr.function fr.instruction)

  continued_same : (left steps : ℕ) (st : State) (cells : ℕ) → EndsElse (continued s m left steps st cells).ending
      → continued s w left steps st cells ≡ continued s m left steps st cells
  continued_same zero steps st cells h = one (end_of s st) refl
    where
      one : (o : Option (Ending (List ℕ))) → end_of s st ≡ o → continued s w zero steps st cells ≡ continued s m zero steps st cells
      one (Some e) o =
          continued_ended with_arguments s w zero steps st cells o ∙ sym (continued_ended with_arguments s m zero steps st cells o)
      one None o = continued_spent with_arguments s w steps st cells o ∙ sym (continued_spent with_arguments s m steps st cells o)
  continued_same (suc left) steps st cells h =
      one (λ p h'. continued_same left (suc steps) p.0 p.1 h') (end_of s st) refl
    where
      Later : Type 0
      Later = (p : Point) → EndsElse (continued s m left (suc steps) p.0 p.1).ending
          → continued s w left (suc steps) p.0 p.1 ≡ continued s m left (suc steps) p.0 p.1

      Goal : Type 0
      Goal = continued s w (suc left) steps st cells ≡ continued s m (suc left) steps st cells

      two : Later → end_of s st ≡ None → (t : Tried Point) → step_within s m st cells ≡ t → step_within s w st cells ≡ t → Goal
      two ih o (found p) e e' =
          let on = continued_on_lem with_arguments s m left steps st cells o e in
          continued_on_lem with_arguments s w left steps st cells o e' ∙ ih p (rw on at h) ∙ sym on
      two ih o (refused r) e e' =
          continued_short with_arguments s w left steps st cells o e' ∙ sym (continued_short with_arguments s m left steps st cells o e)

      three : Later → end_of s st ≡ None → Same (step_within s m st cells) (step_within s w st cells) → Goal
      three ih o (inl same) = two ih o (step_within s m st cells) refl same
      three ih o (inr (r, e, short)) =
          let ends = continued_short with_arguments s m left steps st cells o e in
          absurd (short (h r (ap (λ (a : Outcome). a.ending) ends)))

      one : Later → (o : Option (Ending (List ℕ))) → end_of s st ≡ o → Goal
      one ih (Some e) o =
          continued_ended with_arguments s w (suc left) steps st cells o
          ∙ sym (continued_ended with_arguments s m (suc left) steps st cells o)
      one ih None o = three ih o (step_same st cells)

  loaded_same : (entry : ℕ) (bytes : List ℕ) → Same (loaded s m entry bytes) (loaded s w entry bytes)
  loaded_same entry bytes = one (function s entry) refl
    where
      three : (f : Function) → function s entry ≡ Some f → arguments_right s f bytes ≡ passed
          → (t : Check) → fits m (start entry (values s bytes)) (cells_loaded s bytes) entry 1 ≡ t
          → Same t (fits w (start entry (values s bytes)) (cells_loaded s bytes) entry 1)
          → Same (loaded s m entry bytes) (loaded s w entry bytes)
      three f e a (found u) h (inl same) =
          inl (load_begins with_arguments s w entry bytes f e a same ∙ sym (load_begins with_arguments s m entry bytes f e a h))
      three f e a (refused r) h (inl same) =
          inl (load_no_room with_arguments s w entry bytes f e a same ∙ sym (load_no_room with_arguments s m entry bytes f e a h))
      three f e a t h (inr (r, k, short)) = inr (r, load_no_room with_arguments s m entry bytes f e a (h ∙ k), short)

      two : (f : Function) → function s entry ≡ Some f → (t : Check) → arguments_right s f bytes ≡ t
          → Same (loaded s m entry bytes) (loaded s w entry bytes)
      two f e (refused r) a =
          inl (load_bad_arguments with_arguments s w entry bytes f e a ∙ sym (load_bad_arguments with_arguments s m entry bytes f e a))
      two f e (found u) a =
          three f e a (fits m (start entry (values s bytes)) (cells_loaded s bytes) entry 1) refl
          (fits_same (start entry (values s bytes)) (cells_loaded s bytes) entry 1)

      one : (o : Option Function) → function s entry ≡ o → Same (loaded s m entry bytes) (loaded s w entry bytes)
      one None e = inl (load_no_entry with_arguments s w entry bytes e ∙ sym (load_no_entry with_arguments s m entry bytes e))
      one (Some f) e = two f e (arguments_right s f bytes) refl

  started_same : (budget entry : ℕ) (bytes : List ℕ) → EndsElse (started s m budget entry bytes).ending
      → started s w budget entry bytes ≡ started s m budget entry bytes
  started_same budget entry bytes h = one (loaded_same entry bytes)
    where
      Goal : Type 0
      Goal = started s w budget entry bytes ≡ started s m budget entry bytes

      two : (t : Tried State) → loaded s m entry bytes ≡ t → loaded s w entry bytes ≡ t → Goal
      two (found st) e e' =
          let on = started_loaded with_arguments s m budget entry bytes e in
          started_loaded with_arguments s w budget entry bytes e' ∙ continued_same budget 0 st (cells_loaded s bytes) (rw on at h) ∙ sym on
      two (refused r) e e' =
          started_refused with_arguments s w budget entry bytes e' ∙ sym (started_refused with_arguments s m budget entry bytes e)

      one : Same (loaded s m entry bytes) (loaded s w entry bytes) → Goal
      one (inl same) = two (loaded s m entry bytes) refl same
      one (inr (r, e, short)) =
          absurd (short (h r (ap (λ (a : Outcome). a.ending) (started_refused with_arguments s m budget entry bytes e))))

pub room_fact : RoomFact
room_fact file entry arguments budget lent more c t f o h = one (checked file) refl
  where
    one : (k : Tried Program) → checked file ≡ k → run file entry arguments budget more ≡ run file entry arguments budget lent
    one (refused r) e =
        run_refused with_arguments file entry arguments budget more e
        ∙ sym (run_refused with_arguments file entry arguments budget lent e)
    one (found s) e =
        let on = run_checked with_arguments file entry arguments budget lent e in
        let said : Outcome = started s (usable lent) budget entry arguments in
        let ends : EndsElse said.ending = λ r q. (rw on at h) r (refusal_delivered lent.output said r q) in
        let same = started_same s (usable lent) (usable more) (usable_wider lent more c t f) budget entry arguments ends in
        run_checked with_arguments file entry arguments budget more e ∙ rw (← o, same) (sym on)
