-- The slots hold what arrives at each instruction, and the whole walk comes out as what is left of it.
use Rattle.std.proofs.Common.{◌≡◌, Option, Some, None, sym, refl, arith}
use Rattle.std.proofs.lemmas.Result.{err_from_is_err_and}
use Rattle.rules.specs.Container.{payload}
use Rattle.rules.specs.Records.{head_offset, function_in}
use Rattle.sizing.specs.Moves.{sent}
use Rattle.sizing.specs.Routines.{RoutineIs}
use Rattle.sizing.proofs.SlotLaws.{routine_few, slots_start, slots_end, slots_low, slots_skip, slots_asks, slots_refused, slots_on}
use Rattle.sizing.proofs.SlotLaws.{SlotsStand, slots_sent, slots_none_sent, slots_next, slots_past}
use Rattle.sizing.proofs.walk.function_sizes.Goals.{After-routine_at-f, Joined-m, in-Some-other, in_default-other}
use Rattle.sizing.proofs.walk.function_sizes.Goals as goal

none_of : {A : Type 0} {o : Option A} → ((x : A) → o ≡ Some x → ⊥) → o ≡ None
none_of {o = None} n = refl
none_of {o = Some x} n = absurd (n x refl)

---- What is known at a place of the code
routine : (c : After-routine_at-f) → let a =
    c.args in
    RoutineIs (payload a.file.now) (head_offset (payload a.file.now) a.g) c.routine_at-f.result
routine c =
    let p = c.requires in
    rw (p.walking.records.placed _ p.there) at c.routine_at-f.ensures

pub bounds-heads-g : goal.bounds-heads-g
bounds-heads-g c = let p = c.requires in omega (arith, p.walking.records.few, p.there)

pub routine_at-f-requires : goal.routine_at-f-requires
routine_at-f-requires c =
    let p = c.requires in
    let r = p.walking.records in
    (r.verified, rw (r.placed _ p.there) (r.there.function _ p.there))

pub start_state-requires : goal.start_state-requires
start_state-requires c = routine_few c.requires (routine (goal.at.start_state-requires c).After-routine_at-f)

pub loop-i-init : goal.loop-i-init
loop-i-init c =
    slots_start c.requires (routine (goal.at.loop-i-init c).After-routine_at-f) c.start_state.result c.start_state.ensures

pub bounds-saved-i : goal.bounds-saved-i
bounds-saved-i c =
    omega (arith, slots_low c.requires (routine (goal.at.bounds-saved-i c).After-routine_at-f) c.loop-i.invariant c.loop-i-test.true)

pub loop-i-smaller-in_default : goal.loop-i-smaller-in_default
loop-i-smaller-in_default c = omega (arith, c.loop-i-test.true)

pub loop-i-preserved-in_default : goal.loop-i-preserved-in_default
loop-i-preserved-in_default c =
    slots_skip c.requires (routine (goal.at.loop-i-preserved-in_default c).After-routine_at-f) c.loop-i.invariant c.loop-i-test.true
    (none_of c.in_default.not-Some)

pub step-requires : goal.step-requires
step-requires c =
    slots_asks c.requires (routine (goal.at.step-requires c).After-routine_at-f) c.loop-i.invariant c.loop-i-test.true c.in-Some.is

pub returns-in_err-m : goal.returns-in_err-m
returns-in_err-m c =
    let p = err_from_is_err_and c.from_residual.result c.from_residual.ensures.1 in
    rw (p.1, p.2)
    (sym (slots_refused c.requires (routine (goal.at.returns-in_err-m c).After-routine_at-f) c.loop-i.invariant c.loop-i-test.true
    c.in-Some.is c.in_err-m.ensures))

-- behind the store for the else target
stored : (c : Joined-m) → RoutineIs (payload c.args.file.now) (head_offset (payload c.args.file.now) c.args.g) c.routine_at-f.result
    → SlotsStand c.args.file.now c.args.g c.match-m.saved
    (sent (function_in c.args.file.now c.args.g) c.in_ok-m.m.other c.loop-i.invariant.arrows) c.loop-i.i
stored c r =
    elim c.match-m.branch [
      | in-Some-other w ↦
          rw w.saved-is (slots_sent c.requires r c.loop-i.invariant c.loop-i-test.true c.in-Some.is c.in_ok-m.ensures
          w.in-Some-other.far w.in-Some-other.other w.in-Some-other.is).1
      | in_default-other w ↦
          rw w.saved-is (slots_none_sent c.requires r c.loop-i.invariant c.loop-i-test.true c.in-Some.is c.in_ok-m.ensures
          (none_of w.in_default-other.not-Some))
    ]

pub loop-i-smaller-in-Some-next : goal.loop-i-smaller-in-Some-next
loop-i-smaller-in-Some-next c =
    let t = c.loop-i-test.true in
    let r = routine (goal.at.loop-i-smaller-in-Some-next c).After-routine_at-f in
    omega (arith, slots_on c.requires r c.loop-i.invariant c.loop-i-test.true c.in-Some.is c.in_ok-m.ensures)

pub loop-i-preserved-in-Some-next : goal.loop-i-preserved-in-Some-next
loop-i-preserved-in-Some-next c =
    let r = routine (goal.at.loop-i-preserved-in-Some-next c).After-routine_at-f in
    (slots_next c.requires r c.loop-i.invariant c.loop-i-test.true c.in-Some.is c.in_ok-m.ensures
    (stored (goal.at.loop-i-preserved-in-Some-next c).Joined-m r) c.in-Some-next.next c.in-Some-next.is).1

pub loop-i-smaller : goal.loop-i-smaller
loop-i-smaller c =
    let t = c.loop-i-test.true in
    let r = routine (goal.at.loop-i-smaller c).After-routine_at-f in
    omega (arith, slots_on c.requires r c.loop-i.invariant c.loop-i-test.true c.in-Some.is c.in_ok-m.ensures)

pub loop-i-preserved : goal.loop-i-preserved
loop-i-preserved c =
    let r = routine (goal.at.loop-i-preserved c).After-routine_at-f in
    slots_past c.requires r c.loop-i.invariant c.loop-i-test.true c.in-Some.is c.in_ok-m.ensures
    (stored (goal.at.loop-i-preserved c).Joined-m r) (none_of c.in_default-next.not-Some)

pub returns : goal.returns
returns c =
    sym (slots_end c.requires (routine (goal.at.returns c).After-routine_at-f) c.loop-i.invariant c.loop-i-test.false)
