-- The stack is filled with the forms of its entries; then what is left of the walk is the same at each instruction of the line, and all
-- entries are covered.
use Rattle.std.proofs.Common.{◌≡◌, ℕ, ◌+◌, ◌-◌, ◌≤◌, ◌<◌, List, Some, length, refl, sym, ap, ◌∙◌, arith, rules}
use Rattle.rules.specs.Records.{function_in, instruction_offset}
use Rattle.rules.specs.declared.records.Instruction.TheVariants.{Load}
use Rattle.rules.specs.Container.{payload}
use Rattle.rules.specs.Stacks.{slot}
use Rattle.sizing.specs.declared.forms.Form.{Form}
use Rattle.sizing.specs.declared.paths.Saved.{Saved}
use Rattle.sizing.specs.declared.routines.Routine.{Routine}
use Rattle.sizing.specs.Right.{shape_in}
use Rattle.sizing.specs.Steps.{FormsAre, OwnIs}
use Rattle.sizing.specs.Walking.{LineAsks}
use Rattle.sizing.proofs.ReachLaws.{at_place, at_instruction, operand_there}
use Rattle.sizing.proofs.ConvertLaws.{forms_next}
use Rattle.sizing.proofs.StraightLaws.{Line, LineGoes, Making, line_own_asks, line_entry_asks, line_right_lem, line_start}
use Rattle.sizing.proofs.StraightLaws.{line_load_asks, line_load, line_end, line_making, line_from, line_arguments, line_large}
use Rattle.sizing.proofs.StraightLaws.{line_uncovered, line_made}
use Rattle.sizing.proofs.line.straight_line.Goals.{At-loop-m, After-instruction-ins, In-Load, In-Some}
use Rattle.sizing.proofs.line.straight_line.Goals as goal

-- the line as it stands where the loop begins again
goes : {file heads : List ℕ} {g : ℕ} {f : Routine} {start : ℕ} {st : Saved} {own : Form} {stack₀ stack : List Form} {i height j : ℕ}
    → LineAsks file heads g f start st → OwnIs file f.bound st.splits own → FormsAre file st i stack₀ → i ≡ st.height
    → Line file g start own stack₀ st.height stack height j
    → LineGoes file g start (shape_in (function_in file g) st) own stack height j
goes a o k e l = l _ (line_right_lem a refl o (rw e at k))

here : (c : At-loop-m) → LineGoes c.args.file.now c.args.g c.args.start
    (shape_in (function_in c.args.file.now c.args.g) c.args.st.now) c.own_form-own.result c.loop-m.stack c.loop-m.height c.loop-m.j
here c =
    goes c.requires c.own_form-own.ensures c.loop-i.invariant (omega (arith, c.loop-i-test.false, c.loop-i.auto.i-end)) c.loop-m.invariant

place : (c : At-loop-m) → (1 ≤ c.loop-m.j) × (c.loop-m.j ≤ length (function_in c.args.file.now c.args.g).code) × (c.loop-m.j ≤ 256)
    × (instruction_offset c.args.f.base (c.loop-m.j - 1) + 4 ≤ length (payload c.args.file.now))
place c = at_place c.requires.walking c.requires.there (here c).at c.args.f.base c.requires.routine.base

-- the instruction that is read
is : (c : After-instruction-ins) (l : LineGoes c.args.file.now c.args.g c.args.start
    (shape_in (function_in c.args.file.now c.args.g) c.args.st.now) c.own_form-own.result c.loop-m.stack c.loop-m.height c.loop-m.j)
    → slot c.loop-m.j (function_in c.args.file.now c.args.g).code ≡ Some c.instruction-ins.result
is c l =
    at_instruction c.requires.walking c.requires.there l.at c.args.f.base c.requires.routine.base
    c.instruction_offset.ensures c.instruction-ins.result c.instruction-ins.ensures

load_asks : (c : In-Load) (l : LineGoes c.args.file.now c.args.g c.args.start
    (shape_in (function_in c.args.file.now c.args.g) c.args.st.now) c.own_form-own.result c.loop-m.stack c.loop-m.height c.loop-m.j)
    → (slot c.loop-m.j (function_in c.args.file.now c.args.g).code ≡ Some (Load c.in-Load.a))
    × (1 ≤ c.in-Load.a) × (c.in-Load.a ≤ c.loop-m.height) × (c.loop-m.height < 16)
load_asks c l =
    let e = at_instruction c.requires.walking c.requires.there l.at c.args.f.base c.requires.routine.base
    c.instruction_offset.ensures c.instruction-ins.result c.instruction-ins.ensures ∙ ap Some c.in-Load.is in
    let q = line_load_asks c.requires l c.in-Load.a e in
    (e, q.0, q.1, q.2)

-- what a build or a call makes
making : (c : In-Some) (l : LineGoes c.args.file.now c.args.g c.args.start
    (shape_in (function_in c.args.file.now c.args.g) c.args.st.now) c.own_form-own.result c.loop-m.stack c.loop-m.height c.loop-m.j)
    → (slot c.loop-m.j (function_in c.args.file.now c.args.g).code ≡ Some c.instruction-ins.result)
    × Making c.requires l c.instruction-ins.result c.in-Some.m
making c l =
    let e = at_instruction c.requires.walking c.requires.there l.at c.args.f.base c.requires.routine.base
    c.instruction_offset.ensures c.instruction-ins.result c.instruction-ins.ensures in
    (e, line_making c.requires l c.instruction-ins.result e c.in-Some.m (sym c.in-Some.ensures))

-- the entries that it takes are there
low : (c : In-Some) (l : LineGoes c.args.file.now c.args.g c.args.start
    (shape_in (function_in c.args.file.now c.args.g) c.args.st.now) c.own_form-own.result c.loop-m.stack c.loop-m.height c.loop-m.j)
    → (c.in-Some.m.arity ≤ c.loop-m.height) × (c.loop-m.height - c.in-Some.m.arity < 16) × (c.loop-m.height ≤ 16)
low c l =
    let k = making c l in
    (k.1.high, (line_from c.requires l c.instruction-ins.result k.0 c.in-Some.m k.1).0, l.line.high)

---- The stack
pub own_form-own-requires : goal.own_form-own-requires
own_form-own-requires c =
    (c.requires.walking.records.verified, line_own_asks c.requires)

pub loop-i-init : goal.loop-i-init
loop-i-init c = record { long = refl; each = λ i l. absurd (omega arith) }

pub entry_form-requires : goal.entry_form-requires
entry_form-requires c =
    (c.requires.walking.records.verified, line_entry_asks c.requires c.loop-i.i c.loop-i-test.true)

pub bounds-stack-i : goal.bounds-stack-i
bounds-stack-i c = omega (arith, c.loop-i-test.true, c.requires.right.high)

pub loop-i-preserved : goal.loop-i-preserved
loop-i-preserved c =
    forms_next c.loop-i.invariant (omega (arith, c.loop-i-test.true, c.requires.right.high)) c.entry_form.ensures

---- The line
pub loop-m-init : goal.loop-m-init
loop-m-init c = line_start c.requires refl

pub overflow_sub-j : goal.overflow_sub-j
overflow_sub-j c = (place c).0

pub instruction_offset-requires : goal.instruction_offset-requires
instruction_offset-requires c =
    let z = c.requires.walking.records.verified.small in
    let p = place (goal.at.instruction_offset-requires c).At-loop-m in
    (omega (arith, p.3), omega (arith, p.2))

pub instruction-ins-requires : goal.instruction-ins-requires
instruction-ins-requires c =
    (c.requires.walking.records.verified, rw c.instruction_offset.ensures (place (goal.at.instruction-ins-requires c).At-loop-m).3)

pub maker_of-requires : goal.maker_of-requires
maker_of-requires c =
    let p = c.requires in
    let l = here (goal.at.maker_of-requires c).At-loop-m in (
      p.walking.records,
      operand_there p.walking p.there l.at c.instruction-ins.result (is
          (goal.at.maker_of-requires c).After-instruction-ins l),
    )

pub returns-in_default-ins : goal.returns-in_default-ins
returns-in_default-ins c =
    let l = here (goal.at.returns-in_default-ins c).At-loop-m in
    let e = line_end c.requires l c.instruction-ins.result (is (goal.at.returns-in_default-ins c).After-instruction-ins l)
    (sym c.in_default.ensures) c.in_default-ins.not-Load in
    record { left = e.0; further = e.1 }

pub overflow_add-result : goal.overflow_add-result
overflow_add-result c = omega (arith, (place (goal.at.overflow_add-result c).At-loop-m).2)

pub overflow_sub-stack : goal.overflow_sub-stack
overflow_sub-stack c =
    let q = load_asks (goal.at.overflow_sub-stack c).In-Load (here (goal.at.overflow_sub-stack c).At-loop-m) in
    omega (arith, q.1, c.from.ensures)

pub bounds-stack-from : goal.bounds-stack-from
bounds-stack-from c =
    let q = load_asks (goal.at.bounds-stack-from c).In-Load (here (goal.at.bounds-stack-from c).At-loop-m) in
    omega (arith, q.2, q.3, c.from.ensures)

pub offset_bounds-stack-height : goal.offset_bounds-stack-height
offset_bounds-stack-height c =
    let q = load_asks (goal.at.offset_bounds-stack-height c).In-Load (here (goal.at.offset_bounds-stack-height c).At-loop-m) in
    omega (arith, q.3)

pub bounds-stack-height : goal.bounds-stack-height
bounds-stack-height c =
    let q = load_asks (goal.at.bounds-stack-height c).In-Load (here (goal.at.bounds-stack-height c).At-loop-m) in
    omega (arith, q.3)

pub overflow_add-height : goal.overflow_add-height
overflow_add-height c =
    let q = load_asks (goal.at.overflow_add-height c).In-Load (here (goal.at.overflow_add-height c).At-loop-m) in
    omega (arith, q.3)

pub loop-m-smaller-in_default : goal.loop-m-smaller-in_default
loop-m-smaller-in_default c = omega (arith, (place (goal.at.loop-m-smaller-in_default c).At-loop-m).2)

pub loop-m-preserved-in_default : goal.loop-m-preserved-in_default
loop-m-preserved-in_default c =
    let q = load_asks (goal.at.loop-m-preserved-in_default c).In-Load (here (goal.at.loop-m-preserved-in_default c).At-loop-m) in
    λ from r. rw c.from.ensures (line_load c.requires (c.loop-m.invariant from r) c.in-Load.a q.0)

pub overflow_sub-at : goal.overflow_sub-at
overflow_sub-at c = (low (goal.at.overflow_sub-at c).In-Some (here (goal.at.overflow_sub-at c).At-loop-m)).0

pub offset_bounds-stack-at : goal.offset_bounds-stack-at
offset_bounds-stack-at c =
    omega (arith, (low (goal.at.offset_bounds-stack-at c).In-Some (here (goal.at.offset_bounds-stack-at c).At-loop-m)).1)

pub slice_bounds-into_bound-end : goal.slice_bounds-into_bound-end
slice_bounds-into_bound-end c =
    let q = low (goal.at.slice_bounds-into_bound-end c).In-Some (here (goal.at.slice_bounds-into_bound-end c).At-loop-m) in
    let h = q.0 in let l = q.2 in
    search rules

pub into_bound-requires : goal.into_bound-requires
into_bound-requires c =
    let l = here (goal.at.into_bound-requires c).At-loop-m in
    let k = making (goal.at.into_bound-requires c).In-Some l in (
      c.requires.walking.records.verified,
      k.1.bound,
      line_arguments c.requires l c.instruction-ins.result k.0 c.in-Some.m k.1,
    )

pub returns-in_default-into_bound : goal.returns-in_default-into_bound
returns-in_default-into_bound c =
    let l = here (goal.at.returns-in_default-into_bound c).At-loop-m in
    let k = making (goal.at.returns-in_default-into_bound c).In-Some l in
    record {
      left = line_large c.requires l c.instruction-ins.result k.0 c.in-Some.m k.1 c.in_default-into_bound.ensures;
      further = tt;
    }

pub overflow_add-j : goal.overflow_add-j
overflow_add-j c = omega (arith, (place (goal.at.overflow_add-j c).At-loop-m).2)

pub covered_by-requires : goal.covered_by-requires
covered_by-requires c =
    ((here (goal.at.covered_by-requires c).At-loop-m).line.bound, c.in-Some-into_bound.ensures.right)

pub returns-then-not-covered_by : goal.returns-then-not-covered_by
returns-then-not-covered_by c =
    let l = here (goal.at.returns-then-not-covered_by c).At-loop-m in
    let k = making (goal.at.returns-then-not-covered_by c).In-Some l in
    record {
      left =
          line_uncovered c.requires l c.instruction-ins.result k.0 c.in-Some.m k.1 c.in-Some-into_bound.x
          c.in-Some-into_bound.ensures (sym c.covered_by.ensures ∙ c.if-not-covered_by.true);
      further = tt;
    }

pub offset_bounds-stack-at-in-loop-m : goal.offset_bounds-stack-at-in-loop-m
offset_bounds-stack-at-in-loop-m c =
    omega (
      arith,
      (low (goal.at.offset_bounds-stack-at-in-loop-m c).In-Some (here
          (goal.at.offset_bounds-stack-at-in-loop-m c).At-loop-m)).1,
    )

pub bounds-stack-at : goal.bounds-stack-at
bounds-stack-at c =
    omega (arith, (low (goal.at.bounds-stack-at c).In-Some (here (goal.at.bounds-stack-at c).At-loop-m)).1)

pub overflow_add-height-in-loop-m : goal.overflow_add-height-in-loop-m
overflow_add-height-in-loop-m c =
    omega (arith, (low (goal.at.overflow_add-height-in-loop-m c).In-Some (here (goal.at.overflow_add-height-in-loop-m c).At-loop-m)).1)

pub loop-m-smaller : goal.loop-m-smaller
loop-m-smaller c = omega (arith, (place (goal.at.loop-m-smaller c).At-loop-m).2)

pub loop-m-preserved : goal.loop-m-preserved
loop-m-preserved c =
    let e = is (goal.at.loop-m-preserved c).After-instruction-ins (here (goal.at.loop-m-preserved c).At-loop-m) in
    λ from r. let k =
    line_making c.requires (c.loop-m.invariant from r) c.instruction-ins.result e c.in-Some.m (sym c.in-Some.ensures) in
    line_made c.requires (c.loop-m.invariant from r) c.instruction-ins.result e c.in-Some.m k c.in-Some-into_bound.x
    c.in-Some-into_bound.ensures (sym c.covered_by.ensures ∙ c.if-not-covered_by.false)
