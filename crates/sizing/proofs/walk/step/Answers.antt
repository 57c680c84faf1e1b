-- One law for each of the six instructions.
use Rattle.std.proofs.Common.{◌≡◌, ℕ, ◌+◌, ◌-◌, ◌≤◌, ◌⊎◌, List, length, refl, ap, arith}
use mathlib.Core.Logic.{⊎_elim}
use Rattle.rules.specs.Container.{payload}
use Rattle.rules.specs.Records.{function_in, instruction_offset}
use Rattle.rules.specs.declared.records.Instruction.{Instruction}
use Rattle.rules.specs.declared.records.Instruction.TheVariants.{Build, Call, Return, Stop}
use Rattle.rules.specs.Shapes.{shape_from}
use Rattle.sizing.specs.declared.paths.Saved.{Saved}
use Rattle.sizing.specs.Walking.{Makes}
use Rattle.sizing.specs.Moves.{MoveAsks}
use Rattle.sizing.proofs.ReachLaws.{at_place, at_instruction}
use Rattle.sizing.proofs.MoveLaws.{said_end, move_load_asks, said_load}
use Rattle.sizing.proofs.walk.step.Goals.{Start, After-instruction-ins}
use Rattle.sizing.proofs.walk.step.Goals as goal

---- What is known at a place of the code
place : (c : Start) → (1 ≤ c.args.i) × (c.args.i ≤ length (function_in c.args.file.now c.args.g).code) × (c.args.i ≤ 256)
    × (instruction_offset c.args.f.base (c.args.i - 1) + 4 ≤ length (payload c.args.file.now))
place c =
    let p = c.requires in
    at_place p.function.walking p.function.there p.fit.at c.args.f.base p.routine.base

-- the instruction that is read
move : (c : After-instruction-ins)
    → MoveAsks c.args.file.now c.args.heads.now c.args.g c.args.i c.args.st.now c.instruction-ins.result
move c =
    let p = c.requires in
    record {
      function = p.function;
      fit = p.fit;
      is =
          at_instruction p.function.walking p.function.there p.fit.at c.args.f.base p.routine.base
          c.instruction_offset.ensures c.instruction-ins.result c.instruction-ins.ensures;
    }

as_is : {file heads : List ℕ} {g i : ℕ} {st : Saved} {x y : Instruction} → MoveAsks file heads g i st x → x ≡ y
    → MoveAsks file heads g i st y
as_is m e = rw e at m

-- a build or a call makes an entry
makes_entry : (ins : Instruction) → ((x : ℕ) × (ins ≡ Build x)) ⊎ ((x : ℕ) × (ins ≡ Call x)) → Makes ins
makes_entry ins h = ⊎_elim (λ k. rw k.1 tt) (λ k. rw k.1 tt) h

pub overflow_sub-i : goal.overflow_sub-i
overflow_sub-i c = omega (arith, c.requires.some_i)

pub instruction_offset-requires : goal.instruction_offset-requires
instruction_offset-requires c =
    let z = c.requires.function.walking.records.verified.small in (
      omega (arith, (place (goal.at.instruction_offset-requires c).Start).3),
      omega (
        arith,
        (place (goal.at.instruction_offset-requires c).Start).2,
      ),
    )

pub instruction-ins-requires : goal.instruction-ins-requires
instruction-ins-requires c = (
  c.requires.function.walking.records.verified,
  rw c.instruction_offset.ensures
      (place (goal.at.instruction-ins-requires c).Start).3,
)

pub overflow_sub-from : goal.overflow_sub-from
overflow_sub-from c =
    omega (
      arith,
      (move_load_asks (as_is (move (goal.at.overflow_sub-from c).After-instruction-ins)
          c.in-Load.is)).0,
      c.from.ensures,
    )

pub load_variable-requires : goal.load_variable-requires
load_variable-requires c =
    let q = move_load_asks (as_is (move (goal.at.load_variable-requires c).After-instruction-ins) c.in-Load.is) in
    (q.2, omega (arith, q.0, q.1, c.from.ensures), (move (goal.at.load_variable-requires c).After-instruction-ins).fit.right.long)

pub line_move-requires : goal.line_move-requires
line_move-requires c =
    record {
      ins = c.instruction-ins.result;
      move = move (goal.at.line_move-requires c).After-instruction-ins;
      makes = makes_entry c.instruction-ins.result c.in-Build.is;
      routine = c.requires.routine;
    }

pub branch-file-requires : goal.branch-file-requires
branch-file-requires c = (_, as_is (move (goal.at.branch-file-requires c).After-instruction-ins) c.in-Branch.is)

pub returns-in-Load : goal.returns-in-Load
returns-in-Load c =
    said_load (as_is (move (goal.at.returns-in-Load c).After-instruction-ins) c.in-Load.is) (c.from.result - 1)
    (ap (λ (k : ℕ). k - 1) c.from.ensures)
    c.load_variable.result c.load_variable.ensures.0
    c.load_variable.ensures.1 c.load_variable.ensures.2

pub returns-in-Return : goal.returns-in-Return
unfolding shape_from
returns-in-Return c =
    rw c.stay.ensures
    (⊎_elim (λ (e : c.instruction-ins.result ≡ Return). said_end (as_is (move (goal.at.returns-in-Return c).After-instruction-ins) e) refl)
    (λ (e : c.instruction-ins.result ≡ Stop). said_end (as_is (move (goal.at.returns-in-Return c).After-instruction-ins) e) refl)
    c.in-Return.is)
