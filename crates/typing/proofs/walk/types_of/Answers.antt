-- Each arm of the match hands the stack on.
use Rattle.std.proofs.Common.{refl, ap, Some, arith, ℕ, ◌+◌, ◌≤◌, ◌∙◌, length}
use Rattle.rules.specs.Container.{payload}
use Rattle.rules.specs.Records.{program_in, function_of}
use Rattle.rules.specs.Types.{types_of}
use Rattle.program.proofs.LayoutLaws.{functions_few, head_placed, function_placed}
use Rattle.program.proofs.CodeLaws.{code_there, code_short, code_read}
use Rattle.operands.proofs.OperationLaws.{stack_length}
use Rattle.typing.proofs.SignatureLaws.{flow_placed, own_result, own_start}
use Rattle.typing.proofs.TypeWalk.{typing_start, typing_listed, typing_wrong, typing_ends, typing_one, typing_two, typing_end}
use Rattle.typing.proofs.TypeWalk.{room_one, room_two}
use Rattle.typing.proofs.walk.types_of.Goals.{In-Both, in-Ends, in-Next, in-Both}
use Rattle.typing.proofs.walk.types_of.Goals as goal

pub offset_bounds-layout-g : goal.offset_bounds-layout-g
offset_bounds-layout-g c = omega (arith, functions_few c.requires.1.headed, c.requires.2)

pub bounds-layout-g : goal.bounds-layout-g
bounds-layout-g c = omega (arith, functions_few c.requires.1.headed, c.requires.2)

pub declaration-signature-requires : goal.declaration-signature-requires
declaration-signature-requires c =
    (c.requires.1.headed.parsed.verified, omega (arith, (function_placed c.requires.1 c.args.g c.requires.2).head))

pub code_at-code-requires : goal.code_at-code-requires
code_at-code-requires c = (c.requires.1.headed.parsed.verified, function_placed c.requires.1 c.args.g c.requires.2)

pub push_arguments-requires : goal.push_arguments-requires
push_arguments-requires c =
    let few : c.declaration-signature.result.arity ≤ 4 =
    rw c.declaration-signature.ensures (function_placed c.requires.1 c.args.g c.requires.2).arity in
    (few, omega (arith, few, stack_length c.empty-none.result, ap length c.empty-none.ensures))

pub loop-k-init : goal.loop-k-init
loop-k-init c =
    let o = c.requires.1 in
    let g = c.args.g in
    typing_start _ _ _ _
    (code_there o.headed.parsed.verified (function_placed o g c.requires.2) c.code_at-code.ensures)
    (flow_placed o g c.requires.0.flow c.requires.2) c.empty-none.result c.push_arguments.result
    (own_start _ _ c.declaration-signature.ensures c.empty-none.result c.push_arguments.result c.empty-none.ensures
    c.push_arguments.ensures)

pub listed : goal.listed
listed c = typing_listed _ _ _ _ c.loop-k.invariant (omega arith)

pub returns-in_default : goal.returns-in_default
returns-in_default c =
    typing_wrong _ _ _ _ c.loop-k.invariant (omega arith) c.index-waiting-i.result refl
    (code_read c.loop-k.invariant.code c.loop-k.k c.instruction_offset.ensures c.instruction-ins.ensures)
    (c.type_step.ensures _ _ _ (own_result _ _ c.declaration-signature.ensures)) c.in_default.is
    ∙ ap (λ (x : ℕ). types_of (program_in c.args.file.now) c.args.g (function_of (payload c.args.file.now) x))
    (head_placed c.requires.1 c.args.g c.requires.2)

pub loop-k-preserved : goal.loop-k-preserved
loop-k-preserved c =
    let read = code_read c.loop-k.invariant.code c.loop-k.k c.instruction_offset.ensures c.instruction-ins.ensures in
    let says = c.type_step.ensures c.args.g (c.loop-k.k + 1) (function_of _ _) (own_result _ _ c.declaration-signature.ensures) in
    elim c.match-step.branch [
      | in-Ends w ↦ rw w.waiting-is
          (typing_ends _ _ _ _ c.loop-k.invariant (omega arith) c.index-waiting-i.result refl read says
          (c.in-Some.is ∙ ap Some w.in-Ends.is))
      | in-Next w ↦ rw w.waiting-is
          (typing_one _ _ _ _ c.loop-k.invariant (omega arith) c.index-waiting-i.result refl read says
          (c.in-Some.is ∙ ap Some w.in-Next.is))
      | in-Both w ↦ rw w.waiting-is
          (typing_two _ _ _ _ c.loop-k.invariant (omega arith) c.index-waiting-i.result refl read says
          (c.in-Some.is ∙ ap Some w.in-Both.is))
    ]

pub bounds-waiting-i-in-Next : goal.bounds-waiting-i-in-Next
bounds-waiting-i-in-Next c = omega (
  arith,
  code_short c.loop-k.invariant.code,
  (room_one _ _ _ _ c.loop-k.invariant (omega arith) c.index-waiting-i.result refl
      (code_read c.loop-k.invariant.code c.loop-k.k c.instruction_offset.ensures c.instruction-ins.ensures)
      (c.type_step.ensures _ _ _ (own_result _ _ c.declaration-signature.ensures)) (c.in-Some.is ∙ ap Some c.in-Next.is)),
)

-- both slots that a branch stores to are those of instructions
slots : (c : In-Both) → (c.loop-k.k + 1 + 1 ≤ 256) × (c.in-Both.to ≤ 256)
slots c =
    let room = room_two _ _ _ _ c.loop-k.invariant (omega arith) c.index-waiting-i.result refl
    (code_read c.loop-k.invariant.code c.loop-k.k c.instruction_offset.ensures c.instruction-ins.ensures)
    (c.type_step.ensures _ _ _ (own_result _ _ c.declaration-signature.ensures)) (c.in-Some.is ∙ ap Some c.in-Both.is) in
    let short = code_short c.loop-k.invariant.code in
    (omega (arith, room.0), omega (arith, room.1))

pub offset_bounds-waiting-to : goal.offset_bounds-waiting-to
offset_bounds-waiting-to c = omega (arith, slots c)

pub bounds-waiting-to : goal.bounds-waiting-to
bounds-waiting-to c = omega (arith, slots c)

pub bounds-waiting-i-in-Both : goal.bounds-waiting-i-in-Both
bounds-waiting-i-in-Both c = omega (arith, slots c)

pub returns : goal.returns
returns c =
    typing_end _ _ _ _ c.loop-k.invariant (omega arith)
    ∙ ap (λ (x : ℕ). types_of (program_in c.args.file.now) c.args.g (function_of (payload c.args.file.now) x))
    (head_placed c.requires.1 c.args.g c.requires.2)
