-- Each arm of the match hands on what leaves the instruction.
use Rattle.std.proofs.Common.{ap, Some, arith, ◌∙◌, ◌+◌, ◌≤◌}
use Rattle.program.proofs.CodeLaws.{code_there, code_read, code_short}
use Rattle.flow.proofs.FlowLaws.{flow_start, flow_wrong, flow_ends, flow_one, flow_two, flow_end, flow_within}
use Rattle.flow.proofs.flow_of.Goals.{In-Both, in-Ends, in-Next, in-Both}
use Rattle.flow.proofs.flow_of.Goals as goal

pub loop-k-init : goal.loop-k-init
loop-k-init c = flow_start _ _ _ _ (code_there c.requires.0 c.requires.1 c.code_at-code.ensures)

pub returns-in_default : goal.returns-in_default
returns-in_default c =
    flow_wrong _ _ _ _ c.loop-k.invariant (omega arith)
    (code_read c.loop-k.invariant.code c.loop-k.k c.instruction_offset.ensures c.instruction-ins.ensures) c.flow_step.ensures
    c.in_default.is

pub loop-k-preserved : goal.loop-k-preserved
loop-k-preserved c =
    let read = code_read c.loop-k.invariant.code c.loop-k.k c.instruction_offset.ensures c.instruction-ins.ensures in
    elim c.match-step.branch [
      | in-Ends w ↦ rw w.waiting-is
          (flow_ends _ _ _ _ c.loop-k.invariant (omega arith) read c.flow_step.ensures (c.in-Some.is ∙ ap Some w.in-Ends.is))
      | in-Next w ↦ rw (w.waiting-is, w.joined.ensures)
          (flow_one _ _ _ _ c.loop-k.invariant (omega arith) read c.flow_step.ensures (c.in-Some.is ∙ ap Some w.in-Next.is))
      | in-Both w ↦ rw (w.waiting-is, w.joined-in-Both-2.ensures)
          (flow_two _ _ _ _ c.loop-k.invariant (omega arith) read c.flow_step.ensures (c.in-Some.is ∙ ap Some w.in-Both.is)
          w.joined-in-Both.ensures)
    ]

-- both slots that a branch stores to are those of instructions
slots : (c : In-Both) → (c.loop-k.k + 1 + 1 ≤ 256) × (c.in-Both.to ≤ 256)
slots c =
    let within = flow_within _ _ _ _ c.loop-k.invariant (omega arith)
    (code_read c.loop-k.invariant.code c.loop-k.k c.instruction_offset.ensures c.instruction-ins.ensures) c.flow_step.ensures
    (c.in-Some.is ∙ ap Some c.in-Both.is) in
    let short = code_short c.loop-k.invariant.code in
    (omega (arith, within.0, within.1), omega (arith, within.1))

pub bounds-waiting-to : goal.bounds-waiting-to
bounds-waiting-to c = omega (arith, slots (goal.at.bounds-waiting-to c).In-Both)

pub bounds-waiting-to-in-Both : goal.bounds-waiting-to-in-Both
bounds-waiting-to-in-Both c = omega (arith, slots (goal.at.bounds-waiting-to-in-Both c).In-Both)

pub offset_bounds-waiting-to-in-Both : goal.offset_bounds-waiting-to-in-Both
offset_bounds-waiting-to-in-Both c = omega (arith, slots (goal.at.offset_bounds-waiting-to-in-Both c).In-Both)

pub bounds-waiting-i-in-Both : goal.bounds-waiting-i-in-Both
bounds-waiting-i-in-Both c = omega (arith, slots c)

pub bounds-waiting-i-in-Next : goal.bounds-waiting-i-in-Next
bounds-waiting-i-in-Next c =
    let within = flow_within _ _ _ _ c.loop-k.invariant (omega arith)
    (code_read c.loop-k.invariant.code c.loop-k.k c.instruction_offset.ensures c.instruction-ins.ensures) c.flow_step.ensures
    (c.in-Some.is ∙ ap Some c.in-Next.is) in
    omega (arith, within, code_short c.loop-k.invariant.code)

pub returns : goal.returns
returns c = flow_end _ _ _ _ c.loop-k.invariant (omega arith)
