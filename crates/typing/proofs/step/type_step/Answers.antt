-- Each arm is the rule of its operation.
use Rattle.std.proofs.Common.{refl}
use Rattle.rules.specs.Types.{type_rule}
use Rattle.typing.proofs.SignatureLaws.{build_rule, call_rule, branch_rule}
use Rattle.typing.proofs.step.type_step.Goals as goal

pub returns-in-Build : goal.returns-in-Build
returns-in-Build c =
    λ g i f q. rw (c.in-Build.is, build_rule, ← c.constructor_signature.ensures.says) (c.make.ensures _ g f i _)

pub returns-in-Call : goal.returns-in-Call
returns-in-Call c =
    λ g i f q. rw (c.in-Call.is, call_rule, ← c.function_signature.ensures.says) (c.make-in-Call.ensures _ g f i _)

pub returns-in-Branch : goal.returns-in-Branch
returns-in-Branch c =
    λ g i f q. rw (c.in-Branch.is, branch_rule, ← c.constructor_signature-in-Branch.ensures.says) (c.branch-st.ensures _ g f i)

pub returns-in-Stop : goal.returns-in-Stop
unfolding type_rule
returns-in-Stop c = λ g i f q. rw c.in-Stop.is (record { says = refl })
