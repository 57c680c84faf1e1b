-- `constructors_declared` meets its contract: at each turn what is left to check is the constructors from `k` on.
use native.Mathlib.Omega.{arith}
use mathlib.Core.Path.{sym, ap, ◌∙◌, subst}
use Prim.Native.Nat.{◌≤◌}
use Rattle.rules.specs.declared.records.ConstructorRecord.{ConstructorRecord}
use Rattle.rules.specs.Base.{refusal}
use Rattle.rules.specs.Container.{payload}
use Rattle.rules.specs.Records.{constructor_at}
use Rattle.rules.proofs.PassLaws.{pass_stop, pass_next, pass_end, test_fails, test_holds}
use Rattle.program.proofs.LayoutLaws.{constructor_there, constructors_pass}
use Rattle.declarations.proofs.DeclareLaws.{constructor_says}
use mathlib.Core.Bool.{not}
use Rattle.declarations.proofs.declaring.constructors_declared.Goals as goal

pub constructor-c-requires : goal.constructor-c-requires
constructor-c-requires c = (
  c.requires.parsed.verified,
  rw c.constructor_offset.ensures (constructor_there c.requires c.loop-k.k
      (omega arith)).0,
)

pub constructor_declared-requires : goal.constructor_declared-requires
constructor_declared-requires c =
    subst (λ (x : ConstructorRecord). x.declaration.arity ≤ 4)
    (sym (c.constructor-c.ensures ∙ ap (constructor_at (payload c.args.file.now)) c.constructor_offset.ensures))
    (constructor_there c.requires c.loop-k.k (omega arith)).1

pub returns-then-not-constructor_declared : goal.returns-then-not-constructor_declared
returns-then-not-constructor_declared c =
    let says =
    constructor_says c.requires c.loop-k.k _
    (c.constructor-c.ensures ∙ ap (constructor_at (payload c.args.file.now)) c.constructor_offset.ensures)
    c.constructor_declared.ensures in
    pass_stop c.loop-k.invariant (omega arith)
    (test_fails c.constructor_declared.result says (ap not c.if-not-constructor_declared.true))
    ∙ sym (constructors_pass c.requires _)

pub loop-k-preserved : goal.loop-k-preserved
loop-k-preserved c =
    let says =
    constructor_says c.requires c.loop-k.k _
    (c.constructor-c.ensures ∙ ap (constructor_at (payload c.args.file.now)) c.constructor_offset.ensures)
    c.constructor_declared.ensures in
    pass_next c.loop-k.invariant (omega arith)
    (test_holds c.constructor_declared.result (refusal 5 0 c.loop-k.k) says (ap not c.if-not-constructor_declared.false))

pub returns : goal.returns
returns c = pass_end c.loop-k.invariant (omega arith) ∙ sym (constructors_pass c.requires _)
