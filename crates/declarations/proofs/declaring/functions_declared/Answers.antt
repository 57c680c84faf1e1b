-- `functions_declared` meets its contract: at each turn what is left to check is the functions from `g` on.
use mathlib.Core.Path.{sym, ◌∙◌, subst}
use Prim.Native.Nat.{◌≤◌}
use native.Mathlib.Omega.{arith}
use Rattle.rules.specs.declared.records.Declaration.{Declaration}
use Rattle.rules.specs.Base.{refusal}
use Rattle.rules.specs.Container.{payload}
use Rattle.rules.specs.Declarations.{signature_rule}
use Rattle.rules.specs.Records.{program_of}
use Rattle.rules.proofs.PassLaws.{pass_stop, pass_next, pass_end, test_fails, test_holds}
use Rattle.program.proofs.LayoutLaws.{functions_few, function_placed, functions_pass, function_here}
use Rattle.declarations.proofs.DeclareLaws.{signature_says}
use mathlib.Core.Path.{ap}
use mathlib.Core.Bool.{not}
use Rattle.declarations.proofs.declaring.functions_declared.Goals as goal

pub bounds-layout-g : goal.bounds-layout-g
bounds-layout-g c = omega (arith, functions_few c.requires.headed)

pub declaration-requires : goal.declaration-requires
declaration-requires c = (
  c.requires.headed.parsed.verified,
  omega
      (arith, c.requires.headed.parsed.verified.small, (function_placed c.requires c.loop-g.g (omega arith)).head),
)

pub types_below-requires : goal.types_below-requires
types_below-requires c =
    subst (λ (x : Declaration). x.arity ≤ 4) (sym c.declaration.ensures)
    (function_placed c.requires c.loop-g.g (omega arith)).arity

pub returns-then-not-types_below : goal.returns-then-not-types_below
returns-then-not-types_below c =
    pass_stop c.loop-g.invariant (omega arith)
    (function_here c.requires (signature_rule (program_of (payload c.args.file.now)).types) c.loop-g.g
    (omega arith)
    (test_fails c.types_below.result
    (signature_says c.requires.headed c.loop-g.g _ c.declaration.ensures
    c.types_below.ensures) (ap not c.if-not-types_below.true))) ∙ sym (functions_pass c.requires.headed _)

pub loop-g-preserved : goal.loop-g-preserved
loop-g-preserved c =
    pass_next c.loop-g.invariant (omega arith)
    (function_here c.requires (signature_rule (program_of (payload c.args.file.now)).types) c.loop-g.g
    (omega arith)
    (test_holds c.types_below.result (refusal 5 1 c.loop-g.g)
    (signature_says c.requires.headed c.loop-g.g _ c.declaration.ensures
    c.types_below.ensures) (ap not c.if-not-types_below.false)))

pub returns : goal.returns
returns c =
    pass_end c.loop-g.invariant (omega arith)
    ∙ sym (functions_pass c.requires.headed _)
