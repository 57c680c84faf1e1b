-- `function_bounded` meets its contract: at each turn what is left to check is the arguments from `k` on.
use mathlib.Core.Path.{sym, ◌∙◌}
use mathlib.Core.Bool.{false}
use Prim.Native.Nat.{◌+◌}
use native.Mathlib.Omega.{arith}
use lib.ListN.{get_or}
use Rattle.rules.specs.Base.{refusal}
use Rattle.rules.proofs.PassLaws.{pass_stop, pass_next, pass_end, test_fails, test_holds}
use Rattle.declarations.proofs.BoundLaws.{bound_pass, argument_says, arity_few, alternatives_fit}
use mathlib.Core.Path.{ap}
use mathlib.Core.Bool.{not}
use Rattle.declarations.proofs.bounding.function_bounded.Goals as goal

pub bounded_arguments-found-requires : goal.bounded_arguments-found-requires
bounded_arguments-found-requires c =
    (c.requires.0, alternatives_fit c.requires.1 c.head-h.ensures)

pub returns-then-not-found-k : goal.returns-then-not-found-k
returns-then-not-found-k c =
    let few = arity_few c.requires.1 c.head-h.ensures in
    pass_stop c.loop-k.invariant (omega arith)
    (test_fails (get_or c.bounded_arguments-found.result c.loop-k.k false)
    (argument_says c.requires.1 c.head-h.ensures c.args.g c.loop-k.k (omega (arith, c.from-k-end.ensures))
    (c.bounded_arguments-found.ensures c.loop-k.k (omega (arith, few, c.from-k-end.ensures)))) (ap not c.if-not-found-k.true))
    ∙ sym (bound_pass c.requires.1 c.head-h.ensures c.args.g c.from-k-end.ensures)

pub loop-k-preserved : goal.loop-k-preserved
loop-k-preserved c =
    let few = arity_few c.requires.1 c.head-h.ensures in
    pass_next c.loop-k.invariant (omega arith)
    (test_holds (get_or c.bounded_arguments-found.result c.loop-k.k false)
    (refusal 6 c.args.g (c.loop-k.k + 1))
    (argument_says c.requires.1 c.head-h.ensures c.args.g c.loop-k.k (omega (arith, c.from-k-end.ensures))
    (c.bounded_arguments-found.ensures c.loop-k.k (omega (arith, few, c.from-k-end.ensures)))) (ap not c.if-not-found-k.false))

pub returns : goal.returns
returns c =
    pass_end c.loop-k.invariant (omega arith) ∙ sym (bound_pass c.requires.1 c.head-h.ensures c.args.g c.from-k-end.ensures)
