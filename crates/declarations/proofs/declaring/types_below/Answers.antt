-- `all` looks at each argument type, behind the result type.
use Rattle.std.proofs.Common.{rules, tests, take}
use Rattle.std.specs.Prelude.{ltb}
use Rattle.std.proofs.lemmas.Iterator.{YieldsList-from_slice}
use Rattle.std.proofs.lemmas.Iterator.Search.{all_from_yields_List}
use borrow.Author.Tests.{lt-ltb}
use Rattle.declarations.proofs.declaring.types_below.Goals as goal

pub returns-then-d-types : goal.returns-then-d-types
returns-then-d-types c =
    rw (lt-ltb c.args.d.result c.args.types c.if-d-types.true)
    (all_from_yields_List (λ t. ltb t c.args.types) _ _ c.all.result c.all.ensures.ran
    (YieldsList-from_slice (take c.args.d.arity c.args.d.types) cc) (λ x b q k. search (rules, tests)))
