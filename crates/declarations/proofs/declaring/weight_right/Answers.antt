-- There are as many arguments as the arity says, and the rest is the definition.
use Rattle.std.proofs.Common.{rules, ◌≡◌, ◌≤◌, length, arith}
use lib.Seq.{length-take-le}
use Rattle.rules.specs.Records.{constructor_of}
use Rattle.rules.specs.Declarations.{weight_right}
use Rattle.declarations.proofs.DeclareLaws.{weight_none, weight_some}
use Rattle.declarations.proofs.declaring.weight_right.Goals as goal

pub returns-then-d-eq0 : goal.returns-then-d-eq0
unfolding weight_right constructor_of
returns-then-d-eq0 c =
    let d = c.args.c.declaration in
    let few : d.arity ≤ length d.types = search (rules, arith) in
    rw (length-take-le d.arity d.types few) (weight_none d.arity c.args.c.weight c.if-d-eq0.true)

pub returns-else-d-eq0 : goal.returns-else-d-eq0
unfolding weight_right constructor_of
returns-else-d-eq0 c =
    let d = c.args.c.declaration in
    let long : length d.types ≡ 4 = search rules in
    let few : d.arity ≤ length d.types = omega (arith, c.requires) in
    rw (length-take-le d.arity d.types few) (weight_some d.arity c.args.c.weight c.if-d-eq0.false)
