-- The function is known just where its number is below the count.
use Rattle.std.proofs.Common.{arith}
use Rattle.program.proofs.LayoutLaws.{functions_few, function_placed}
use Rattle.typing.proofs.SignatureLaws.{function_missing, function_read}
use Rattle.typing.proofs.signature.function_signature.Goals as goal

pub returns-then-g-layout-clause-says : goal.returns-then-g-layout-clause-says
returns-then-g-layout-clause-says c = function_missing c.requires c.args.g c.if-g-layout.true

pub bounds-layout-from : goal.bounds-layout-from
bounds-layout-from c = omega (arith, functions_few c.requires.headed, c.from.ensures, c.if-g-layout.false)

pub declaration-requires : goal.declaration-requires
declaration-requires c = (
  c.requires.headed.parsed.verified,
  rw c.from.ensures (omega (arith, (function_placed c.requires c.args.g c.if-g-layout.false).head)),
)

pub returns-clause-says : goal.returns-clause-says
returns-clause-says c = function_read c.requires c.args.g c.if-g-layout.false (rw c.from.ensures at c.declaration.ensures)

pub returns-clause-few : goal.returns-clause-few
returns-clause-few c =
    rw (c.declaration.ensures, c.from.ensures) (function_placed c.requires c.args.g c.if-g-layout.false).arity
