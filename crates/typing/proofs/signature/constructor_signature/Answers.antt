-- The constructor is known just where its number is below the count.
use Rattle.std.proofs.Common.{arith}
use Rattle.program.proofs.LayoutLaws.{constructor_there}
use Rattle.typing.proofs.SignatureLaws.{constructor_missing, constructor_read}
use Rattle.typing.proofs.signature.constructor_signature.Goals as goal

pub returns-then-c-header-clause-says : goal.returns-then-c-header-clause-says
returns-then-c-header-clause-says c = constructor_missing c.requires c.args.c c.if-c-header.true

pub constructor_declaration-requires : goal.constructor_declaration-requires
constructor_declaration-requires c =
    (c.requires.parsed.verified, rw c.from.ensures (omega (arith, (constructor_there c.requires c.args.c c.if-c-header.false).0)))

pub returns-clause-says : goal.returns-clause-says
returns-clause-says c =
    constructor_read c.requires c.args.c c.if-c-header.false (rw c.from.ensures at c.constructor_declaration.ensures)

pub returns-clause-few : goal.returns-clause-few
returns-clause-few c =
    rw (c.constructor_declaration.ensures, c.from.ensures) (constructor_there c.requires c.args.c c.if-c-header.false).1
