-- A build's row is made of its weight, and a function's is read where it stands.
use Rattle.std.proofs.Common.{refl, ap, ◌∙◌, arith}
use Rattle.rules.specs.Container.{payload}
use Rattle.rules.specs.Records.{alternative_at}
use Rattle.sizing.specs.Bounds.{row_in}
use Rattle.sizing.proofs.bounds.row_of.Goals as goal

pub returns-in-Built : goal.returns-in-Built
unfolding row_in
returns-in-Built c = rw (c.in-Built.is, c.from.ensures) refl

pub alternative_offset-requires : goal.alternative_offset-requires
alternative_offset-requires c =
    let there = rw c.in-Declared.is at c.requires.1 in
    omega (arith, there, c.requires.0.small)

pub alternative-requires : goal.alternative-requires
alternative-requires c =
    (c.requires.0, rw c.alternative_offset.ensures (rw c.in-Declared.is at c.requires.1))

pub returns-in-Declared : goal.returns-in-Declared
unfolding row_in
returns-in-Declared c =
    rw c.in-Declared.is
    (c.alternative.ensures ∙ ap (alternative_at (payload c.args.file.now)) c.alternative_offset.ensures)
