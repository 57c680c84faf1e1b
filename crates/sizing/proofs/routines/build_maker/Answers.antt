-- The constructor says the arity and the weight.
use Rattle.std.proofs.Common.{refl, ap, ◌∙◌}
use Rattle.rules.specs.Container.{payload}
use Rattle.rules.specs.Records.{constructor_at}
use Rattle.sizing.proofs.routines.build_maker.Goals as goal

pub returns : goal.returns
returns c =
    let is = c.constructor-k.ensures
    ∙ ap (constructor_at (payload c.args.file.now)) c.constructor_offset.ensures in
    rw (c.from.ensures, is) refl
