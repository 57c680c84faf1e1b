-- `any` gives what the definition does.
use Rattle.std.proofs.Common.{rules, tests}
use Rattle.std.proofs.lemmas.Iterator.{YieldsList-from_slice}
use Rattle.std.proofs.lemmas.Iterator.Search.{any_from_yields_List}
use Rattle.rules.specs.Forms.{matches}
use Rattle.sizing.specs.Forms.{form_in}
use Rattle.sizing.proofs.cover.some_matches.Goals as goal

pub returns : goal.returns
returns c =
    any_from_yields_List (matches c.args.a) _ _ _ c.any.ensures.ran
    (YieldsList-from_slice (form_in c.args.bound.now) cc)
    (λ x b q k. search (rules, tests))
