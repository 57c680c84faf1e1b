-- `all` gives what the definition does.
use Rattle.std.proofs.Common.{rules, tests}
use Rattle.std.proofs.lemmas.Iterator.{YieldsList-from_slice}
use Rattle.std.proofs.lemmas.Iterator.Search.{all_from_yields_List}
use Rattle.rules.specs.Base.{any}
use Rattle.rules.specs.Forms.{matches, covers}
use Rattle.sizing.specs.Forms.{form_in}
use Rattle.sizing.proofs.cover.covered_by.Goals as goal

pub returns : goal.returns
unfolding covers
returns c =
    all_from_yields_List (λ a. any (matches a) (form_in c.args.bound.now)) _ _ _ c.all.ensures.ran
    (YieldsList-from_slice (form_in c.args.form.now) cc)
    (λ x b q k. search (rules, tests))
