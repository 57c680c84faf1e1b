-- `find` gives what the definition does.
use Rattle.std.proofs.Common.{◌∙◌, ◌==◌, rules, tests}
use Rattle.std.proofs.lemmas.Iterator.{YieldsList-from_slice}
use Rattle.std.proofs.lemmas.Iterator.Search.{find_from_yields_List}
use Rattle.sizing.specs.declared.splits.Split.{Split}
use Rattle.sizing.specs.States.{splits_in}
use Rattle.sizing.proofs.paths.find_split.Goals as goal

pub returns : goal.returns
returns c =
    c.copied.ensures ∙ find_from_yields_List (λ (p : Split). p.variable == c.args.v) _ _ c.find.result c.find.ensures.ran
    (YieldsList-from_slice (splits_in c.args.st.now) cc)
    (λ x b q k. search (rules, tests))
