use mathlib.Core.Path.{ap, ◌∙◌}
use native.Mathlib.Omega.{arith}
use Rattle.rules.specs.Answers.{check_words}
use Rattle.words.proofs.WordLaws.{told_words}
use Rattle.panel.proofs.bedrafoly_check.Goals as goal

pub returns : goal.returns
returns c =
    told_words c.check_words.result _ 4 (omega arith)
    (c.check_words.ensures.0 ∙ ap check_words c.check.ensures) c.tell.ensures
