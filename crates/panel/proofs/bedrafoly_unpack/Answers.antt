use mathlib.Core.Path.{ap, ◌∙◌}
use native.Mathlib.Omega.{arith}
use Rattle.rules.specs.Answers.{length_words}
use Rattle.words.proofs.WordLaws.{told_words}
use Rattle.panel.proofs.bedrafoly_unpack.Goals as goal

pub returns : goal.returns
returns c =
    let made = c.unpack.ensures in
    let t = told_words c.length_words.result _ 4 (omega arith) (c.length_words.ensures.0 ∙ ap length_words made.0)
    c.tell.ensures in
    (t.0, made.1, t.1)
