-- `panel::bedrafoly_lines` meets its contract: the words told are those of what is written. Assumes nothing.
use mathlib.Core.Path.{◌≡◌, ap, ◌∙◌}
use native.Mathlib.Omega.{arith}
use lib.ListN.{length, take}
use Rattle.rules.specs.Answers.{length_of, length_words}
use Rattle.rules.specs.Lines.{lines_of}
use Rattle.words.proofs.WordLaws.{told_words}
use Rattle.panel.proofs.bedrafoly_lines.Goals as goal

pub returns : goal.returns
returns c =
    let a = c.args in
    let made = c.lines.ensures in
    let words = length_words (length_of (lines_of a.text.now a.table.now a.cons a.nil (length a.out.now))) in
    let e : take 4 c.length_words.result ≡ words = c.length_words.ensures.0 ∙ ap length_words made.0 in
    let t = told_words c.length_words.result _ 4 (omega arith) e c.tell.ensures in
    record { returned = t.0; of_output = made.1; of_answer = t.1 }
