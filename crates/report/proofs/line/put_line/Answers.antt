-- `report::line::put_line` meets its contract: the line's front grows by each part. Assumes nothing.
use mathlib.Core.List.{[], ◌∷◌}
use Rattle.report.specs.Line.{spaced}
use Rattle.report.proofs.LineLaws.{front_first, front_next}
use Rattle.report.proofs.line.put_line.Goals as goal

pub returns : goal.returns
returns c =
    let word = c.put-after_word.ensures in
    let first = c.put_number-after_first.ensures in
    let second = c.put_number-after_second.ensures in
    let third = c.put_number-after_third.ensures in
    let end = c.put.ensures in
    let f = front_first c.args.word.now c.args.line.now word.value word.line_after in
    let f₁ = front_next _ (spaced c.args.first) _ f first.value.0 first.line_after in
    let f₂ = front_next _ (spaced c.args.second) _ f₁ second.value.0 second.line_after in
    let f₃ = front_next _ (spaced c.args.third) _ f₂ third.value.0 third.line_after in
    let f₄ = front_next _ (10 ∷ []) _ f₃ end.value end.line_after in
    record { value = f₄.place; line_after = f₄.written }
