-- The head says how many alternatives stand before the code, and how many instructions it has.
use mathlib.Core.Path.{ap, ◌∙◌}
use Rattle.rules.specs.declared.records.HeadRecord.{HeadRecord}
use Rattle.rules.specs.Records.{alternative_offset}
use Rattle.program.proofs.code.code_at.Goals as goal

pub returns : goal.returns
returns c =
    let at = c.args.at in (
      c.alternative_offset.ensures ∙ ap (alternative_offset at) c.from.ensures
          ∙ ap (λ (h : HeadRecord). alternative_offset at h.alternatives) c.head-h.ensures,
      c.from-2.ensures ∙ ap (λ (h : HeadRecord). h.instructions) c.head-h.ensures,
    )
