-- The head says the arity, how many alternatives there are, and with that where the code stands.
use Rattle.std.proofs.Common.{ap, ◌∙◌}
use Rattle.rules.specs.declared.records.HeadRecord.{HeadRecord}
use Rattle.rules.specs.Records.{alternative_offset}
use Rattle.sizing.specs.declared.bounds.Bound.TheVariants.{Declared}
use Rattle.sizing.proofs.routines.routine_at.Goals as goal

pub returns : goal.returns
returns c =
    let count = c.from-count.ensures ∙ ap (λ (h : HeadRecord). h.alternatives) c.head-h.ensures in
    record {
      arity = c.from.ensures ∙ ap (λ (h : HeadRecord). h.declaration.arity) c.head-h.ensures;
      bound = ap (Declared c.args.at) count;
      base = c.alternative_offset.ensures ∙ ap (alternative_offset c.args.at) count;
      last = c.from-2.ensures ∙ ap (λ (h : HeadRecord). h.instructions) c.head-h.ensures;
    }
