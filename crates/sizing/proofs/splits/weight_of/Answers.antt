-- The record of the split's constructor has it.
use mathlib.Core.Path.{ap, ◌∙◌}
use Prim.Native.Nat.{ℕ, ◌+◌}
use Rattle.rules.specs.declared.records.ConstructorRecord.{ConstructorRecord}
use Rattle.rules.specs.Base.{byte_at}
use Rattle.rules.specs.Container.{payload}
use Rattle.rules.specs.Records.{constructor_offset}
use Rattle.sizing.proofs.splits.weight_of.Goals as goal

pub returns : goal.returns
returns c =
    c.from-2.ensures ∙ ap (λ (k : ConstructorRecord). k.weight) c.constructor-k.ensures
    ∙ ap (λ (at : ℕ). byte_at (payload c.args.file.now) (at + 6))
    (c.constructor_offset.ensures ∙ ap constructor_offset c.from.ensures)
    ∙ c.requires.1.weight
