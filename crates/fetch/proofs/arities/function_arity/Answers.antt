-- The index has the place of the arity.
use mathlib.Core.Path.{◌∙◌}
use Rattle.fetch.proofs.IndexLaws.{inputs_stand}
use Rattle.fetch.proofs.arities.function_arity.Goals as goal

pub bounds-file-arity_at : goal.bounds-file-arity_at
bounds-file-arity_at c = (inputs_stand _ _ c.requires.0 c.args.f _ c.requires.1 c.arity_at.ensures).0

pub returns : goal.returns
returns c = c.from.ensures ∙ (inputs_stand _ _ c.requires.0 c.args.f _ c.requires.1 c.arity_at.ensures).1
