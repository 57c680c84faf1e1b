-- Constructors stand at the payload's front, eight bytes each: where the arity of each stands follows from its number.
use mathlib.Core.Path.{◌≡◌, ◌∙◌}
use Prim.Native.Nat.{ℕ, ◌+◌, ◌*◌, ◌/◌, ◌<◌}
use native.Mathlib.Omega.{arith}
use Rattle.rules.specs.Container.{place_of}
use Rattle.rules.specs.Records.{constructor_offset}
use Rattle.fetch.proofs.IndexLaws.{arity_stands, constructor_small}
use Rattle.fetch.proofs.arities.constructor_arity.Goals.{Start}
use Rattle.fetch.proofs.arities.constructor_arity.Goals as goal

place : (c : ℕ) → c < 64 → 9 + 8 * (c + (c + 1) / 64) ≡ place_of (constructor_offset c + 1)
place c h = omega arith

small : (c : Start) → c.args.c < 64
small c = (constructor_small c.requires.0 c.args.c c.requires.1).0

pub overflow_add-at : goal.overflow_add-at
overflow_add-at c = omega (arith, small (goal.at.overflow_add-at c).Start)

pub overflow_add-at-2 : goal.overflow_add-at-2
overflow_add-at-2 c = omega (arith, small (goal.at.overflow_add-at-2 c).Start)

pub overflow_mul-at : goal.overflow_mul-at
overflow_mul-at c = omega (arith, small (goal.at.overflow_mul-at c).Start)

pub overflow_add-at-3 : goal.overflow_add-at-3
overflow_add-at-3 c = omega (arith, small (goal.at.overflow_add-at-3 c).Start)

pub bounds-file-at : goal.bounds-file-at
bounds-file-at c =
    (arity_stands c.requires.0 c.args.c _ c.requires.1 (place _ (small (goal.at.bounds-file-at c).Start))).0

pub returns : goal.returns
returns c =
    c.from.ensures ∙ (arity_stands c.requires.0 c.args.c _ c.requires.1 (place _ (small (goal.at.returns c).Start))).1
