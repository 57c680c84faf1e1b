-- `blocks::verifying::block_right` meets its contract: each answer from the tests on its way. Assumes nothing.
use mathlib.Core.Path.{◌≡◌, refl, sym, ◌∙◌}
use mathlib.Core.Bool.{true}
use lib.Dec.{eqb}
use native.Mathlib.Omega.{arith}
use borrow.Author.Tests.{eq-eqb, ne_eqb}
use Rattle.rules.specs.Base.{word_at}
use Rattle.rules.proofs.ContainerLaws.{used_small}
use Rattle.blocks.proofs.BlockLaws.{fields_tested}
use Rattle.blocks.proofs.verifying.block_right.Goals.{Else-number-k}
use Rattle.blocks.proofs.verifying.block_right.Goals as goal

pub returns-then-number-k : goal.returns-then-number-k
returns-then-number-k c = sym (fields_tested _ _ _ _ refl (ne_eqb _ _ (λ e. c.if-number-k.true (c.word_at-number.ensures ∙ e))) refl refl)

-- past the first test the number is right
numbered : (c : Else-number-k) → eqb (word_at c.args.b.now 0) c.args.k ≡ true
numbered c = eq-eqb _ _ (sym c.word_at-number.ensures ∙ c.if-number-k.false)

pub returns-then-not-used_right : goal.returns-then-not-used_right
returns-then-not-used_right c =
    sym (fields_tested _ _ _ _ c.word_at-used.ensures (numbered (goal.at.returns-then-not-used_right c).Else-number-k)
    (sym c.used_right.ensures ∙ c.if-not-used_right.true) refl)

pub zero_between-requires : goal.zero_between-requires
zero_between-requires c =
    omega (
      arith,
      used_small _ _ (sym c.used_right.ensures
          ∙ c.if-not-used_right.false),
      c.requires,
    )

pub returns : goal.returns
returns c =
    c.zero_between.ensures
    ∙ sym (fields_tested _ _ _ _ c.word_at-used.ensures (numbered (goal.at.returns c).Else-number-k)
    (sym c.used_right.ensures ∙ c.if-not-used_right.false) refl)
