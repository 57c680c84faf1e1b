-- `blocks::verifying::verify_block` meets its contract: each answer from the tests on its way. Assumes nothing.
use mathlib.Core.Path.{◌≡◌, refl, sym, ◌∙◌}
use mathlib.Core.Bool.{true}
use lib.Dec.{eqb}
use borrow.Author.Tests.{eq-eqb, ne_eqb}
use Rattle.rules.specs.Base.{long_at}
use Rattle.rules.specs.Container.{checksum}
use Rattle.blocks.proofs.BlockLaws.{block_tested}
use Rattle.blocks.proofs.verifying.verify_block.Goals.{Else-long_at-checksum}
use Rattle.blocks.proofs.verifying.verify_block.Goals as goal

pub returns-then-long_at-checksum : goal.returns-then-long_at-checksum
returns-then-long_at-checksum c =
    sym (block_tested _ _ _ (ne_eqb _ _ (λ e. c.if-long_at-checksum.true (c.long_at.ensures ∙ e ∙ sym c.checksum.ensures)))
    refl)

-- past the first test the check is right
summed : (c : Else-long_at-checksum) → eqb (long_at c.args.b.now 508)
    (checksum c.args.b.now) ≡ true
summed c = eq-eqb _ _ (sym c.long_at.ensures ∙ c.if-long_at-checksum.false ∙ c.checksum.ensures)

pub returns-then-not-block_right : goal.returns-then-not-block_right
returns-then-not-block_right c = sym (block_tested _ _ _ (summed (goal.at.returns-then-not-block_right c).Else-long_at-checksum)
    (sym c.block_right.ensures ∙ c.if-not-block_right.true))

pub returns : goal.returns
returns c = sym (block_tested _ _ _ (summed (goal.at.returns c).Else-long_at-checksum)
    (sym c.block_right.ensures ∙ c.if-not-block_right.false))
