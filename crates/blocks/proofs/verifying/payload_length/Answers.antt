-- `blocks::verifying::payload_length` meets its contract: verified blocks are whole, and the last one's used count gives the length.
-- Assumes nothing.
use native.Mathlib.Omega.{arith}
use Rattle.rules.proofs.ContainerLaws.{verified_whole}
use Rattle.blocks.proofs.VerifyLaws.{measured_last}
use Rattle.blocks.proofs.verifying.payload_length.Goals as goal

pub overflow_sub-last : goal.overflow_sub-last
overflow_sub-last c = omega (arith, verified_whole _ c.requires)

pub word_at-requires : goal.word_at-requires
word_at-requires c = omega (arith, verified_whole _ c.requires)

pub returns : goal.returns
returns c = measured_last _ _ c.requires (omega (arith, c.word_at.ensures))
