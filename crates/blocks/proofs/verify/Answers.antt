-- `blocks::verify` meets its contract: verified blocks are opened with their payload's length. Assumes nothing.
use Rattle.std.proofs.Common.{sym, ap}
use Rattle.std.proofs.lemmas.Result.{err_from_is_err_and}
use Rattle.rules.specs.Answers.{length_of}
use Rattle.blocks.proofs.VerifyLaws.{measured_told, verified_stopped}
use Rattle.blocks.proofs.verify.Goals as goal

pub returns-in_err-verify_blocks : goal.returns-in_err-verify_blocks
returns-in_err-verify_blocks c =
    let p = err_from_is_err_and c.from_residual.result c.from_residual.ensures.1 in
    rw (p.1, p.2) (sym (ap length_of (verified_stopped _ (sym c.in_err-verify_blocks.ensures))))

pub returns : goal.returns
returns c = measured_told c.payload_length.ensures
