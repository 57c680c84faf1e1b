-- `packing::unpack` meets its contract: verified blocks are opened, and a refusal is handed on. Assumes nothing.
use Rattle.std.proofs.Common.{length}
use Rattle.std.proofs.lemmas.Result.{err_from_is_err_and}
use Rattle.rules.specs.Memory.{copied_into}
use Rattle.blocks.proofs.VerifyLaws.{verified_measured, verified_refused}
use Rattle.packing.proofs.PackLaws.{unpack_refused}
use Rattle.packing.proofs.unpack.Goals as goal

pub unpack_verified-requires : goal.unpack_verified-requires
unpack_verified-requires c = verified_measured _ c.verify.ensures c.in_ok-n.was

pub returns-in_err-n : goal.returns-in_err-n
unfolding copied_into
returns-in_err-n c =
    let e = unpack_refused c.args.file.now (length c.args.out.now) (verified_refused _ c.verify.ensures c.in_err-n.was) in
    let p = err_from_is_err_and c.from_residual.result c.from_residual.ensures.1 in
    (rw (p.1, p.2, e), rw e)
