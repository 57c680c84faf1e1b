-- `packing::pack` meets its contract: the tests on the way to each answer are those of the definition. Assumes nothing.
use Rattle.std.proofs.Common.{arith, length, ◌≡◌, ◌∙◌}
use mathlib.Core.Bool.{and-false}
use borrow.Author.Tests.{lt-leb}
use Rattle.rules.specs.Container.{block_count, packed}
use Rattle.rules.specs.Memory.{copied_into}
use Rattle.rules.proofs.ContainerLaws.{packed_length}
use Rattle.packing.proofs.PackLaws.{pack_bad, pack_short, pack_fits}
use Rattle.packing.proofs.pack.Goals.{then-n-eq0-via-then-n-eq0, then-n-eq0-via-else-n-eq0+then-n-gt32256}
use Rattle.packing.proofs.pack.Goals as goal

pub returns-then-n-eq0 : goal.returns-then-n-eq0
unfolding copied_into
returns-then-n-eq0 c =
    let p = c.args.payload.now in
    let bad = pack_bad p (length c.args.out.now) (elim c.then-n-eq0.branch [
      | then-n-eq0-via-then-n-eq0 w ↦ rw w.if-n-eq0.true
      | then-n-eq0-via-else-n-eq0+then-n-gt32256 w ↦ simp (lt-leb _ _ w.if-n-gt32256.true, and-false)
    ]) in
    (rw bad, rw bad)

pub returns-then-out-needed : goal.returns-then-out-needed
unfolding copied_into block_count
returns-then-out-needed c =
    let a = c.args in
    let n : c.div_ceil-blocks.result ≡ block_count (length a.payload.now) = c.div_ceil-blocks.ensures ∙ omega arith in
    let e = pack_short a.payload.now (length a.out.now) (omega arith) c.if-n-gt32256.false (rw n at c.if-out-needed.true) in
    (rw (e, n), rw e)

pub returns : goal.returns
unfolding copied_into block_count packed
returns c =
    let a = c.args in
    let n : c.div_ceil-blocks.result ≡ block_count (length a.payload.now) = c.div_ceil-blocks.ensures ∙ omega arith in
    let e = pack_fits a.payload.now (length a.out.now) (omega arith) c.if-n-gt32256.false (rw n at c.if-out-needed.false) in
    (rw (e, n, packed_length a.payload.now), rw (e, ← n) c.write_blocks.ensures)
