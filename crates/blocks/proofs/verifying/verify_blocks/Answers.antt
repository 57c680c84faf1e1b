-- `blocks::verifying::verify_blocks` meets its contract: what is left to verify decides. Assumes nothing.
use Rattle.std.proofs.Common.{◌≡◌, ◌-◌, ◌*◌, ◌+◌, ◌/◌, length, drop, sym, ◌∙◌, arith}
use mathlib.Core.Bool.{and-false}
use native.Mathlib.Nat.{sub-zero}
use borrow.Author.Tests.{le-leb, lt-leb, eq-eqb, ne_eqb}
use Rattle.std.proofs.lemmas.Result.{err_from_is_err_and}
use Rattle.rules.specs.Answers.{told}
use Rattle.rules.specs.Base.{◌>>=◌}
use Rattle.rules.specs.Container.{verify, verify_blocks, length_right}
use Rattle.rules.proofs.ContainerLaws.{verify_refused, verify_begun}
use Rattle.blocks.proofs.BlockLaws.{blocks_found}
use Rattle.blocks.proofs.verifying.verify_blocks.Goals.{then-len-eq0-via-then-len-eq0, then-len-eq0-via-else-len-eq0+then-len-gt32768}
use Rattle.blocks.proofs.verifying.verify_blocks.Goals.{then-len-eq0-via-else-len-eq0+else-len-gt32768+then-len-ne0, After-verify_block}
use Rattle.blocks.proofs.verifying.verify_blocks.Goals as goal

pub returns-then-len-eq0 : goal.returns-then-len-eq0
unfolding length_right
returns-then-len-eq0 c = elim c.then-len-eq0.branch [
  | then-len-eq0-via-then-len-eq0 w ↦ sym (verify_refused _ (rw w.if-len-eq0.true))
  | then-len-eq0-via-else-len-eq0+then-len-gt32768 w ↦ sym (verify_refused _ (simp (lt-leb _ _ w.if-len-gt32768.true, and-false)))
  | then-len-eq0-via-else-len-eq0+else-len-gt32768+then-len-ne0 w ↦ sym (verify_refused _ (simp (ne_eqb _ _ w.if-len-ne0.true, and-false)))
]

pub loop-k-init : goal.loop-k-init
unfolding length_right
loop-k-init c =
    let s = c.args.file.now in
    rw sub-zero (verify_begun s
    (simp (le-leb 1 (length s) (omega arith), le-leb (length s) 32768 (omega arith), eq-eqb _ _ c.if-len-ne0.false)))

-- block k as it was found, and those behind it
left : (c : After-verify_block)
    → let s = c.args.file.now in
    let k = c.loop-k.k in
    verify s ≡ (told c.verify_block.result >>=
    (λ _. verify_blocks (length s / 512 - (k + 1)) (k + 1) (drop (512 * (k + 1)) s)))
left c =
    let s = c.args.file.now in
    let k = c.loop-k.k in
    c.loop-k.invariant ∙ blocks_found (length s / 512) k (512 * k + 512 - 512 * k) s c.verify_block.result (omega arith)
    (omega arith) c.verify_block.ensures

pub returns-in_err-verify_block : goal.returns-in_err-verify_block
returns-in_err-verify_block c =
    let p = err_from_is_err_and c.from_residual.result c.from_residual.ensures.1 in
    let q = sym (left (goal.at.returns-in_err-verify_block c).After-verify_block) in
    rw (p.1, p.2) (rw c.in_err-verify_block.was at q)

pub loop-k-preserved : goal.loop-k-preserved
loop-k-preserved c = left (goal.at.loop-k-preserved c).After-verify_block ∙ rw c.in_ok-verify_block.was

pub returns : goal.returns
unfolding verify_blocks
returns c =
    let none : length c.args.file.now / 512 - c.loop-k.k ≡ 0 = omega arith in
    sym (c.loop-k.invariant ∙ rw none)
