-- A block's verdict from its tests, and the verdict on all blocks from the first and those behind it.
use mathlib.Core.Path.{◌≡◌, sym, ap, ◌∙◌}
use mathlib.Core.List.{List}
use mathlib.Core.Bool.{Bool, ◌&&◌}
use Prim.Native.Nat.{ℕ, ◌+◌, ◌*◌, ◌-◌, ◌<◌}
use lib.ListN.{take, drop}
use lib.Dec.{eqb}
use Rattle.std.specs.Prelude.{Result}
use Rattle.rules.specs.declared.answers.Reason.{Reason}
use Rattle.rules.specs.Answers.{told}
use Rattle.rules.specs.Base.{refusal, ◌>>=◌, Check, require, is_zero, all, word_at, long_at}
use Rattle.rules.specs.Container.{checksum, used_right, block_right, verify_block, verify_blocks}
use Rattle.rules.proofs.ContainerLaws.{blocks_step}

-- the fields of a block, its used count u as it was read
pub fields_tested : (last : Bool) (k u : ℕ) (b : List ℕ) {t₁ t₂ t₃ : Bool} → u ≡ word_at b 2 → eqb (word_at b 0) k ≡ t₁
    → used_right last u ≡ t₂
    → all is_zero (drop (4 + u) (take 508 b)) ≡ t₃ → block_right last k b ≡ (t₁ && t₂ && t₃)
unfolding block_right
fields_tested last k u b e e₁ e₂ e₃ = rw (← e, e₁, e₂, e₃)

pub block_tested : (last : Bool) (k : ℕ) (b : List ℕ) {t₁ t₂ : Bool} → eqb (long_at b 508) (checksum b) ≡ t₁ → block_right last k b ≡ t₂
    → verify_block last k b ≡ (require t₁ (refusal 2 k 0) >>= (λ _. require t₂ (refusal 3 k 0)))
unfolding verify_block
block_tested last k b e₁ e₂ = rw (e₁, e₂)

-- block k of n as it was found, and those behind it
pub blocks_found : (n k w : ℕ) (s : List ℕ) (r : Result Unit Reason) → k < n → w ≡ 512
    → told r ≡ verify_block (eqb (k + 1) n) k (take w (drop (512 * k) s))
    → verify_blocks (n - k) k (drop (512 * k) s) ≡ (told r >>= (λ _. verify_blocks (n - (k + 1)) (k + 1) (drop (512 * (k + 1)) s)))
blocks_found n k w s r h e e' =
    blocks_step n k s h ∙ ap (λ (t : Check). t >>= (λ _. verify_blocks (n - (k + 1)) (k + 1) (drop (512 * (k + 1)) s))) (rw e at (sym e'))
