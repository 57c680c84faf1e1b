-- Four bytes of a file as one number.
use Prim.Native.Nat.{ℕ, ◌+◌, ◌*◌, ◌%◌, ◌≤◌, ◌<◌}
use mathlib.Core.Path.{◌≡◌, sym, ap, ◌∙◌}
use mathlib.Core.List.{List}
use native.Mathlib.Omega.{arith}
use native.Mathlib.Nat.{add-zero}
use lib.ListN.{length, get_or}
use Rattle.rules.specs.Base.{byte_at}
use Rattle.rules.specs.Container.{payload}
use Rattle.rules.specs.Established.{Verified}
use Rattle.rules.proofs.ContainerLaws.{verified_place, verified_byte}
use Rattle.fetch.specs.Places.{offset_at, Inside}
use Rattle.fetch.specs.Words.{WordThere}
use Rattle.fetch.proofs.PlaceLaws.{offset_place}

-- the bytes that were read are the record
pub word_there : (bytes : List ℕ) (k a b c d w : ℕ) → a ≡ byte_at bytes k → b ≡ byte_at bytes (k + 1) → c ≡ byte_at bytes (k + 2)
    → d ≡ byte_at bytes (k + 3) → a < 256 → b < 256 → w ≡ a + b * 256 + c * 65536 + d * 16777216 → WordThere bytes k w
word_there bytes k a b c d w ea eb ec ed sa sb e =
    let f : k + 2 + 1 ≡ k + 3 = omega arith in
    record { is = rw f (omega arith); first_small = omega arith; second_small = omega arith }

-- a record that lies in one block: its bytes at its place and the three after it
module _ {file : List ℕ} (v : Verified file) (at : ℕ) (h : Inside at) (whole : offset_at at + 4 ≤ length (payload file))
    (low : at % 512 ≤ 504) where
  pub block_room : at + 3 < length file
  block_room = omega (arith, verified_place v (offset_at at + 3) (omega arith), offset_place at 3 h (omega arith))

  pub block_byte : (j : ℕ) → j < 4 → get_or file (at + j) 0 ≡ byte_at (payload file) (offset_at at + j)
  block_byte j l =
      ap (λ (i : ℕ). get_or file i 0) (sym (offset_place at j h (omega arith))) ∙ verified_byte v (offset_at at + j) (omega arith)

  pub block_first : get_or file at 0 ≡ byte_at (payload file) (offset_at at)
  block_first = rw (add-zero, add-zero) at (block_byte 0 (omega arith))

  pub block_word : {w : ℕ} → get_or file at 0 < 256 → get_or file (at + 1) 0 < 256
      → w ≡ get_or file at 0 + get_or file (at + 1) 0 * 256 + get_or file (at + 2) 0 * 65536 + get_or file (at + 3) 0 * 16777216
      → WordThere (payload file) (offset_at at) w
  block_word sa sb e =
      word_there (payload file) (offset_at at) _ _ _ _ _ block_first (block_byte 1 (omega arith)) (block_byte 2 (omega arith))
      (block_byte 3 (omega arith)) sa sb e
