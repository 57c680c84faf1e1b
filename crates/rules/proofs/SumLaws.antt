-- A sum of byte × place that grows with each byte written.
use Prim.Native.Nat.{ℕ, ◌+◌, ◌*◌, ◌≤◌, ◌<◌}
use native.Mathlib.Omega.{arith}
use native.Mathlib.Nat.{le_trans, mul-le-mul}
use lib.Dec.{lit≤}

-- what one byte of a block adds to a sum
pub term_bound : (x place : ℕ) → x < 256 → place < 512 → x * (place + 1) ≤ 130560
term_bound x place hx hp = le_trans (mul-le-mul {n₁ = x} {m₁ = place + 1} {n₂ = 255} {m₂ = 512} (omega arith) (omega arith)) (lit≤ tt)
