-- The tables of the entries, as they are lent.
use mathlib.Core.Path.{◌≡◌}
use mathlib.Core.List.{List}
use Prim.Native.Nat.{ℕ, ◌*◌, ◌≤◌, min}
use native.Mathlib.Omega.{arith}
use lib.ListN.{length, take, replicate, length-replicate, length-take}
use Rattle.store.specs.Frames.{no_frame}
use Rattle.start.specs.Runs.{lent_of}
use Rattle.panel.specs.Tables.{panel_tables}

-- the first n of m entries
pub front_long : (n m : ℕ) → n ≤ m → length {A = ℕ} (take n (replicate m 0)) ≡ n
front_long n m h = simp (length-take, length-replicate) (omega arith)

pub tables_lent : (c s f : ℕ) {a b n : ℕ} → a ≡ min c 4096 → b ≡ min s 2048 → n ≡ min f 256 → (out : List ℕ)
    → lent_of (take (5 * a) (replicate 20480 0)) (take b (replicate 2048 0)) (replicate n no_frame) out ≡ panel_tables c s f (length out)
tables_lent c s f {a} {b} {n} ea eb en out = λ i. record {
  cells = cells i;
  stack = stack i;
  frames = frames i;
  output = length out;
}
  where
    cells : length {A = ℕ} (take (5 * a) (replicate 20480 0)) ≡ 5 * min 4096 c
    cells = omega (arith, front_long (5 * a) 20480 (omega arith))

    stack : length {A = ℕ} (take b (replicate 2048 0)) ≡ min 2048 s
    stack = omega (arith, front_long b 2048 (omega arith))

    frames : length (replicate n no_frame) ≡ min 256 f
    frames = omega (arith, length-replicate n no_frame)
