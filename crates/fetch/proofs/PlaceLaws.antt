-- Places in the file and offsets in the payload: from one to the other and back, and from one instruction to those behind it.
use Prim.Native.Nat.{ℕ, ◌+◌, ◌*◌, ◌-◌, ◌/◌, ◌%◌, ◌≤◌, ◌<◌}
use mathlib.Core.Path.{◌≡◌}
use mathlib.Core.List.{List}
use native.Mathlib.Omega.{arith}
use Rattle.rules.specs.Container.{place_of}
use Rattle.fetch.specs.Places.{offset_at, Inside, Behind, StandsAt}

---- Places and offsets

pub place_inside : (k : ℕ) → Inside (place_of k)
unfolding Inside
place_inside k = omega arith

pub place_offset : (k : ℕ) → offset_at (place_of k) ≡ k
unfolding offset_at
place_offset k = omega arith

-- the j bytes behind a place that lie in its block
pub offset_place : (at j : ℕ) → Inside at → at % 512 + j < 508 → place_of (offset_at at + j) ≡ at + j
unfolding offset_at Inside
offset_place at j h l = omega arith

-- a place is not far behind its offset
pub offset_small : (at n : ℕ) → at ≤ n → offset_at at ≤ n
unfolding offset_at
offset_small at n h = omega arith

pub place_small : (at : ℕ) → offset_at at + 4 ≤ 32256 → at ≤ 33000
unfolding offset_at
place_small at h = omega arith

---- Instructions behind others

-- in the same block
pub behind_near : (at n : ℕ) → Inside at → at % 512 + 4 * n < 512 → Behind at n (at + 4 * n)
unfolding offset_at Inside
behind_near at n h l = record { inside = omega arith; is = omega arith }

-- over the sums and marks of the blocks between
pub behind_far : (at n : ℕ) → Inside at → Behind at n (at + 4 * n + 8 * ((at % 512 + 4 * n - 4) / 504))
unfolding offset_at Inside
behind_far at n h = record { inside = omega arith; is = omega arith }

-- the next one, over a sum and marks
pub behind_over : (at : ℕ) → 504 < at % 512 → Behind at 1 (at + 12)
unfolding offset_at Inside
behind_over at l = record { inside = omega arith; is = omega arith }

pub behind_stands : (file : List ℕ) (f i at n at' : ℕ) → StandsAt file f i at → Behind at n at' → StandsAt file f (i + n) at'
behind_stands file f i at n at' s b =
    record { first = omega (arith, s.first); inside = b.inside; is = omega (arith, s.first, s.is, b.is) }

pub stands_number : (file : List ℕ) (f i code at : ℕ) → StandsAt file f 1 code → StandsAt file f i at
    → (offset_at code ≤ offset_at at) × ((offset_at at - offset_at code) / 4 + 1 ≡ i)
stands_number file f i code at c s = (omega (arith, c.is, s.is), omega (arith, s.first, c.is, s.is))
