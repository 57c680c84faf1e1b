-- A slice that is written byte by byte from a place on.
use mathlib.Core.Path.{◌≡◌, refl, ◌∙◌}
use mathlib.Core.List.{List, ◌++◌, append-nil, append_assoc}
use Prim.Native.Nat.{ℕ, ◌+◌, ◌≤◌, ◌<◌}
use native.Mathlib.Omega.{arith}
use native.Mathlib.Numerals.{add-one}
use native.Mathlib.Nat.{zero-add, add_assoc}
use lib.ListN.{length, take, drop, get_or, set, length-append, length-take, length-set, drop_of_length-le}
use lib.Seq.{paste, paste-zero, paste-suc, take-length, take-append_seam, drop-append-add, drop-drop}
use Rattle.rules.specs.Memory.{front_written, overwritten}

---- A loop that writes

-- i of these bytes are written from a place on
pub record Pasted (out₀ : List ℕ) (at : ℕ) (bytes : List ℕ) (i : ℕ) (out : List ℕ) : Type 0 where
  pub room : at + length bytes ≤ length out₀
  pub within : i ≤ length bytes
  pub same : length out ≡ length out₀
  pub pasted : out ≡ paste out₀ at bytes i

module _ {out₀ : List ℕ} {at : ℕ} {bytes : List ℕ} where
  pub pasted_start : {i : ℕ} → i ≡ 0 → at + length bytes ≤ length out₀ → Pasted out₀ at bytes i out₀
  pasted_start e h = record { room = h; within = omega arith; same = refl; pasted = rw e (paste-zero out₀ at bytes) }

  -- one byte more
  pub pasted_next : {i i' j x : ℕ} {out : List ℕ} → Pasted out₀ at bytes i out → i < length bytes → i' ≡ i + 1 → j ≡ at + i
      → x ≡ get_or bytes i 0 → Pasted out₀ at bytes i' (set out j x)
  pasted_next {i} {i'} {j} {x} {out} p h n e v =
      record {
        room = p.room;
        within = omega arith;
        same = length-set out j x ∙ p.same;
        pasted = rw (p.pasted, n, e, v, add-one i) (paste-suc out₀ at bytes i 0 (omega (arith, p.room)) h);
      }

  pub pasted_end : {i : ℕ} {out : List ℕ} → Pasted out₀ at bytes i out → length bytes ≤ i → out ≡ overwritten out₀ at bytes
  pasted_end {i} p h =
      let e : i ≡ length bytes = omega (arith, p.within) in
      p.pasted ∙ rw (e, take-length bytes)

---- Bytes behind bytes

pub overwritten_more : (out a b : List ℕ) (at : ℕ) → at + length a ≤ length out
    → overwritten (overwritten out at a) (at + length a) b ≡ overwritten out at (a ++ b)
overwritten_more out a b at h =
    let w = take at out ++ a in
    let e : at + length a ≡ length w = simp (length-append, length-take) (omega arith) in
    rw (
      e,
      take-append_seam w (drop (length w) out),
      drop-append-add w (drop (length w) out)
          (length b),
      drop-drop,
      length-append a b,
      ← e,
      append_assoc (take at out) a b,
      add_assoc at (length a) (length b),
    )

-- a front is bytes from the start on
pub front_start : (w out : List ℕ) → overwritten out 0 w ≡ front_written w out
front_start w out = rw (zero-add (length w))

-- bytes behind a front that is written
pub front_grown : (w bytes out : List ℕ) (at : ℕ) → at ≡ length w
    → overwritten (front_written w out) at bytes ≡ front_written (w ++ bytes) out
front_grown w bytes out at e =
    rw (e, take-append_seam w (drop (length w) out), drop-append-add w (drop (length w) out) (length bytes), drop-drop, length-append)

-- a front that is as long as the slice
pub front_whole : (w out : List ℕ) → length out ≤ length w → front_written w out ≡ w
front_whole w out h = rw (drop_of_length-le out {i = length w} h, append-nil)
