-- A record as a reader finds it, whether it ends in its block or goes on behind the block's end: it is what the payload has.
use mathlib.Core.Path.{◌≡◌, refl}
use mathlib.Core.List.{List}
use Prim.Native.Nat.{ℕ, ◌+◌, ◌-◌, ◌%◌, ◌≤◌, ◌<◌}
use native.Mathlib.Omega.{arith}
use lib.ListN.{length}
use Rattle.rules.specs.Container.{payload, place_of}
use Rattle.rules.specs.Established.{Verified}
use Rattle.rules.proofs.ContainerLaws.{verified_place, verified_byte}
use Rattle.rules.proofs.SameLaws.{Same}
use Rattle.fields.specs.Onward.{onward, Reaches, Placed}
use Rattle.fields.proofs.OnwardLaws.{record_reaches, record_same}

-- a record of n bytes at an offset of these bytes, which stand where a payload's do: the place of its first byte, and how many bytes of
-- payload its block has left there
pub record Spot (file bytes : List ℕ) (at n place left : ℕ) : Type 0 where
  pub count : ℕ
  pub placed : Placed file bytes count
  pub there : at + n ≤ count
  pub some : 1 ≤ n
  pub short : n ≤ 504
  pub stands : place ≡ place_of at
  pub room : left ≡ 504 - at % 504

module _ {file bytes : List ℕ} {at n place left : ℕ} (s : Spot file bytes at n place left) where
  -- read with k for what is left: all n are in the block, or k is all that the block has
  module _ (k : ℕ) (few : k ≤ left) (all : k < n → k ≡ left) where
    reaches : Reaches file place k n
    reaches =
        let e = s.room in
        rw s.stands (record_reaches s.placed at k n s.there s.some s.short (omega arith) (λ l. omega (arith, all l)))

    same : Same (onward file place k) 0 bytes at n
    same =
        let e = s.room in
        rw s.stands (record_same s.placed at k n s.there s.some s.short (omega arith) (λ l. omega (arith, all l)))

  -- it ends in its block, of which as many bytes are asked for
  module _ (ends : n ≤ left) {k : ℕ} (asked : k ≡ n) where
    pub near_reaches : Reaches file place k n
    near_reaches = reaches k (omega arith) (λ l. absurd (omega arith))

    pub near_same : Same (onward file place k) 0 bytes at n
    near_same = same k (omega arith) (λ l. absurd (omega arith))

  -- or wherever it ends
  pub far_reaches : Reaches file place left n
  far_reaches = reaches left (omega arith) (λ _. refl)

  pub far_same : Same (onward file place left) 0 bytes at n
  far_same = same left (omega arith) (λ _. refl)

-- one of the payload of verified blocks
pub payload_spot : {file : List ℕ} {at n place left : ℕ} → Verified file × (at + n ≤ length (payload file)) → 1 ≤ n → n ≤ 504
    → place ≡ place_of at → left ≡ 504 - at % 504 → Spot file (payload file) at n place left
payload_spot {file} p some short stands room = record {
  count = length (payload file);
  placed = record { inside = verified_place p.0; same = verified_byte p.0 };
  there = p.1;
  some = some;
  short = short;
  stands = stands;
  room = room;
}
