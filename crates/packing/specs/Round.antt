-- The round trip, and what verify accepts. This file only states them; `round_trip` and `exact` of proofs/Round.antt prove them.
use Rattle.std.specs.Prelude.{◌≡◌, List, ℕ, ◌*◌, ◌≤◌, length, take}
use Rattle.rules.specs.Answers.{length_of}
use Rattle.rules.specs.Base.{found}
use Rattle.rules.specs.Container.{verified, block_count, packed, pack, unpack}
use Rattle.rules.specs.Lists.{Bytes}
use Rattle.rules.specs.Memory.{front_written, pack_leaves, unpack_leaves}

-- what can be packed: 1 to 32,256 bytes
pub record Payload (p : List ℕ) : Type 0 where
  pub some : 1 ≤ length p
  pub few : length p ≤ 32256
  pub bytes : Bytes p

---- The round trip

-- a payload packed into an output, and what then stands in the output's front unpacked into a second one, in the words of the contracts of
-- `pack` and `unpack`
pub record Returned (p out out' : List ℕ) (needed : ℕ) : Type 0 where
  pub packs : length_of (pack p (length out)) ≡ found needed
  pub unpacks : length_of (unpack (take needed (pack_leaves p out)) (length out')) ≡ found (length p)
  pub back : unpack_leaves (take needed (pack_leaves p out)) out' ≡ front_written p out'

abbrev pub RoundTrip : Type 0
RoundTrip =
    (p out out' : List ℕ) → Payload p → 512 * block_count (length p) ≤ length out → length p ≤ length out'
    → Returned p out out' (512 * block_count (length p))

---- What verify accepts

-- blocks are accepted with a payload exactly if they are what pack writes of that payload
abbrev pub Exact : Type 0
Exact =
    (file p : List ℕ) → (Payload p → file ≡ packed p → Bytes file × (verified file ≡ found p))
    × (Bytes file → verified file ≡ found p → Payload p × (file ≡ packed p))
