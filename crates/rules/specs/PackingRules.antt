-- The rules of 18 and 13 for pack and unpack as document 01 words them: which answer each gives.
-- `packing_exact` and `unpacking_exact` of proofs/PackingExact.antt show that `pack` and `unpack` answer just so.
use Rattle.std.specs.Prelude.{◌≡◌, List, ◌↔◌, ◌⊎◌, ℕ, ◌*◌, ◌-◌, ◌≤◌, ◌<◌, length}
use Rattle.rules.specs.Base.{Refusal, refusal, found, refused}
use Rattle.rules.specs.Container.{payload, packed, pack, unpack}
use Rattle.rules.specs.FileRules.{BlocksRight, BlocksFail}

-- "Every block but the last uses 504; the last uses 1 to 504": n payload bytes stand in b blocks
abbrev pub InBlocks : ℕ → ℕ → Type 0
InBlocks n b = (504 * (b - 1) < n) × (n ≤ 504 * b)

---- "pack gives 18 then 13"

pub data PackingFails (bytes : List ℕ) (room : ℕ) : Refusal → Type 0 where
  -- "18: payload to pack empty or over 32,256. (0, 0)"
  bad_length : (length bytes ≡ 0) ⊎ (32256 < length bytes) → PackingFails bytes room (refusal 18 0 0)
  -- "13: output shorter than needed. (bytes needed, 0)": a block is 512 bytes
  short_output : (b : ℕ) → 1 ≤ length bytes → length bytes ≤ 32256 → InBlocks (length bytes) b → room < 512 * b
      → PackingFails bytes room (refusal 13 (512 * b) 0)

pub record Packs (bytes : List ℕ) (room : ℕ) (out : List ℕ) : Type 0 where
  pub some_bytes : 1 ≤ length bytes
  pub few_bytes : length bytes ≤ 32256
  pub blocks : ℕ
  pub in_blocks : InBlocks (length bytes) blocks
  pub has_room : 512 * blocks ≤ room
  pub is_packed : out ≡ packed bytes

abbrev pub PackingExact : Type 0
PackingExact =
    (bytes : List ℕ) (room : ℕ) → ((r : Refusal) → pack bytes room ≡ refused r ↔ PackingFails bytes room r)
    × ((out : List ℕ) → pack bytes room ≡ found out ↔ Packs bytes room out)

---- "unpack 1 to 3 then 13"

pub data UnpackingFails (file : List ℕ) (room : ℕ) : Refusal → Type 0 where
  damaged : {r : Refusal} → BlocksFail file r → UnpackingFails file room r
  short_output : BlocksRight file → room < length (payload file) → UnpackingFails file room (refusal 13 (length (payload file)) 0)

pub record Unpacks (file : List ℕ) (room : ℕ) (out : List ℕ) : Type 0 where
  pub blocks : BlocksRight file
  pub has_room : length (payload file) ≤ room
  pub is_payload : out ≡ payload file

abbrev pub UnpackingExact : Type 0
UnpackingExact =
    (file : List ℕ) (room : ℕ) → ((r : Refusal) → unpack file room ≡ refused r ↔ UnpackingFails file room r)
    × ((out : List ℕ) → unpack file room ≡ found out ↔ Unpacks file room out)
