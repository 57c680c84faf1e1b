-- The container: blocks of 512 bytes with their checksum, which document 01 calls the check, the payload, packing and unpacking. Document
-- 01, "The file".
use Rattle.std.specs.Prelude.{List, [], ◌∷◌, ◌++◌, Bool, true, false, ◌&&◌, ℕ, zero, suc, ◌+◌, ◌*◌, ◌-◌, ◌/◌, ◌%◌, length, take, drop}
use Rattle.std.specs.Prelude.{replicate, leb, eqb}
use Rattle.rules.specs.Base.{refusal, Tried, found, ◌>>=◌, Check, passed, require, within, is_zero, all, word_at, long_at}

---- "Bytes 0-1: block number from 0. 2-3: used count. 4-507: payload. 508-511: the check"

-- the sum of byte × place, where the first byte has place k
unfoldable pub weighed : ℕ → List ℕ → ℕ
weighed k [] = 0
weighed k (b ∷ bytes) = b * k + weighed (suc k) bytes

-- "the check, the sum over bytes i = 0 to 507 of byte × (i + 1)"
unfoldable pub checksum : List ℕ → ℕ
checksum block = weighed 1 (take 508 block)

-- "Every block but the last uses 504; the last uses 1 to 504"
unfoldable pub used_right : Bool → ℕ → Bool
used_right true used = within 1 504 used
used_right false used = eqb used 504

-- block number, used count and "Unused payload is zero"
unfoldable pub block_right : Bool → ℕ → List ℕ → Bool
block_right last k block =
    eqb (word_at block 0) k
    && used_right last (word_at block 2)
    && all is_zero (drop (4 + word_at block 2) (take 508 block))

-- block k: "block by block 2 then 3"
unfoldable pub verify_block : Bool → ℕ → List ℕ → Check
verify_block last k block = do
  _ ← require (eqb (long_at block 508) (checksum block)) (refusal 2 k 0)
  require (block_right last k block) (refusal 3 k 0)

-- n blocks from number k on
unfoldable pub verify_blocks : ℕ → ℕ → List ℕ → Check
verify_blocks zero k bytes = passed
verify_blocks (suc n) k bytes = do
  _ ← verify_block (is_zero n) k (take 512 bytes)
  verify_blocks n (suc k) (drop 512 bytes)

-- "length 0, not a multiple of 512, or over 32,768" is 1
unfoldable pub length_right : ℕ → Bool
length_right n = within 1 32768 n && is_zero (n % 512)

-- 1; block by block 2 then 3
unfoldable pub verify : List ℕ → Check
verify file = do
  _ ← require (length_right (length file)) (refusal 1 0 0)
  verify_blocks (length file / 512) 0 file

---- The payload

-- of n blocks, each one's used part
unfoldable pub payload_of : ℕ → List ℕ → List ℕ
payload_of zero bytes = []
payload_of (suc n) bytes = take (word_at bytes 2) (drop 4 bytes) ++ payload_of n (drop 512 bytes)

unfoldable pub payload : List ℕ → List ℕ
payload file = payload_of (length file / 512) file

-- the payload of blocks that are right
unfoldable pub verified : List ℕ → Tried (List ℕ)
verified file = do
  _ ← verify file
  found (payload file)

-- where payload byte k stands in the blocks
abbrev pub place_of : ℕ → ℕ
place_of k = 512 * (k / 504) + 4 + k % 504

---- Packing

abbrev pub bytes2 : ℕ → List ℕ
bytes2 n = (n % 256) ∷ (n / 256 % 256) ∷ []

abbrev pub bytes4 : ℕ → List ℕ
bytes4 n = bytes2 n ++ bytes2 (n / 65536)

-- a block without its checksum: number, used count, payload, zeros
unfoldable pub block_body : ℕ → List ℕ → List ℕ
block_body k part = bytes2 k ++ bytes2 (length part) ++ part ++ replicate (504 - length part) 0

unfoldable pub block : ℕ → List ℕ → List ℕ
block k part = let body = block_body k part in body ++ bytes4 (checksum body)

-- a payload in n blocks from number k on
unfoldable pub blocks_of : ℕ → ℕ → List ℕ → List ℕ
blocks_of zero k bytes = []
blocks_of (suc n) k bytes = block k (take 504 bytes) ++ blocks_of n (suc k) (drop 504 bytes)

unfoldable pub block_count : ℕ → ℕ
block_count n = (n + 503) / 504

unfoldable pub packed : List ℕ → List ℕ
packed bytes = blocks_of (block_count (length bytes)) 0 bytes

-- "pack gives 18 then 13": 18 for a payload "empty or over 32,256", 13 for an output with less room than is needed
unfoldable pub pack : List ℕ → ℕ → Tried (List ℕ)
pack bytes room = do
  let needed = 512 * block_count (length bytes)
  _ ← require (within 1 32256 (length bytes)) (refusal 18 0 0)
  _ ← require (leb needed room) (refusal 13 needed 0)
  found (packed bytes)

-- "unpack 1 to 3 then 13"
unfoldable pub unpack : List ℕ → ℕ → Tried (List ℕ)
unpack file room = do
  bytes ← verified file
  _ ← require (leb (length bytes) room) (refusal 13 (length bytes) 0)
  found bytes
