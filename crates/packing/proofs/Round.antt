-- The round trip and what verify accepts, block by block.
use mathlib.Core.Path.{◌≡◌, refl, sym, ap, ◌∙◌}
use mathlib.Core.List.{List, ◌++◌, append-nil}
use mathlib.Core.Bool.{true}
use Prim.Native.Nat.{ℕ, zero, suc, ◌+◌, ◌*◌, ◌/◌, ◌%◌, ◌≤◌, ◌<◌}
use native.Mathlib.Omega.{arith}
use lib.ListN.{length, take, drop, length-append, length-take, length-drop, drop_of_length-le, take-append-drop}
use lib.Seq.{take_all, take_at, drop_at, take-take, take-add, length-take-le}
use lib.Dec.{leb}
use borrow.Author.Tests.{eq-eqb, ne_eqb, le-leb, leb-true}
use Rattle.rules.specs.Base.{found, passed, is_zero, word_at}
use Rattle.rules.specs.Container.{used_right, verify_block, verify_blocks, length_right, verify, payload_of, payload, verified, block}
use Rattle.rules.specs.Container.{blocks_of}
use Rattle.rules.specs.Container.{block_count, packed}
use Rattle.rules.specs.Lists.{l[], Bytes}
use Rattle.rules.specs.Memory.{copied_into, pack_leaves}
use Rattle.rules.proofs.ContainerLaws.{used_small, used_of_first, full_count, verify_begun, verified_parts, verified_whole}
use Rattle.rules.proofs.ContainerLaws.{block_length, packed_length}
use Rattle.rules.proofs.ListLaws.{all_append, all_take, all_drop, and_left}
use Rattle.rules.proofs.TriedLaws.{bind_found, found_inj}
use Rattle.packing.specs.Round.{Payload, RoundTrip, Exact}
use Rattle.blocks.proofs.VerifyLaws.{verified_passed}
use Rattle.packing.proofs.PackLaws.{pack_fits, unpack_fits}
use Rattle.packing.proofs.RoundLaws.{block_used, block_part, block_bytes, block_verified, BlockPasses, block_passes, part_of}
use Rattle.packing.proofs.RoundLaws.{block_again}

---- Blocks as they are written

-- a payload of n blocks
abbrev Fills : ℕ → List ℕ → Type 0
Fills n p = (length p ≤ 504 * n) × (504 * n < length p + 504)

-- the first block's part is right, and the rest fills the blocks behind it
fills_first : (n : ℕ) (p : List ℕ) → Fills (suc n) p → used_right (is_zero n) (length (take 504 p)) ≡ true
unfolding used_right
fills_first zero p (h, h') =
    let u : ℕ = length (take 504 p) in
    let e : u ≡ length p = simp length-take (omega arith) in
    rw (le-leb 1 u (omega (arith, e)), le-leb u 504 (omega (arith, e)))
fills_first (suc n) p (h, h') = rw (ne_eqb (suc n) 0 (λ z. omega arith)) (eq-eqb (length (take 504 p)) 504 (simp length-take (omega arith)))

fills_rest : (n : ℕ) (p : List ℕ) → Fills (suc n) p → Fills n (drop 504 p)
fills_rest n p (h, h') = (simp length-drop (omega arith), simp length-drop (omega arith))

part_short : (p : List ℕ) → length (take 504 p) ≤ 504
part_short p = simp length-take (omega arith)

-- the first of the blocks, and those behind it
module _ (n k : ℕ) (p : List ℕ) where
  abbrev first : List ℕ
  first = block k (take 504 p)

  abbrev rest : List ℕ
  rest = blocks_of n (suc k) (drop 504 p)

  first_long : length first ≡ 512
  first_long = block_length k (take 504 p) (part_short p)

  first_taken : take 512 (first ++ rest) ≡ first
  first_taken = take_at first rest 512 first_long

  first_dropped : drop 512 (first ++ rest) ≡ rest
  first_dropped = drop_at first rest 512 first_long

  first_used : word_at (first ++ rest) 2 ≡ length (take 504 p)
  first_used =
      sym (used_of_first (first ++ rest) (simp length-append (omega (arith, first_long)))) ∙ ap (λ (b : List ℕ). word_at b 2) first_taken
      ∙ block_used k (take 504 p) (part_short p)

blocks_verified : (n k : ℕ) (p : List ℕ) → Bytes p → Fills n p → k + n ≤ 65536 → verify_blocks n k (blocks_of n k p) ≡ passed
unfolding verify_blocks blocks_of
blocks_verified zero k p b f h = refl
blocks_verified (suc n) k p b f h =
    let first = block_verified k (take 504 p) (part_short p) (is_zero n) (all_take 504 b) (omega arith) (fills_first n p f) in
    let rest = blocks_verified n (suc k) (drop 504 p) (all_drop 504 b) (fills_rest n p f) (omega arith) in
    rw (first_taken n k p, first_dropped n k p, first) rest

blocks_payload : (n k : ℕ) (p : List ℕ) → Fills n p → payload_of n (blocks_of n k p) ≡ p
unfolding payload_of blocks_of
blocks_payload zero k p (h, h') = take_all 0 p h
blocks_payload (suc n) k p f =
    rw (
      first_used n k p,
      block_part k (take 504 p) (part_short p) (rest n k p),
      first_dropped n k p,
      blocks_payload n (suc k) (drop 504
          p) (fills_rest n p f),
    ) (take-append-drop 504 p)

blocks_bytes : (n k : ℕ) (p : List ℕ) → Bytes p → Bytes (blocks_of n k p)
unfolding blocks_of
blocks_bytes zero k p b = l[]
blocks_bytes (suc n) k p b =
    all_append (block_bytes k (take 504 p) (part_short p) (all_take 504 b)) (blocks_bytes n (suc k) (drop 504 p) (all_drop 504 b))

---- A payload's blocks

module _ {p : List ℕ} (v : Payload p) where
  abbrev count : ℕ
  count = block_count (length p)

  counted : Fills count p × (1 ≤ count) × (count ≤ 64)
  unfolding block_count
  counted = let a = v.some in let b = v.few in ((omega arith, omega arith), omega arith, omega arith)

  packed_blocks : length (packed p) / 512 ≡ count
  packed_blocks = omega (arith, packed_length p)

  packed_right : length_right (length (packed p)) ≡ true
  unfolding length_right
  packed_right =
      let l : length (packed p) ≡ 512 * count = packed_length p in
      rw (
        le-leb 1 (length (packed p)) (omega (arith, l, counted.1)),
        le-leb (length (packed p)) 32768
            (omega (arith, l, counted.2)),
        eq-eqb (length (packed p) % 512) 0 (omega (arith, l)),
      )

  packed_verified : verified (packed p) ≡ found p
  unfolding packed payload
  packed_verified =
      let passes : verify (packed p) ≡ passed = verify_begun (packed p) packed_right
      ∙ rw packed_blocks (blocks_verified count 0 p v.bytes counted.0 (omega (arith, counted.2))) in
      verified_passed (packed p) passes ∙ ap found (rw packed_blocks (blocks_payload count 0 p counted.0))

  packed_bytes : Bytes (packed p)
  unfolding packed
  packed_bytes = blocks_bytes count 0 p v.bytes

---- Blocks that pass

-- what the first of suc n blocks that pass gives, and the rest
module _ (n k : ℕ) (s : List ℕ) (b : Bytes s) (l : length s ≡ 512 * suc n) (e : verify_blocks (suc n) k s ≡ passed) where
  both : (u : Unit {0}) × (verify_block (is_zero n) k (take 512 s) ≡ found u) × (verify_blocks n (suc k) (drop 512 s) ≡ passed)
  unfolding verify_blocks
  both = bind_found (verify_block (is_zero n) k (take 512 s)) _ e

  first_passes : BlockPasses (is_zero n) k (take 512 s)
  first_passes = block_passes (is_zero n) k (take 512 s) both.1

  rest_passes : verify_blocks n (suc k) (drop 512 s) ≡ passed
  rest_passes = both.2

  rest_length : length (drop 512 s) ≡ 512 * n
  rest_length = simp length-drop (omega (arith, l))

  used_first : used_right (is_zero n) (word_at s 2) ≡ true
  used_first = rw (used_of_first s (omega (arith, l))) at first_passes.used

  -- the part is the same in the whole
  same_part : part_of (take 512 s) ≡ part_of s
  same_part =
      let inner : drop 4 (take 512 s) ≡ take 508 (drop 4 s) = ap (drop 4) (take-add 4 508 s)
      ∙ drop_at (take 4 s) (take 508 (drop 4 s)) 4 (length-take-le 4 s (omega (arith, l))) in
      rw (
        used_of_first s (omega (arith, l)),
        inner,
        take-take (word_at s 2) 508 (drop 4 s)
            (omega (arith, used_small (is_zero n) (word_at s 2) used_first)),
      )

  used_part : used_right (is_zero n) (length (part_of s)) ≡ true
  used_part =
      rw (length-take-le (word_at s 2) (drop 4 s) (simp length-drop (omega (arith, l, used_small (is_zero n) (word_at s 2) used_first))))
      used_first

  first_again : block k (part_of s) ≡ take 512 s
  first_again = ap (block k) (sym same_part) ∙ block_again first_passes (all_take 512 b) (length-take-le 512 s (omega (arith, l)))

-- the first part and what follows come apart again
parted : (n : ℕ) (part s : List ℕ) → used_right (is_zero n) (length part) ≡ true → (take 504 (part ++ payload_of n s) ≡ part)
    × (drop 504 (part ++ payload_of n s) ≡ payload_of n s)
unfolding payload_of
parted zero part s u =
    let small : length part ≤ 504 = used_small true (length part) u in
    rw append-nil (take_all 504 part small, drop_of_length-le part {i = 504} small)
parted (suc n) part s u =
    let full : length part ≡ 504 = full_count (suc n) n refl u in
    (take_at part _ 504 full, drop_at part _ 504 full)

blocks_again : (n k : ℕ) (s : List ℕ) → Bytes s → length s ≡ 512 * n → verify_blocks n k s ≡ passed → blocks_of n k (payload_of n s) ≡ s
unfolding payload_of blocks_of
blocks_again zero k s b l e = take_all 0 s (omega arith)
blocks_again (suc n) k s b l e =
    let apart = parted n (part_of s) (drop 512 s) (used_part n k s b l e) in
    let ih = blocks_again n (suc k) (drop 512 s) (all_drop 512 b) (rest_length n k s b l e) (rest_passes n k s b l e) in
    rw (apart.0, apart.1, first_again n k s b l e, ih) (take-append-drop 512 s)

-- a first part before a payload of n blocks
fills_more : (n : ℕ) (part s : List ℕ) → used_right (is_zero n) (length part) ≡ true → Fills n (payload_of n s)
    → Fills (suc n) (part ++ payload_of n s)
unfolding payload_of used_right
fills_more zero part s u f =
    let some : 1 ≤ length part = leb-true 1 (length part) (and_left (leb 1 (length part)) (leb (length part) 504) u) in
    rw append-nil (omega (arith, used_small true (length part) u), omega arith)
fills_more (suc n) part s u (h, h') =
    let full : length part ≡ 504 = full_count (suc n) n refl u in
    rw length-append (omega arith, omega arith)

payload_fills : (n k : ℕ) (s : List ℕ) → Bytes s → length s ≡ 512 * n → verify_blocks n k s ≡ passed → Fills n (payload_of n s)
unfolding payload_of
payload_fills zero k s b l e = (omega arith, omega arith)
payload_fills (suc n) k s b l e =
    fills_more n (part_of s) (drop 512 s) (used_part n k s b l e)
    (payload_fills n (suc k) (drop 512 s) (all_drop 512 b) (rest_length n k s b l e) (rest_passes n k s b l e))

payload_bytes : (n : ℕ) (s : List ℕ) → Bytes s → Bytes (payload_of n s)
unfolding payload_of
payload_bytes zero s b = l[]
payload_bytes (suc n) s b = all_append (all_take (word_at s 2) (all_drop 4 b)) (payload_bytes n (drop 512 s) (all_drop 512 b))

---- The theorems

-- blocks that are verified are those of their payload
module _ (file p : List ℕ) (b : Bytes file) (e : verified file ≡ found p) where
  passes : (verify file ≡ passed) × (payload file ≡ p)
  unfolding verified
  passes = let r = bind_found (verify file) _ e in (r.1, found_inj r.2)

  abbrev blocks : ℕ
  blocks = length file / 512

  whole : length file ≡ 512 * blocks
  whole = omega (arith, verified_whole file passes.0)

  is_payload : payload_of blocks file ≡ p
  unfolding payload
  is_payload = passes.1

  fills : Fills blocks p
  fills = rw is_payload at (payload_fills blocks 0 file b whole (verified_parts file passes.0).1)

  verified_payload : Payload p
  verified_payload =
      let w = verified_whole file passes.0 in
      record { some = omega (arith, fills, w); few = omega (arith, fills, w); bytes = rw is_payload at (payload_bytes blocks file b) }

  verified_packed : file ≡ packed p
  unfolding packed block_count
  verified_packed =
      let count : (length p + 503) / 504 ≡ blocks = omega (arith, fills) in
      sym (rw count (rw is_payload at (blocks_again blocks 0 file b whole (verified_parts file passes.0).1)))

pub exact : Exact
exact file p = (λ v e. rw e (packed_bytes v, packed_verified v), λ b e. (verified_payload file p b e, verified_packed file p b e))

pub round_trip : RoundTrip
unfolding copied_into
round_trip p out out' v h h' =
    let needed : ℕ = 512 * block_count (length p) in
    let packs = pack_fits p (length out) v.some v.few h in
    let front : take needed (pack_leaves p out) ≡ packed p = rw packs (take_at (packed p) _ needed (packed_length p)) in
    let unpacks = unpack_fits (packed p) (length out') (packed_verified v) h' in
    record { packs = rw (packs, packed_length p); unpacks = rw (front, unpacks); back = rw (front, unpacks) }
