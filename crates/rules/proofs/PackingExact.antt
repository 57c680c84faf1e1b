-- Pack and unpack answer as the rules of 18 and 13 in document 01's words say.
use mathlib.Core.Path.{◌≡◌, refl}
use mathlib.Core.List.{List}
use mathlib.Core.Bool.{Bool, true, false}
use mathlib.Core.Logic.{◌⊎◌, inl, inr}
use Prim.Native.Nat.{ℕ, ◌*◌, ◌≤◌}
use native.Mathlib.Omega.{arith}
use lib.ListN.{length}
use lib.Dec.{leb}
use borrow.Author.Tests.{leb-true, leb-false, le-leb, lt-leb}
use Rattle.rules.specs.Base.{Refusal, refusal, found, refused, Check}
use Rattle.rules.specs.Container.{verify, payload, verified, block_count, packed, pack, unpack}
use Rattle.rules.specs.PackingRules.{InBlocks, PackingFails, bad_length, Packs, PackingExact, UnpackingFails, damaged, Unpacks}
use Rattle.rules.specs.PackingRules.{UnpackingExact}
use Rattle.rules.specs.PackingRules.PackingFails.{short_output}
use Rattle.rules.specs.PackingRules.UnpackingFails.{short_output as short_unpacked}
use Rattle.rules.proofs.TriedLaws.{answers_exactly}
use Rattle.rules.proofs.BlocksExact.{blocks_exact}

-- the block count is the one number of blocks for so many bytes
in_blocks : (n : ℕ) → 1 ≤ n → InBlocks n (block_count n)
unfolding block_count
in_blocks n h = (omega arith, omega arith)

block_count_lem : (n b : ℕ) → InBlocks n b → block_count n ≡ b
unfolding block_count
block_count_lem n b (lo, hi) = omega arith

---- Pack

module _ (bytes : List ℕ) (room : ℕ) where
  -- it fails, or it packs
  abbrev Packing : Type 0
  Packing = ((r : Refusal) × PackingFails bytes room r) ⊎ ((out : List ℕ) × Packs bytes room out)

  packing : Packing
  packing =
      one (leb 1 (length bytes)) refl (leb (length bytes) 32256) refl (leb (512 * block_count (length bytes)) room) refl
    where
      one : (a : Bool) → leb 1 (length bytes) ≡ a → (b : Bool) → leb (length bytes) 32256 ≡ b
          → (c : Bool) → leb (512 * block_count (length bytes)) room ≡ c → Packing
      one false ea b eb c ec = inl (refusal 18 0 0, bad_length (inl (omega (arith, leb-false 1 (length bytes) ea))))
      one true ea false eb c ec = inl (refusal 18 0 0, bad_length (inr (leb-false _ _ eb)))
      one true ea true eb false ec =
          let lo = leb-true 1 (length bytes) ea in inl (
            refusal 13 (512 * block_count (length bytes)) 0,
            short_output (block_count (length bytes)) lo (leb-true _ _ eb) (in_blocks (length bytes) lo) (leb-false _ _ ec),
          )
      one true ea true eb true ec =
          let lo = leb-true 1 (length bytes) ea in
          inr (
            packed bytes,
            record {
              some_bytes = lo;
              few_bytes = leb-true _ _ eb;
              blocks = block_count (length bytes);
              in_blocks = in_blocks (length bytes) lo;
              has_room = leb-true _ _ ec;
              is_packed = refl;
            },
          )

  pack_fails : (r : Refusal) → PackingFails bytes room r → pack bytes room ≡ refused r
  unfolding pack
  pack_fails r (bad_length (inl e)) = rw e
  pack_fails r (bad_length (inr h)) = rw (le-leb 1 (length bytes) (omega arith), lt-leb (length bytes) 32256 h)
  pack_fails r (short_output b lo hi w h) =
      rw (le-leb 1 (length bytes) lo, le-leb (length bytes) 32256 hi, block_count_lem (length bytes) b w, lt-leb (512 * b) room h)

  packs : (out : List ℕ) → Packs bytes room out → pack bytes room ≡ found out
  unfolding pack
  packs out p =
      rw (
        le-leb 1 (length bytes) p.some_bytes,
        le-leb (length bytes) 32256 p.few_bytes,
        block_count_lem (length bytes) p.blocks p.in_blocks,
        le-leb (512 * p.blocks) room p.has_room,
        p.is_packed,
      )

pub packing_exact : PackingExact
packing_exact bytes room =
    answers_exactly (pack bytes room) (PackingFails bytes room) (Packs bytes room) (pack_fails bytes room) (packs bytes room)
    (packing bytes room)

---- Unpack

module _ (file : List ℕ) (room : ℕ) where
  abbrev Unpacking : Type 0
  Unpacking = ((r : Refusal) × UnpackingFails file room r) ⊎ ((out : List ℕ) × Unpacks file room out)

  unpacking : Unpacking
  unpacking = one (verify file) refl (leb (length (payload file)) room) refl
    where
      one : (t : Check) → verify file ≡ t → (a : Bool) → leb (length (payload file)) room ≡ a → Unpacking
      one (refused r) e a ea = inl (r, damaged (((blocks_exact file).1 r).0 e))
      one (found tt) e false ea = inl (refusal 13 (length (payload file)) 0, short_unpacked ((blocks_exact file).0.0 e) (leb-false _ _ ea))
      one (found tt) e true ea = inr
          (payload file, record { blocks = (blocks_exact file).0.0 e; has_room = leb-true _ _ ea; is_payload = refl })

  unpack_fails : (r : Refusal) → UnpackingFails file room r → unpack file room ≡ refused r
  unfolding unpack verified
  unpack_fails r (damaged h) = rw (((blocks_exact file).1 r).1 h)
  unpack_fails r (short_unpacked b h) = rw ((blocks_exact file).0.1 b, lt-leb (length (payload file)) room h)

  unpacks : (out : List ℕ) → Unpacks file room out → unpack file room ≡ found out
  unfolding unpack verified
  unpacks out u = rw ((blocks_exact file).0.1 u.blocks, le-leb (length (payload file)) room u.has_room, u.is_payload)

pub unpacking_exact : UnpackingExact
unpacking_exact file room =
    answers_exactly (unpack file room) (UnpackingFails file room) (Unpacks file room) (unpack_fails file room) (unpacks file room)
    (unpacking file room)
