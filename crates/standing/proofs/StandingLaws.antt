-- The payload bytes of lent blocks: how many there are, where they stand, and that of right blocks they are the payload.
use mathlib.Core.Path.{◌≡◌, refl, sym, ap, ◌∙◌}
use mathlib.Core.List.{List}
use mathlib.Core.Bool.{Bool, true, false}
use Prim.Native.Nat.{ℕ, ◌+◌, ◌*◌, ◌-◌, ◌%◌, ◌≤◌, ◌<◌, min}
use native.Mathlib.Omega.{arith}
use lib.ListN.{length}
use lib.Seq.{ext_get_or}
use lib.Dec.{leb}
use borrow.Author.Tests.{leb-true, leb-false, le-leb, lt-leb}
use Rattle.std.specs.Prelude.{Some}
use Rattle.rules.specs.Base.{byte_at, word_at}
use Rattle.rules.specs.Container.{payload, place_of}
use Rattle.rules.specs.Established.{Verified}
use Rattle.rules.proofs.ContainerLaws.{verified_whole, verified_length, verified_byte}
use Rattle.rules.proofs.ListLaws.{get_d_element}
use Rattle.rules.proofs.NumberedLaws.{numbered_length, numbered_there}
use Rattle.fields.specs.Onward.{Placed}
use Rattle.fields.proofs.SpotLaws.{Spot}
use Rattle.standing.specs.Found.{last_block, extent, standing, whole, found_at, Inside}

module _ (file : List ℕ) where
  pub extent_none : length file < 512 → 0 ≡ extent file
  unfolding extent
  extent_none h = simp (lt-leb 512 (length file) h)

  pub extent_some : 512 ≤ length file → 504 * last_block file + min 504 (word_at file (512 * last_block file + 2)) ≡ extent file
  unfolding extent
  extent_some h = simp (le-leb 512 (length file) h)

  -- each of them stands inside the blocks
  pub place_inside : (k : ℕ) → k < extent file → place_of k < length file
  place_inside k h = go (leb 512 (length file)) refl
    where
      go : (b : Bool) → leb 512 (length file) ≡ b → place_of k < length file
      go true e = omega (arith, extent_some (leb-true 512 (length file) e), leb-true 512 (length file) e)
      go false e = omega (arith, extent_none (leb-false 512 (length file) e))

  pub extent_small : extent file ≤ length file
  extent_small = go (leb 512 (length file)) refl
    where
      go : (b : Bool) → leb 512 (length file) ≡ b → extent file ≤ length file
      go true e = omega (arith, extent_some (leb-true 512 (length file) e), leb-true 512 (length file) e)
      go false e = omega (arith, extent_none (leb-false 512 (length file) e))

  pub standing_length : length (standing file) ≡ extent file
  unfolding standing
  standing_length = numbered_length (λ k. byte_at file (place_of k)) (extent file) 0

  pub standing_byte : (k : ℕ) → k < extent file → byte_at file (place_of k) ≡ byte_at (standing file) k
  unfolding standing
  standing_byte k h =
      sym (get_d_element 0 (standing file) k (numbered_there (λ k. byte_at file (place_of k)) (extent file) k h))

  -- where a payload's bytes stand
  pub standing_placed : Placed file (standing file) (extent file)
  standing_placed = record { inside = place_inside; same = standing_byte }

  ---- A record

  pub inside_whole : (size at : ℕ) → at + size ≤ extent file → Inside file (at + size)
  inside_whole size at h = record { counted = h; small = omega (arith, extent_small) }

-- a record that is there, as the code finds it
pub found_spot : {file : List ℕ} {at s size place left : ℕ} → Inside file (at + s) → s ≡ size → 1 ≤ size → size ≤ 504
    → place ≡ place_of at → left ≡ 504 - at % 504 → Spot file (standing file) at size place left
found_spot {file} {at} there sized some short stands room =
    let there = rw sized at there in
    record {
      count = extent file;
      placed = standing_placed file;
      there = there.counted;
      some = some;
      short = short;
      stands = stands;
      room = room;
    }

-- and what it found
pub found_read : (file : List ℕ) {R : Type 0} (record_at : List ℕ → ℕ → R) {at s size : ℕ} {t : Bool} {r : R} → s ≡ size
    → t ≡ whole s file at → t ≡ true → r ≡ record_at (standing file) at → Some r ≡ found_at size record_at file at
found_read file record_at es e h q = rw (← es, ← e, h, q)

-- of right blocks they are the payload
standing_payload : (file : List ℕ) → Verified file → standing file ≡ payload file
standing_payload file v =
    let w = verified_whole file v.blocks in
    let l = verified_length file v.blocks in
    let n : extent file ≡ length (payload file) =
    omega (arith, extent_some file (omega (arith, w)), l) in
    ext_get_or 0 _ _ (standing_length file ∙ n) (λ k h. sym (standing_byte file k (omega (arith, standing_length file, h)))
    ∙ verified_byte v k (omega (arith, standing_length file, h, n)))

-- so a record of the payload is found, and read from it
pub found_payload : {file : List ℕ} → Verified file → {R : Type 0} (size : ℕ) (record_at : List ℕ → ℕ → R) (at : ℕ)
    → at + size ≤ length (payload file) → found_at size record_at file at ≡ Some (record_at (payload file) at)
found_payload {file} v size record_at at h =
    let p = standing_payload file v in
    rw (le-leb (at + size) (extent file) (omega (arith, ap length p, standing_length file)), p)
