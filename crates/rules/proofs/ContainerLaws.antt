-- Blocks and their payload: what verified blocks have, how long the payload is, and where each of its bytes stands.
use mathlib.Core.Path.{◌≡◌, refl, sym, ap, ◌∙◌, subst}
use mathlib.Core.List.{List, [], ◌∷◌, ◌++◌}
use mathlib.Core.Bool.{Bool, true, false, ◌&&◌, and-eq-true_iff}
use Prim.Native.Nat.{ℕ, zero, suc, ◌+◌, ◌*◌, ◌-◌, ◌/◌, ◌%◌, ◌≤◌, ◌<◌}
use native.Mathlib.Omega.{arith}
use native.Mathlib.Numerals.{add-one}
use native.Mathlib.Nat.{add-zero, add-suc, suc-add, add_comm, not-suc-le-zero, le_of_suc-le-suc}
use lib.ListN.{length, take, drop, get_or, length-append, length-take, length-drop, length-replicate, get_or-append}
use lib.ListN.{get_or-eq_default}
use lib.Seq.{drop-drop, get_or-append-add, get_or-take, get_or-drop, length-take-le}
use lib.Dec.{leb, ltb, eqb}
use borrow.Author.Tests.{leb-true, ltb-true, ltb-false, eqb-true, eqb-false, eq-eqb, ne_eqb}
use Rattle.rules.specs.Base.{found, refused, refusal, ◌>>=◌, passed, require, is_zero, all, byte_at, word_at, long_at}
use Rattle.rules.specs.Container.{weighed, checksum, used_right, block_right, verify_block, verify_blocks, length_right, verify, payload_of}
use Rattle.rules.specs.Container.{payload, place_of, block_body, block, blocks_of, block_count, packed}
use Rattle.rules.specs.Established.{Verified}
use Rattle.rules.proofs.TriedLaws.{bind_found, required}

---- The check of a block

-- one byte more
pub weighed_next : (k : ℕ) (l : List ℕ) (i : ℕ) → i < length l → weighed k (take (suc i) l) ≡ weighed k (take i l) + get_or l i 0 * (k + i)
unfolding weighed
weighed_next k [] i h = absurd (not-suc-le-zero h)
weighed_next k (x ∷ xs) zero h = rw add-zero (omega arith)
weighed_next k (x ∷ xs) (suc i) h =
    let ih : weighed (suc k) (take (suc i) xs) ≡ weighed (suc k) (take i xs) + get_or xs i 0 * (k + suc i) =
    rw (add-suc, ← suc-add) (weighed_next (suc k) xs i (le_of_suc-le-suc h)) in
    omega arith

-- the same in the code's words
pub check_next : (b : List ℕ) (i : ℕ) → i < length b → weighed 1 (take (i + 1) b) ≡ weighed 1 (take i b) + get_or b i 0 * (i + 1)
check_next b i h =
    rw (add_comm 1 i, ← add-one i) at (weighed_next 1 b i h)

---- One block

pub used_small : (last : Bool) (n : ℕ) → used_right last n ≡ true → n ≤ 504
unfolding used_right
used_small true n e = leb-true n 504 ((and-eq-true_iff (leb 1 n) (leb n 504)).0 e).1
used_small false n e = omega (arith, eqb-true n 504 e)

pub verify_refused : (s : List ℕ) → length_right (length s) ≡ false → verify s ≡ refused (refusal 1 0 0)
unfolding verify
verify_refused s e = rw e

pub verify_begun : (s : List ℕ) → length_right (length s) ≡ true → verify s ≡ verify_blocks (length s / 512) 0 s
unfolding verify
verify_begun s e = rw e

-- the last block has none left behind it
last_block_lem : (k n : ℕ) → k < n → is_zero (n - (k + 1)) ≡ eqb (k + 1) n
last_block_lem k n h = go (eqb (k + 1) n) refl
  where
    go : (t : Bool) → eqb (k + 1) n ≡ t → is_zero (n - (k + 1)) ≡ t
    go true e = eq-eqb (n - (k + 1)) 0 (omega (arith, eqb-true (k + 1) n e))
    go false e = ne_eqb _ _ (λ (z : n - (k + 1) ≡ 0). eqb-false (k + 1) n e (omega arith))

-- block k of n, and those behind it
pub blocks_step : (n k : ℕ) (s : List ℕ) → k < n
    → verify_blocks (n - k) k (drop (512 * k) s)
    ≡ (verify_block (eqb (k + 1) n) k (take 512 (drop (512 * k) s)) >>= (λ _. verify_blocks (n - (k + 1)) (k + 1) (drop (512 * (k + 1)) s)))
unfolding verify_blocks
blocks_step n k s h =
    let m : ℕ = n - (k + 1) in
    let e : n - k ≡ suc m = omega arith in
    let d : 512 * (k + 1) ≡ 512 * k + 512 = omega arith in
    rw (e, ← last_block_lem k n h, d, ← drop-drop 512 (512 * k) s, add-one)

---- The payload

-- a verified block's used count is right
verified_used : (last : Bool) (k : ℕ) (b : List ℕ) → verify_block last k b ≡ passed → used_right last (word_at b 2) ≡ true
unfolding verify_block block_right
verified_used last k b e =
    let r = bind_found (require (eqb (long_at b 508) (checksum b)) (refusal 2 k 0)) _ e in
    let number = eqb (word_at b 0) k in
    let unused = all is_zero (drop (4 + word_at b 2) (take 508 b)) in
    let form = required (block_right last k b) (refusal 3 k 0) r.2 in
    ((and-eq-true_iff number (used_right last (word_at b 2))).0
    ((and-eq-true_iff (number && used_right last (word_at b 2)) unused).0 form).0).1

-- the used count of the first block of a file
pub used_of_first : (s : List ℕ) → 512 ≤ length s → word_at (take 512 s) 2 ≡ word_at s 2
used_of_first s h = rw (get_or-take 512 s 2 0 (omega arith), get_or-take 512 s 3 0 (omega arith))

-- the used count where blocks follow
pub full_count : (n m : ℕ) {u : ℕ} → suc m ≡ n → used_right (is_zero n) u ≡ true → u ≡ 504
unfolding used_right
full_count n m {u} p e = eqb-true u 504 (subst (λ (t : Bool). used_right t u ≡ true) (ne_eqb n 0 (omega arith)) e)

-- the payload byte at a place of the blocks
payload_byte : (n k : ℕ) (s : List ℕ) → length s ≡ 512 * n → verify_blocks n k s ≡ passed → (i : ℕ) → i < length (payload_of n s)
    → get_or (payload_of n s) i 0 ≡ get_or s (place_of i) 0
unfolding payload_of verify_blocks
payload_byte zero k s l e i h = absurd (not-suc-le-zero h)
payload_byte (suc n) k s l e i h =
    go (ltb i (word_at s 2)) refl (λ i' h'. payload_byte n (suc k) (drop 512 s) (simp length-drop (omega arith)) v.2 i' h')
  where
    v : (u : Unit {0}) × (verify_block (is_zero n) k (take 512 s) ≡ found u) × (verify_blocks n (suc k) (drop 512 s) ≡ passed)
    v = bind_found (verify_block (is_zero n) k (take 512 s)) _ e

    used : used_right (is_zero n) (word_at s 2) ≡ true
    used = rw (used_of_first s (omega arith)) at (verified_used (is_zero n) k (take 512 s) v.1)

    small : word_at s 2 ≤ 504
    small = used_small (is_zero n) (word_at s 2) used

    long : length (take (word_at s 2) (drop 4 s)) ≡ word_at s 2
    long = length-take-le (word_at s 2) (drop 4 s) (simp length-drop (omega (arith, small)))

    -- a block with payload behind it is full
    full_used : (m : ℕ) {j : ℕ} → m ≡ n → j < length (payload_of m (drop 512 s)) → word_at s 2 ≡ 504
    full_used zero p h' = absurd (not-suc-le-zero h')
    full_used (suc m) p h' = full_count n m p used

    go : (t : Bool) → ltb i (word_at s 2) ≡ t
        → ((i' : ℕ) → i' < length (payload_of n (drop 512 s))
        → get_or (payload_of n (drop 512 s)) i' 0 ≡ get_or (drop 512 s) (place_of i') 0)
        → get_or (take (word_at s 2) (drop 4 s) ++ payload_of n (drop 512 s)) i 0 ≡ get_or s (place_of i) 0
    go true t ih =
        let b : i < word_at s 2 = ltb-true _ _ t in
        let p : 4 + i ≡ place_of i = omega (arith, small) in
        get_or-append (take (word_at s 2) (drop 4 s)) (payload_of n (drop 512 s)) 0 i (rw long b)
        ∙ get_or-take (word_at s 2) (drop 4 s) i 0 b
        ∙ get_or-drop 4 s i 0 ∙ ap (λ (j : ℕ). get_or s j 0) p
    go false t ih =
        let b : word_at s 2 ≤ i = ltb-false _ _ t in
        let i' : ℕ = i - word_at s 2 in
        let more : i' < length (payload_of n (drop 512 s)) = omega (arith, simp (length-append, long) at h) in
        let full : word_at s 2 ≡ 504 = full_used n refl more in
        let e₁ : i ≡ length (take (word_at s 2) (drop 4 s)) + i' = omega (arith, long) in
        let e₂ : 512 + place_of i' ≡ place_of i = omega arith in
        ap (λ (j : ℕ). get_or (take (word_at s 2) (drop 4 s) ++ payload_of n (drop 512 s)) j 0) e₁
        ∙ get_or-append-add (take (word_at s 2) (drop 4 s)) _ i' 0
        ∙ ih i' more
        ∙ get_or-drop 512 s (place_of i') 0
        ∙ ap (λ (j : ℕ). get_or s j 0) e₂

---- Verified blocks

-- the used count of the first of suc n verified blocks, and its payload's length
module _ (n k : ℕ) (s : List ℕ) (l : 512 ≤ length s) (e : verify_blocks (suc n) k s ≡ passed) where
  first_block : (u : Unit {0}) × (verify_block (is_zero n) k (take 512 s) ≡ found u) × (verify_blocks n (suc k) (drop 512 s) ≡ passed)
  unfolding verify_blocks
  first_block = bind_found (verify_block (is_zero n) k (take 512 s)) _ e

  first_right : used_right (is_zero n) (word_at s 2) ≡ true
  first_right = rw (used_of_first s l) at (verified_used (is_zero n) k (take 512 s) first_block.1)

  first_small : word_at s 2 ≤ 504
  first_small = used_small (is_zero n) (word_at s 2) first_right

  first_length : length (take (word_at s 2) (drop 4 s)) ≡ word_at s 2
  first_length = length-take-le (word_at s 2) (drop 4 s) (simp length-drop (omega (arith, first_small)))

-- the length of a verified payload
payload_length : (n k : ℕ) (s : List ℕ) → length s ≡ 512 * suc n → verify_blocks (suc n) k s ≡ passed
    → (length (payload_of (suc n) s) ≡ 504 * n + word_at s (512 * n + 2)) × (word_at s (512 * n + 2) ≤ 504)
unfolding payload_of
payload_length zero k s l e =
    let long = first_length 0 k s (omega arith) e in
    (simp (length-append, long) (omega arith), first_small 0 k s (omega arith) e)
payload_length (suc n) k s l e =
    let ih = payload_length n (suc k) (drop 512 s) (simp length-drop (omega (arith, l))) (first_block (suc n) k s (omega arith) e).2 in
    let long = first_length (suc n) k s (omega arith) e in
    let full : word_at s 2 ≡ 504 = full_count (suc n) n refl (first_right (suc n) k s (omega arith) e) in
    let e₁ : 512 + (512 * n + 2) ≡ 512 * suc n + 2 = omega arith in
    let e₂ : 512 + (512 * n + 2 + 1) ≡ 512 * suc n + 2 + 1 = omega arith in
    let w : word_at (drop 512 s) (512 * n + 2) ≡ word_at s (512 * suc n + 2) =
    rw (get_or-drop 512 s (512 * n + 2) 0, get_or-drop 512 s (512 * n + 2 + 1) 0, e₁, e₂) in (
      rw (length-append (take (word_at s 2) (drop 4 s)) (payload_of (suc n) (drop 512 s)), long)
          (omega (arith, ih.0, w, full)),
      subst (λ (x : ℕ). x ≤ 504) w ih.1,
    )

-- verified blocks: their length, the length of their payload, where a payload byte stands
module _ (s : List ℕ) (e : verify s ≡ passed) where
  pub verified_parts : (length_right (length s) ≡ true) × (verify_blocks (length s / 512) 0 s ≡ passed)
  unfolding verify
  verified_parts =
      let v = bind_found (require (length_right (length s)) (refusal 1 0 0)) _ e in
      (required (length_right (length s)) (refusal 1 0 0) v.1, v.2)

  pub verified_whole : (length s % 512 ≡ 0) × (1 ≤ length s) × (length s ≤ 32768)
  unfolding length_right
  verified_whole =
      let both = (and-eq-true_iff (leb 1 (length s) && leb (length s) 32768) (is_zero (length s % 512))).0 verified_parts.0 in
      let range = (and-eq-true_iff (leb 1 (length s)) (leb (length s) 32768)).0 both.0 in
      (eqb-true _ _ both.1, leb-true _ _ range.0, leb-true _ _ range.1)

  pub verified_length : (length (payload s) ≡ 504 * (length s / 512 - 1) + word_at s (512 * (length s / 512 - 1) + 2))
      × (length (payload s) ≤ 504 * (length s / 512)) × (length (payload s) ≤ 32256)
  unfolding payload
  verified_length =
      let m : ℕ = length s / 512 - 1 in
      let q : length s / 512 ≡ suc m = omega (arith, verified_whole) in
      let r = payload_length m 0 s (omega (arith, verified_whole)) (subst (λ (x : ℕ). verify_blocks x 0 s ≡ passed) q verified_parts.1) in
      let g : length (payload s) ≡ length (payload_of (suc m) s) = ap (λ (x : ℕ). length (payload_of x s)) q in
      (g ∙ r.0, omega (arith, g, r.0, r.1), omega (arith, g, r.0, r.1, verified_whole))

module _ {file : List ℕ} (v : Verified file) where
  pub verified_place : (k : ℕ) → k < length (payload file) → place_of k < length file
  verified_place k h = omega (arith, (verified_length file v.blocks).1, verified_whole file v.blocks)

  -- payload byte k, as it stands in the blocks
  pub verified_byte : (k : ℕ) → k < length (payload file) → get_or file (place_of k) 0 ≡ byte_at (payload file) k
  unfolding payload
  verified_byte k h =
      sym (payload_byte (length file / 512) 0 file (omega (arith, verified_whole file v.blocks)) (verified_parts file v.blocks).1 k
      h)

  -- a payload byte is a byte of the blocks, or past the payload's end and 0
  pub byte_small : ((k : ℕ) → get_or file k 0 < 256) → (k : ℕ) → byte_at (payload file) k < 256
  byte_small small k = go (ltb k (length (payload file))) refl
    where
      go : (t : Bool) → ltb k (length (payload file)) ≡ t → byte_at (payload file) k < 256
      go true l = rw (← verified_byte k (ltb-true k _ l)) (small _)
      go false l = rw (get_or-eq_default (payload file) 0 {n = k} (ltb-false k _ l)) (omega arith)

---- How long blocks are

module _ (k : ℕ) (part : List ℕ) (h : length part ≤ 504) where
  pub body_length : length (block_body k part) ≡ 508
  unfolding block_body
  body_length = simp (length-append, length-replicate) (omega arith)

  pub block_length : length (block k part) ≡ 512
  unfolding block
  block_length = simp (length-append, body_length) (omega arith)

pub blocks_length : (n k : ℕ) (p : List ℕ) → length (blocks_of n k p) ≡ 512 * n
unfolding blocks_of
blocks_length zero k p = refl
blocks_length (suc n) k p =
    let part = take 504 p in
    rw (length-append (block k part), block_length k part (simp length-take (omega arith)), blocks_length n (suc k) (drop 504 p))
    (omega arith)

pub packed_length : (bytes : List ℕ) → length (packed bytes) ≡ 512 * block_count (length bytes)
unfolding packed
packed_length bytes = blocks_length (block_count (length bytes)) 0 bytes
