-- One block: as it is written it passes, and a block that passes is one that is written.
use mathlib.Core.Path.{◌≡◌, refl, sym, ap, ◌∙◌}
use mathlib.Core.List.{List, [], ◌∷◌, ◌++◌, append_assoc}
use mathlib.Core.Bool.{Bool, true, ◌&&◌}
use Prim.Native.Nat.{ℕ, zero, suc, ◌+◌, ◌*◌, ◌-◌, ◌/◌, ◌%◌, ◌≤◌, ◌<◌}
use native.Mathlib.Omega.{arith}
use native.Mathlib.Numerals.{add-one}
use lib.ListN.{length, take, drop, get_or, replicate, length-append, length-take, length-drop, take-append-drop}
use lib.Seq.{take_all, take-append_seam, take_at, drop_at, take-take, take-add, get_or-append-add, get_or-drop, length-take-le}
use lib.Dec.{eqb}
use borrow.Author.Tests.{eq-eqb, eqb-true}
use Rattle.rules.specs.Base.{refusal, passed, require, is_zero, all, byte_at, word_at, long_at}
use Rattle.rules.specs.Container.{weighed, checksum, used_right, block_right, verify_block, bytes2, bytes4, block_body, block}
use Rattle.rules.specs.Lists.{l[], ◌l∷◌, Bytes}
use Rattle.rules.proofs.ContainerLaws.{used_small, body_length}
use Rattle.rules.proofs.ListLaws.{all_append, all_drop, all_get_d, and_left, and_right}
use Rattle.rules.proofs.TriedLaws.{bind_found, required}
use Rattle.blocks.proofs.BlockLaws.{fields_tested, block_tested}
use Rattle.packing.proofs.PackLaws.{check_whole}
use Rattle.rules.proofs.SumLaws.{term_bound}

---- Zeros, sums, numbers in bytes

all_zeros : (n : ℕ) → all is_zero (replicate n 0) ≡ true
all_zeros zero = refl
all_zeros (suc n) = all_zeros n

zeros_only : (l : List ℕ) → all is_zero l ≡ true → l ≡ replicate (length l) 0
zeros_only [] e = refl
zeros_only (x ∷ l) e =
    let z : x ≡ 0 = eqb-true x 0 (and_left (is_zero x) (all is_zero l) e) in
    rw (z, ← zeros_only l (and_right (is_zero x) (all is_zero l) e))

-- the sum of at most 512 bytes fits four bytes
weighed_small : (place : ℕ) (l : List ℕ) → Bytes l → place + length l ≤ 512 → weighed (place + 1) l ≤ 130560 * length l
unfolding weighed
weighed_small place [] b h = omega arith
weighed_small place (x ∷ l) (p l∷ b) h =
    let ih = weighed_small (place + 1) l b (omega arith) in
    rw (← add-one (place + 1)) (omega (arith, ih, term_bound x place p (omega arith)))

digit : (x y : ℕ) → x < 256 → ((x + 256 * y) % 256 ≡ x) × ((x + 256 * y) / 256 ≡ y)
digit x y h =
    let low : (x + 256 * y) / 256 ≤ y = omega arith in
    let high : y ≤ (x + 256 * y) / 256 = omega arith in
    (omega arith, omega arith)

word_bytes : (x y : ℕ) → x < 256 → y < 256 → bytes2 (x + 256 * y) ≡ x ∷ y ∷ []
word_bytes x y hx hy =
    let d = digit x y hx in
    let e : y % 256 ≡ y = omega arith in
    rw (d.0, d.1, e)

long_bytes : (x y v : ℕ) → x < 256 → y < 256 → bytes4 (x + 256 * y + 65536 * v) ≡ x ∷ y ∷ bytes2 v
long_bytes x y v hx hy =
    let n : x + 256 * y + 65536 * v ≡ x + 256 * (y + 256 * v) = omega arith in
    let d = digit x (y + 256 * v) hx in
    let d' = digit y v hy in
    let low : (x + 256 * (y + 256 * v)) / 65536 ≤ v = omega arith in
    let high : v ≤ (x + 256 * (y + 256 * v)) / 65536 = omega arith in
    let q : (x + 256 * (y + 256 * v)) / 65536 ≡ v = omega arith in
    rw (n, d.0, d.1, d'.0, q)

byte_small : {l : List ℕ} → Bytes l → (i : ℕ) → byte_at l i < 256
byte_small b i = all_get_d i 0 (omega arith) b

-- the first four elements
first_four : (l : List ℕ) → 4 ≤ length l → take 4 l ≡ byte_at l 0 ∷ byte_at l 1 ∷ byte_at l 2 ∷ byte_at l 3 ∷ []
first_four (a ∷ b ∷ c ∷ d ∷ l) h = refl
first_four (a ∷ b ∷ c ∷ []) h = absurd (omega arith)
first_four (a ∷ b ∷ []) h = absurd (omega arith)
first_four (a ∷ []) h = absurd (omega arith)
first_four [] h = absurd (omega arith)

first_words : {l : List ℕ} → Bytes l → 4 ≤ length l → take 4 l ≡ bytes2 (word_at l 0) ++ bytes2 (word_at l 2)
first_words {l} b h =
    let low = word_bytes (byte_at l 0) (byte_at l 1) (byte_small b 0) (byte_small b 1) in
    let high = word_bytes (byte_at l 2) (byte_at l 3) (byte_small b 2) (byte_small b 3) in
    first_four l h ∙ sym (ap (λ (m : List ℕ). m ++ bytes2 (word_at l 2)) low ∙ ap (λ (m : List ℕ). byte_at l 0 ∷ byte_at l 1 ∷ m) high)

first_long : {l : List ℕ} → Bytes l → 4 ≤ length l → take 4 l ≡ bytes4 (long_at l 0)
first_long {l} b h =
    let low = long_bytes (byte_at l 0) (byte_at l 1) (word_at l 2) (byte_small b 0) (byte_small b 1) in
    let high = word_bytes (byte_at l 2) (byte_at l 3) (byte_small b 2) (byte_small b 3) in
    first_four l h ∙ sym (low ∙ ap (λ (m : List ℕ). byte_at l 0 ∷ byte_at l 1 ∷ m) high)

below : (n : ℕ) → Bytes (bytes2 n)
below n =
    let low : n % 256 < 256 = omega arith in
    let high : n / 256 % 256 < 256 = omega arith in
    low l∷ high l∷ l[]

zeros_bytes : (n : ℕ) → Bytes (replicate n 0)
zeros_bytes zero = l[]
zeros_bytes (suc n) = let z : 0 < 256 = omega arith in z l∷ zeros_bytes n

front_of : (w a b c : List ℕ) → take (length w) (w ++ a ++ b ++ c) ≡ w
front_of w a b c = simp append_assoc (take-append_seam w _)

---- A block as it is written

module _ (k : ℕ) (part : List ℕ) (h : length part ≤ 504) where
  block_number : k < 65536 → word_at (block k part) 0 ≡ k
  unfolding block block_body
  block_number hk = omega arith

  pub block_used : word_at (block k part) 2 ≡ length part
  unfolding block block_body
  block_used = omega arith

  -- with more behind it
  pub block_part : (rest : List ℕ) → take (length part) (drop 4 (block k part ++ rest)) ≡ part
  unfolding block block_body
  block_part rest = front_of part (replicate (504 - length part) 0) (bytes4 (checksum (block_body k part))) rest

  block_front : take 508 (block k part) ≡ block_body k part
  unfolding block
  block_front = take_at (block_body k part) _ 508 (body_length k part h)

  block_sum : checksum (block k part) ≡ checksum (block_body k part)
  unfolding checksum
  block_sum = rw (block_front, take_all 508 (block_body k part) (omega (arith, body_length k part h)))

  block_unused : drop (4 + length part) (take 508 (block k part)) ≡ replicate (504 - length part) 0
  unfolding block_body
  block_unused =
      let head : List ℕ = bytes2 k ++ bytes2 (length part) in
      ap (drop (4 + length part)) block_front
      ∙ drop_at (head ++ part) (replicate (504 - length part) 0) (4 + length part) (length-append head part)

  behind : (i n : ℕ) (l : List ℕ) → n ≡ 508 + i → get_or (block_body k part ++ l) n 0 ≡ get_or l i 0
  behind i n l e =
      let e' : n ≡ length (block_body k part) + i = omega (arith, body_length k part h) in
      rw e' (get_or-append-add (block_body k part) l i 0)

  block_stored : checksum (block_body k part) < 4294967296 → long_at (block k part) 508 ≡ checksum (block_body k part)
  unfolding block
  block_stored small =
      let c = checksum (block_body k part) in
      let l = bytes4 c in
      rw (behind 0 508 l refl, behind 1 509 l refl, behind 2 510 l refl, behind 3 511 l refl) (omega arith)

  body_bytes : Bytes part → Bytes (block_body k part)
  unfolding block_body
  body_bytes b = all_append (all_append (all_append {xs = bytes2 k} (below k) (below (length part))) b) (zeros_bytes (504 - length part))

  pub block_bytes : Bytes part → Bytes (block k part)
  unfolding block
  block_bytes b =
      let c = checksum (block_body k part) in
      all_append (body_bytes b) (all_append {xs = bytes2 c} (below c) (below (c / 65536)))

  pub block_verified : (last : Bool) → Bytes part → k < 65536 → used_right last (length part) ≡ true
      → verify_block last k (block k part) ≡ passed
  block_verified last b hk u =
      let small : checksum (block_body k part) < 4294967296 =
      omega (
        arith,
        check_whole k part h,
        weighed_small 0 (block_body k part) (body_bytes b)
            (omega (arith, body_length k part h)),
        body_length k part h,
      ) in
      let fields = fields_tested last k (length part) (block k part) (sym block_used) (eq-eqb _ _ (block_number hk)) u
      (ap (all is_zero) block_unused ∙ all_zeros (504 - length part)) in
      block_tested last k (block k part) (eq-eqb _ _ (block_stored small ∙ sym block_sum)) fields

---- A block that passes

-- what its tests say
pub record BlockPasses (last : Bool) (k : ℕ) (b : List ℕ) : Type 0 where
  pub check : long_at b 508 ≡ checksum b
  pub number : word_at b 0 ≡ k
  pub used : used_right last (word_at b 2) ≡ true
  pub unused : all is_zero (drop (4 + word_at b 2) (take 508 b)) ≡ true

pub block_passes : (last : Bool) (k : ℕ) (b : List ℕ) → verify_block last k b ≡ passed → BlockPasses last k b
unfolding verify_block block_right
block_passes last k b e =
    let r = bind_found (require (eqb (long_at b 508) (checksum b)) (refusal 2 k 0)) _ e in
    let number = eqb (word_at b 0) k in
    let used = used_right last (word_at b 2) in
    let unused = all is_zero (drop (4 + word_at b 2) (take 508 b)) in
    let fields = required (block_right last k b) (refusal 3 k 0) r.2 in
    let first = and_left (number && used) unused fields in
    record {
      check = eqb-true _ _ (required _ (refusal 2 k 0) r.1);
      number = eqb-true _ _ (and_left number used first);
      used = and_right number used first;
      unused = and_right (number && used) unused fields;
    }

-- the part that it uses
abbrev pub part_of : List ℕ → List ℕ
part_of b = take (word_at b 2) (drop 4 b)

module _ {last : Bool} {k : ℕ} {b : List ℕ} (p : BlockPasses last k b) (bytes : Bytes b) (l : length b ≡ 512) where
  part_length : length (part_of b) ≡ word_at b 2
  part_length = length-take-le _ (drop 4 b) (simp length-drop (omega (arith, l, used_small last (word_at b 2) p.used)))

  part_small : length (part_of b) ≤ 504
  part_small = omega (arith, part_length, used_small last (word_at b 2) p.used)

  front_is : take 508 b ≡ block_body k (part_of b)
  unfolding block_body
  front_is =
      let u = word_at b 2 in
      let part : List ℕ = part_of b in
      let head : List ℕ = bytes2 k ++ bytes2 (length part) in
      let z : List ℕ = drop (4 + u) (take 508 b) in
      let begins : take 4 b ≡ head = first_words bytes (omega (arith, l)) ∙ ap (λ (n : ℕ). bytes2 n ++ bytes2 u) p.number
      ∙ ap (λ (n : ℕ). bytes2 k ++ bytes2 n) (sym part_length) in
      let used : take (4 + u) (take 508 b) ≡ head ++ part = take-take (4 + u) 508 b (omega (arith, part_small, part_length))
      ∙ take-add 4 u b ∙ ap (λ (m : List ℕ). m ++ part) begins in
      let long : length z ≡ 504 - length part = simp (length-drop, length-take) (omega (arith, l, part_length)) in
      let unused : z ≡ replicate (504 - length part) 0 = zeros_only z p.unused ∙ ap (λ (n : ℕ). replicate n 0) long in
      sym (take-append-drop (4 + u) (take 508 b)) ∙ ap (λ (m : List ℕ). m ++ z) used ∙ ap (λ (m : List ℕ). head ++ part ++ m) unused

  check_is : long_at b 508 ≡ checksum (block_body k (part_of b))
  unfolding checksum
  check_is = p.check ∙ ap (weighed 1) front_is ∙ sym (check_whole k (part_of b) part_small)

  pub block_again : block k (part_of b) ≡ b
  unfolding block
  block_again =
      let rest : List ℕ = drop 508 b in
      let four : length rest ≡ 4 = simp length-drop (omega (arith, l)) in
      let same : long_at rest 0 ≡ long_at b 508 = rw
      (get_or-drop 508 b 0 0, get_or-drop 508 b 1 0, get_or-drop 508 b 2 0, get_or-drop 508 b 3 0) in
      let tail : rest ≡ bytes4 (checksum (block_body k (part_of b))) = sym (take_all 4 rest (omega (arith, four)))
      ∙ first_long (all_drop 508 bytes) (omega (arith, four)) ∙ ap bytes4 (same ∙ check_is) in
      sym (ap (λ (m : List ℕ). m ++ bytes4 (checksum (block_body k (part_of b)))) front_is)
      ∙ sym (ap (λ (m : List ℕ). take 508 b ++ m) tail)
      ∙ take-append-drop 508 b
