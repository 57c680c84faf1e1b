-- The pass for 1 to 3 agrees with document 01's words for it on every file.
use mathlib.Core.Path.{◌≡◌, refl, sym, ◌∙◌, subst}
use mathlib.Core.List.{List}
use mathlib.Core.Bool.{Bool, true, false, ◌&&◌}
use mathlib.Core.Logic.{◌↔◌}
use Prim.Native.Nat.{ℕ, zero, suc, ◌+◌, ◌*◌, ◌-◌, ◌/◌, ◌%◌, ◌≤◌, ◌<◌}
use native.Mathlib.Omega.{arith}
use native.Mathlib.Nat.{zero-add, add-zero, add_comm, add_assoc, not-suc-le-zero}
use lib.ListN.{length, take, drop, get_or, length-drop}
use lib.Seq.{get_or-take, get_or-drop, length-take-le}
use lib.Dec.{ltb, eqb}
use borrow.Author.Tests.{ltb-true, ltb-false, eqb-true, eqb-false}
use Rattle.rules.specs.Base.{Refusal, refusal, within, is_zero, all, byte_at, word_at, long_at}
use Rattle.rules.specs.Container.{weighed, checksum, used_right, block_right, verify_block, verify_blocks, length_right, verify}
use Rattle.rules.specs.FileRules.{Between, Whole, sum_to, Summed, Fielded, BlockRight, BlocksRight, BlocksFail, whole, sum, fields}
use Rattle.rules.specs.FileRules.{BlocksExact}
use Rattle.rules.proofs.ListLaws.{and_iff, leb_iff, eqb_iff, zeros_iff}
use Rattle.rules.proofs.VerdictLaws.{Verdict, pass, verdict_require, verdict_bind, verdict_decides}
use Rattle.rules.proofs.ContainerLaws.{weighed_next, blocks_step}

pub within_iff : (lo hi n : ℕ) → within lo hi n ≡ true ↔ Between lo hi n
within_iff lo hi n = and_iff (leb_iff lo n) (leb_iff n hi)

---- 1

length_iff : (n : ℕ) → length_right n ≡ true ↔ ((b : ℕ) × Whole n b)
unfolding length_right
length_iff n =
    let i = and_iff (within_iff 1 32768 n) (eqb_iff (n % 512) 0) in (
      (λ e. let h = i.0 e in (n / 512, ((omega arith, omega arith), omega arith))),
      λ h. let w = h.1 in i.1 ((omega arith, omega arith), omega arith),
    )

---- The sum

sum_same : (n : ℕ) (f g : ℕ → ℕ) → ((i : ℕ) → i < n → f i ≡ g i) → sum_to n f ≡ sum_to n g
unfolding sum_to
sum_same zero f g h = refl
sum_same (suc n) f g h = rw (sum_same n f g (λ i l. h i (omega arith)), h n (omega arith))

weighed_sum : (n : ℕ) (xs : List ℕ) → n ≤ length xs → weighed 1 (take n xs) ≡ sum_to n (λ i. byte_at xs i * (i + 1))
unfolding weighed sum_to
weighed_sum zero xs h = refl
weighed_sum (suc n) xs h = weighed_next 1 xs n h ∙ rw (weighed_sum n xs (omega arith), add_comm 1 n)

---- Block k of b

module _ (file : List ℕ) (b k : ℕ) (w : length file ≡ 512 * b) (l : k < b) where
  abbrev block : List ℕ
  block = take 512 (drop (512 * k) file)

  -- the bytes of the block, as they stand in the file
  byte_of : (i : ℕ) → i < 512 → byte_at block i ≡ byte_at file (512 * k + i)
  byte_of i h = get_or-take 512 (drop (512 * k) file) i 0 h ∙ get_or-drop (512 * k) file i 0

  word_of : (i : ℕ) → i + 1 < 512 → word_at block i ≡ word_at file (512 * k + i)
  word_of i h = rw (byte_of i (omega arith), byte_of (i + 1) h, add_assoc)

  long_of : (i : ℕ) → i + 3 < 512 → long_at block i ≡ long_at file (512 * k + i)
  long_of i h =
      let e : 512 * k + (i + 2) ≡ 512 * k + i + 2 = omega arith in
      rw (word_of i (omega arith), word_of (i + 2) (omega arith), e)

  block_length : length block ≡ 512
  block_length = length-take-le 512 (drop (512 * k) file) (simp length-drop (omega arith))

  -- the check that is computed is the sum
  checksum_is_lem : checksum block ≡ sum_to 508 (λ i. byte_at file (512 * k + i) * (i + 1))
  unfolding checksum
  checksum_is_lem =
      weighed_sum 508 block (omega (arith, block_length))
      ∙ sum_same 508 (λ i. byte_at block i * (i + 1)) (λ i. byte_at file (512 * k + i) * (i + 1)) (λ i h. rw (byte_of i (omega arith)))

  sum_iff : eqb (long_at block 508) (checksum block) ≡ true ↔ Summed file k
  sum_iff = rw (long_of 508 (omega arith), checksum_is_lem) (eqb_iff _ _)

  used_iff : (u : ℕ) → used_right (eqb (k + 1) b) u ≡ true ↔ ((suc k < b → u ≡ 504) × Between 1 504 u)
  unfolding used_right
  used_iff u = go (eqb (k + 1) b) refl
    where
      go : (t : Bool) → eqb (k + 1) b ≡ t → used_right t u ≡ true ↔ ((suc k < b → u ≡ 504) × Between 1 504 u)
      go true e =
          let z = eqb-true (k + 1) b e in
          ((λ h. ((λ m. absurd (omega arith)), (within_iff 1 504 u).0 h)), λ h. (within_iff 1 504 u).1 h.1)
      go false e =
          let z = eqb-false (k + 1) b e in
          ((λ h. let q = eqb-true u 504 h in ((λ _. q), (omega arith, omega arith))), λ h. (eqb_iff u 504).1 (h.0 (omega (arith, z))))

  unused_iff : (u : ℕ) → all is_zero (drop (4 + u) (take 508 block)) ≡ true
      ↔ ((i : ℕ) → u ≤ i → i < 504 → byte_at file (512 * k + 4 + i) ≡ 0)
  unused_iff u = (
    (λ e i lo hi. sym (there i hi) ∙ zeros.0 e (4 + i) (omega arith) (rw short (omega arith))),
    λ h. zeros.1 (λ i lo hi.
        let m : i < 508 = rw short at hi in
        let e : 4 + (i - 4) ≡ i = omega arith in
        (rw e at (there (i - 4) (omega arith))) ∙ h (i - 4) (omega arith) (omega arith)),
  )
    where
      zeros : all is_zero (drop (4 + u) (take 508 block)) ≡ true
          ↔ ((i : ℕ) → 4 + u ≤ i → i < length (take 508 block) → get_or (take 508 block) i 0 ≡ 0)
      zeros = zeros_iff (take 508 block) (4 + u)

      short : length (take 508 block) ≡ 508
      short = length-take-le 508 block (omega (arith, block_length))

      there : (i : ℕ) → i < 504 → get_or (take 508 block) (4 + i) 0 ≡ byte_at file (512 * k + 4 + i)
      there i h = get_or-take 508 block (4 + i) 0 (omega arith) ∙ byte_of (4 + i) (omega arith) ∙ rw add_assoc

  fields_iff : block_right (eqb (k + 1) b) k block ≡ true ↔ Fielded file b k
  unfolding block_right
  fields_iff = rw (rw (add-zero (512 * k)) at (word_of 0 (omega arith)), word_of 2 (omega arith)) (
    (λ e.
        let h = parts.0 e in
        record { number = h.0.0; full = h.0.1.0; used = h.0.1.1; unused = h.1 }),
    λ f. parts.1 ((f.number, (f.full, f.used)), f.unused),
  )
    where
      n : ℕ
      n = word_at file (512 * k)

      u : ℕ
      u = word_at file (512 * k + 2)

      parts : (eqb n k && used_right (eqb (k + 1) b) u && all is_zero (drop (4 + u) (take 508 block))) ≡ true
          ↔ (((n ≡ k) × ((suc k < b → u ≡ 504) × Between 1 504 u))
          × ((i : ℕ) → u ≤ i → i < 504 → byte_at file (512 * k + 4 + i) ≡ 0))
      parts = and_iff (and_iff (eqb_iff n k) (used_iff u)) (unused_iff u)

  -- the block is right, or the file fails at it
  block_verdict : Between 1 64 b → ((j : ℕ) → j < k → BlockRight file b j)
      → Verdict (BlockRight file b k) (BlocksFail file) (verify_block (eqb (k + 1) b) k block)
  unfolding verify_block
  block_verdict few before =
      verdict_bind (verdict_require (eqb (long_at block 508) (checksum block)) (refusal 2 k 0) sum_iff (λ n. sum (few, w) l before n))
      (λ s. verdict_require (block_right (eqb (k + 1) b) k block) (refusal 3 k 0)
      ((λ e. (s, fields_iff.0 e)), λ h. fields_iff.1 h.1) (λ n. fields (few, w) l before s (λ f. n (s, f))))

---- All blocks

module _ (file : List ℕ) (b : ℕ) (few : Between 1 64 b) (w : length file ≡ 512 * b) where
  blocks_verdict : (d k : ℕ) → k + d ≡ b → ((j : ℕ) → j < k → BlockRight file b j)
      → Verdict (BlocksRight file) (BlocksFail file) (verify_blocks (b - k) k (drop (512 * k) file))
  unfolding verify_blocks
  blocks_verdict zero k e before =
      let z : b - k ≡ 0 = omega arith in
      rw z (pass (record { blocks = b; whole = (few, w); right = λ j l. before j (omega arith) }))
  blocks_verdict (suc d) k e before =
      let l : k < b = omega arith in
      rw (blocks_step b k file l)
      (verdict_bind (block_verdict file b k w l few before) (λ p. blocks_verdict d (k + 1) (omega arith) (more p)))
    where
      more : BlockRight file b k → (j : ℕ) → j < k + 1 → BlockRight file b j
      more p j h = go (ltb j k) refl
        where
          go : (t : Bool) → ltb j k ≡ t → BlockRight file b j
          go true t = before j (ltb-true j k t)
          go false t =
              let q : k ≡ j = omega (arith, ltb-false j k t) in
              subst (λ (i : ℕ). BlockRight file b i) q p

verify_verdict : (file : List ℕ) → Verdict (BlocksRight file) (BlocksFail file) (verify file)
unfolding verify
verify_verdict file =
    verdict_bind (verdict_require (length_right (length file)) (refusal 1 0 0) (length_iff (length file)) (λ n. whole (λ b w. n (b, w))))
    (λ h.
    let e : length file / 512 ≡ h.0 - 0 = omega arith in
    rw e (blocks_verdict file h.0 h.1.0 h.1.1 h.0 0 (zero-add h.0) (λ j l. absurd (not-suc-le-zero l))))

---- A file is right, or fails in one way

same_count : {n b c : ℕ} → Whole n b → Whole n c → b ≡ c
same_count p q = omega arith

module _ {file : List ℕ} where
  -- the first block that is not right
  same_block : {b c k i : ℕ} → Whole (length file) b → Whole (length file) c → ((j : ℕ) → j < k → BlockRight file b j)
      → ((j : ℕ) → j < i → BlockRight file c j) → ¬ BlockRight file b k → ¬ BlockRight file c i → k ≡ i
  same_block {b} {c} {k} {i} p q before before' n n' = go (ltb k i) refl (ltb i k) refl
    where
      e : b ≡ c
      e = same_count p q

      go : (s : Bool) → ltb k i ≡ s → (t : Bool) → ltb i k ≡ t → k ≡ i
      go true s t h = absurd (n (rw e (before' k (ltb-true k i s))))
      go false s true h = absurd (n' (rw (← e) (before i (ltb-true i k h))))
      go false s false h = omega (arith, ltb-false k i s, ltb-false i k h)

  not_both : (r : Refusal) → BlocksRight file → BlocksFail file r → ⊥
  not_both r h (whole n) = n h.blocks h.whole
  not_both r h (sum {b} {k} w l before n) =
      let e : h.blocks ≡ b = same_count h.whole w in
      n (h.right k (rw e l)).0
  not_both r h (fields {b} {k} w l before s n) =
      let e : h.blocks ≡ b = same_count h.whole w in
      n (rw e at (h.right k (rw e l)).1)

  one : (r q : Refusal) → BlocksFail file r → BlocksFail file q → r ≡ q
  one r q (whole n) (whole m) = refl
  one r q (whole n) (sum w l before m) = absurd (n _ w)
  one r q (whole n) (fields w l before s m) = absurd (n _ w)
  one r q (sum w l before n) (whole m) = absurd (m _ w)
  one r q (sum w l before n) (sum w' l' before' n') =
      rw (same_block w w' before before' (λ p. n p.0) (λ p. n' p.0))
  one r q (sum w l before n) (fields w' l' before' s n') =
      let e = same_block w w' before before' (λ p. n p.0) (λ p. n' p.1) in
      absurd (n (rw e s))
  one r q (fields w l before s n) (whole m) = absurd (m _ w)
  one r q (fields w l before s n) (sum w' l' before' n') =
      let e = same_block w w' before before' (λ p. n p.1) (λ p. n' p.0) in
      absurd (n' (rw e at s))
  one r q (fields w l before s n) (fields w' l' before' s' n') =
      rw (same_block w w' before before' (λ p. n p.1) (λ p. n' p.1))

pub blocks_exact : BlocksExact
blocks_exact file = verdict_decides (verify_verdict file) not_both one
