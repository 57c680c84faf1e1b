-- What pack and unpack answer, and a block and its check as they are written.
use mathlib.Core.Path.{◌≡◌, refl, sym, ap, ◌∙◌}
use mathlib.Core.List.{List, [], ◌∷◌, ◌++◌, append-nil, append_assoc}
use mathlib.Core.Bool.{false}
use Prim.Native.Nat.{ℕ, zero, suc, ◌+◌, ◌*◌, ◌-◌, ◌/◌, ◌≤◌, ◌<◌, min}
use native.Mathlib.Omega.{arith}
use native.Mathlib.Nat.{add-zero, add-suc, suc-add, zero-add}
use lib.ListN.{length, take, drop, replicate, length-append, length-take, length-drop, length-replicate}
use lib.Seq.{take_all, take_at, drop-drop}
use native.Mathlib.Decide.{dec_le}
use borrow.Rule.Slice.PartMut.{put_mid, mid_of, post_of}
use borrow.Author.Tests.{le-leb, lt-leb}
use Rattle.rules.specs.Base.{Refusal, refusal, found, refused, within}
use Rattle.rules.specs.Container.{weighed, checksum, bytes2, bytes4, block_body, block, blocks_of, block_count, packed, pack, verified}
use Rattle.rules.specs.Container.{unpack}
use Rattle.rules.specs.Memory.{front_written}
use Rattle.rules.proofs.ContainerLaws.{body_length, block_length, blocks_length}
use Rattle.rules.proofs.WriteLaws.{front_grown, front_whole}
use Rattle.std.specs.Int.{w16, w32, to_le_bytes}

---- The answers

module _ (bytes : List ℕ) (room : ℕ) where
  pub pack_bad : within 1 32256 (length bytes) ≡ false → pack bytes room ≡ refused (refusal 18 0 0)
  unfolding pack
  pack_bad e = rw e

  module _ (some : 1 ≤ length bytes) (few : length bytes ≤ 32256) where
    pub pack_short : room < 512 * block_count (length bytes) → pack bytes room ≡ refused (refusal 13 (512 * block_count (length bytes)) 0)
    unfolding pack
    pack_short h = rw (le-leb _ _ some, le-leb _ _ few, lt-leb _ _ h)

    pub pack_fits : 512 * block_count (length bytes) ≤ room → pack bytes room ≡ found (packed bytes)
    unfolding pack
    pack_fits h = rw (le-leb _ _ some, le-leb _ _ few, le-leb _ _ h)

pub unpack_refused : (file : List ℕ) (room : ℕ) {r : Refusal} → verified file ≡ refused r → unpack file room ≡ refused r
unfolding unpack
unpack_refused file room e = rw e

module _ (file : List ℕ) (room : ℕ) {bytes : List ℕ} (e : verified file ≡ found bytes) where
  pub unpack_short : room < length bytes → unpack file room ≡ refused (refusal 13 (length bytes) 0)
  unfolding unpack
  unpack_short h = rw (e, lt-leb _ _ h)

  pub unpack_fits : length bytes ≤ room → unpack file room ≡ found bytes
  unfolding unpack
  unpack_fits h = rw (e, le-leb _ _ h)

---- The sum of a block

weighed_append : (k : ℕ) (a b : List ℕ) → weighed k (a ++ b) ≡ weighed k a + weighed (k + length a) b
unfolding weighed
weighed_append k [] b = rw add-zero (omega arith)
weighed_append k (x ∷ a) b = rw (weighed_append (suc k) a b, suc-add, add-suc) (omega arith)

weighed_zeros : (k n : ℕ) → weighed k (replicate n 0) ≡ 0
unfolding weighed
weighed_zeros k zero = refl
weighed_zeros k (suc n) = rw (weighed_zeros (suc k) n) (omega arith)

---- A block

module _ (k : ℕ) (part : List ℕ) (h : length part ≤ 504) where
  pub check_whole : checksum (block_body k part) ≡ weighed 1 (block_body k part)
  unfolding checksum
  check_whole = ap (weighed 1) (take_all 508 (block_body k part) (omega (arith, body_length k part h)))

  -- the zeros add nothing
  body_check : checksum (block_body k part) ≡ weighed 1 ((bytes2 k ++ bytes2 (length part)) ++ part)
  unfolding block_body
  body_check =
      let used : List ℕ = (bytes2 k ++ bytes2 (length part)) ++ part in
      check_whole ∙ weighed_append 1 used (replicate (504 - length part) 0)
      ∙ omega (arith, weighed_zeros (1 + length used) (504 - length part))

-- bytes behind a front, as a write to a part of the slice leaves them
front_put : {o c : List ℕ} (w b out : List ℕ) (a m : ℕ) → o ≡ front_written w out → c ≡ b → a ≡ length w → m ≡ length b
    → put_mid a m o c ≡ front_written (w ++ b) out
front_put w b out a m eo ec ea em = rw (eo, ec, ← append_assoc, em, drop-drop) (front_grown w b out a ea)

-- a number in four bytes
four_bytes : (n : ℕ) → to_le_bytes w32 n ≡ bytes4 n
four_bytes n = let e : n / 16777216 ≡ n / 65536 / 256 = omega arith in rw e

-- a block's parts as they are written: its number, its used count and its part of the payload, then zeros
abbrev begun : ℕ → List ℕ → List ℕ → List ℕ → List ℕ → List ℕ
begun used number count part out = put_mid 4 (4 + used - 4) (put_mid 2 2 (number ++ post_of 0 2 out) count) part

abbrev filled : ℕ → List ℕ → List ℕ → List ℕ
filled used zeros out = put_mid (4 + used) (508 - (4 + used)) out zeros

-- a block that is written part by part, its checksum last, which is summed over what is used
pub block_written : (k : ℕ) (part out : List ℕ) {number count part' zeros check : List ℕ} {s : ℕ} → length part ≤ 504 → length out ≡ 512
    → number ≡ to_le_bytes w16 k → count ≡ to_le_bytes w16 (length part) → part' ≡ part
    → s ≡ weighed 1 (take (4 + length part) (begun (length part) number count part' out))
    → zeros ≡ replicate (length (mid_of (4 + length part) (508 - (4 + length part)) (begun (length part) number count part' out))) 0
    → check ≡ to_le_bytes w32 s
    → put_mid 508 4 (filled (length part) zeros (begun (length part) number count part' out)) check ≡ block k part
unfolding block block_body
block_written k part out {number} {count} {part'} {zeros} {check} {s} h l e₁ e₂ e₃ sum e₄ e₅ =
    let u = length part in
    let head : List ℕ = bytes2 k ++ bytes2 u in
    let body : List ℕ = block_body k part in
    let f₁ : number ++ post_of 0 2 out ≡ front_written (bytes2 k) out = rw e₁ in
    let f₂ = front_put (bytes2 k) (bytes2 u) out 2 2 f₁ e₂ refl refl in
    let f₃ : begun u number count part' out ≡ front_written (head ++ part) out = front_put head part out 4 (4 + u - 4) f₂ e₃ refl
    (omega arith) in
    let long : length (mid_of (4 + u) (508 - (4 + u)) (front_written (head ++ part) out)) ≡ 504 - u =
    simp (length-take, length-drop, length-append) (omega arith) in
    let zero : zeros ≡ replicate (504 - u) 0 = rw (e₄, f₃, long) in
    let f₄ : filled u zeros (begun u number count part' out) ≡ front_written body out =
    front_put (head ++ part) (replicate (504 - u) 0) out (4 + u) (508 - (4 + u)) f₃ zero (sym (length-append head part))
    (simp length-replicate (omega arith)) in
    let right : s ≡ checksum body = sum ∙ ap (λ (o : List ℕ). weighed 1 (take (4 + u) o)) f₃
    ∙ ap (weighed 1) (take_at (head ++ part) _ (4 + u) (length-append head part)) ∙ sym (body_check k part h) in
    let f₅ = front_put body (bytes4 s) out 508 4 f₄ (e₅ ∙ four_bytes s) (sym (body_length k part h)) refl in
    let whole : length (body ++ bytes4 s) ≡ 512 = length-append body (bytes4 s) ∙ omega (arith, body_length k part h) in
    let end : front_written (body ++ bytes4 s) out ≡ body ++ bytes4 (checksum body) =
    front_whole (body ++ bytes4 s) out (omega (arith, whole)) ∙ ap (λ (j : ℕ). body ++ bytes4 j) right in
    ◌∙◌ {b = front_written (body ++ bytes4 s) out} f₅ end

---- All blocks

-- one block more behind n blocks
blocks_more : (n k : ℕ) (p : List ℕ) → blocks_of (n + 1) k p ≡ blocks_of n k p ++ block (k + n) (take 504 (drop (504 * n) p))
unfolding blocks_of
blocks_more zero k p = rw (append-nil, add-zero)
blocks_more (suc n) k p =
    let e : 504 * suc n ≡ 504 + 504 * n = omega arith in
    rw (suc-add, blocks_more n (suc k) (drop 504 p), drop-drop, e, suc-add, add-suc, append_assoc)

-- the part of a block, as many bytes as there are
part_taken : (w : ℕ) (l : List ℕ) → w ≡ min 504 (length l) → take w l ≡ take 504 l
part_taken w l e =
    elim (dec_le 504 (length l)) [
      | yes h ↦ let full : w ≡ 504 = omega (arith, e, h) in rw full
      | no h ↦ take_all w l (omega (arith, e, h)) ∙ sym (take_all 504 l (omega (arith, h)))
    ]

-- block k put behind the blocks before it, in the place of m bytes
pub blocks_next : (k m w : ℕ) (p out out₀ : List ℕ) {b : List ℕ} → out ≡ front_written (blocks_of k 0 p) out₀ → m ≡ 512
    → w ≡ min 504 (length p - 504 * k)
    → b ≡ block k (take w (drop (504 * k) p)) → put_mid (512 * k) m out b ≡ front_written (blocks_of (k + 1) 0 p) out₀
blocks_next k m w p out out₀ {b} e em ew eb =
    let rest : List ℕ = drop (504 * k) p in
    let is : b ≡ block k (take 504 rest) = eb ∙ ap (block k) (part_taken w rest (rw length-drop ew)) in
    let long : m ≡ length b = em ∙ sym (ap length is ∙ block_length k (take 504 rest) (simp length-take (omega arith))) in
    front_put (blocks_of k 0 p) b out₀ (512 * k) m e refl (sym (blocks_length k 0 p)) long ∙ rw (blocks_more k 0 p, zero-add, is)
