-- Laws of `refs`, the references of a table from a place on, and of references put there.
use Prim.Native.Nat.{ℕ, zero, suc, ◌+◌, ◌-◌, ◌≤◌, ◌<◌}
use mathlib.Core.Path.{◌≡◌, refl, sym, ap, ap₂, ◌∙◌}
use mathlib.Core.List.{List, [], ◌∷◌, ◌++◌}
use Rattle.std.specs.Prelude.{Some, slice_get}
use native.Mathlib.Omega.{arith}
use native.Mathlib.Nat.{add-zero, add-suc, suc-add}
use lib.ListN.{length, get_or, set, take, drop, length-append, length-set, length-take, length-drop, get_or-append}
use lib.Seq.{take-append_seam, drop-append_seam, drop-cons, get_or-take, get_or-drop, get_or-set_same, get_or-set_other}
use Rattle.std.proofs.lemmas.List.{get_or-append_right}
use borrow.Author.Tests.{le-leb}
use Rattle.rules.specs.Lists.{All, ◌l∷◌}
use Rattle.rules.specs.Machine.{top}
use Rattle.rules.specs.Stacks.{split, slot}
use Rattle.rules.proofs.ListLaws.{none_some, some_inj, split_parts}
use Rattle.store.specs.Cells.{refs, RefsPut, KeptFrom}

pub length_refs : (l : List ℕ) (a n : ℕ) → length (refs l a n) ≡ n
unfolding refs
length_refs l a zero = refl
length_refs l a (suc n) = ap suc (length_refs l (suc a) n)

pub refs_same : (l l' : List ℕ) (a b n : ℕ) → ((j : ℕ) → j < n → get_or l (a + j) 0 ≡ get_or l' (b + j) 0) → refs l a n ≡ refs l' b n
unfolding refs
refs_same l l' a b zero h = refl
refs_same l l' a b (suc n) h =
    let first : get_or l a 0 ≡ get_or l' b 0 = rw (add-zero, add-zero) at (h 0 (omega arith)) in
    let rest = refs_same l l' (suc a) (suc b) n (λ j k. rw (suc-add, suc-add, ← add-suc, ← add-suc) (h (suc j) (omega arith))) in
    ap₂ ◌∷◌ first rest

pub refs_append : (l : List ℕ) (a m n : ℕ) → refs l a (m + n) ≡ refs l a m ++ refs l (a + m) n
unfolding refs
refs_append l a zero n = let e : zero + n ≡ n = omega arith in rw (add-zero, e)
refs_append l a (suc m) n =
    let ih = refs_append l (suc a) m n in
    let e : suc m + n ≡ suc (m + n) = omega arith in
    let d : a + suc m ≡ suc a + m = omega arith in
    rw (e, d) (ap (◌∷◌ (get_or l a 0)) ih)

pub refs_end : (l : List ℕ) (a n : ℕ) → refs l a (n + 1) ≡ refs l a n ++ (get_or l (a + n) 0 ∷ [])
unfolding refs
refs_end l a n = refs_append l a n 1

refs_get : (l : List ℕ) (a n k : ℕ) {x : ℕ} → slice_get (refs l a n) k ≡ Some x → (k < n) × (x ≡ get_or l (a + k) 0)
unfolding refs
refs_get l a zero k e = none_some e
refs_get l a (suc n) zero {x} e = (omega arith, rw add-zero (sym (some_inj e)))
refs_get l a (suc n) (suc k) e =
    let ih = refs_get l (suc a) n k e in
    let d : a + suc k ≡ suc a + k = omega arith in
    (omega (arith, ih.0), rw d ih.1)

pub refs_slot : (l : List ℕ) (at n a : ℕ) {x : ℕ} → slot a (refs l at n) ≡ Some x → (0 < a) × (a ≤ n) × (x ≡ get_or l (at + a - 1) 0)
refs_slot l at n zero e = none_some e
refs_slot l at n (suc a) e =
    let h = refs_get l at n a e in
    let d : at + suc a - 1 ≡ at + a = omega arith in
    (omega arith, omega (arith, h.0), rw d h.1)

pub refs_split_few : (l : List ℕ) (a n k : ℕ) {p : List ℕ × List ℕ} → split k (refs l a n) ≡ Some p → k ≤ n
refs_split_few l a n k e = omega (arith, (split_parts k (refs l a n) e).0, length_refs l a n)

pub refs_split : (l : List ℕ) (a n k : ℕ) → k ≤ n → split k (refs l a n) ≡ Some (refs l a (n - k), refs l (a + (n - k)) k)
unfolding split
refs_split l a n k h =
    let len = length_refs l a n in
    let e : n - k + k ≡ n = omega arith in
    let parts : refs l a n ≡ refs l a (n - k) ++ refs l (a + (n - k)) k = rw e at (refs_append l a (n - k) k) in
    let m : length (refs l a n) - k ≡ length (refs l a (n - k)) = omega (arith, len, length_refs l a (n - k)) in
    simp (le-leb k (length (refs l a n)) (omega (arith, len)))
    (rw m (rw parts (rw (take-append_seam, drop-append_seam))))

pub refs_top : (l : List ℕ) (a n : ℕ) → 1 ≤ n → top (refs l a n) ≡ Some (get_or l (a + n - 1) 0)
unfolding refs
refs_top l a n h =
    let e : a + (n - 1) ≡ a + n - 1 = omega arith in
    rw (refs_split l a n 1 h) (ap (λ (i : ℕ). Some (get_or l i 0)) e)

pub refs_all : {P : ℕ → Type 0} (l : List ℕ) (a n : ℕ) → All P (refs l a n) → (j : ℕ) → j < n → P (get_or l (a + j) 0)
unfolding refs
refs_all l a zero q j h = absurd (omega arith)
refs_all l a (suc n) (p l∷ q) zero h = rw add-zero p
refs_all l a (suc n) (p l∷ q) (suc j) h =
    let e : a + suc j ≡ suc a + j = omega arith in
    rw e (refs_all l (suc a) n q j (omega arith))

pub put_low : (to : ℕ) (l out out' : List ℕ) → RefsPut to l out out' → (a n : ℕ) → a + n ≤ to → refs out' a n ≡ refs out a n
put_low to l out out' p a n h = refs_same out' out a a n (λ j k. p.low (a + j) (omega arith))

pub put_on : (to : ℕ) (l out out' : List ℕ) → RefsPut to l out out' → (a : ℕ) → a ≤ to
    → refs out' a (to - a + length l) ≡ refs out a (to - a) ++ l
put_on to l out out' p a h =
    let e : a + (to - a) ≡ to = omega arith in
    let low = put_low to l out out' p a (to - a) (omega arith) in
    refs_append out' a (to - a) (length l) ∙ rw (e, p.put, low)

-- the references from a place on are a part of the list
refs_part : (l : List ℕ) (a n : ℕ) → a + n ≤ length l → refs l a n ≡ take n (drop a l)
unfolding refs
refs_part l a zero h = refl
refs_part l a (suc n) h = rw (drop-cons l a 0 (omega arith), refs_part l (suc a) n (omega arith))

-- numbers in the place of as many
pub put_part : (to k : ℕ) (l out : List ℕ) → length l ≡ k → to + k ≤ length out
    → RefsPut to l out (take to out ++ (l ++ drop k (drop to out)))
put_part to k l out e h = record {
  len = len;
  put = refs_part out' to (length l) (omega (arith, len)) ∙ put;
  low = λ i m. get_or-append (take to out) part 0 i (omega (arith, front)) ∙ get_or-take to out i 0 m;
  high = λ i m.
      let j : k + (i - to - k) ≡ i - to = omega arith in
      let q : to + (i - to) ≡ i = omega arith in
      get_or-append_right (take to out) part to i 0 front (omega arith)
      ∙ get_or-append_right l (drop k (drop to out)) k (i - to) 0 e (omega arith)
      ∙ rw (get_or-drop k (drop to out), j, get_or-drop to out, q);
}
  where
    part : List ℕ
    part = l ++ drop k (drop to out)

    out' : List ℕ
    out' = take to out ++ part

    front : length (take to out) ≡ to
    front = omega (arith, length-take to out)

    len : length out' ≡ length out
    len = simp (length-append, length-drop, length-take) (omega arith)

    put : take (length l) (drop to out') ≡ l
    put = rw (rw front at (drop-append_seam (take to out) part)) (take-append_seam l (drop k (drop to out)))

pub put_one : (out : List ℕ) (i x : ℕ) → i < length out → RefsPut i (x ∷ []) out (set out i x)
unfolding refs
put_one out i x h = record {
  len = length-set out i x;
  put = ap (λ (y : ℕ). y ∷ []) (get_or-set_same out i x 0 h);
  low = λ j m. get_or-set_other out i j x 0 (λ e. omega arith);
  high = λ j m. get_or-set_other out i j x 0 (λ e. omega arith);
}

pub put_none : (to : ℕ) (out : List ℕ) → RefsPut to [] out out
unfolding refs
put_none to out = record { len = refl; put = refl; low = λ i h. refl; high = λ i h. refl }

-- some references, and others after them
put_then : (to : ℕ) (l m out out' out'' : List ℕ) → RefsPut to l out out' → RefsPut (to + length l) m out' out''
    → RefsPut to (l ++ m) out out''
put_then to l m out out' out'' p q = record {
  len = q.len ∙ p.len;
  put =
      let low = put_low (to + length l) m out' out'' q to (length l) (omega arith) in
      rw length-append (refs_append out'' to (length l) (length m) ∙ ap₂ ◌++◌ (low ∙ p.put) q.put);
  low = λ i h. q.low i (omega arith) ∙ p.low i h;
  high = λ i h. let e = length-append l m in q.high i (omega arith) ∙ p.high i (omega arith);
}

pub put_more : (to x : ℕ) (l out out' : List ℕ) → RefsPut to l out out' → to + length l < length out
    → RefsPut to (l ++ (x ∷ [])) out (set out' (to + length l) x)
put_more to x l out out' p h =
    put_then to l (x ∷ []) out out' (set out' (to + length l) x) p (put_one out' (to + length l) x (omega (arith, p.len)))

pub put_kept : (to : ℕ) (l out out' : List ℕ) → RefsPut to l out out' → (n : ℕ) → to + length l ≤ n → KeptFrom n out out'
put_kept to l out out' p n h = record { len = p.len; high = λ i k. p.high i (omega arith) }

pub kept_refl : (n : ℕ) (l : List ℕ) → KeptFrom n l l
kept_refl n l = record { len = refl; high = λ i h. refl }

pub kept_trans : (n : ℕ) (a b c : List ℕ) → KeptFrom n a b → KeptFrom n b c → KeptFrom n a c
kept_trans n a b c p q = record { len = q.len ∙ p.len; high = λ i h. q.high i h ∙ p.high i h }

-- what is kept from a place on is kept from a later one on
pub kept_later : {a b : ℕ} {l l' : List ℕ} → a ≤ b → KeptFrom a l l' → KeptFrom b l l'
kept_later h k = record { len = k.len; high = λ i m. k.high i (omega arith) }
