-- Laws of All, Any and All2, of the ways of a stack to be read and cut, and of tests.
use Rattle.std.specs.Prelude.{if◌then◌else◌, Option, None, Some, slice_get}
use mathlib.Core.Path.{◌≡◌, refl, sym, ap, ◌∙◌}
use mathlib.Core.List.{List, [], ◌∷◌, ◌++◌, map}
use mathlib.Core.Bool.{Bool, true, false, ◌&&◌, ◌||◌, and-eq-true_iff, or-true}
use mathlib.Core.Logic.{◌↔◌}
use Prim.Native.Nat.{ℕ, zero, suc, ◌+◌, ◌-◌, ◌≤◌, ◌<◌, zero-le, suc-le-suc}
use native.Mathlib.Omega.{arith}
use native.Mathlib.Nat.{add-zero, not-suc-le-zero, le_of_suc-le-suc}
use lib.ListN.{length, take, drop, get_or, set, length-drop, take-append-drop}
use lib.Seq.{sets, get_or-set_same, get_or-set_other}
use lib.Dec.{leb, ltb, eqb}
use borrow.Author.Tests.{leb-true, le-leb, ltb-true, lt-ltb, eqb-true, eqb-false, eq-eqb}
use Rattle.rules.specs.Base.{is_zero, all, any}
use Rattle.rules.specs.Stacks.{slot, split}
use Rattle.rules.specs.Lists.{All, l[], ◌l∷◌, Any, here, there, All2, a[], ◌a∷◌}

pub none_some : {A : Type 0} {v : A} {P : Type 0} → ◌≡◌ {A = Option A} None (Some v) → P
none_some p = let z : ◌≡◌ {A = ℕ} 0 1 = cc in absurd (omega arith)

pub some_inj : {A : Type 0} {v w : A} → ◌≡◌ {A = Option A} (Some v) (Some w) → v ≡ w
some_inj p = cc

pub at_less : {A : Type 0} (l : List A) (k : ℕ) {v : A} → slice_get l k ≡ Some v → k < length l
at_less [] k e = none_some e
at_less (y ∷ l) zero e = suc-le-suc zero-le
at_less (y ∷ l) (suc k) e = suc-le-suc (at_less l k e)

pub get_d_element : {A : Type 0} (d : A) (l : List A) (k : ℕ) {v : A} → slice_get l k ≡ Some v → get_or l k d ≡ v
get_d_element d [] k e = none_some e
get_d_element d (y ∷ l) zero e = some_inj e
get_d_element d (y ∷ l) (suc k) e = get_d_element d l k e

pub slot_low : {A : Type 0} (i : ℕ) (xs : List A) {x : A} → slot i xs ≡ Some x → (1 ≤ i) × (i ≤ length xs)
slot_low zero xs e = none_some e
slot_low (suc d) xs e = (omega arith, at_less xs d e)

pub false_true : false ≡ true → ⊥
false_true p = let z : ◌≡◌ {A = ℕ} 0 1 = cc in omega arith

module _ {A B : Type 0} {R : A → B → Type 0} where
  pub all2_length : {xs : List A} {ys : List B} → All2 R xs ys → length xs ≡ length ys
  all2_length a[] = refl
  all2_length (r a∷ p) = ap suc (all2_length p)

  pub all2_append : {xs xs' : List A} {ys ys' : List B} → All2 R xs ys → All2 R xs' ys' → All2 R (xs ++ xs') (ys ++ ys')
  all2_append a[] q = q
  all2_append (r a∷ p) q = r a∷ all2_append p q

  pub all2_take : (k : ℕ) {xs : List A} {ys : List B} → All2 R xs ys → All2 R (take k xs) (take k ys)
  all2_take zero p = a[]
  all2_take (suc k) a[] = a[]
  all2_take (suc k) (r a∷ p) = r a∷ all2_take k p

  pub all2_drop : (k : ℕ) {xs : List A} {ys : List B} → All2 R xs ys → All2 R (drop k xs) (drop k ys)
  all2_drop zero p = p
  all2_drop (suc k) a[] = a[]
  all2_drop (suc k) (r a∷ p) = all2_drop k p

  all2_at : (n : ℕ) {xs : List A} {ys : List B} {y : B} → All2 R xs ys → slice_get ys n ≡ Some y → (x : A) × (slice_get xs n ≡ Some x)
      × R x y
  all2_at n a[] e = none_some e
  all2_at zero (◌a∷◌ {x} r p) e = (x, refl, (rw (some_inj e) at r))
  all2_at (suc n) (r a∷ p) e = all2_at n p e

  -- where the second has a slot, so has the first, and the two are related
  pub all2_slot : (n : ℕ) {xs : List A} {ys : List B} {y : B} → All2 R xs ys → slot n ys ≡ Some y → (x : A) × (slot n xs ≡ Some x) × R x y
  all2_slot zero p e = none_some e
  all2_slot (suc n) p e = all2_at n p e

-- the parts of a split that is there
pub split_parts : {A : Type 0} (n : ℕ) (xs : List A) {p : List A × List A} → split n xs ≡ Some p → (n ≤ length xs)
    × (p ≡ (take (length xs - n) xs, drop (length xs - n) xs))
unfolding split
split_parts {A} n xs {p} e = go (leb n (length xs)) refl e
  where
    go : (t : Bool) → leb n (length xs) ≡ t
        → ◌≡◌ {A = Option (List A × List A)} (if t then Some (take (length xs - n) xs, drop (length xs - n) xs) else None) (Some p)
        → (n ≤ length xs) × (p ≡ (take (length xs - n) xs, drop (length xs - n) xs))
    go true h e = (leb-true n (length xs) h, cc)
    go false h e = none_some e

-- a stack that can be cut is its two parts
pub cut : {A : Type 0} (k : ℕ) (xs rest top : List A) → split k xs ≡ Some (rest, top) → (xs ≡ rest ++ top) × (length top ≡ k)
cut {A} k xs rest top e =
    let p = split_parts k xs e in
    let r : rest ≡ take (length xs - k) xs = ap (λ (q : List A × List A). q.0) p.1 in
    let t : top ≡ drop (length xs - k) xs = ap (λ (q : List A × List A). q.1) p.1 in
    (rw (r, t, take-append-drop), rw t (simp length-drop (omega (arith, p.0))))

module _ {A B : Type 0} {R : A → B → Type 0} where
  -- where the second can be split, so can the first
  pub all2_split : (n : ℕ) {xs : List A} {ys : List B} {q : List B × List B} → All2 R xs ys → split n ys ≡ Some q
      → (p : List A × List A) × (split n xs ≡ Some p) × All2 R p.0 q.0 × All2 R p.1 q.1
  unfolding split
  all2_split n {xs} {ys} {q} p e = go (leb n (length ys)) refl e
    where
      k : ℕ
      k = length ys - n

      go : (t : Bool) → leb n (length ys) ≡ t
          → ◌≡◌ {A = Option (List B × List B)} (if t then Some (take (length ys - n) ys, drop (length ys - n) ys) else None) (Some q)
          → (p : List A × List A) × (split n xs ≡ Some p) × All2 R p.0 q.0 × All2 R p.1 q.1
      go true h e =
          let eq : (take (length ys - n) ys, drop (length ys - n) ys) ≡ q = some_inj e in (
            (take (length ys - n) xs, drop (length ys - n) xs),
            rw (all2_length p, split, h),
            rw (← ap (λ (z : List B × List B). z.0) eq) (all2_take (length ys - n) p),
            rw (← ap (λ (z : List B × List B). z.1) eq) (all2_drop (length ys - n) p),
          )
      go false h e = none_some e

module _ {A B : Type 0} {R : A → B → Type 0} where
  pub all2_slots : (n : ℕ) {xs : List A} {ys : List B} {x : A} {y : B} → All2 R xs ys → slot n xs ≡ Some x → slot n ys ≡ Some y → R x y
  all2_slots n p e e' =
      let r = all2_slot n p e' in
      rw (some_inj (sym r.1 ∙ e)) at r.2

  pub all2_splits : (n : ℕ) {xs : List A} {ys : List B} {p : List A × List A} {q : List B × List B} → All2 R xs ys → split n xs ≡ Some p
      → split n ys ≡ Some q → All2 R p.0 q.0 × All2 R p.1 q.1
  all2_splits n a e e' =
      let r = all2_split n a e' in
      let same = some_inj (sym r.1 ∙ e) in
      ((rw same at r.2), (rw same at r.3))

-- the first by a map, the second by another
pub all2_maps : {A B C D : Type 0} {R : A → B → Type 0} {Q : C → D → Type 0} (g : A → C) (h : B → D)
    → ((x : A) (y : B) → R x y → Q (g x) (h y)) → {xs : List A} {ys : List B} → All2 R xs ys → All2 Q (map g xs) (map h ys)
all2_maps g h f a[] = a[]
all2_maps g h f (◌a∷◌ {x} {y} r p) = f x y r a∷ all2_maps g h f p

pub all_map : {A : Type 0} {P Q : A → Type 0} → ((x : A) → P x → Q x) → {xs : List A} → All P xs → All Q xs
all_map f l[] = l[]
all_map f (◌l∷◌ {x} r p) = f x r l∷ all_map f p

pub all_any : {A : Type 0} (xs : List A) → All (λ x. Unit {0}) xs
all_any [] = l[]
all_any (x ∷ xs) = tt l∷ all_any xs

-- both of all
pub all_both : {A : Type 0} {P Q : A → Type 0} {xs : List A} → All P xs → All Q xs → All (λ x. P x × Q x) xs
all_both l[] l[] = l[]
all_both (p l∷ ps) (q l∷ qs) = (p, q) l∷ all_both ps qs

pub all_append : {A : Type 0} {P : A → Type 0} {xs ys : List A} → All P xs → All P ys → All P (xs ++ ys)
all_append l[] q = q
all_append (p l∷ ps) q = p l∷ all_append ps q

pub all_at : {A : Type 0} {P : A → Type 0} {xs : List A} (n : ℕ) {x : A} → All P xs → slice_get xs n ≡ Some x → P x
all_at n l[] e = none_some e
all_at zero (p l∷ ps) e = rw (some_inj e) at p
all_at (suc n) (p l∷ ps) e = all_at n ps e

pub all_take : {A : Type 0} {P : A → Type 0} (n : ℕ) {l : List A} → All P l → All P (take n l)
all_take zero p = l[]
all_take (suc n) l[] = l[]
all_take (suc n) (p l∷ ps) = p l∷ all_take n ps

pub all_drop : {A : Type 0} {P : A → Type 0} (n : ℕ) {l : List A} → All P l → All P (drop n l)
all_drop zero p = p
all_drop (suc n) l[] = l[]
all_drop (suc n) (p l∷ ps) = all_drop n ps

pub all_get_d : {A : Type 0} {P : A → Type 0} {l : List A} (n : ℕ) (d : A) → P d → All P l → P (get_or l n d)
all_get_d n d h l[] = h
all_get_d zero d h (p l∷ ps) = p
all_get_d (suc n) d h (p l∷ ps) = all_get_d n d h ps

pub all_last : {A : Type 0} {P : A → Type 0} (xs : List A) {x : A} → All P (xs ++ (x ∷ [])) → P x
all_last [] (p l∷ l[]) = p
all_last (y ∷ xs) (p l∷ ps) = all_last xs ps

pub all_slot : {A : Type 0} {P : A → Type 0} (a : ℕ) {xs : List A} {x : A} → slot a xs ≡ Some x → All P xs → P x
all_slot zero e h = none_some e
all_slot (suc k) e h = all_at k h e

pub all_parts : {A : Type 0} {P : A → Type 0} (k : ℕ) {xs : List A} {p : List A × List A} → split k xs ≡ Some p → All P xs
    → All P p.0 × All P p.1
all_parts k {xs} e h =
    let r = split_parts k xs e in
    rw r.1 (all_take (length xs - k) h, all_drop (length xs - k) h)

-- of a list of one, of two
pub all_one : {A : Type 0} {P : A → Type 0} {l : List A} {x : A} → l ≡ x ∷ [] → All P l → P x
all_one e h = one (rw e at h)
  where
    one : {A : Type 0} {P : A → Type 0} {x : A} → All P (x ∷ []) → P x
    one (p l∷ l[]) = p

pub all_two : {A : Type 0} {P : A → Type 0} {l : List A} {x y : A} → l ≡ x ∷ y ∷ [] → All P l → P x × P y
all_two e h = one (rw e at h)
  where
    one : {A : Type 0} {P : A → Type 0} {x y : A} → All P (x ∷ y ∷ []) → P x × P y
    one (p l∷ q l∷ l[]) = (p, q)

-- what is related to what all have
pub all_from : {A B : Type 0} {R : A → B → Type 0} {P : A → Type 0} {Q : B → Type 0} → ((x : A) (y : B) → R x y → Q y → P x)
    → {xs : List A} {ys : List B} → All2 R xs ys → All Q ys → All P xs
all_from g a[] l[] = l[]
all_from g (◌a∷◌ {x} {y} r p) (q l∷ qs) = g x y r q l∷ all_from g p qs

pub any_map : {A : Type 0} {P Q : A → Type 0} → ((x : A) → P x → Q x) → {xs : List A} → Any P xs → Any Q xs
any_map f (here {x} p) = here (f x p)
any_map f (there p) = there (any_map f p)

-- what holds of all and of some holds of one together
pub any_all : {A : Type 0} {P Q : A → Type 0} {Z : Type 0} → ((x : A) → P x → Q x → Z) → {xs : List A} → All P xs → Any Q xs → Z
any_all {A = A} {P = P} {Q = Q} {Z = Z} f l[] x3 = elim x3 [ ]
any_all f (◌l∷◌ {x} p ps) (here q) = f x p q
any_all f (p l∷ ps) (there q) = any_all f ps q

pub any_append_left : {A : Type 0} {P : A → Type 0} {xs : List A} (ys : List A) → Any P xs → Any P (xs ++ ys)
any_append_left ys (here p) = here p
any_append_left ys (there p) = there (any_append_left ys p)

pub any_append_right : {A : Type 0} {P : A → Type 0} (xs : List A) {ys : List A} → Any P ys → Any P (xs ++ ys)
any_append_right [] p = p
any_append_right (x ∷ xs) p = there (any_append_right xs p)

pub any_mapped : {A B : Type 0} {P : A → Type 0} {Q : B → Type 0} (g : A → B) → ((x : A) → P x → Q (g x)) → {xs : List A} → Any P xs
    → Any Q (map g xs)
any_mapped g f (here {x} p) = here (f x p)
any_mapped g f (there p) = there (any_mapped g f p)

pub all_mapped : {A B : Type 0} {P : A → Type 0} {Q : B → Type 0} (g : A → B) → ((x : A) → P x → Q (g x)) → {xs : List A} → All P xs
    → All Q (map g xs)
all_mapped g f l[] = l[]
all_mapped g f (◌l∷◌ {x} p ps) = f x p l∷ all_mapped g f ps

---- The tests that compute

pub and_left : (a b : Bool) → (a && b) ≡ true → a ≡ true
and_left a b h = ((and-eq-true_iff a b).0 h).0

pub and_right : (a b : Bool) → (a && b) ≡ true → b ≡ true
and_right a b h = ((and-eq-true_iff a b).0 h).1

pub all_true : {A : Type 0} {P : A → Type 0} (f : A → Bool) → ((x : A) → f x ≡ true → P x) → (xs : List A) → all f xs ≡ true → All P xs
all_true f g [] h = l[]
all_true f g (x ∷ xs) h = g x (and_left (f x) (all f xs) h) l∷ all_true f g xs (and_right (f x) (all f xs) h)

pub any_true : {A : Type 0} {P : A → Type 0} (f : A → Bool) → ((x : A) → f x ≡ true → P x) → (xs : List A) → any f xs ≡ true → Any P xs
any_true f g [] h = absurd (false_true h)
any_true {A} {P} f g (x ∷ xs) h = one (λ e. any_true f g xs e) (f x) refl h
  where
    one : (any f xs ≡ true → Any P xs) → (b : Bool) → f x ≡ b → (b || any f xs) ≡ true → Any P (x ∷ xs)
    one ih true e w = here (g x e)
    one ih false e w = there (ih w)

pub at_there : {A : Type 0} (l : List A) (k : ℕ) → k < length l → (v : A) × (slice_get l k ≡ Some v)
at_there [] k h = absurd (not-suc-le-zero h)
at_there (x ∷ l) zero h = (x, refl)
at_there (x ∷ l) (suc k) h = at_there l k (le_of_suc-le-suc h)

---- A test and what it tests

pub and_iff : {P Q : Type 0} {a b : Bool} → (a ≡ true ↔ P) → (b ≡ true ↔ Q) → (a && b) ≡ true ↔ (P × Q)
and_iff {a = a} {b = b} p q =
    ((λ e. (p.0 (and_left a b e), q.0 (and_right a b e))), λ h. (and-eq-true_iff a b).1 (p.1 h.0, q.1 h.1))

-- a test that fails, of something that does not hold
pub test_not : {P : Type 0} (t : Bool) → (t ≡ true ↔ P) → t ≡ false → ¬ P
test_not t test e p = false_true (sym e ∙ test.1 p)

pub leb_iff : (a b : ℕ) → leb a b ≡ true ↔ a ≤ b
leb_iff a b = (leb-true a b, le-leb a b)

pub ltb_iff : (a b : ℕ) → ltb a b ≡ true ↔ a < b
ltb_iff a b = (ltb-true a b, lt-ltb a b)

pub eqb_iff : (a b : ℕ) → eqb a b ≡ true ↔ a ≡ b
eqb_iff a b = (eqb-true a b, eq-eqb a b)

module _ {A : Type 0} {P : A → Type 0} (f : A → Bool) (test : (x : A) → f x ≡ true ↔ P x) where
  pub all_iff : (xs : List A) → all f xs ≡ true ↔ All P xs
  all_iff xs = ((λ e. all_true f (λ x h. (test x).0 h) xs e), holds)
    where
      holds : {xs : List A} → All P xs → all f xs ≡ true
      holds l[] = refl
      holds (◌l∷◌ {x} {xs} p ps) = (and-eq-true_iff (f x) (all f xs)).1 ((test x).1 p, holds ps)

  pub any_iff : (xs : List A) → any f xs ≡ true ↔ Any P xs
  any_iff xs = ((λ e. any_true f (λ x h. (test x).0 h) xs e), holds)
    where
      holds : {xs : List A} → Any P xs → any f xs ≡ true
      holds (here {x} p) = rw ((test x).1 p)
      holds (there {x} {xs} p) = rw (holds p, or-true (f x))

-- the numbers from an index on are all zero
pub zeros_iff : (xs : List ℕ) (n : ℕ) → all is_zero (drop n xs) ≡ true ↔ ((i : ℕ) → n ≤ i → i < length xs → get_or xs i 0 ≡ 0)
zeros_iff [] zero = ((λ e i l h. absurd (not-suc-le-zero h)), λ h. refl)
zeros_iff [] (suc n) = ((λ e i l h. absurd (not-suc-le-zero h)), λ h. refl)
zeros_iff (x ∷ xs) zero = (
  zeros (zeros_iff xs 0),
  λ h. (and-eq-true_iff (is_zero x) (all is_zero xs)).1
      (eq-eqb x 0 (h 0 (omega arith) (omega arith)), (zeros_iff xs 0).1 (λ i l m. h (suc i) (omega arith) (omega arith))),
)
  where
    zeros : (all is_zero xs ≡ true ↔ ((i : ℕ) → 0 ≤ i → i < length xs → get_or xs i 0 ≡ 0)) → (is_zero x && all is_zero xs) ≡ true → (i : ℕ)
        → 0 ≤ i → i < suc (length xs) → get_or (x ∷ xs) i 0 ≡ 0
    zeros ih e zero l m = eqb-true x 0 (and_left (is_zero x) (all is_zero xs) e)
    zeros ih e (suc i) l m = ih.0 (and_right (is_zero x) (all is_zero xs) e) i (omega arith) (omega arith)
zeros_iff (x ∷ xs) (suc n) = (later (zeros_iff xs n), λ h. (zeros_iff xs n).1 (λ i l m. h (suc i) (omega arith) (omega arith)))
  where
    later : (all is_zero (drop n xs) ≡ true ↔ ((i : ℕ) → n ≤ i → i < length xs → get_or xs i 0 ≡ 0)) → all is_zero (drop n xs) ≡ true
        → (i : ℕ)
        → suc n ≤ i → i < suc (length xs) → get_or (x ∷ xs) i 0 ≡ 0
    later ih e zero l m = absurd (not-suc-le-zero l)
    later ih e (suc i) l m = ih.0 e i (omega arith) (omega arith)

-- numbers stored one list after the other
pub sets_append : (l : List ℕ) (i : ℕ) (vs ws : List ℕ) → sets l i (vs ++ ws) ≡ sets (sets l i vs) (i + length vs) ws
sets_append l i [] ws = rw add-zero
sets_append l i (v ∷ vs) ws =
    let e : suc i + length vs ≡ i + suc (length vs) = omega arith in
    sets_append (set l i v) (suc i) vs ws ∙ ap (λ (k : ℕ). sets (sets (set l i v) (suc i) vs) k ws) e

-- what holds of each of the first i entries, after a store at i
pub stored_each : {A : Type 0} (d : A) (P : ℕ → A → Type 0) (r : List A) (i : ℕ) (x : A) → i < length r
    → ((j : ℕ) → j < i → P j (get_or r j d)) → P i x → (j : ℕ) → j < i + 1 → P j (get_or (set r i x) j d)
stored_each d P r i x h q p j l = go (eqb j i) refl
  where
    go : (t : Bool) → eqb j i ≡ t → P j (get_or (set r i x) j d)
    go true e = rw (eqb-true j i e, get_or-set_same r i x d h) p
    go false e = rw (get_or-set_other r i j x d (eqb-false j i e)) (q j (omega (arith, eqb-false j i e)))
