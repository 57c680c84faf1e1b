-- Lists: what a test over all elements says, maps of parts, lists by number, and what a store does.
use mathlib.Core.Path.{◌≡◌, refl, ap, ◌∙◌}
use mathlib.Core.List.{List, [], ◌∷◌, ◌++◌, map}
use mathlib.Core.Bool.{Bool, true, false, ◌&&◌}
use Rattle.std.specs.Prelude.{Some, slice_get}
use Prim.Native.Nat.{ℕ, zero, suc, ◌+◌, ◌≤◌, ◌<◌}
use native.Mathlib.Omega.{arith}
use native.Mathlib.Numerals.{add-one}
use native.Mathlib.Nat.{add-zero, zero-add, add-suc, suc-add}
use lib.ListN.{length, get_or, set, take, drop}
use lib.Seq.{take-nil, take-suc-set}
use Rattle.rules.specs.Base.{all, numbered}

pub and_both : (a b : Bool) → a ≡ true → b ≡ true → (a && b) ≡ true
and_both a b p q = rw (p, q)

---- A test of every element

pub all_holds : {A : Type 0} (p : A → Bool) (d : A) (xs : List A) → ((i : ℕ) → i < length xs → p (get_or xs i d) ≡ true) → all p xs ≡ true
all_holds p d [] h = refl
all_holds p d (x ∷ xs) h = and_both (p x) (all p xs) (h 0 (omega arith)) (all_holds p d xs (λ i l. h (suc i) (omega arith)))

pub all_last_fails : {A : Type 0} (p : A → Bool) (xs : List A) (x : A) → p x ≡ false → all p (xs ++ (x ∷ [])) ≡ false
all_last_fails p [] x e = rw e
all_last_fails p (y ∷ xs) x e = go (p y) (all_last_fails p xs x e)
  where
    go : (t : Bool) → all p (xs ++ (x ∷ [])) ≡ false → (t && all p (xs ++ (x ∷ []))) ≡ false
    go true g = g
    go false g = refl

---- Elements and parts

pub element_at : {A : Type 0} (d : A) (xs : List A) (k : ℕ) → k < length xs → slice_get xs k ≡ Some (get_or xs k d)
element_at d [] k h = absurd (omega arith)
element_at d (x ∷ xs) zero h = refl
element_at d (x ∷ xs) (suc k) h = element_at d xs k (omega arith)

pub get_d_of_map : {A B : Type 0} (g : A → B) (xs : List A) (k : ℕ) (d : A) (e : B) → k < length xs
    → get_or (map g xs) k e ≡ g (get_or xs k d)
get_d_of_map g [] k d e h = absurd (omega arith)
get_d_of_map g (x ∷ xs) zero d e h = refl
get_d_of_map g (x ∷ xs) (suc k) d e h = get_d_of_map g xs k d e (omega arith)

pub map_take : {A B : Type 0} (g : A → B) (k : ℕ) (xs : List A) → map g (take k xs) ≡ take k (map g xs)
map_take g zero xs = refl
map_take g (suc k) [] = refl
map_take g (suc k) (x ∷ xs) = ap (λ (l : List _). g x ∷ l) (map_take g k xs)

pub map_drop : {A B : Type 0} (g : A → B) (k : ℕ) (xs : List A) → map g (drop k xs) ≡ drop k (map g xs)
map_drop g zero xs = refl
map_drop g (suc k) [] = refl
map_drop g (suc k) (x ∷ xs) = map_drop g k xs

pub drop_take : {A : Type 0} (k n : ℕ) (xs : List A) → drop k (take (k + n) xs) ≡ take n (drop k xs)
drop_take zero n xs = rw (zero-add n)
drop_take {A} (suc k) n [] = rw (take-nil {A = A} (suc k + n), take-nil {A = A} n)
drop_take (suc k) n (x ∷ xs) = rw (suc-add k n) (drop_take k n xs)

---- Lists by number

pub map_numbered : {A B : Type 0} (g : A → B) (f : ℕ → A) (n k : ℕ) → map g (numbered f k n) ≡ numbered (λ i. g (f i)) k n
unfolding numbered
map_numbered g f zero k = refl
map_numbered g f (suc n) k = ap (λ (l : List _). g (f k) ∷ l) (map_numbered g f n (suc k))

pub numbered_same : {A : Type 0} (f g : ℕ → A) (n : ℕ) → ((i : ℕ) → i < n → f i ≡ g i) → numbered f 0 n ≡ numbered g 0 n
unfolding numbered
numbered_same f g n h = go n 0 (λ i l m. h i (omega arith))
  where
    go : (n k : ℕ) → ((i : ℕ) → k ≤ i → i < k + n → f i ≡ g i) → numbered f k n ≡ numbered g k n
    go zero k h = refl
    go (suc n) k h =
        let a = h k (omega arith) (omega arith) in
        let b = go n (suc k) (λ i l m. h i (omega arith) (omega arith)) in
        cc

pub numbered_next : {A : Type 0} (f : ℕ → A) (n : ℕ) → numbered f 0 (n + 1) ≡ numbered f 0 n ++ (f n ∷ [])
unfolding numbered
numbered_next f n = rw (add-one n) (go n 0 ∙ ap (λ (i : ℕ). numbered f 0 n ++ (f i ∷ [])) (zero-add n))
  where
    go : (n k : ℕ) → numbered f k (suc n) ≡ numbered f k n ++ (f (k + n) ∷ [])
    go zero k = rw add-zero
    go (suc n) k = rw (add-suc k n, ← suc-add k n) (ap (λ (l : List _). f k ∷ l) (go n (suc k)))

---- A store

pub take_stored : {A : Type 0} (l xs : List A) (k : ℕ) (x : A) → k < length l → take k l ≡ xs → take (k + 1) (set l k x) ≡ xs ++ (x ∷ [])
take_stored l xs k x h e = rw (add-one k) (take-suc-set l k x h ∙ ap (λ (z : List _). z ++ (x ∷ [])) e)
