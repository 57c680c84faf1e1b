-- A function over the elements of stacks: what is read of the mapped stack is what is read of the stack, mapped.
use Rattle.std.specs.Prelude.{if◌then◌else◌, Option, None, Some, slice_get}
use mathlib.Core.Path.{◌≡◌, refl, ap, ap₂}
use mathlib.Core.List.{List, [], ◌∷◌, ◌++◌, map}
use mathlib.Core.Bool.{Bool, true, false}
use Prim.Native.Nat.{ℕ, zero, suc, ◌-◌}
use lib.ListN.{length, take, drop, length-map}
use lib.Dec.{leb}
use Rattle.rules.specs.Lists.{All, l[], ◌l∷◌}
use Rattle.rules.specs.Stacks.{slot, split}
use Rattle.rules.specs.Machine.{◌>>=◌}

abbrev pub option_map : {A B : Type 0} → (A → B) → Option A → Option B
option_map g None = None
option_map g (Some a) = Some (g a)

abbrev pub both_map : {A B : Type 0} → (A → B) → List A × List A → List B × List B
both_map g p = (map g p.0, map g p.1)

module _ {A B : Type 0} (g : A → B) where
  pub map-append : (xs ys : List A) → map g (xs ++ ys) ≡ map g xs ++ map g ys
  map-append [] ys = refl
  map-append (x ∷ xs) ys = ap (λ (l : List B). g x ∷ l) (map-append xs ys)

  pub map_take : (n : ℕ) (xs : List A) → take n (map g xs) ≡ map g (take n xs)
  map_take zero xs = refl
  map_take (suc n) [] = refl
  map_take (suc n) (x ∷ xs) = ap (λ (l : List B). g x ∷ l) (map_take n xs)

  pub map_drop : (n : ℕ) (xs : List A) → drop n (map g xs) ≡ map g (drop n xs)
  map_drop zero xs = refl
  map_drop (suc n) [] = refl
  map_drop (suc n) (x ∷ xs) = map_drop n xs

  map_at : (xs : List A) (k : ℕ) → slice_get (map g xs) k ≡ option_map g (slice_get xs k)
  map_at [] k = refl
  map_at (x ∷ xs) zero = refl
  map_at (x ∷ xs) (suc k) = map_at xs k

  pub map_slot : (k : ℕ) (xs : List A) → slot k (map g xs) ≡ option_map g (slot k xs)
  map_slot zero xs = refl
  map_slot (suc k) xs = map_at xs k

  pub map_split : (n : ℕ) (xs : List A) → split n (map g xs) ≡ option_map (both_map g) (split n xs)
  unfolding split
  map_split n xs = rw (length-map xs g) (one (leb n (length xs)))
    where
      k : ℕ
      k = length xs - n

      one : (t : Bool) → ◌≡◌ {A = Option (List B × List B)} (if t then Some (take k (map g xs), drop k (map g xs)) else None)
          (option_map (both_map g) (if t then Some (take k xs, drop k xs) else None))
      one true = ap₂ (λ (a b : List B). Some (a, b)) (map_take k xs) (map_drop k xs)
      one false = refl

-- where two functions agree on the elements
pub map_alike : {A B : Type 0} (f g : A → B) {P : A → Type 0} → ((x : A) → P x → f x ≡ g x) → {xs : List A} → All P xs → map f xs ≡ map g xs
map_alike f g e l[] = refl
map_alike f g e (◌l∷◌ {x} p ps) = ap₂ ◌∷◌ (e x p) (map_alike f g e ps)

---- What is needed and mapped

-- from something needed that both sides have
pub bind_both : {A C D : Type 0} (t : C → D) (o : Option A) (f : A → Option D) (h : A → Option C)
    → ((a : A) → o ≡ Some a → f a ≡ option_map t (h a)) → (o >>= f) ≡ option_map t (o >>= h)
bind_both t None f h e = refl
bind_both t (Some a) f h e = e a refl

-- from something needed that one side has mapped
pub bind_mapped : {A B C D : Type 0} (g : A → B) (t : C → D) (o : Option A) (f : B → Option D) (h : A → Option C)
    → ((a : A) → o ≡ Some a → f (g a) ≡ option_map t (h a)) → (option_map g o >>= f) ≡ option_map t (o >>= h)
bind_mapped g t None f h e = refl
bind_mapped g t (Some a) f h e = e a refl
