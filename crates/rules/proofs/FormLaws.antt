-- Size forms at sizes: substitution is linear, so a bound at the sizes of arguments is a form at the sizes of the variables.
use mathlib.Core.Path.{◌≡◌, refl}
use mathlib.Core.List.{List, [], ◌∷◌, ◌++◌, map}
use mathlib.Core.Bool.{true}
use Prim.Native.Nat.{ℕ, zero, suc, ◌+◌, ◌*◌, ◌≤◌, ◌<◌, zero-le}
use native.Mathlib.Omega.{arith}
use native.Mathlib.Nat.{le_trans, le_of_suc-le-suc, not-suc-le-zero, mul-le-mul_right, mul-le-mul_left, le-max_left, le-max_right}
use lib.ListN.{length, get_or, replicate, set}
use lib.Dec.{leb, eqb}
use borrow.Author.Tests.{leb-true, eqb-true}
use Rattle.rules.specs.Base.{any}
use Rattle.rules.specs.declared.records.Alternative.{Alternative}
use Rattle.rules.specs.Forms.{Form, constant_only, variable_only, plus_times, added, flat_map, substituted, into_bound, at_most, matches}
use Rattle.rules.specs.Forms.{covers}
use Rattle.rules.specs.Lists.{All, l[], ◌l∷◌, Any, here, there, All2, a[], ◌a∷◌}
use Rattle.rules.specs.Values.{dot, value_at, bound_at}
use Rattle.rules.proofs.ListLaws.{any_map, any_mapped, all_mapped, all_map, all_append, any_append_left, any_append_right, and_left}
use Rattle.rules.proofs.ListLaws.{and_right, all_true, any_true, any_all}
use Rattle.rules.specs.Quasi.{total}

-- a number is at most one of the alternatives; at least each of them
abbrev pub Under : List ℕ → ℕ → Form → Type 0
Under sizes n form = Any (λ a. n ≤ value_at sizes a) form

abbrev pub Over : List ℕ → ℕ → Form → Type 0
Over sizes n form = All (λ a. value_at sizes a ≤ n) form

pub under_bound : (sizes : List ℕ) (n : ℕ) {bound : Form} → Under sizes n bound → n ≤ bound_at bound sizes
under_bound sizes n (here {x} {xs} h) = le_trans h (le-max_left (value_at sizes x) (bound_at xs sizes))
under_bound sizes n (there {x} {xs} h) = le_trans (under_bound sizes n h) (le-max_right (value_at sizes x) (bound_at xs sizes))

---- One alternative

dot_plus : (xs ys sizes : List ℕ) (m : ℕ) → dot (plus_times xs m ys) sizes ≡ dot xs sizes + m * dot ys sizes
unfolding plus_times
dot_plus [] [] sizes m = omega arith
dot_plus [] (y ∷ ys) [] m = omega arith
dot_plus [] (y ∷ ys) (z ∷ sizes) m = rw (dot_plus [] ys sizes m) (omega arith)
dot_plus (x ∷ xs) [] sizes m = omega arith
dot_plus (x ∷ xs) (y ∷ ys) [] m = omega arith
dot_plus (x ∷ xs) (y ∷ ys) (z ∷ sizes) m = rw (dot_plus xs ys sizes m) (omega arith)

added_value : (sizes : List ℕ) (m : ℕ) (b a : Alternative) → value_at sizes (added m b a) ≡ value_at sizes a + m * value_at sizes b
unfolding added
added_value sizes m b a = rw (dot_plus a.coefficients b.coefficients sizes m) (omega arith)

dot_zeros : (n : ℕ) (sizes : List ℕ) → dot (replicate n 0) sizes ≡ 0
dot_zeros zero sizes = refl
dot_zeros (suc n) [] = refl
dot_zeros (suc n) (z ∷ sizes) = omega (arith, dot_zeros n sizes)

dot_unit : (n v : ℕ) (sizes : List ℕ) → v < n → dot (set (replicate n 0) v 1) sizes ≡ get_or sizes v 0
dot_unit zero v sizes h = absurd (not-suc-le-zero h)
dot_unit (suc n) zero [] h = refl
dot_unit (suc n) zero (z ∷ sizes) h = omega (arith, dot_zeros n sizes)
dot_unit (suc n) (suc v) [] h = refl
dot_unit (suc n) (suc v) (z ∷ sizes) h = omega (arith, dot_unit n v sizes (le_of_suc-le-suc h))

pub dot_ones : (n : ℕ) (sizes : List ℕ) → length sizes ≡ n → dot (replicate n 1) sizes ≡ total sizes
dot_ones zero [] h = refl
dot_ones zero (z ∷ sizes) h = absurd (omega arith)
dot_ones (suc n) [] h = refl
dot_ones (suc n) (z ∷ sizes) h = omega (arith, dot_ones n sizes (omega arith))

-- coefficients of at most 15
pub dot_most : (cs zs : List ℕ) → All (λ c. c ≤ 15) cs → dot cs zs ≤ 15 * total zs
dot_most [] zs h = zero-le
dot_most (c ∷ cs) [] h = zero-le
dot_most (c ∷ cs) (z ∷ zs) (h l∷ hs) = omega (arith, mul-le-mul_right z h, dot_most cs zs hs)

constant_value : (sizes : List ℕ) (k : ℕ) → value_at sizes (constant_only k) ≡ k
unfolding constant_only
constant_value sizes k = omega (arith, dot_zeros 16 sizes)

pub variable_value : (sizes : List ℕ) (v : ℕ) → v < 16 → value_at sizes (variable_only v) ≡ get_or sizes v 0
unfolding variable_only
variable_value sizes v h = omega (arith, dot_unit 16 v sizes h)

dot_mono : (xs ys sizes : List ℕ) → at_most xs ys ≡ true → dot xs sizes ≤ dot ys sizes
unfolding at_most
dot_mono [] ys sizes h = zero-le
dot_mono (x ∷ xs) [] [] h = zero-le
dot_mono (x ∷ xs) [] (z ∷ sizes) h =
    let x0 : x ≡ 0 = eqb-true x 0 (and_left (eqb x 0) (at_most xs []) h) in
    rw x0 (omega (arith, dot_mono xs [] sizes (and_right (eqb x 0) (at_most xs []) h)))
dot_mono (x ∷ xs) (y ∷ ys) [] h = zero-le
dot_mono (x ∷ xs) (y ∷ ys) (z ∷ sizes) h =
    omega (
      arith,
      dot_mono xs ys sizes (and_right (leb x y) (at_most xs ys) h),
      mul-le-mul_right z (leb-true x y
          (and_left (leb x y) (at_most xs ys) h)),
    )

matches_mono : (sizes : List ℕ) (a b : Alternative) → matches a b ≡ true → value_at sizes a ≤ value_at sizes b
unfolding matches
matches_mono sizes a b h =
    omega (
      arith,
      dot_mono a.coefficients b.coefficients sizes
          (and_right (leb a.constant b.constant) (at_most a.coefficients b.coefficients) h),
      leb-true a.constant b.constant (and_left (leb a.constant b.constant) (at_most a.coefficients b.coefficients) h),
    )

-- what is under a covered form is under what covers it
pub covers_under : (sizes : List ℕ) (n : ℕ) (bound form : Form) → covers bound form ≡ true → Under sizes n form → Under sizes n bound
unfolding covers
covers_under sizes n bound form h u =
    any_all (λ a (m : Any (λ b. matches a b ≡ true) bound) le. any_map (λ b e. le_trans le (matches_mono sizes a b e)) m)
    (all_true (λ a. any (matches a) bound) (λ a e. any_true (matches a) (λ b w. w) bound e) form h) u

---- Substitution

any_append : {B : Type 0} {Q : B → Type 0} {Z : Type 0} (xs : List B) {ys : List B} → (Any Q xs → Z) → (Any Q ys → Z) → Any Q (xs ++ ys) → Z
any_append [] f g w = g w
any_append (x ∷ xs) f g (here p) = f (here p)
any_append (x ∷ xs) f g (there w) = any_append xs (λ v. f (there v)) g w

module _ {A B : Type 0} where
  any_flat_map : {P : A → Type 0} {Q : B → Type 0} (g : A → List B) → ((x : A) → P x → Any Q (g x)) → {xs : List A} → Any P xs
      → Any Q (flat_map g xs)
  unfolding flat_map
  any_flat_map g f (here {x} {xs} p) = any_append_left (flat_map g xs) (f x p)
  any_flat_map g f (there {x} p) = any_append_right (g x) (any_flat_map g f p)

  pub all_flat_map : {P : A → Type 0} {Q : B → Type 0} (g : A → List B) → ((x : A) → P x → All Q (g x)) → {xs : List A} → All P xs
      → All Q (flat_map g xs)
  unfolding flat_map
  all_flat_map g f l[] = l[]
  all_flat_map g f (◌l∷◌ {x} p ps) = all_append (f x p) (all_flat_map g f ps)

  -- one of all that is made comes from one
  any_from : {P : A → Type 0} {Q : B → Type 0} (g : A → List B) → ((x : A) → Any Q (g x) → P x) → (xs : List A) → Any Q (flat_map g xs)
      → Any P xs
  unfolding flat_map
  any_from g f [] w = elim w [ ]
  any_from g f (x ∷ xs) w = any_append (g x) (λ v. here (f x v)) (λ v. there (any_from g f xs v)) w

pub substituted_under : (sizes ms : List ℕ) (k : ℕ) {args : List ℕ} {forms : List Form} → All2 (Under sizes) args forms
    → Under sizes (k + dot ms args) (substituted ms k forms)
unfolding substituted
substituted_under sizes [] k p = here {x = constant_only k} (rw (constant_value sizes k) (omega arith))
substituted_under sizes (m ∷ ms) k a[] = here {x = constant_only k} (rw (constant_value sizes k) (omega arith))
substituted_under sizes (zero ∷ ms) k (u a∷ p) = any_map (λ a z. omega arith) (substituted_under sizes ms k p)
substituted_under sizes (suc m ∷ ms) k (◌a∷◌ {x} {y} {xs} {ys} u p) =
    any_flat_map (λ choice. map (added (suc m) choice) (substituted ms k ys))
    (λ choice (z : x ≤ value_at sizes choice). any_mapped (added (suc m) choice)
    (λ a (w : k + dot ms xs ≤ value_at sizes a). rw (added_value sizes (suc m) choice a) (omega (arith, mul-le-mul_left (suc m) z)))
    (substituted_under sizes ms k p)) u

pub substituted_over : (sizes ms : List ℕ) (k : ℕ) {args : List ℕ} {forms : List Form} → All2 (Over sizes) args forms
    → Over sizes (k + dot ms args) (substituted ms k forms)
unfolding substituted
substituted_over sizes [] k p = ◌l∷◌ {x = constant_only k} (rw (constant_value sizes k) (omega arith)) l[]
substituted_over sizes (m ∷ ms) k a[] = ◌l∷◌ {x = constant_only k} (rw (constant_value sizes k) (omega arith)) l[]
substituted_over sizes (zero ∷ ms) k (u a∷ p) = all_map (λ a z. omega arith) (substituted_over sizes ms k p)
substituted_over sizes (suc m ∷ ms) k (◌a∷◌ {x} {y} {xs} {ys} u p) =
    all_flat_map (λ choice. map (added (suc m) choice) (substituted ms k ys))
    (λ choice (z : value_at sizes choice ≤ x). all_mapped (added (suc m) choice)
    (λ a (w : value_at sizes a ≤ k + dot ms xs). rw (added_value sizes (suc m) choice a) (omega (arith, mul-le-mul_left (suc m) z)))
    (substituted_over sizes ms k p)) u

-- what is under a bound at sizes is under the form that the arguments' forms make of it
pub into_under : (sizes : List ℕ) {args : List ℕ} {forms : List Form} (bound : Form) (n : ℕ) → All2 (Under sizes) args forms
    → Under args n bound → Under sizes n (into_bound bound forms)
unfolding into_bound
into_under sizes {args} {forms} bound n p u =
    any_flat_map (λ a. substituted a.coefficients a.constant forms)
    (λ a (h : n ≤ value_at args a). any_map (λ b z. le_trans h z) (substituted_under sizes a.coefficients a.constant p)) u

-- and back, where no form is more than its argument
pub into_over : (sizes : List ℕ) {args : List ℕ} {forms : List Form} (bound : Form) (n : ℕ) → All2 (Over sizes) args forms
    → Under sizes n (into_bound bound forms) → Under args n bound
unfolding into_bound
into_over sizes {args} {forms} bound n p u =
    any_from (λ a. substituted a.coefficients a.constant forms)
    (λ a w. any_all (λ b (h : value_at sizes b ≤ value_at args a) (z : n ≤ value_at sizes b). le_trans z h)
    (substituted_over sizes a.coefficients a.constant p) w) bound u
