-- Putting an alternative for a variable is linear: it goes through substitution, and it keeps cover.
use mathlib.Core.Path.{◌≡◌, refl, sym, ap, ◌∙◌}
use mathlib.Core.List.{List, [], ◌∷◌}
use mathlib.Core.Bool.{Bool, true, false}
use Prim.Native.Nat.{ℕ, zero, suc, ◌+◌, ◌*◌, ◌≤◌, ◌<◌, zero-le}
use native.Mathlib.Omega.{arith}
use native.Mathlib.Nat.{add-mul, mul-add, mul_assoc}
use lib.ListN.{length, get_or, set, replicate, length-set}
use lib.Seq.{get_or-set_same, get_or-set_other, ext_get_or}
use lib.Dec.{eqb}
use borrow.Author.Tests.{eqb-true, eqb-false}
use Rattle.rules.specs.declared.records.Alternative.{Alternative}
use Rattle.rules.specs.Forms.{plus_times, added, constant_only, variable_only}
use Rattle.sizing.specs.Put.{coefficient, cleared, put, Wide}

---- Coefficient by coefficient

plus_length : (xs ys : List ℕ) (m : ℕ) → length ys ≤ length xs → length (plus_times xs m ys) ≡ length xs
unfolding plus_times
plus_length [] [] m h = refl
plus_length [] (y ∷ ys) m h = absurd (omega arith)
plus_length (x ∷ xs) [] m h = refl
plus_length (x ∷ xs) (y ∷ ys) m h = ap suc (plus_length xs ys m (omega arith))

plus_at : (xs ys : List ℕ) (m i : ℕ) → length ys ≤ length xs → get_or (plus_times xs m ys) i 0 ≡ get_or xs i 0 + m * get_or ys i 0
unfolding plus_times
plus_at [] [] m i h = omega arith
plus_at [] (y ∷ ys) m i h = absurd (omega arith)
plus_at (x ∷ xs) [] m i h = omega arith
plus_at (x ∷ xs) (y ∷ ys) m zero h = refl
plus_at (x ∷ xs) (y ∷ ys) m (suc i) h = plus_at xs ys m i (omega arith)

pub alternative_ext : (a b : Alternative) → Wide a → Wide b → ((i : ℕ) → coefficient a i ≡ coefficient b i) → a.constant ≡ b.constant
    → a ≡ b
alternative_ext a b p q h k =
    let e : a.coefficients ≡ b.coefficients = ext_get_or 0 a.coefficients b.coefficients (p ∙ sym q) (λ i _. h i) in
    λ x. record { coefficients = e x; constant = k x }

pub added_wide : (m : ℕ) (b a : Alternative) → Wide b → Wide a → Wide (added m b a)
unfolding added
added_wide m b a q p = plus_length a.coefficients b.coefficients m (omega arith) ∙ p

pub added_at : (m : ℕ) (b a : Alternative) (i : ℕ) → Wide a → Wide b → coefficient (added m b a) i ≡ coefficient a i + m * coefficient b i
unfolding added
added_at m b a i p q = plus_at a.coefficients b.coefficients m i (omega arith)

pub added_constant : (m : ℕ) (b a : Alternative) → (added m b a).constant ≡ a.constant + m * b.constant
unfolding added
added_constant m b a = refl

pub cleared_wide : (k : ℕ) (a : Alternative) → Wide a → Wide (cleared k a)
cleared_wide k a p = length-set a.coefficients k 0 ∙ p

pub cleared_same : (k : ℕ) (a : Alternative) → coefficient (cleared k a) k ≡ 0
cleared_same k a = go a.coefficients k
  where
    go : (l : List ℕ) (j : ℕ) → get_or (set l j 0) j 0 ≡ 0
    go [] j = refl
    go (x ∷ l) zero = refl
    go (x ∷ l) (suc j) = go l j

pub cleared_other : (k : ℕ) (a : Alternative) (i : ℕ) → (i ≡ k → ⊥) → coefficient (cleared k a) i ≡ coefficient a i
cleared_other k a i n = get_or-set_other a.coefficients k i 0 0 n

pub cleared_below : (k : ℕ) (a : Alternative) (i : ℕ) → coefficient (cleared k a) i ≤ coefficient a i
cleared_below k a i = one (eqb i k) refl
  where
    one : (t : Bool) → eqb i k ≡ t → coefficient (cleared k a) i ≤ coefficient a i
    one true e = rw (eqb-true i k e, cleared_same k a) zero-le
    one false e = rw (cleared_other k a i (eqb-false i k e)) (omega arith)

pub put_wide : (k : ℕ) (m a : Alternative) → Wide m → Wide a → Wide (put k m a)
unfolding put
put_wide k m a q p = added_wide (coefficient a k) m (cleared k a) q (cleared_wide k a p)

pub put_at : (k : ℕ) (m a : Alternative) (i : ℕ) → Wide m → Wide a
    → coefficient (put k m a) i ≡ coefficient (cleared k a) i + coefficient a k * coefficient m i
unfolding put
put_at k m a i q p = added_at (coefficient a k) m (cleared k a) i (cleared_wide k a p) q

pub put_constant : (k : ℕ) (m a : Alternative) → (put k m a).constant ≡ a.constant + coefficient a k * m.constant
unfolding put added
put_constant k m a = refl

-- cleared is linear as well
cleared_added : (k c : ℕ) (b a : Alternative) (i : ℕ) → Wide a → Wide b
    → coefficient (cleared k (added c b a)) i ≡ coefficient (cleared k a) i + c * coefficient (cleared k b) i
cleared_added k c b a i p q = go (eqb i k) refl
  where
    go : (t : Bool) → eqb i k ≡ t → coefficient (cleared k (added c b a)) i ≡ coefficient (cleared k a) i + c * coefficient (cleared k b) i
    go true e = rw (eqb-true i k e, cleared_same k (added c b a), cleared_same k a, cleared_same k b) (omega arith)
    go false e =
        let n = eqb-false i k e in
        rw (cleared_other k (added c b a) i n, cleared_other k a i n, cleared_other k b i n) (added_at c b a i p q)

spread_out : (a b c m ai bi : ℕ) → ai + c * bi + (a + c * b) * m ≡ ai + a * m + c * (bi + b * m)
spread_out a b c m ai bi = simp (add-mul, mul-add, mul_assoc) (omega arith)

pub put_added : (k : ℕ) (m : Alternative) (c : ℕ) (b a : Alternative) → Wide m → Wide a → Wide b
    → put k m (added c b a) ≡ added c (put k m b) (put k m a)
put_added k m c b a w p q =
    alternative_ext (put k m (added c b a)) (added c (put k m b) (put k m a)) (put_wide k m (added c b a) w (added_wide c b a q p))
    (added_wide c (put k m b) (put k m a) (put_wide k m b w q) (put_wide k m a w p))
    (λ i. put_at k m (added c b a) i w (added_wide c b a q p) ∙ left i
    ∙ sym (added_at c (put k m b) (put k m a) i (put_wide k m a w p) (put_wide k m b w q) ∙ right i))
    constants
  where
    left : (i : ℕ) → coefficient (cleared k (added c b a)) i + coefficient (added c b a) k * coefficient m i
        ≡ coefficient (cleared k a) i + coefficient a k * coefficient m
        i + c * (coefficient (cleared k b) i + coefficient b k * coefficient m i)
    left i =
        rw (cleared_added k c b a i p q, added_at c b a k p q)
        (spread_out (coefficient a k) (coefficient b k) c (coefficient m i) (coefficient (cleared k a) i) (coefficient (cleared k b) i))

    right : (i : ℕ) → coefficient (put k m a) i + c * coefficient (put k m b) i
        ≡ coefficient (cleared k a) i + coefficient a k * coefficient m
        i + c * (coefficient (cleared k b) i + coefficient b k * coefficient m i)
    right i = rw (put_at k m a i w p, put_at k m b i w q)

    constants : (put k m (added c b a)).constant ≡ (added c (put k m b) (put k m a)).constant
    constants =
        rw (
          put_constant k m (added c b a),
          added_constant c b a,
          added_constant c (put k m b) (put k m
              a),
          put_constant k m a,
          put_constant k m b,
          added_at c b a k p q,
        )
        (spread_out (coefficient a k) (coefficient b k) c m.constant a.constant b.constant)

pub constant_wide : (w : ℕ) → Wide (constant_only w)
unfolding constant_only
constant_wide w = refl

pub zero_at : (n i : ℕ) → get_or {A = ℕ} (replicate n 0) i 0 ≡ 0
zero_at zero i = refl
zero_at (suc n) zero = refl
zero_at (suc n) (suc i) = zero_at n i

pub constant_at : (w i : ℕ) → coefficient (constant_only w) i ≡ 0
unfolding constant_only
constant_at w i = zero_at 16 i

-- no variable k, no change
pub put_absent : (k : ℕ) (m a : Alternative) → Wide m → Wide a → coefficient a k ≡ 0 → put k m a ≡ a
put_absent k m a w p z =
    alternative_ext (put k m a) a (put_wide k m a w p) p (λ i. put_at k m a i w p ∙ go i (eqb i k) refl)
    (put_constant k m a ∙ rw z (omega arith))
  where
    go : (i : ℕ) (t : Bool) → eqb i k ≡ t → coefficient (cleared k a) i + coefficient a k * coefficient m i ≡ coefficient a i
    go i true e = rw (eqb-true i k e, cleared_same k a, z) (omega arith)
    go i false e = rw (cleared_other k a i (eqb-false i k e), z) (omega arith)

pub variable_wide : (v : ℕ) → Wide (variable_only v)
unfolding variable_only
variable_wide v = length-set (replicate 16 0) v 1

pub variable_constant : (v : ℕ) → (variable_only v).constant ≡ 0
unfolding variable_only
variable_constant v = refl

pub variable_same : (v : ℕ) → v < 16 → coefficient (variable_only v) v ≡ 1
unfolding variable_only
variable_same v h = get_or-set_same (replicate 16 0) v 1 0 h

pub variable_other : (v i : ℕ) → (i ≡ v → ⊥) → coefficient (variable_only v) i ≡ 0
unfolding variable_only
variable_other v i n = get_or-set_other (replicate 16 0) v i 1 0 n ∙ zero_at 16 i

pub put_variable : (k : ℕ) (m : Alternative) → k < 16 → Wide m → put k m (variable_only k) ≡ m
put_variable k m h w =
    alternative_ext (put k m (variable_only k)) m (put_wide k m (variable_only k) w (variable_wide k)) w
    (λ i. put_at k m (variable_only k) i w (variable_wide k) ∙ rw (variable_same k h) (go i (eqb i k) refl))
    (put_constant k m (variable_only k) ∙ rw (variable_same k h) (only m.constant))
  where
    only : (x : ℕ) → (variable_only k).constant + 1 * x ≡ x
    only x = rw (variable_constant k) (omega arith)

    go : (i : ℕ) (t : Bool) → eqb i k ≡ t → coefficient (cleared k (variable_only k)) i + 1 * coefficient m i ≡ coefficient m i
    go i true e = rw (eqb-true i k e, cleared_same k (variable_only k)) (omega arith)
    go i false e = rw (cleared_other k (variable_only k) i (eqb-false i k e), variable_other k i (eqb-false i k e)) (omega arith)

pub put_other_variable : (k : ℕ) (m : Alternative) (j : ℕ) → Wide m → (j ≡ k → ⊥) → put k m (variable_only j) ≡ variable_only j
put_other_variable k m j w n = put_absent k m (variable_only j) w (variable_wide j) (variable_other j k (λ e. n (sym e)))
