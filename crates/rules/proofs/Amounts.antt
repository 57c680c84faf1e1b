-- What an expression comes to, with a price for each unit of weight and one for each variable; and where a variable is replaced.
use Rattle.std.specs.Prelude.{if◌then◌else◌}
use mathlib.Core.Path.{◌≡◌, refl, ap}
use mathlib.Core.List.{List, [], ◌∷◌, map}
use mathlib.Core.Bool.{Bool, true, false}
use Prim.Native.Nat.{ℕ, zero, suc, ◌+◌, ◌*◌, ◌≤◌, ◌<◌, zero-le}
use native.Mathlib.Omega.{arith}
use lib.Dec.{eqb}
use borrow.Author.Tests.{eqb-true, eq-eqb, ne_eqb}
use Rattle.rules.specs.Program.{Program, constructor, weight_of}
use Rattle.rules.specs.Tree.{Trees, node, nil, cons, from_list}
use Rattle.rules.specs.Expressions.{Symbol, variable, known, built, called, Expression, variables, replace, replace_all}
use Rattle.rules.specs.Quasi.{total}

-- 1 at x
abbrev pub one_at : ℕ → ℕ → ℕ
one_at x k = if eqb k x then 1 else 0

pub one_at_same : (x : ℕ) → one_at x x ≡ 1
one_at_same x = rw (eq-eqb x x refl)

---- What an expression comes to: κ for each unit of a constructor's weight, w k for variable k

module _ (s : Program) (κ : ℕ) (w : ℕ → ℕ) where
  abbrev mutual
    pub amount : Expression → ℕ
    amount (node (variable k) ts) = w k
    amount (node (known c) ts) = κ * weight_of (constructor s c) + total (amounts ts)
    amount (node (built c) ts) = 0
    amount (node (called g) ts) = 0

    pub amounts : Trees Symbol → List ℕ
    amounts nil = []
    amounts (cons t ts) = amount t ∷ amounts ts

  abbrev pub in_all : List Expression → ℕ
  in_all es = total (map amount es)

  pub amounts_list : (es : List Expression) → amounts (from_list es) ≡ map amount es
  amounts_list [] = refl
  amounts_list (e ∷ es) = ap (λ (l : List ℕ). amount e ∷ l) (amounts_list es)

module _ (s : Program) (κ : ℕ) (w : ℕ → ℕ) (k : ℕ) (e' : Expression) where
  mutual
    unfolding replace

    replace_amount : (e : Expression) → amount s κ w (replace k e' e) ≤ amount s κ w e + amount s 0 (one_at k) e * amount s κ w e'
    replace_amount (node (variable j) ts) = one (eqb j k)
      where
        one : (b : Bool) → amount s κ w (if b then e' else node (variable j) ts) ≤ w j + (if b then 1 else 0) * amount s κ w e'
        one true = omega arith
        one false = omega arith
    replace_amount (node (known c) ts) = omega (arith, replace_amounts ts)
    replace_amount (node (built c) ts) = zero-le
    replace_amount (node (called g) ts) = zero-le

    replace_amounts : (ts : Trees Symbol) → total (amounts s κ w (replace_all k e' ts)) ≤ total (amounts s κ w ts) + total (amounts s 0
        (one_at k) ts) * amount s κ w e'
    replace_amounts nil = zero-le
    replace_amounts (cons t ts) = omega (arith, replace_amount t, replace_amounts ts)

  pub replaced_amount : (es : List Expression)
      → in_all s κ w (map (replace k e') es) ≤ in_all s κ w es + in_all s 0 (one_at k) es * amount s κ w e'
  replaced_amount [] = zero-le
  replaced_amount (e ∷ es) = omega (arith, replace_amount e, replaced_amount es)

---- Fresh variables

one_at_other : (x k : ℕ) → (k ≡ x → ⊥) → one_at x k ≡ 0
one_at_other x k h = rw (ne_eqb k x h)

module _ (s : Program) where
  pub fresh_weightless : (κ b n : ℕ) → in_all s κ (λ k. 0) (variables b n) ≡ 0
  unfolding variables
  fresh_weightless κ b zero = refl
  fresh_weightless κ b (suc n) = omega (arith, fresh_weightless κ (suc b) n)

  pub fresh_below : (x b n : ℕ) → x < b → in_all s 0 (one_at x) (variables b n) ≡ 0
  unfolding variables
  fresh_below x b zero h = refl
  fresh_below x b (suc n) h = rw (one_at_other x b (λ e. omega arith)) (omega (arith, fresh_below x (suc b) n (omega arith)))

  pub fresh_above : (x b n : ℕ) → b + n ≤ x → in_all s 0 (one_at x) (variables b n) ≡ 0
  unfolding variables
  fresh_above x b zero h = refl
  fresh_above x b (suc n) h = rw (one_at_other x b (λ e. omega arith)) (omega (arith, fresh_above x (suc b) n (omega arith)))

  pub fresh_once : (x b n : ℕ) → in_all s 0 (one_at x) (variables b n) ≤ 1
  unfolding variables
  fresh_once x b zero = zero-le
  fresh_once x b (suc n) = one (eqb b x) refl (fresh_once x (suc b) n)
    where
      one : (t : Bool) → eqb b x ≡ t → in_all s 0 (one_at x) (variables (suc b) n) ≤ 1
          → (if t then 1 else 0) + in_all s 0 (one_at x) (variables (suc b) n) ≤ 1
      one true e h = omega (arith, fresh_below x (suc b) n (omega (arith, eqb-true b x e)))
      one false e h = omega arith
