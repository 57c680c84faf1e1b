-- Linear measures of size forms: a coefficient, the constant. And their 16 coefficients.
use mathlib.Core.Path.{◌≡◌, refl, ap, ◌∙◌}
use mathlib.Core.List.{List, [], ◌∷◌, map}
use Rattle.std.specs.Prelude.{Option, None, Some}
use mathlib.Core.Bool.{Bool, true, false}
use Prim.Native.Nat.{ℕ, zero, suc, ◌+◌, ◌*◌, ◌≤◌, zero-le}
use native.Mathlib.Omega.{arith}
use native.Mathlib.Nat.{le_trans, le_refl, le_of_eq, mul-le-mul_left}
use lib.ListN.{length, get_or, replicate, set, length-replicate, length-set}
use lib.Dec.{leb, eqb}
use borrow.Author.Tests.{leb-true, eqb-true, eq-eqb}
use Rattle.rules.specs.Program.{Constructor, Function, Program, constructor, function, weight_of}
use Rattle.rules.specs.declared.records.Alternative.{Alternative}
use Rattle.rules.specs.Tree.{Trees, node, nil, cons}
use Rattle.rules.specs.Expressions.{Symbol, variable, known, built, called, Expression, EveryIn}
use Rattle.rules.specs.Forms.{Form, constant_only, variable_only, plus_times, added, substituted, into_bound, built_form, called_form}
use Rattle.rules.specs.Forms.{form_of, forms_of, at_most}
use Rattle.rules.specs.Lists.{All, l[], ◌l∷◌, All2, a[], ◌a∷◌}
use Rattle.rules.specs.Values.{dot}
use Rattle.rules.specs.Facts.{Plain, Unmade}
use Rattle.rules.proofs.ListLaws.{all_any, all_map, all_mapped, and_left, and_right}
use Rattle.rules.proofs.FormLaws.{dot_most, all_flat_map}
use Rattle.rules.proofs.Amounts.{one_at, one_at_same, amount, amounts, in_all}
use Rattle.rules.specs.Quasi.{total}

---- A measure of alternatives that is linear: κ for each unit of the constant, w k for variable k

pub record Measure : Type 0 where
  pub of : Alternative → ℕ
  pub κ : ℕ
  pub w : ℕ → ℕ
  pub constant : (k : ℕ) → of (constant_only k) ≤ κ * k
  pub variable : (k : ℕ) → of (variable_only k) ≤ w k
  pub adds : (m : ℕ) (b a : Alternative) → of (added m b a) ≤ of a + m * of b

abbrev coefficient : ℕ → Alternative → ℕ
coefficient x a = get_or a.coefficients x 0

pub at_plus : (xs ys : List ℕ) (m x : ℕ) → get_or (plus_times xs m ys) x 0 ≡ get_or xs x 0 + m * get_or ys x 0
unfolding plus_times
at_plus [] [] m x = omega arith
at_plus [] (y ∷ ys) m zero = omega arith
at_plus [] (y ∷ ys) m (suc x) = at_plus [] ys m x
at_plus (z ∷ xs) [] m x = omega arith
at_plus (z ∷ xs) (y ∷ ys) m zero = refl
at_plus (z ∷ xs) (y ∷ ys) m (suc x) = at_plus xs ys m x

pub at_zeros : (n x : ℕ) → ◌≡◌ {A = ℕ} (get_or (replicate n 0) x 0) 0
at_zeros zero x = refl
at_zeros (suc n) zero = refl
at_zeros (suc n) (suc x) = at_zeros n x

pub at_unit : (n k x : ℕ) → get_or (set (replicate n 0) k 1) x 0 ≤ one_at x k
at_unit zero k x = zero-le
at_unit (suc n) zero zero = rw (one_at_same 0) (le_refl 1)
at_unit (suc n) zero (suc x) = le_trans (le_of_eq (at_zeros n x)) zero-le
at_unit (suc n) (suc k) zero = zero-le
at_unit (suc n) (suc k) (suc x) = le_trans (at_unit n k x) (shift (eqb k x) refl)
  where
    shift : (b : Bool) → eqb k x ≡ b → one_at x k ≤ one_at (suc x) (suc k)
    shift true e = rw (e, eq-eqb (suc k) (suc x) (ap suc (eqb-true k x e))) (le_refl 1)
    shift false e = rw e zero-le

unfoldable pub coefficient_measure : ℕ → Measure
unfolding constant_only variable_only added
coefficient_measure x = record {
  of = coefficient x;
  κ = 0;
  w = one_at x;
  constant = λ k. le_of_eq (at_zeros 16 x ∙ omega arith);
  variable = λ k. at_unit 16 k x;
  adds = λ m b a. le_of_eq (at_plus a.coefficients b.coefficients m x);
}

unfoldable pub constant_measure : Measure
unfolding constant_only variable_only added
constant_measure = record {
  of = λ a. a.constant;
  κ = 1;
  w = λ k. 0;
  constant = λ k. omega arith;
  variable = λ k. le_refl 0;
  adds = λ m b a. le_refl _;
}

dot_ones_most : (n : ℕ) (zs : List ℕ) → dot (replicate n 1) zs ≤ total zs
dot_ones_most zero zs = zero-le
dot_ones_most (suc n) [] = zero-le
dot_ones_most (suc n) (z ∷ zs) = omega (arith, dot_ones_most n zs)

---- Forms

module _ (s : Program) (μ : Measure) where
  abbrev Most : ℕ → Form → Type 0
  Most n form = All (λ a. μ.of a ≤ n) form

  substituted_most : (ms : List ℕ) (k : ℕ) {args : List ℕ} {forms : List Form} → All2 Most args forms
      → Most (μ.κ * k + dot ms args) (substituted ms k forms)
  unfolding substituted
  substituted_most [] k p = ◌l∷◌ {x = constant_only k} (le_trans (μ.constant k) (omega arith)) l[]
  substituted_most (m ∷ ms) k a[] = ◌l∷◌ {x = constant_only k} (le_trans (μ.constant k) (omega arith)) l[]
  substituted_most (zero ∷ ms) k (u a∷ p) = all_map (λ a z. omega arith) (substituted_most ms k p)
  substituted_most (suc m ∷ ms) k (◌a∷◌ {x} {y} {xs} {ys} u p) =
      all_flat_map (λ choice. map (added (suc m) choice) (substituted ms k ys))
      (λ choice (z : μ.of choice ≤ x). all_mapped (added (suc m) choice)
      (λ a (v : μ.of a ≤ μ.κ * k + dot ms xs). le_trans (μ.adds (suc m) choice a) (omega (arith, mul-le-mul_left (suc m) z)))
      (substituted_most ms k p)) u

  built_most : (o : Option Constructor) {args : List ℕ} {forms : List Form} → All2 Most args forms
      → Most (μ.κ * weight_of o + total args) (built_form o forms)
  unfolding built_form
  built_most None p = l[]
  built_most (Some k) {args} p =
      all_map (λ a z. le_trans z (omega (arith, dot_ones_most (length k.arguments) args)))
      (substituted_most (replicate (length k.arguments) 1) k.weight p)

  mutual
    unfolding form_of

    form_most : (e : Expression) → Plain e → Most (amount s μ.κ μ.w e) (form_of s e)
    form_most (node (variable k) ts) h = ◌l∷◌ {x = variable_only k} (μ.variable k) l[]
    form_most (node (known c) ts) h = built_most (constructor s c) (forms_most ts h.1)
    form_most (node (built c) ts) h = absurd h.0
    form_most (node (called g) ts) h = absurd h.0

    forms_most : (ts : Trees Symbol) → EveryIn Unmade ts → All2 Most (amounts s μ.κ μ.w ts) (forms_of s ts)
    forms_most nil h = a[]
    forms_most (cons t ts) h = form_most t h.0 a∷ forms_most ts h.1

  forms_list : {es : List Expression} → All Plain es → All2 Most (map (amount s μ.κ μ.w) es) (map (form_of s) es)
  forms_list l[] = a[]
  forms_list (◌l∷◌ {x} p ps) = form_most x p a∷ forms_list ps

  -- a bound at the parameters' shapes
  pub bound_most : (bound : List Alternative) (es : List Expression) (K U : ℕ)
      → All (λ a. All (λ c. c ≤ 15) a.coefficients × (a.constant ≤ K)) bound → All Plain es → in_all s μ.κ μ.w es ≤ U
      → Most (μ.κ * K + 15 * U) (into_bound bound (map (form_of s) es))
  unfolding into_bound
  bound_most bound es K U h p u =
      all_flat_map (λ a. substituted a.coefficients a.constant (map (form_of s) es))
      (λ a q. all_map (λ b z. le_trans z
      (omega (
        arith,
        dot_most a.coefficients (map (amount s μ.κ μ.w)
            es) q.0,
        mul-le-mul_left μ.κ q.1,
        mul-le-mul_left 15 u,
      )))
      (substituted_most a.coefficients a.constant (forms_list p))) h

pub at_most_at : (xs ys : List ℕ) → at_most xs ys ≡ true → (x : ℕ) → get_or xs x 0 ≤ get_or ys x 0
unfolding at_most
at_most_at [] ys h x = zero-le
at_most_at (z ∷ xs) [] h zero = le_of_eq (eqb-true z 0 (and_left (eqb z 0) (at_most xs []) h))
at_most_at (z ∷ xs) [] h (suc x) = at_most_at xs [] (and_right (eqb z 0) (at_most xs []) h) x
at_most_at (z ∷ xs) (y ∷ ys) h zero = leb-true z y (and_left (leb z y) (at_most xs ys) h)
at_most_at (z ∷ xs) (y ∷ ys) h (suc x) = at_most_at xs ys (and_right (leb z y) (at_most xs ys) h) x

pub all_of_at : (m : ℕ) (l : List ℕ) → ((x : ℕ) → get_or l x 0 ≤ m) → All (λ c. c ≤ m) l
all_of_at m [] h = l[]
all_of_at m (y ∷ l) h = h 0 l∷ all_of_at m l (λ x. h (suc x))

---- 16 coefficients

plus_length : (xs ys : List ℕ) (m n : ℕ) → length xs ≡ n → length ys ≡ n → length (plus_times xs m ys) ≡ n
unfolding plus_times
plus_length [] [] m n e e' = e
plus_length [] (y ∷ ys) m n e e' = absurd (omega arith)
plus_length (x ∷ xs) [] m n e e' = e
plus_length (x ∷ xs) (y ∷ ys) m zero e e' = absurd (omega arith)
plus_length (x ∷ xs) (y ∷ ys) m (suc n) e e' = ap suc (plus_length xs ys m n (omega arith) (omega arith))

abbrev pub WideForm : Form → Type 0
WideForm form = All (λ a. length a.coefficients ≡ 16) form

pub substituted_wide : (ms : List ℕ) (k : ℕ) {forms : List Form} → All WideForm forms → WideForm (substituted ms k forms)
unfolding substituted constant_only added
substituted_wide [] k p = ◌l∷◌ {x = constant_only k} (length-replicate {A = ℕ} 16 0) l[]
substituted_wide (m ∷ ms) k l[] = ◌l∷◌ {x = constant_only k} (length-replicate {A = ℕ} 16 0) l[]
substituted_wide (zero ∷ ms) k (u l∷ p) = substituted_wide ms k p
substituted_wide (suc m ∷ ms) k (◌l∷◌ {xs} u p) =
    all_flat_map (λ choice. map (added (suc m) choice) (substituted ms k xs))
    (λ choice (z : length choice.coefficients ≡ 16). all_mapped (added (suc m) choice)
    (λ a v. plus_length a.coefficients choice.coefficients (suc m) 16 v z) (substituted_wide ms k p)) u

built_wide : (o : Option Constructor) {forms : List Form} → All WideForm forms → WideForm (built_form o forms)
unfolding built_form
built_wide None p = l[]
built_wide (Some k) p = substituted_wide (replicate (length k.arguments) 1) k.weight p

module _ (s : Program) where
  mutual
    unfolding form_of called_form into_bound variable_only

    pub form_wide : (e : Expression) → WideForm (form_of s e)
    form_wide (node (variable k) ts) =
        ◌l∷◌ {x = variable_only k} (length-set {A = ℕ} (replicate 16 0) k 1 ∙ length-replicate {A = ℕ} 16 0) l[]
    form_wide (node (known c) ts) = built_wide (constructor s c) (forms_wide ts)
    form_wide (node (built c) ts) = built_wide (constructor s c) (forms_wide ts)
    form_wide (node (called g) ts) = one (function s g) (forms_wide ts)
      where
        one : (o : Option Function) {forms : List Form} → All WideForm forms → WideForm (called_form o forms)
        one None p = l[]
        one (Some f) {forms} p =
            all_flat_map (λ a. substituted a.coefficients a.constant forms)
            (λ a (u : Unit {0}). substituted_wide a.coefficients a.constant p) (all_any f.bound)

    pub forms_wide : (ts : Trees Symbol) → All WideForm (forms_of s ts)
    forms_wide nil = l[]
    forms_wide (cons t ts) = form_wide t l∷ forms_wide ts

---- What is made of covered entries

module _ (s : Program) (μ : Measure) (U : ℕ) where
  all_most : {forms : List Form} → All (All (λ a. μ.of a ≤ U)) forms → (args : List ℕ) × All2 (Most s μ) args forms
      × (total args ≡ U * length forms)
  all_most l[] = ([], a[], omega arith)
  all_most (p l∷ ps) = let r = all_most ps in (U ∷ r.0, p a∷ r.1, omega (arith, r.2))

  pub made_most : (ms : List ℕ) (k K : ℕ) {forms : List Form} → All (λ c. c ≤ 15) ms → k ≤ K → length forms ≤ 4
      → All (All (λ a. μ.of a ≤ U)) forms → All (λ a. μ.of a ≤ μ.κ * K + 60 * U) (substituted ms k forms)
  made_most ms k K {forms} h hk few p =
      let r = all_most p in
      all_map (λ a z. le_trans z (omega (arith, dot_most ms r.0 h, r.2, mul-le-mul_left μ.κ hk, mul-le-mul_left U few)))
      (substituted_most s μ ms k r.1)
