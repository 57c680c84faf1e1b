-- When a value is what an expression says, given values for the variables. A call stands for any value within the function's bound.
use Rattle.std.specs.Prelude.{if◌then◌else◌, Some, slice_get}
use mathlib.Core.Path.{◌≡◌, refl, sym, ap, ◌∙◌}
use mathlib.Core.List.{List, [], ◌∷◌, ◌++◌, map, append_assoc}
use mathlib.Core.Bool.{Bool, true, false}
use Prim.Native.Nat.{ℕ, zero, suc, ◌+◌, ◌≤◌}
use native.Mathlib.Omega.{arith}
use native.Mathlib.Nat.{le_trans, le_of_eq}
use lib.ListN.{length, get_or, replicate, length-map, length-append}
use lib.Dec.{eqb}
use borrow.Author.Tests.{eqb-true}
use Rattle.rules.specs.Program.{Constructor, Function, Program, constructor, function}
use Rattle.rules.specs.Tree.{Tree, Trees, node, nil, cons, to_list, from_list}
use Rattle.rules.specs.Machine.{Value}
use Rattle.rules.specs.Expressions.{Symbol, variable, known, built, called, Expression, variables, replace, replace_all}
use Rattle.rules.specs.Forms.{variable_only, form_of, forms_of, built_form, called_form}
use Rattle.rules.specs.Lists.{l[], ◌l∷◌, here, All2, a[], ◌a∷◌}
use Rattle.rules.specs.Values.{size, size_of_all, sizes, AllHave, Typed, dot, value_at}
use Rattle.rules.proofs.ListLaws.{none_some, some_inj, at_less}
use Rattle.rules.proofs.FormLaws.{Under, Over, dot_ones, variable_value, substituted_under, substituted_over, into_under}
use Rattle.rules.specs.Quasi.{total}

---- Lists

at_append : {A : Type 0} (l m : List A) (k : ℕ) {v : A} → slice_get l k ≡ Some v → slice_get (l ++ m) k ≡ Some v
at_append [] m k e = none_some e
at_append (x ∷ l) m zero e = e
at_append (x ∷ l) m (suc k) e = at_append l m k e

at_end : {A : Type 0} (l m : List A) (v : A) → slice_get (l ++ v ∷ m) (length l) ≡ Some v
at_end [] m v = refl
at_end (x ∷ l) m v = at_end l m v

at_mapped : {A : Type 0} (f : A → ℕ) (l : List A) (k : ℕ) {v : A} → slice_get l k ≡ Some v → get_or (map f l) k 0 ≡ f v
at_mapped f [] k e = none_some e
at_mapped f (y ∷ l) zero e = ap f (some_inj e)
at_mapped f (y ∷ l) (suc k) e = at_mapped f l k e

pub to_from : {A : Type 0} (l : List (Tree A)) → to_list (from_list l) ≡ l
to_from [] = refl
to_from (x ∷ l) = ap (λ (r : List (Tree _)). x ∷ r) (to_from l)

---- Typed values

module _ (s : Program) where
  pub have_list : (vs : Trees ℕ) (ts : List ℕ) → AllHave s vs ts → Typed s (to_list vs) ts
  have_list nil [] h = a[]
  have_list nil (t ∷ ts) h = absurd h
  have_list (cons v vs) [] h = absurd h
  have_list (cons v vs) (t ∷ ts) h = h.0 a∷ have_list vs ts h.1

  pub have_trees : {vs : List Value} {ts : List ℕ} → Typed s vs ts → AllHave s (from_list vs) ts
  have_trees a[] = tt
  have_trees (h a∷ hs) = (h, have_trees hs)

  pub size_total : (vs : Trees ℕ) → size_of_all s vs ≡ total (sizes s (to_list vs))
  size_total nil = refl
  size_total (cons v vs) = ap (λ (n : ℕ). size s v + n) (size_total vs)

-- constructors without arguments weigh nothing
abbrev pub Light : Program → Type 0
Light s = (c : ℕ) (k : Constructor) → constructor s c ≡ Some k → length k.arguments ≡ 0 → k.weight ≡ 0

-- the size of a value as the build's bound has it: coefficients 1 and the weight
size_made : (s : Program) → Light s → (c : ℕ) (k : Constructor) → constructor s c ≡ Some k → (vs : Trees ℕ)
    → length (to_list vs) ≡ length k.arguments
    → size s (node c vs) ≡ k.weight + dot (replicate (length k.arguments) 1) (sizes s (to_list vs))
size_made s light c k e vs len =
    one vs len ∙ ap (λ (n : ℕ). k.weight + n)
    (size_total s vs ∙ sym (dot_ones (length k.arguments) (sizes s (to_list vs)) (length-map (to_list vs) (size s) ∙ len)))
  where
    one : (vs : Trees ℕ) → length (to_list vs) ≡ length k.arguments → size s (node c vs) ≡ k.weight + size_of_all s vs
    one nil len = omega (arith, light c k e (sym len))
    one (cons v vs) len = rw e

---- Models

module _ (s : Program) where
  -- C: whether calls may come up
  abbrev mutual
    pub Models : Type 0 → List Value → Value → Expression → Type 0
    Models C ρ v (node (variable k) ts) = slice_get ρ k ≡ Some v
    Models C ρ v (node (known c) ts) =
        (vs : Trees ℕ) × (v ≡ node c vs) × (k : Constructor) × (constructor s c ≡ Some k) × (length (to_list vs) ≡ length k.arguments)
        × ModelsAll C ρ ts (to_list vs)
    Models C ρ v (node (built c) ts) =
        (vs : Trees ℕ) × (v ≡ node c vs) × (k : Constructor) × (constructor s c ≡ Some k) × (length (to_list vs) ≡ length k.arguments)
        × ModelsAll C ρ ts (to_list vs)
    Models C ρ v (node (called g) ts) =
        (us : List Value) × C × (f : Function) × (function s g ≡ Some f) × Under (sizes s us) (size s v) f.bound × ModelsAll C ρ ts us

    ModelsAll : Type 0 → List Value → Trees Symbol → List Value → Type 0
    ModelsAll C ρ nil [] = Unit {0}
    ModelsAll C ρ nil (v ∷ vs) = ⊥
    ModelsAll C ρ (cons t ts) [] = ⊥
    ModelsAll C ρ (cons t ts) (v ∷ vs) = Models C ρ v t × ModelsAll C ρ ts vs

  pub models_list : {C : Type 0} {ρ : List Value} (ts : Trees Symbol) (vs : List Value) → ModelsAll C ρ ts vs
      → All2 (Models C ρ) vs (to_list ts)
  models_list nil [] h = a[]
  models_list nil (v ∷ vs) h = absurd h
  models_list (cons t ts) [] h = absurd h
  models_list (cons t ts) (v ∷ vs) h = h.0 a∷ models_list ts vs h.1

  pub models_trees : {C : Type 0} {ρ : List Value} {vs : List Value} {es : List Expression} → All2 (Models C ρ) vs es
      → ModelsAll C ρ (from_list es) vs
  models_trees a[] = tt
  models_trees (h a∷ hs) = (h, models_trees hs)

  -- a value is no larger than some alternative of its expression's form
  module _ (light : Light s) (C : Type 0) (ρ : List Value) (wide : length ρ ≤ 16) where
    variable_size : (k : ℕ) (v : Value) → slice_get ρ k ≡ Some v → value_at (sizes s ρ) (variable_only k) ≡ size s v
    variable_size k v h = variable_value (sizes s ρ) k (le_trans (at_less ρ k h) wide) ∙ at_mapped (size s) ρ k h

    mutual
      unfolding form_of built_form called_form

      pub models_under : (e : Expression) (v : Value) → Models C ρ v e → Under (sizes s ρ) (size s v) (form_of s e)
      models_under (node (variable k) ts) v h = here {x = variable_only k} (le_of_eq (sym (variable_size k v h)))
      models_under (node (known c) ts) v h =
          rw (h.3, h.1, size_made s light c h.2 h.3 h.0 h.4)
          (substituted_under (sizes s ρ) (replicate (length h.2.arguments) 1) h.2.weight
          (models_under_all ts (to_list h.0) h.5))
      models_under (node (built c) ts) v h =
          rw (h.3, h.1, size_made s light c h.2 h.3 h.0 h.4)
          (substituted_under (sizes s ρ) (replicate (length h.2.arguments) 1) h.2.weight
          (models_under_all ts (to_list h.0) h.5))
      models_under (node (called g) ts) v h =
          rw h.3 (into_under (sizes s ρ) h.2.bound (size s v) (models_under_all ts h.0 h.5) h.4)

      models_under_all : (ts : Trees Symbol) (vs : List Value) → ModelsAll C ρ ts vs → All2 (Under (sizes s ρ)) (sizes s vs) (forms_of s ts)
      models_under_all nil [] h = a[]
      models_under_all nil (v ∷ vs) h = absurd h
      models_under_all (cons t ts) [] h = absurd h
      models_under_all (cons t ts) (v ∷ vs) h = models_under t v h.0 a∷ models_under_all ts vs h.1

    -- what is under the bound at the arguments is under the form of the call
    pub called_under : (g : ℕ) (f : Function) → function s g ≡ Some f → (ts : Trees Symbol) (us : List Value) → ModelsAll C ρ ts us
        → (n : ℕ) → Under (sizes s us) n f.bound → Under (sizes s ρ) n (form_of s (node (called g) ts))
    unfolding form_of called_form
    called_under g f e ts us h n u = rw e (into_under (sizes s ρ) f.bound n (models_under_all ts us h) u)

  -- and no smaller than each, where no call comes up
  module _ (light : Light s) (ρ : List Value) (wide : length ρ ≤ 16) where
    mutual
      unfolding form_of built_form called_form

      pub models_over : (e : Expression) (v : Value) → Models ⊥ ρ v e → Over (sizes s ρ) (size s v) (form_of s e)
      models_over (node (variable k) ts) v h = ◌l∷◌ {x = variable_only k} (le_of_eq (variable_size light ⊥ ρ wide k v h)) l[]
      models_over (node (known c) ts) v h =
          rw (h.3, h.1, size_made s light c h.2 h.3 h.0 h.4)
          (substituted_over (sizes s ρ) (replicate (length h.2.arguments) 1) h.2.weight (models_over_all ts (to_list h.0) h.5))
      models_over (node (built c) ts) v h =
          rw (h.3, h.1, size_made s light c h.2 h.3 h.0 h.4)
          (substituted_over (sizes s ρ) (replicate (length h.2.arguments) 1) h.2.weight (models_over_all ts (to_list h.0) h.5))
      models_over (node (called g) ts) v h = absurd h.1

      models_over_all : (ts : Trees Symbol) (vs : List Value) → ModelsAll ⊥ ρ ts vs → All2 (Over (sizes s ρ)) (sizes s vs) (forms_of s ts)
      models_over_all nil [] h = a[]
      models_over_all nil (v ∷ vs) h = absurd h
      models_over_all (cons t ts) [] h = absurd h
      models_over_all (cons t ts) (v ∷ vs) h = models_over t v h.0 a∷ models_over_all ts vs h.1

  -- an expression for a variable, and values for more variables
  module _ (C : Type 0) (ρ more : List Value) (k : ℕ) (w : Value) (at_k : slice_get ρ k ≡ Some w) (e' : Expression)
      (is : Models C (ρ ++ more) w e') where
    mutual
      unfolding replace

      models_replace : (e : Expression) (v : Value) → Models C ρ v e → Models C (ρ ++ more) v (replace k e' e)
      models_replace (node (variable j) ts) v h = one (eqb j k) refl
        where
          one : (b : Bool) → eqb j k ≡ b → Models C (ρ ++ more) v (if b then e' else node (variable j) ts)
          one true eq = let same : w ≡ v = some_inj (sym at_k ∙ rw (← eqb-true j k eq) h) in rw (← same) is
          one false eq = at_append ρ more j h
      models_replace (node (known c) ts) v h = (h.0, h.1, h.2, h.3, h.4, models_replace_all ts (to_list h.0) h.5)
      models_replace (node (built c) ts) v h = (h.0, h.1, h.2, h.3, h.4, models_replace_all ts (to_list h.0) h.5)
      models_replace (node (called g) ts) v h = (h.0, h.1, h.2, h.3, h.4, models_replace_all ts h.0 h.5)

      models_replace_all : (ts : Trees Symbol) (vs : List Value) → ModelsAll C ρ ts vs → ModelsAll C (ρ ++ more) (replace_all k e' ts) vs
      models_replace_all nil [] h = tt
      models_replace_all nil (v ∷ vs) h = absurd h
      models_replace_all (cons t ts) [] h = absurd h
      models_replace_all (cons t ts) (v ∷ vs) h = (models_replace t v h.0, models_replace_all ts vs h.1)

    pub models_replaced : {vs : List Value} {es : List Expression} → All2 (Models C ρ) vs es
        → All2 (Models C (ρ ++ more)) vs (map (replace k e') es)
    models_replaced a[] = a[]
    models_replaced (◌a∷◌ {x} {y} h hs) = models_replace y x h a∷ models_replaced hs

  -- values for fresh variables
  pub models_fresh : {C : Type 0} (ρ vs : List Value) → All2 (Models C (ρ ++ vs)) vs (variables (length ρ) (length vs))
  unfolding variables
  models_fresh ρ [] = a[]
  models_fresh {C} ρ (v ∷ vs) =
      let later : All2 (Models C ((ρ ++ v ∷ []) ++ vs)) vs (variables (length (ρ ++ v ∷ [])) (length vs)) = models_fresh (ρ ++ v ∷ []) vs in
      let len : length (ρ ++ v ∷ []) ≡ suc (length ρ) = length-append ρ (v ∷ []) ∙ omega arith in
      at_end ρ vs v a∷ (rw (len, append_assoc ρ (v ∷ []) vs) at later)
