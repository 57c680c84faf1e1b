-- What holds of every symbol in expressions is kept by a substitution, and by taking expressions apart.
use Rattle.std.specs.Prelude.{if◌then◌else◌, Some}
use mathlib.Core.Path.{◌≡◌, refl, ap, ◌∙◌}
use mathlib.Core.List.{List, map}
use mathlib.Core.Bool.{Bool, true, false}
use Prim.Native.Nat.{ℕ, zero, suc}
use lib.ListN.{length}
use lib.Dec.{eqb}
use Rattle.rules.specs.Lists.{All, l[], ◌l∷◌}
use Rattle.rules.specs.Program.{Constructor, Function, Program, constructor, function}
use Rattle.rules.specs.Tree.{Trees, node, nil, cons, to_list, from_list}
use Rattle.rules.specs.Expressions.{Symbol, variable, known, built, called, Expression, variables, replace, replace_all, Every}
use Rattle.rules.specs.Expressions.{EveryIn}
use Rattle.rules.specs.Facts.{Unmade}
use Rattle.rules.proofs.ListLaws.{all_mapped}

replace_length : (k : ℕ) (e : Expression) (ts : Trees Symbol) → length (to_list (replace_all k e ts)) ≡ length (to_list ts)
unfolding replace
replace_length k e nil = refl
replace_length k e (cons t ts) = ap suc (replace_length k e ts)

module _ (P : Symbol → Trees Symbol → Type 0) where
  pub every_list : (ts : Trees Symbol) → EveryIn P ts → All (Every P) (to_list ts)
  every_list nil h = l[]
  every_list (cons t ts) h = ◌l∷◌ {x = t} h.0 (every_list ts h.1)

  pub every_trees : {es : List Expression} → All (Every P) es → EveryIn P (from_list es)
  every_trees l[] = tt
  every_trees (p l∷ ps) = (p, every_trees ps)

  pub every_fresh : ((k : ℕ) → P (variable k) nil) → (b n : ℕ) → All (Every P) (variables b n)
  unfolding variables
  every_fresh h b zero = l[]
  every_fresh h b (suc n) = ◌l∷◌ {x = node (variable b) nil} (h b, tt) (every_fresh h (suc b) n)

  module _ (k : ℕ) (e' : Expression) (p : Every P e') (stable : (y : Symbol) (ts : Trees Symbol) → P y ts → P y (replace_all k e' ts)) where
    mutual
      unfolding replace

      every_replace : (e : Expression) → Every P e → Every P (replace k e' e)
      every_replace (node (variable j) ts) h = one (eqb j k)
        where
          one : (b : Bool) → Every P (if b then e' else node (variable j) ts)
          one true = p
          one false = h
      every_replace (node (known c) ts) h = (stable (known c) ts h.0, every_replace_in ts h.1)
      every_replace (node (built c) ts) h = (stable (built c) ts h.0, every_replace_in ts h.1)
      every_replace (node (called g) ts) h = (stable (called g) ts h.0, every_replace_in ts h.1)

      every_replace_in : (ts : Trees Symbol) → EveryIn P ts → EveryIn P (replace_all k e' ts)
      every_replace_in nil h = tt
      every_replace_in (cons t ts) h = (every_replace t h.0, every_replace_in ts h.1)

    pub every_replaced : {es : List Expression} → All (Every P) es → All (Every P) (map (replace k e') es)
    every_replaced h = all_mapped (replace k e') every_replace h

-- what was not made is still not
pub unmade_stays : (k : ℕ) (e' : Expression) (y : Symbol) (ts : Trees Symbol) → Unmade y ts → Unmade y (replace_all k e' ts)
unmade_stays j e' (variable k) ts h = tt
unmade_stays j e' (known c) ts h = tt
unmade_stays j e' (built c) ts h = absurd h
unmade_stays j e' (called g) ts h = absurd h

---- A constructor and a function have their arguments

module _ (s : Program) where
  abbrev pub HasArguments : Symbol → Trees Symbol → Type 0
  HasArguments (variable k) ts = Unit {0}
  HasArguments (known c) ts = (k : Constructor) × (constructor s c ≡ Some k) × (length (to_list ts) ≡ length k.arguments)
  HasArguments (built c) ts = (k : Constructor) × (constructor s c ≡ Some k) × (length (to_list ts) ≡ length k.arguments)
  HasArguments (called g) ts = (k : Function) × (function s g ≡ Some k) × (length (to_list ts) ≡ length k.parameters)

  abbrev pub Full : Expression → Type 0
  Full e = Every HasArguments e

  pub arguments_stay : (v : ℕ) (e : Expression) (y : Symbol) (ts : Trees Symbol) → HasArguments y ts → HasArguments y (replace_all v e ts)
  arguments_stay v e (variable k) ts h = tt
  arguments_stay v e (known c) ts h = (h.0, h.1, replace_length v e ts ∙ h.2)
  arguments_stay v e (built c) ts h = (h.0, h.1, replace_length v e ts ∙ h.2)
  arguments_stay v e (called g) ts h = (h.0, h.1, replace_length v e ts ∙ h.2)

pub variables_length : (k n : ℕ) → length (variables k n) ≡ n
unfolding variables
variables_length k zero = refl
variables_length k (suc n) = ap suc (variables_length (suc k) n)
