-- Expressions and substitution, in which 001 describes what stands on a stack. 001, sections 2 and 5.
use Rattle.std.specs.Prelude.{if◌then◌else◌, List, [], ◌∷◌, ℕ, zero, suc, eqb}
use Rattle.rules.specs.Tree.{Tree, Trees, node, nil, cons}

-- e ::= x | c(e, .., e) | f(e, .., e): a variable, or a constructor or a function over expressions. A constructor is known by a split, or
-- built by the function itself
pub data Symbol : Type 0 where
  variable known built called : ℕ → Symbol

abbrev pub Expression : Type 0
Expression = Tree Symbol

-- n variables, numbered from k on
unfoldable pub variables : ℕ → ℕ → List Expression
variables k zero = []
variables k (suc n) = node (variable k) nil ∷ variables (suc k) n

-- the substitution [e/x] of e for variable k
unfoldable mutual
  pub replace : ℕ → Expression → Expression → Expression
  replace k e (node (variable j) ts) = if eqb j k then e else node (variable j) ts
  replace k e (node (known c) ts) = node (known c) (replace_all k e ts)
  replace k e (node (built c) ts) = node (built c) (replace_all k e ts)
  replace k e (node (called g) ts) = node (called g) (replace_all k e ts)

  pub replace_all : ℕ → Expression → Trees Symbol → Trees Symbol
  replace_all k e nil = nil
  replace_all k e (cons t ts) = cons (replace k e t) (replace_all k e ts)

-- what holds of each symbol in an expression with what stands under it
abbrev mutual
  pub Every : (Symbol → Trees Symbol → Type 0) → Expression → Type 0
  Every P (node y ts) = P y ts × EveryIn P ts

  pub EveryIn : (Symbol → Trees Symbol → Type 0) → Trees Symbol → Type 0
  EveryIn P nil = Unit {0}
  EveryIn P (cons t ts) = Every P t × EveryIn P ts
