-- Values: their sizes and types, and a size bound at given sizes. Document 01, "Weighted size" and "The machine".
use Rattle.std.specs.Prelude.{◌≡◌, List, [], ◌∷◌, map, ℕ, ◌+◌, ◌*◌, max, Option, None, Some}
use Rattle.rules.specs.declared.records.Alternative.{Alternative}
use Rattle.rules.specs.Lists.{All2}
use Rattle.rules.specs.Program.{Constructor, Program, constructor}
use Rattle.rules.specs.Tree.{Trees, node, nil, cons}
use Rattle.rules.specs.Machine.{Value}

-- "0 for arity 0, else weight plus the arguments' weighted sizes": a constructor over these arguments, whose sizes add up to n
abbrev pub weighted : Option Constructor → Trees ℕ → ℕ → ℕ
weighted k nil n = 0
weighted None (cons v vs) n = n
weighted (Some k) (cons v vs) n = k.weight + n

module _ (s : Program) where
  -- document 01's weighted size
  abbrev mutual
    pub size : Value → ℕ
    size (node c vs) = weighted (constructor s c) vs (size_of_all vs)

    pub size_of_all : Trees ℕ → ℕ
    size_of_all nil = 0
    size_of_all (cons v vs) = size v + size_of_all vs

  abbrev pub sizes : List Value → List ℕ
  sizes vs = map size vs

  -- "A value is of a type if its constructor's result is that type and its arguments are, one for one, of the types declared there"
  abbrev mutual
    pub Has : Value → ℕ → Type 0
    Has (node c vs) t = (k : Constructor) × (constructor s c ≡ Some k) × (k.result ≡ t) × AllHave vs k.arguments

    pub AllHave : Trees ℕ → List ℕ → Type 0
    AllHave nil [] = Unit {0}
    AllHave nil (t ∷ ts) = ⊥
    AllHave (cons v vs) [] = ⊥
    AllHave (cons v vs) (t ∷ ts) = Has v t × AllHave vs ts

  -- values of these types, one for one
  abbrev pub Typed : List Value → List ℕ → Type 0
  Typed vs ts = All2 Has vs ts

---- "A function's bound is the largest of its alternatives, each the constant plus coefficient × argument size"

-- the sum of coefficient × size
abbrev pub dot : List ℕ → List ℕ → ℕ
dot [] sizes = 0
dot (a ∷ xs) [] = 0
dot (a ∷ xs) (z ∷ sizes) = a * z + dot xs sizes

abbrev pub value_at : List ℕ → Alternative → ℕ
value_at sizes a = a.constant + dot a.coefficients sizes

abbrev pub bound_at : List Alternative → List ℕ → ℕ
bound_at [] sizes = 0
bound_at (a ∷ more) sizes = max (value_at sizes a) (bound_at more sizes)
