-- 001's assignment q, which gives each expression a size where its variables have sizes, and the condition of its Definition 3.
use Rattle.std.specs.Prelude.{List, [], ◌∷◌, map, ℕ, ◌+◌, ◌≤◌, get_or, Option, None, Some}
use Rattle.rules.specs.Lists.{All}
use Rattle.rules.specs.Program.{Constructor, Function, Program, constructor, function}
use Rattle.rules.specs.Tree.{Trees, node, nil, cons}
use Rattle.rules.specs.Expressions.{Symbol, variable, known, built, called, Expression}
use Rattle.rules.specs.Values.{bound_at}
use Rattle.rules.specs.Shapes.{Shape}

abbrev pub total : List ℕ → ℕ
total [] = 0
total (n ∷ ns) = n + total ns

-- "if c is a constant then q_c is the constant 0"; "if c is a constructor with arity n ≥ 1 then q_c(x_1, .., x_n) = d + the sum of the x_i"
abbrev pub of_constructor : Option Constructor → List ℕ → ℕ
of_constructor o [] = 0
of_constructor None (n ∷ ns) = 0
of_constructor (Some k) (n ∷ ns) = k.weight + total (n ∷ ns)

-- q_f: the function's size bound
abbrev pub of_function : Option Function → List ℕ → ℕ
of_function None ns = 0
of_function (Some f) ns = bound_at f.bound ns

-- "q_x = x, q_{c(e_1, .., e_n)} = q_c(q_{e_1}, .., q_{e_n}), and q_{f(e_1, .., e_n)} = q_f(q_{e_1}, .., q_{e_n})", at these sizes of
-- variables
module _ (s : Program) (sizes : List ℕ) where
  abbrev mutual
    pub quasi : Expression → ℕ
    quasi (node (variable k) ts) = get_or sizes k 0
    quasi (node (known c) ts) = of_constructor (constructor s c) (quasis ts)
    quasi (node (built c) ts) = of_constructor (constructor s c) (quasis ts)
    quasi (node (called g) ts) = of_function (function s g) (quasis ts)

    pub quasis : Trees Symbol → List ℕ
    quasis nil = []
    quasis (cons t ts) = quasi t ∷ quasis ts

  -- "∀ j ∈ 1..h_i: q_f(q_{σ_i(x_{1,1})}, .., q_{σ_i(x_{1,ar(f)})}) ≥ q_{e_j}"
  abbrev pub Correct : Function → Shape → Type 0
  Correct f x = All (λ e. quasi e ≤ bound_at f.bound (map quasi x.parameters)) x.stack
