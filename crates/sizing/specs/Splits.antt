-- The splits of a path, oldest first: what a variable stands for after them, and its size.
use Rattle.std.specs.Prelude.{◌≡◌, ℕ, zero, suc, ◌+◌, ◌≤◌, ◌<◌, List, [], ◌∷◌, map, ◌⊎◌, length, get_or, take}
use Rattle.std.specs.Prelude.{Some}
use Rattle.rules.specs.declared.records.Alternative.{Alternative}
use Rattle.rules.specs.Base.{byte_at}
use Rattle.rules.specs.Container.{payload}
use Rattle.rules.specs.Records.{constructor_offset, program_in}
use Rattle.rules.specs.Program.{constructor, Constructor, Function, Program, arity, weight_of}
use Rattle.rules.specs.Tree.{node, nil, made}
use Rattle.rules.specs.Expressions.{Expression, variable, known, variables, replace}
use Rattle.rules.specs.Forms.{added, constant_only, variable_only}
use Rattle.rules.specs.Shapes.{Shape}
use Rattle.sizing.specs.declared.splits.Split.{Split}
use Rattle.sizing.specs.Put.{put, Wide, Bounded, coefficient}

abbrev pub variable_e : ℕ → Expression
variable_e v = node (variable v) nil

-- the expression that a split puts for its variable
abbrev pub split_e : Split → Expression
split_e p = made (known p.constructor) (variables p.first p.parts)

-- an expression after the splits
unfoldable pub through : List Split → Expression → Expression
through [] e = e
through (p ∷ ps) e = through ps (replace p.variable (split_e p) e)

-- n variables from k on, each once, and a weight
unfoldable pub spanned : ℕ → ℕ → ℕ → Alternative
spanned k zero w = constant_only w
spanned k (suc n) w = added 1 (variable_only k) (spanned (suc k) n w)

-- the weight of a split's constructor
abbrev pub weight_in : Program → Split → ℕ
weight_in s p = weight_of (constructor s p.constructor)

abbrev pub split_a : Program → Split → Alternative
split_a s p = spanned p.first p.parts (weight_in s p)

-- an alternative after the splits
unfoldable pub carried : Program → List Split → Alternative → Alternative
carried s [] a = a
carried s (p ∷ ps) a = carried s ps (put p.variable (split_a s p) a)

-- what a split says of its constructor is right
pub record SplitRight (s : Program) (p : Split) : Type 0 where
  pub small : p.variable < 16
  pub declared_as : Constructor
  pub known : constructor s p.constructor ≡ Some declared_as
  pub arity : length declared_as.arguments ≡ p.parts

abbrev pub SplitsRight : Program → List Split → Type 0
SplitsRight s [] = Unit {0}
SplitsRight s (p ∷ ps) = SplitRight s p × SplitsRight s ps

-- the variables are numbered in the order in which they come up: n before the splits, count after them
abbrev pub Numbered : ℕ → List Split → ℕ → Type 0
Numbered n [] count = n ≡ count
Numbered n (p ∷ ps) count = (p.variable < n) × (p.first ≡ n) × Numbered (n + p.parts) ps count

-- variable v is not taken apart
abbrev pub Whole : ℕ → List Split → Type 0
Whole v [] = Unit {0}
Whole v (p ∷ ps) = (v ≡ p.variable → ⊥) × Whole v ps

-- the shape that a stack of variables stands for, in a function
abbrev pub shape_of : Function → List Split → ℕ → List ℕ → Shape
shape_of f ps count stack = record {
  parameters = map (through ps) (variables 0 (arity f));
  count = count;
  stack = map (λ v. through ps (variable_e v)) stack;
  bound = f.bound;
}

-- n variables have come up and stand in the alternative, with coefficients of at most 15; the splits come after
pub record Tidy (n k : ℕ) (a : Alternative) : Type 0 where
  pub wide : Wide a
  pub most : (i : ℕ) → coefficient a i ≤ 15
  pub none : (i : ℕ) → n ≤ i → coefficient a i ≡ 0
  pub constant : a.constant ≤ k

-- tidy, or one variable that has not come up
abbrev pub Loose : ℕ → ℕ → Alternative → Type 0
Loose n k a = Tidy n k a ⊎ ((v : ℕ) × (a ≡ variable_only v) × (n ≤ v) × (v < 16))

abbrev pub no_split : Split
no_split = record { variable = 0; constructor = 0; first = 0; parts = 0 }

-- the weight of a split's constructor stands in its record
pub record WeightThere (file : List ℕ) (p : Split) : Type 0 where
  pub there : constructor_offset p.constructor + 8 ≤ length (payload file)
  pub weight : byte_at (payload file) (constructor_offset p.constructor + 6) ≡ weight_in (program_in file) p
  pub light : weight_in (program_in file) p ≤ 255

-- a split can be carried
pub record SplitAsks (file : List ℕ) (a : Alternative) (p : Split) : Type 0 where
  pub variable : p.variable < 16
  pub parts : p.first + p.parts ≤ 16
  pub bounded : Bounded 15 1048576 a
  pub weight : WeightThere file p

-- the first t of these splits can be carried
pub record Carrying (file : List ℕ) (a : Alternative) (t : ℕ) (ps : List Split) : Type 0 where
  pub start : ℕ
  pub count : ℕ
  pub few : t ≤ 16
  pub narrow : count ≤ 16
  pub loose : Loose start 65535 a
  pub numbered : Numbered start (take t ps) count
  pub long : length ps ≡ 16
  pub weights : (i : ℕ) → i < t → WeightThere file (get_or ps i no_split)
