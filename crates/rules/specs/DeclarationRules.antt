-- Numbers 5 and 6 in document 01's own words: relations on a program, beside the passes that compute an answer.
-- `declarations_exact` and `bounds_exact` of proofs/DeclarationsExact.antt show that the two agree on every program.
use Rattle.std.specs.Prelude.{◌≡◌, List, ℕ, ◌≤◌, ◌<◌, length, Some}
use Rattle.rules.specs.declared.records.Alternative.{Alternative}
use Rattle.rules.specs.Base.{Refusal, refusal, Decides}
use Rattle.rules.specs.Lists.{All, Any}
use Rattle.rules.specs.Program.{Constructor, Function, Program, arity, constructor, function}
use Rattle.rules.specs.Stacks.{slot}
use Rattle.rules.specs.Declarations.{declarations_right, bounds_right}

---- 5: "type not below T, or weight wrong. (0, constructor) or (1, function)"

-- a result type and argument types are among so many types
abbrev pub TypesBelow : ℕ → ℕ → List ℕ → Type 0
TypesBelow types result arguments = (result < types) × All (λ t. t < types) arguments

-- "Weight is 0 for arity 0, else 1-255"; a byte is at most 255
abbrev pub WeightOk : ℕ → ℕ → Type 0
WeightOk arity weight = (arity ≡ 0 → weight ≡ 0) × (1 ≤ arity → 1 ≤ weight)

abbrev pub ConstructorOk : ℕ → Constructor → Type 0
ConstructorOk types k = TypesBelow types k.result k.arguments × WeightOk (length k.arguments) k.weight

abbrev pub SignatureOk : ℕ → Function → Type 0
SignatureOk types f = TypesBelow types f.result f.parameters

pub record DeclarationsHold (s : Program) : Type 0 where
  pub constructors : (c : ℕ) (k : Constructor) → constructor s c ≡ Some k → ConstructorOk s.types k
  pub signatures : (g : ℕ) (f : Function) → function s g ≡ Some f → SignatureOk s.types f

-- "over the whole sheet in file order": the constructors come before the functions, and the first that is wrong counts
pub data DeclarationsFail (s : Program) : Refusal → Type 0 where
  constructor_wrong : {c : ℕ} {k : Constructor} → constructor s c ≡ Some k
      → ((b : ℕ) (j : Constructor) → b < c → constructor s b ≡ Some j → ConstructorOk s.types j)
      → ¬ ConstructorOk s.types k → DeclarationsFail s (refusal 5 0 c)
  signature_wrong : {g : ℕ} {f : Function} → ((b : ℕ) (j : Constructor) → constructor s b ≡ Some j → ConstructorOk s.types j)
      → function s g ≡ Some f → ((b : ℕ) (j : Function) → b < g → function s b ≡ Some j → SignatureOk s.types j)
      → ¬ SignatureOk s.types f → DeclarationsFail s (refusal 5 1 g)

-- the pass for 5 passes just where the declarations hold, and refuses just as they fail
abbrev pub DeclarationsExact : Type 0
DeclarationsExact = (s : Program) → Decides (declarations_right s) (DeclarationsHold s) (DeclarationsFail s)

---- 6: "argument missing from the bound. (function, argument from 1)"

-- "Each argument must have a coefficient of 1 or more in some alternative": argument k, from 1
abbrev pub Counts : List Alternative → ℕ → Type 0
Counts bound k = Any (λ a. (m : ℕ) × (slot k a.coefficients ≡ Some m) × (1 ≤ m)) bound

-- a function's arguments are all in its bound
abbrev pub AllCount : Function → Type 0
AllCount f = (k : ℕ) → 1 ≤ k → k ≤ arity f → Counts f.bound k

pub record BoundsHold (s : Program) : Type 0 where
  pub counted : (g : ℕ) (f : Function) → function s g ≡ Some f → AllCount f

-- the first function, and in it the first argument
pub data BoundsFail (s : Program) : Refusal → Type 0 where
  missing : {g k : ℕ} {f : Function} → function s g ≡ Some f → ((b : ℕ) (j : Function) → b < g → function s b ≡ Some j → AllCount j)
      → 1 ≤ k → k ≤ arity f → ((i : ℕ) → 1 ≤ i → i < k → Counts f.bound i) → ¬ Counts f.bound k → BoundsFail s (refusal 6 g k)

-- the pass for 6 passes just where the bounds hold, and refuses just as they fail
abbrev pub BoundsExact : Type 0
BoundsExact = (s : Program) → Decides (bounds_right s) (BoundsHold s) (BoundsFail s)
