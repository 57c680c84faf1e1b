-- The rules on what is declared: types and weights (5), and arguments in the size bound (6). Document 01, "The file" and "Weighted size".
use Rattle.std.specs.Prelude.{List, ◌∷◌, Bool, ◌&&◌, ◌||◌, ℕ, ◌-◌, length, get_or, ltb}
use Rattle.rules.specs.declared.records.Alternative.{Alternative}
use Rattle.rules.specs.Base.{refusal, ◌>>=◌, Check, require, each, is_zero, all, any}
use Rattle.rules.specs.Program.{Constructor, Function, Program}

---- 5: "type not below T, or weight wrong. (0, constructor) or (1, function)"

abbrev pub all_below : ℕ → List ℕ → Bool
all_below types ts = all (λ t. ltb t types) ts

-- "Weight is 0 for arity 0, else 1-255"
unfoldable pub weight_right : Constructor → Bool
weight_right k = is_zero (length k.arguments) && is_zero k.weight || ltb 0 (length k.arguments) && ltb 0 k.weight

unfoldable pub constructor_rule : ℕ → ℕ → Constructor → Check
constructor_rule types c k = require (all_below types (k.result ∷ k.arguments) && weight_right k) (refusal 5 0 c)

unfoldable pub signature_rule : ℕ → ℕ → Function → Check
signature_rule types n f = require (all_below types (f.result ∷ f.parameters)) (refusal 5 1 n)

unfoldable pub declarations_right : Program → Check
declarations_right s = do
  _ ← each (constructor_rule s.types) 0 s.constructors
  each (signature_rule s.types) 0 s.functions

---- 6: "argument missing from the bound. (function, argument from 1)"

-- "Each argument must have a coefficient of 1 or more in some alternative": argument k from 1
unfoldable pub counted : ℕ → List Alternative → Bool
counted k bound = any (λ a. ltb 0 (get_or a.coefficients (k - 1) 0)) bound

unfoldable pub argument_rule : ℕ → Function → ℕ → ℕ → Check
argument_rule n f k t = require (counted k f.bound) (refusal 6 n k)

unfoldable pub bound_rule : ℕ → Function → Check
bound_rule n f = each (argument_rule n f) 1 f.parameters

unfoldable pub bounds_right : Program → Check
bounds_right s = each bound_rule 0 s.functions
