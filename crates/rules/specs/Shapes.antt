-- The shape walk, with the cover test, 10, and the limits on variables and alternatives, 9. Document 01, "Shape"; 001, Table 3.
use Rattle.std.specs.Prelude.{if◌then◌else◌, List, [], ◌∷◌, ◌++◌, map, Bool, ℕ, suc, ◌+◌, length, leb, eqb, Option}
use Rattle.rules.specs.declared.records.Alternative.{Alternative}
use Rattle.rules.specs.declared.records.Instruction.{Instruction}
use Rattle.rules.specs.declared.records.Instruction.TheVariants.{Load, Build, Call, Branch, Return, Stop}
use Rattle.rules.specs.Base.{refusal, Tried, found, refused, ◌>>=◌, Check, require, or_refuse, each, all}
use Rattle.rules.specs.Program.{Function, Program, arity, constructor, function}
use Rattle.rules.specs.Tree.{node, to_list, made}
use Rattle.rules.specs.Stacks.{slot, split, push}
use Rattle.rules.specs.Walk.{Arrow, root_at, state_at, judged}
use Rattle.rules.specs.Expressions.{Symbol, variable, known, built, called, Expression, variables, replace}
use Rattle.rules.specs.Forms.{into_bound, form_of, covers}

-- the state along a path: what 001 calls σ and E
pub record Shape : Type 0 where
  pub parameters : List Expression  -- the shape of each parameter: σ of the parameter's variable
  pub count : ℕ  -- the variables so far on the path, "parameters and those already split included"
  pub stack : List Expression  -- E: what stands on the stack
  pub bound : List Alternative  -- the size bound of the path's root, which is the function's own

-- the same parameters and variables under another stack
abbrev pub with_stack : Shape → List Expression → Shape
with_stack sh stack = record { parameters = sh.parameters; count = sh.count; stack = stack; bound = sh.bound }

-- variable k is split by constructor c with so many arguments, which are fresh variables: σ' = [c(x, ..)/x]
unfoldable pub split_variable : Shape → List Expression → ℕ → ℕ → ℕ → Shape
split_variable sh rest k c args =
    let fresh = variables sh.count args in
    let e : Expression = made (known c) fresh in
    record {
      parameters = map (replace k e) sh.parameters;
      count = sh.count + args;
      stack = map (replace k e) rest ++ fresh;
      bound = sh.bound;
    }

-- "At each visited instruction, every alternative of every stack entry" is covered by "the function's own bound at its parameters' current
-- shapes"
unfoldable pub covered_at : Program → Shape → Bool
covered_at s sh = all (λ e. covers (into_bound sh.bound (map (form_of s) sh.parameters)) (form_of s e)) sh.stack

-- function number n. (What 7 and 8 have refused does not come up here: it is refused again by the same number)
module _ (s : Program) (n : ℕ) (f : Function) where
  -- a new entry in place of the top arguments: "a form has at most 16"
  unfoldable pub enter : ℕ → Shape → ℕ → Symbol → Tried (List (Arrow Shape))
  enter i sh args symbol = do
    parts ← or_refuse (split args sh.stack) (refusal 8 n i)
    let e : Expression = made symbol parts.1
    _ ← require (leb (length (form_of s e)) 16) (refusal 9 n i)
    found ((suc i, with_stack sh (push parts.0 e)) ∷ [])

  -- a branch on constructor c, else b, with so many arguments: both sides where the top is a variable, "Variables on one path .. are at
  -- most 16"; "A branch on a known constructor visits only the side that can be taken"
  unfoldable pub branch_on : ℕ → Shape → List Expression → ℕ → ℕ → ℕ → List Expression → Tried (List (Arrow Shape))
  branch_on i sh rest c args b [] = refused (refusal 8 n i)
  branch_on i sh rest c args b (node (variable k) ts ∷ more) = do
    _ ← require (leb (sh.count + args) 16) (refusal 9 n i)
    found ((suc i, split_variable sh rest k c args) ∷ (b, sh) ∷ [])
  branch_on i sh rest c args b (node (known d) ts ∷ more) =
      found ((if eqb d c then (suc i, with_stack sh (rest ++ to_list ts)) else (b, sh)) ∷ [])
  branch_on i sh rest c args b (node (built d) ts ∷ more) = refused (refusal 7 n i)
  branch_on i sh rest c args b (node (called g) ts ∷ more) = refused (refusal 7 n i)

  unfoldable pub shape_from : ℕ → Instruction → Shape → Tried (List (Arrow Shape))
  shape_from i (Load a) sh = do
    e ← or_refuse (slot a sh.stack) (refusal 8 n i)
    found ((suc i, with_stack sh (push sh.stack e)) ∷ [])
  shape_from i (Build c) sh = do
    k ← or_refuse (constructor s c) (refusal 8 n i)
    enter i sh (length k.arguments) (built c)
  shape_from i (Call g) sh = do
    k ← or_refuse (function s g) (refusal 8 n i)
    enter i sh (length k.parameters) (called g)
  shape_from i (Branch c b) sh = do
    k ← or_refuse (constructor s c) (refusal 8 n i)
    parts ← or_refuse (split 1 sh.stack) (refusal 8 n i)
    branch_on i sh parts.0 c (length k.arguments) b parts.1
  shape_from i Return sh = found []
  shape_from i Stop sh = found []

  -- "one walk in file order for 10 and 9, at an instruction the arriving entries first"
  unfoldable pub shape_rule : ℕ → Instruction → Shape → Tried (List (Arrow Shape))
  shape_rule i ins sh = do
    _ ← require (covered_at s sh) (refusal 10 n i)
    shape_from i ins sh

-- σ is the identity, and E the parameters' variables
unfoldable pub start_shape : Function → Shape
start_shape f = let params = variables 0 (arity f) in record { parameters = params; count = arity f; stack = params; bound = f.bound }

-- the shape at instruction i of function n, if it is visited
abbrev pub shape_at : Program → ℕ → Function → ℕ → Option Shape
shape_at s n f i = state_at (shape_rule s n f) (root_at 1 (start_shape f)) f.code i

unfoldable pub sizes_of : Program → ℕ → Function → Check
sizes_of s n f = judged (shape_rule s n f) (root_at 1 (start_shape f)) f.code

unfoldable pub sizes_right : Program → Check
sizes_right s = each (sizes_of s) 0 s.functions
