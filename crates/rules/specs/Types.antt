-- The type rules, 8. Document 01, "Types"; 001, Table 2.
use Rattle.std.specs.Prelude.{List, [], ◌∷◌, ◌++◌, Bool, true, false, ◌&&◌, ℕ, suc, length, leb, eqb, Option}
use Rattle.rules.specs.declared.records.Instruction.{Instruction}
use Rattle.rules.specs.declared.records.Instruction.TheVariants.{Load, Build, Call, Branch, Return, Stop}
use Rattle.rules.specs.Base.{Refusal, refusal, Tried, found, ◌>>=◌, Check, require, or_refuse, each}
use Rattle.rules.specs.Program.{Function, Program, constructor, function}
use Rattle.rules.specs.Stacks.{slot, split, push}
use Rattle.rules.specs.Walk.{Arrow, root_at, state_at, judged}

-- The state along a path is the stack's types.

unfoldable pub same : List ℕ → List ℕ → Bool
same [] [] = true
same [] (y ∷ ys) = false
same (x ∷ xs) [] = false
same (x ∷ xs) (y ∷ ys) = eqb x y && same xs ys

-- function number n
module _ (s : Program) (n : ℕ) (f : Function) where
  -- "8: types, height, slot, unknown constructor or function. .. (function, instruction)"
  abbrev here : ℕ → Refusal
  here i = refusal 8 n i

  -- what is below, where the stack ends in these types, "first argument deepest"
  unfoldable pub below : ℕ → List ℕ → List ℕ → Tried (List ℕ)
  below i types stack = do
    parts ← or_refuse (split (length types) stack) (here i)
    _ ← require (same parts.1 types) (here i)
    found parts.0

  -- "height never passes 16, and the place is the instruction that would make 17"
  unfoldable pub types_on : ℕ → List ℕ → Tried (List (Arrow (List ℕ)))
  types_on i stack = do
    _ ← require (leb (length stack) 16) (here i)
    found ((suc i, stack) ∷ [])

  unfoldable pub type_rule : ℕ → Instruction → List ℕ → Tried (List (Arrow (List ℕ)))
  type_rule i (Load a) stack = do
    t ← or_refuse (slot a stack) (here i)
    types_on i (push stack t)
  type_rule i (Build c) stack = do
    k ← or_refuse (constructor s c) (here i)
    rest ← below i k.arguments stack
    types_on i (push rest k.result)
  type_rule i (Call g) stack = do
    k ← or_refuse (function s g) (here i)
    rest ← below i k.parameters stack
    types_on i (push rest k.result)
  type_rule i (Branch c b) stack = do
    k ← or_refuse (constructor s c) (here i)
    rest ← below i (k.result ∷ []) stack
    on ← types_on i (rest ++ k.arguments)
    found (on ++ ((b, stack) ∷ []))
  type_rule i Return stack = do
    rest ← below i (f.result ∷ []) stack
    found []
  type_rule i Stop stack = found []

-- the stack's types at instruction i of function n, if it has a state
abbrev pub types_at : Program → ℕ → Function → ℕ → Option (List ℕ)
types_at s n f i = state_at (type_rule s n f) (root_at 1 f.parameters) f.code i

unfoldable pub types_of : Program → ℕ → Function → Check
types_of s n f = judged (type_rule s n f) (root_at 1 f.parameters) f.code

unfoldable pub types_right : Program → Check
types_right s = each (types_of s) 0 s.functions
