-- The walk for 10 and 9 as the code makes it, in file order with the arrows so far, and what is left of it from an instruction on: its
-- outcome, which decides by the first state that arrives at each instruction. `walk_judged` says that it judges as the rules do.
use Rattle.std.specs.Prelude.{◌≡◌, List, [], ◌∷◌, ◌++◌, ℕ, suc, ◌-◌, ◌≤◌, drop}
use Rattle.rules.specs.declared.records.Instruction.{Instruction}
use Rattle.rules.specs.Base.{Tried, found, ◌>>=◌, Check, only}
use Rattle.rules.specs.Program.{Function, Program}
use Rattle.rules.specs.Walk.{Arrow, arriving, first}
use Rattle.rules.specs.Shapes.{Shape, shape_rule}

module _ {S : Type 0} where
  -- a rule for the one state that arrives; where none does, the instruction is not visited
  abbrev pub visited : (ℕ → Instruction → S → Tried (List (Arrow S))) → ℕ → Instruction → List S → Tried (List (Arrow S))
  visited rule i ins [] = found []
  visited rule i ins (a ∷ more) = rule i ins a

  -- a rule at each instruction from number i on: what arrived at each, or the first refusal
  unfoldable pub walk : (ℕ → Instruction → List S → Tried (List (Arrow S))) → ℕ → List (Arrow S) → List Instruction → Tried (List (List S))
  walk rule i arrows [] = found []
  walk rule i arrows (ins ∷ code) = do
    leaving ← rule i ins (arriving i arrows)
    later ← walk rule (suc i) (leaving ++ arrows) code
    found (arriving i arrows ∷ later)

  unfoldable pub outcome : (ℕ → Instruction → S → Tried (List (Arrow S))) → List Instruction → ℕ → List (Arrow S) → Check
  outcome rule code i arrows = only (walk (visited rule) i arrows (drop (i - 1) code))

  -- the same state arrives first at each instruction from i on
  abbrev pub Alike : ℕ → List (Arrow S) → List (Arrow S) → Type 0
  Alike i A B = (j : ℕ) → i ≤ j → first (arriving j A) ≡ first (arriving j B)

-- what is left of the walk for 10 and 9 over function g
abbrev pub left_from : Program → ℕ → Function → ℕ → List (Arrow Shape) → Check
left_from s g f i arrows = outcome (shape_rule s g f) f.code i arrows
