-- The flow rules, 7. Document 01, "Flow".
use Rattle.std.specs.Prelude.{List, [], ◌∷◌, Bool, true, false, not, ◌&&◌, ◌||◌, ℕ, suc, ◌+◌, length, ltb, eqb, Option}
use Rattle.rules.specs.declared.records.Instruction.{Instruction}
use Rattle.rules.specs.declared.records.Instruction.TheVariants.{Load, Build, Call, Branch, Return, Stop}
use Rattle.rules.specs.Base.{refusal, Tried, found, Check, require, each, within}
use Rattle.rules.specs.Program.{Function, Program}
use Rattle.rules.specs.Records.{or_else}
use Rattle.rules.specs.Walk.{Arrow, arrivals, root_at, state_at, along}

-- the state along a path says whether a build or call has been passed
unfoldable pub passing : ℕ → Instruction → Bool → Tried (List (Arrow Bool))
passing i (Load a) past = found ((suc i, past) ∷ [])
passing i (Build c) past = found ((suc i, true) ∷ [])
passing i (Call g) past = found ((suc i, true) ∷ [])
passing i (Branch c b) past = found ((suc i, past) ∷ (b, past) ∷ [])
passing i Return past = found []
passing i Stop past = found []

-- "Any instruction but return and stop has one after it. A branch target lies in i + 2 to L"; "No branch follows a build or call on its
-- path": instruction i, where L is the last
unfoldable pub leaves_right : ℕ → ℕ → Instruction → Bool → Bool
leaves_right last i (Load a) past = ltb i last
leaves_right last i (Build c) past = ltb i last
leaves_right last i (Call g) past = ltb i last
leaves_right last i (Branch c b) past = within (i + 2) last b && not past
leaves_right last i Return past = true
leaves_right last i Stop past = true

module _ (code : List Instruction) where
  -- "Counting arrivals from earlier instructions, each instruction from 2 on has exactly one"
  unfoldable pub arrives_right : ℕ → Bool
  arrives_right i = eqb i 1 || eqb (arrivals code i) 1

  -- the state at instruction i: whether a build or call is on the path to it
  abbrev pub past_at : ℕ → Option Bool
  past_at i = state_at passing (root_at 1 false) code i

  -- instruction i of function n. (Behind a wrong arrival there is no path to speak of)
  unfoldable pub flow_rule : ℕ → ℕ → Instruction → Option Bool → Check
  flow_rule n i ins past = require (arrives_right i && leaves_right (length code) i ins (or_else past false)) (refusal 7 n i)

unfoldable pub flow_of : ℕ → Function → Check
flow_of n f = along passing (root_at 1 false) f.code (flow_rule f.code n)

unfoldable pub flow_right : Program → Check
flow_right s = each flow_of 0 s.functions
