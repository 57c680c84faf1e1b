-- The flow rules, 7, as relations: of paths and arrivals. Document 01, "Flow"; 001's restrictions on the flow graph.
use Rattle.std.specs.Prelude.{◌≡◌, List, ℕ, ◌+◌, ◌≤◌, ◌<◌, length, Some}
use Rattle.rules.specs.declared.records.Instruction.{Instruction}
use Rattle.rules.specs.declared.records.Instruction.TheVariants.{Load, Build, Call, Branch, Return, Stop}
use Rattle.rules.specs.Stacks.{slot}
use Rattle.rules.specs.Walk.{targets, hits}

abbrev pub Makes : Instruction → Type 0
Makes (Load a) = ⊥
Makes (Build c) = Unit {0}
Makes (Call g) = Unit {0}
Makes (Branch c b) = ⊥
Makes Return = ⊥
Makes Stop = ⊥

module _ (code : List Instruction) where
  -- j can follow instruction i, which is earlier
  pub record Leads (i j : ℕ) : Type 0 where
    pub ins : Instruction
    pub stands : slot i code ≡ Some ins
    pub names : 1 ≤ hits j (targets i ins)
    pub ahead : i < j

  -- a path to j passes a build or call
  pub data Behind : ℕ → Type 0 where
    made : {i j : ℕ} (l : Leads i j) → Makes l.ins → Behind j
    on : {i j : ℕ} → Behind i → Leads i j → Behind j

  -- "exactly one" arrival: from one earlier instruction, which names it once
  pub record OneArrival (j : ℕ) : Type 0 where
    pub from : ℕ
    pub leads : Leads from j
    pub once : hits j (targets from leads.ins) ≤ 1
    pub alone : (i : ℕ) → Leads i j → i ≡ from

  -- "Any instruction but return and stop has one after it. A branch target lies in i + 2 to L"; "No branch follows a build or call on its
  -- path"
  abbrev pub GoesOn : ℕ → Instruction → Type 0
  GoesOn i (Load a) = i < length code
  GoesOn i (Build c) = i < length code
  GoesOn i (Call g) = i < length code
  GoesOn i (Branch c b) = (i + 2 ≤ b) × (b ≤ length code) × (Behind i → ⊥)
  GoesOn i Return = Unit {0}
  GoesOn i Stop = Unit {0}

  -- "Counting arrivals from earlier instructions, each instruction from 2 on has exactly one"
  pub record Flows (i : ℕ) (ins : Instruction) : Type 0 where
    pub arrival : 2 ≤ i → OneArrival i
    pub goes : GoesOn i ins

  abbrev pub AllFlow : Type 0
  AllFlow = (i : ℕ) (ins : Instruction) → slot i code ≡ Some ins → Flows i ins

  -- the rules hold before instruction i, and not at it
  pub record FlowFails (i : ℕ) : Type 0 where
    pub before : (j : ℕ) (ins : Instruction) → j < i → slot j code ≡ Some ins → Flows j ins
    pub ins : Instruction
    pub stands : slot i code ≡ Some ins
    pub here : Flows i ins → ⊥
