-- The states along the arrows of a function's flow graph, from its roots on: each instruction is judged in the state that arrives there.
-- The passes for 7, 8 and for 10 and 9 judge so. Document 01, "Flow" and the order of "Numbers".
use Rattle.std.specs.Prelude.{if◌then◌else◌, List, [], ◌∷◌, ◌++◌, ℕ, zero, suc, ◌+◌, ◌-◌, length, take, replicate, get_or, eqb}
use Rattle.std.specs.Prelude.{Option, None, Some}
use Rattle.rules.specs.declared.records.Instruction.{Instruction}
use Rattle.rules.specs.declared.records.Instruction.TheVariants.{Load, Build, Call, Branch, Return, Stop}
use Rattle.rules.specs.Base.{Tried, found, refused, Check, passed, only, each}
use Rattle.rules.specs.Stacks.{slot, push}

---- Who comes before whom

-- what can follow instruction i
abbrev pub targets : ℕ → Instruction → List ℕ
targets i (Load a) = suc i ∷ []
targets i (Build c) = suc i ∷ []
targets i (Call g) = suc i ∷ []
targets i (Branch c b) = suc i ∷ b ∷ []
targets i Return = []
targets i Stop = []

-- how often j is among them
abbrev pub hits : ℕ → List ℕ → ℕ
hits j [] = 0
hits j (t ∷ ts) = (if eqb t j then 1 else 0) + hits j ts

-- the instructions, numbered from i on, that j can follow: each once for each time it names j
unfoldable pub sources : ℕ → ℕ → List Instruction → List ℕ
sources j i [] = []
sources j i (ins ∷ code) = replicate (hits j (targets i ins)) i ++ sources j (suc i) code

abbrev pub first : {A : Type 0} → List A → Option A
first [] = None
first (a ∷ more) = Some a

module _ (code : List Instruction) where
  -- "arrivals from earlier instructions"
  unfoldable pub arriving_from : ℕ → List ℕ
  arriving_from j = sources j 1 (take (j - 1) code)

  unfoldable pub arrivals : ℕ → ℕ
  arrivals j = length (arriving_from j)

  -- the instruction from which j is reached
  unfoldable pub origin : ℕ → Option ℕ
  origin j = first (arriving_from j)

---- The states

-- an arrow to an instruction, with the state that it brings there
abbrev pub Arrow : Type 0 → Type 0
Arrow S = ℕ × S

module _ {S : Type 0} where
  -- the states that arrows bring to instruction j
  unfoldable pub arriving : ℕ → List (Arrow S) → List S
  arriving j [] = []
  arriving j (a ∷ more) = if eqb a.0 j then a.1 ∷ arriving j more else arriving j more

  abbrev pub brought_to : ℕ → Tried (List (Arrow S)) → Option S
  brought_to j (refused r) = None
  brought_to j (found arrows) = first (arriving j arrows)

  -- a root at instruction k, with its state
  abbrev pub root_at : ℕ → S → ℕ → Option S
  root_at k x j = if eqb k j then Some x else None

  abbrev pub or_root : Option S → Option S → Option S
  or_root (Some x) o = Some x
  or_root None o = o

  -- of the states of instructions 1 to n: that of instruction i
  abbrev pub state_of : List (Option S) → ℕ → Option S
  state_of states zero = None
  state_of states (suc d) = get_or states d None

-- a rule says of an instruction's number, itself and the state there which arrows leave it, or refuses. Roots have a state of their own
module _ {S : Type 0} (rule : ℕ → Instruction → S → Tried (List (Arrow S))) (roots : ℕ → Option S) (code : List Instruction) where
  -- what instruction i hands on to j; none behind one that has no state or is refused
  abbrev pub handed : ℕ → ℕ → Option Instruction → Option S → Option S
  handed i j None o = None
  handed i j (Some ins) None = None
  handed i j (Some ins) (Some x) = brought_to j (rule i ins x)

  abbrev pub from_origin : (ℕ → Option S) → ℕ → Option ℕ → Option S
  from_origin held j None = None
  from_origin held j (Some i) = handed i j (slot i code) (held i)

  -- the state at j: a root's own, else what its origin hands on, where these states are held before it
  abbrev pub state_from : (ℕ → Option S) → ℕ → Option S
  state_from held j = or_root (roots j) (from_origin held j (origin code j))

  -- the states of instructions 1 to n, each from those before it: while targets lie ahead, file order is an order
  abbrev one_more : List (Option S) → List (Option S)
  one_more states = push states (state_from (state_of states) (suc (length states)))

  unfoldable pub states : ℕ → List (Option S)
  states zero = []
  states (suc n) = one_more (states n)

  unfoldable pub state_at : ℕ → Option S
  state_at i = state_of (states (length code)) i

  -- a test of each instruction with the state there: the refusal at the least one that fails
  abbrev test_each : (ℕ → Instruction → Option S → Check) → List (Option S) → Check
  test_each test states = each (λ i ins. test i ins (state_of states i)) 1 code

  unfoldable pub along : (ℕ → Instruction → Option S → Check) → Check
  along test = test_each test (states (length code))

  abbrev pub judge : ℕ → Instruction → Option S → Check
  judge i ins None = passed
  judge i ins (Some x) = only (rule i ins x)

  -- the refusal at the least instruction that has a state and is refused; those whose path passes a refused one have none
  unfoldable pub judged : Check
  judged = along judge

-- an arrow to an instruction, as the passes of the code name it: number 0 stands for none
unfoldable pub arrow_to : {S : Type 0} → ℕ → S → List (Arrow S)
arrow_to zero x = []
arrow_to (suc j) x = (suc j, x) ∷ []
