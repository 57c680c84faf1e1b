-- The tally promise, which is demand 3: what holds of every accepted program, every entry function and all arguments of the declared types.
-- This file only states it; `tally_promise` of proofs/Promise.antt proves it.
use Rattle.std.specs.Prelude.{◌≡◌, List, [], ◌∷◌, ℕ, zero, suc, ◌+◌, ◌≤◌, ◌<◌, length, Option, None, Some}
use Rattle.rules.specs.Lists.{All}
use Rattle.rules.specs.declared.records.Instruction.TheVariants.{Call}
use Rattle.rules.specs.Base.{Refusal, refusal, found, refused, passed}
use Rattle.rules.specs.Program.{Function, Program, function}
use Rattle.rules.specs.Types.{types_at}
use Rattle.rules.specs.Check.{checked}
use Rattle.rules.specs.Machine.{Value, Frame, State, start, current, step, after, result_of}
use Rattle.rules.specs.Values.{size, sizes, Has, Typed, bound_at}
use Rattle.rules.specs.Prefix.{arguments_right, values, written}
use Rattle.rules.specs.Run.{Lent, Tables, CellRule, with_arguments, usable, cells_taken_by, cells_loaded, Ending, finished, aborted}
use Rattle.rules.specs.Run.{refused_with, Outcome, answer, heights, refusal_at, run}

---- A state

-- the stack's types that the check worked out at instruction i of function n; their number is "The height worked out at an instruction"
abbrev pub worked_out : Program → Option Function → ℕ → ℕ → Option (List ℕ)
worked_out s None n i = None
worked_out s (Some f) n i = types_at s n f i

module _ (s : Program) where
  -- a state has given up (stop leaves no frame), has the result, or has a next step
  pub data Lives (st : State) : Type 0 where
    given_up : st ≡ [] → Lives st
    has_result : (v : Value) → result_of s st ≡ Some v → Lives st
    goes_on_lem : (next : State) → step s st ≡ Some next → Lives st

  -- a frame has the height worked out at its instruction, at most 16, and values of the types worked out there, none larger than the limit
  pub record Kept (limit : ℕ) (fr : Frame) : Type 0 where
    pub types : List ℕ
    pub worked_out_lem : worked_out s (function s fr.function) fr.function fr.instruction ≡ Some types
    pub height : length fr.stack ≡ length types
    pub low : length types ≤ 16
    pub typed : Typed s fr.stack types
    pub small : All (λ v. size s v ≤ limit) fr.stack

  -- a waiting frame stands at its call: each frame but the top one at a call of the function of the frame above it
  abbrev pub Waiting : State → Type 0
  Waiting [] = Unit {0}
  Waiting (fr ∷ []) = Unit {0}
  Waiting (above ∷ below ∷ others) = (current s below ≡ Some (Call above.function)) × Waiting (below ∷ others)

  pub record Safe (limit : ℕ) (st : State) : Type 0 where
    pub lives : Lives st
    pub frames : All (Kept limit) st
    pub calls : Waiting st

---- A run

-- the cells that the next step takes by a rule, and those that n steps from a state take: one for each build that takes one
abbrev pub takes_by : CellRule → Program → State → ℕ
takes_by rule s [] = 0
takes_by rule s (fr ∷ others) = cells_taken_by rule s (current s fr)

abbrev pub takes : Program → State → ℕ
takes = takes_by with_arguments

abbrev pub builds_from : (State → ℕ) → Option State → ℕ
builds_from count None = 0
builds_from count (Some next) = count next

unfoldable pub builds_by : CellRule → Program → ℕ → State → ℕ
builds_by rule s zero st = 0
builds_by rule s (suc n) st = takes_by rule s st + builds_from (builds_by rule s n) (step s st)

abbrev pub builds : Program → ℕ → State → ℕ
builds = builds_by with_arguments

-- the tables have room for a state with so many cells in use
abbrev pub Room : Tables → State → ℕ → Type 0
Room m st cells = (length st ≤ m.frames) × (heights st ≤ m.stack) × (cells ≤ m.cells)

-- they have not: the number of the first that is short, frames before stack before cells
pub data NoRoom (m : Tables) (st : State) (cells : ℕ) : ℕ → Type 0 where
  frames : m.frames < length st → NoRoom m st cells 17
  stack : length st ≤ m.frames → m.stack < heights st → NoRoom m st cells 16
  heap : length st ≤ m.frames → heights st ≤ m.stack → m.cells < cells → NoRoom m st cells 15

-- a run of function f that begins at a state with so many cells in use, under a step budget, tables and room in the output
module _ (s : Program) (f : Function) (limit : ℕ) (m : Tables) (budget room : ℕ) (begin : State) (cells : ℕ) where
  -- how it ends after so many steps at a state: with the result, which is of the function's result type and within the limit, or with 13
  -- where the output has no room for it; given up; or, where there is a next state, with 14 if the budget is spent, else with 17, 16 or 15
  -- if the tables have no room for that state
  pub data Ends (steps : ℕ) (st : State) : Ending (List ℕ) → Type 0 where
    with_result : (v : Value) → result_of s st ≡ Some v → Has s v f.result → size s v ≤ limit → length (written v) ≤ room
        → Ends steps st (finished (written v))
    undelivered : (v : Value) → result_of s st ≡ Some v → Has s v f.result → size s v ≤ limit → room < length (written v)
        → Ends steps st (refused_with (refusal 13 (length (written v)) 0))
    stopped : st ≡ [] → Ends steps st aborted
    spent : steps ≡ budget → (next : State) → step s st ≡ Some next → Ends steps st (refused_with (refusal_at 14 st))
    short : steps < budget → (next : State) → step s st ≡ Some next → (number : ℕ)
        → NoRoom m next (cells + builds s (suc steps) begin) number → Ends steps st (refused_with (refusal_at number st))

  -- it goes through the machine's states: as many as its steps, within the budget, with room for each, and it ends at the last
  pub record Ran (a : Outcome) : Type 0 where
    pub last : State
    pub reached : after s a.steps begin ≡ Some last
    pub within_budget : a.steps ≤ budget
    pub fitted : (k : ℕ) (st : State) → k ≤ a.steps → after s k begin ≡ Some st → Room m st (cells + builds s k begin)
    pub ending : Ends a.steps last a.ending

-- what a run answers: 11 where there is no such function; 12 where the argument check refuses; past that check the arguments are of the
-- declared types, and the run is refused by 17, 16 or 15 at (entry, 1) where the tables have no room for the start, or it ran from there
pub data Answers (s : Program) (entry : ℕ) (arguments : List ℕ) (budget : ℕ) (lent : Lent) (a : Outcome) : Type 0 where
  no_entry : function s entry ≡ None → a ≡ answer (refused_with (refusal 11 entry 0)) 0 → Answers s entry arguments budget lent a
  bad_arguments : (f : Function) → function s entry ≡ Some f → (r : Refusal) → arguments_right s f arguments ≡ refused r
      → a ≡ answer (refused_with r) 0 → Answers s entry arguments budget lent a
  no_room : (f : Function) → function s entry ≡ Some f → arguments_right s f arguments ≡ passed
      → Typed s (values s arguments) f.parameters
      → (number : ℕ) → NoRoom (usable lent) (start entry (values s arguments)) (cells_loaded s arguments) number
      → a ≡ answer (refused_with (refusal number entry 1)) 0 → Answers s entry arguments budget lent a
  began : (f : Function) → function s entry ≡ Some f → arguments_right s f arguments ≡ passed → Typed s (values s arguments) f.parameters
      → Ran s f (bound_at f.bound (sizes s (values s arguments))) (usable lent) budget lent.output (start entry (values s arguments))
      (cells_loaded s arguments) a
      → Answers s entry arguments budget lent a

---- Both together

-- of a file that holds program s
pub record Promised (file : List ℕ) (s : Program) : Type 0 where
  -- every state after any number of steps, from any entry function and values of its parameters' types; no value exceeds the entry's size
  -- bound
  pub states : (n : ℕ) (f : Function) → function s n ≡ Some f → (us : List Value) → Typed s us f.parameters
      → (k : ℕ) (st : State) → after s k (start n us) ≡ Some st → Safe s (bound_at f.bound (sizes s us)) st
  -- every run, with any entry number, argument bytes, budget and lent lengths
  pub runs : (entry : ℕ) (arguments : List ℕ) (budget : ℕ) (lent : Lent)
      → Answers s entry arguments budget lent (run file entry arguments budget lent)

abbrev pub TallyPromise : Type 0
TallyPromise = (file : List ℕ) (s : Program) → checked file ≡ found s → Promised file s
