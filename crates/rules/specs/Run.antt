-- The run under a step budget and tables of given lengths. Document 01, "The run" and "Numbers", and document 02, "Constants take no cell".
-- What takes a cell, and how many cells can be used, is a parameter: each definition that asks for it is given under its name with "By",
-- for any rule, and behind it under its plain name, by today's rule.
use Rattle.std.specs.Prelude.{if◌then◌else◌, List, [], ◌∷◌, ℕ, zero, suc, ◌+◌, ◌/◌, min, length, leb, Option, None, Some}
use Rattle.rules.specs.declared.records.Instruction.{Instruction}
use Rattle.rules.specs.declared.records.Instruction.TheVariants.{Load, Build, Call, Branch, Return, Stop}
use Rattle.rules.specs.Base.{Refusal, refusal, Tried, found, refused, ◌>>=◌, Check, require, or_refuse}
use Rattle.rules.specs.Program.{Program, function}
use Rattle.rules.specs.Machine.{Value, State, start, current, step, result_of}
use Rattle.rules.specs.Prefix.{arguments_right, arity, values, written}
use Rattle.rules.specs.Check.{checked}

---- What is lent

-- the lengths of the slices lent: 16-bit numbers for the cells and for the stack, frame records, output bytes
pub record Lent : Type 0 where
  pub cells : ℕ
  pub stack : ℕ
  pub frames : ℕ
  pub output : ℕ

-- what is usable of the tables: cells, stack slots, frames
pub record Tables : Type 0 where
  pub cells : ℕ
  pub stack : ℕ
  pub frames : ℕ

---- What takes a cell

-- the cells that a constructor with so many arguments takes, and how many cells can be used
pub record CellRule : Type 0 where
  pub taken : ℕ → ℕ
  pub most : ℕ

-- the rule before: "Every argument byte and every build takes a cell"; "Of each table at most 65,535 entries are used"
abbrev pub every_one : CellRule
every_one = record { taken = λ n. 1; most = 65535 }

-- a constructor of arity 0 takes none, any other one
abbrev pub one_unless_constant : ℕ → ℕ
one_unless_constant zero = 0
one_unless_constant (suc n) = 1

-- today's rule: "A constructor of arity 0 becomes the number of its constructor, 0 to 63; cells count from 64, at most 65,471"
abbrev pub with_arguments : CellRule
with_arguments = record { taken = one_unless_constant; most = 65471 }

-- "Of each table at most 65,535 entries are used; a last piece of fewer than five numbers is no cell and isn't usable"
abbrev pub usable_by : CellRule → Lent → Tables
usable_by rule l = record { cells = min rule.most (l.cells / 5); stack = min 65535 l.stack; frames = min 65535 l.frames }

abbrev pub usable : Lent → Tables
usable = usable_by with_arguments

-- what an instruction takes
unfoldable pub cells_taken_by : CellRule → Program → Option Instruction → ℕ
cells_taken_by rule s None = 0
cells_taken_by rule s (Some (Load a)) = 0
cells_taken_by rule s (Some (Build c)) = rule.taken (arity s c)
cells_taken_by rule s (Some (Call g)) = 0
cells_taken_by rule s (Some (Branch c b)) = 0
cells_taken_by rule s (Some Return) = 0
cells_taken_by rule s (Some Stop) = 0

abbrev pub cells_taken : Program → Option Instruction → ℕ
cells_taken = cells_taken_by with_arguments

-- what argument bytes take
unfoldable pub cells_loaded_by : CellRule → Program → List ℕ → ℕ
cells_loaded_by rule s [] = 0
cells_loaded_by rule s (c ∷ bytes) = rule.taken (arity s c) + cells_loaded_by rule s bytes

abbrev pub cells_loaded : Program → List ℕ → ℕ
cells_loaded = cells_loaded_by with_arguments

---- The answer

-- how a run ends: with its result in the form R, given up by the program's own stop, or refused
pub data Ending (R : Type 0) : Type 0 where
  finished : R → Ending R
  aborted : Ending R
  refused_with : Refusal → Ending R

-- "Steps taken is a number in every run's answer"
pub record Answer (R : Type 0) : Type 0 where
  pub ending : Ending R
  pub steps : ℕ

-- an answer with the result's bytes
abbrev pub Outcome : Type 0
Outcome = Answer (List ℕ)

abbrev pub answer : {R : Type 0} → Ending R → ℕ → Answer R
answer e n = record { ending = e; steps = n }

---- "Before each step: a return in the only frame is the figure, no step; the end after stop is "gave up"; then budget; then frames, stack,
---- cells"

-- "16: stack, all heights added"
unfoldable pub heights : State → ℕ
heights [] = 0
heights (fr ∷ others) = length fr.stack + heights others

-- what a state needs of the tables is there, or 17, 16, 15 at a place
unfoldable pub fits : Tables → State → ℕ → ℕ → ℕ → Check
fits m st cells f i = do
  _ ← require (leb (length st) m.frames) (refusal 17 f i)
  _ ← require (leb (heights st) m.stack) (refusal 16 f i)
  require (leb cells m.cells) (refusal 15 f i)

-- "(function, instruction) of the top frame"
unfoldable pub refusal_at : ℕ → State → Refusal
refusal_at n [] = refusal n 0 0
refusal_at n (fr ∷ others) = refusal n fr.function fr.instruction

abbrev pub finished_with : Option Value → Option (Ending (List ℕ))
finished_with None = None
finished_with (Some v) = Some (finished (written v))

-- how a state ends the run, if it does
unfoldable pub end_of : Program → State → Option (Ending (List ℕ))
end_of s [] = Some aborted
end_of s (fr ∷ others) = finished_with (result_of s (fr ∷ others))

-- a state with the cells in use
abbrev pub Point : Type 0
Point = State × ℕ

-- a step where the tables have room for the state after it. (0: the machine can neither step nor end, which does not come up)
unfoldable pub step_within_by : CellRule → Program → Tables → State → ℕ → Tried Point
step_within_by rule s m [] cells = refused (refusal 0 0 0)
step_within_by rule s m (fr ∷ others) cells = do
  next ← or_refuse (step s (fr ∷ others)) (refusal 0 fr.function fr.instruction)
  let cells' = cells + cells_taken_by rule s (current s fr)
  _ ← fits m next cells' fr.function fr.instruction
  found (next, cells')

abbrev pub step_within : Program → Tables → State → ℕ → Tried Point
step_within = step_within_by with_arguments

-- with so many steps left of the budget, from a state that so many steps led to
unfoldable pub continued_by : CellRule → Program → Tables → ℕ → ℕ → State → ℕ → Outcome
continued_by rule s m zero steps st cells =
    elim (end_of s st) [
      | Some e ↦ answer e steps
      | None ↦ answer (refused_with (refusal_at 14 st)) steps
    ]
continued_by rule s m (suc left) steps st cells =
    elim (end_of s st) [
      | Some e ↦ answer e steps
      | None ↦ elim (step_within_by rule s m st cells) [
        | found p ↦ continued_by rule s m left (suc steps) p.0 p.1
        | refused r ↦ answer (refused_with r) steps
      ]
    ]

abbrev pub continued : Program → Tables → ℕ → ℕ → State → ℕ → Outcome
continued = continued_by with_arguments

---- The whole run

-- the start: "Then 11, 12, and 17, 16, 15 for loading"; "before the start (entry, 1)"
unfoldable pub loaded_by : CellRule → Program → Tables → ℕ → List ℕ → Tried State
loaded_by rule s m entry bytes = do
  f ← or_refuse (function s entry) (refusal 11 entry 0)
  _ ← arguments_right s f bytes
  let st = start entry (values s bytes)
  _ ← fits m st (cells_loaded_by rule s bytes) entry 1
  found st

abbrev pub loaded : Program → Tables → ℕ → List ℕ → Tried State
loaded = loaded_by with_arguments

unfoldable pub started_by : CellRule → Program → Tables → ℕ → ℕ → List ℕ → Outcome
started_by rule s m budget entry bytes =
    elim (loaded_by rule s m entry bytes) [
      | found st ↦ continued_by rule s m budget 0 st (cells_loaded_by rule s bytes)
      | refused r ↦ answer (refused_with r) 0
    ]

abbrev pub started : Program → Tables → ℕ → ℕ → List ℕ → Outcome
started = started_by with_arguments

-- "13: output shorter than needed. (bytes needed, 0)"; "13 comes after the run"
unfoldable pub delivered_in : ℕ → Ending (List ℕ) → Ending (List ℕ)
delivered_in room (finished bytes) = if leb (length bytes) room then finished bytes else refused_with (refusal 13 (length bytes) 0)
delivered_in room aborted = aborted
delivered_in room (refused_with r) = refused_with r

unfoldable pub delivered : ℕ → Outcome → Outcome
delivered room a = answer (delivered_in room a.ending) a.steps

-- "The run checks the sheet itself"
unfoldable pub run_by : CellRule → List ℕ → ℕ → List ℕ → ℕ → Lent → Outcome
run_by rule file entry bytes budget lent =
    elim (checked file) [
      | found s ↦ delivered lent.output (started_by rule s (usable_by rule lent) budget entry bytes)
      | refused r ↦ answer (refused_with r) 0
    ]

abbrev pub run : List ℕ → ℕ → List ℕ → ℕ → Lent → Outcome
run = run_by with_arguments
