-- What soundness gives the code and what holds of every run: numbers that fit, cases that do not come up, bytes that are read back, room
-- that does not matter. Each is proved in proofs/.
use Rattle.std.specs.Prelude.{◌≡◌, List, [], ◌∷◌, ℕ, ◌≤◌, ◌<◌, zero, suc, ◌*◌, length, Some}
use Rattle.rules.specs.declared.records.Alternative.{Alternative}
use Rattle.rules.specs.declared.records.Instruction.TheVariants.{Branch}
use Rattle.rules.specs.Lists.{All, Bytes}
use Rattle.rules.specs.Base.{Refusal, found, passed}
use Rattle.rules.specs.Program.{Function, Program, function}
use Rattle.rules.specs.Tree.{Trees, from_list, made}
use Rattle.rules.specs.Stacks.{slot, split}
use Rattle.rules.specs.Expressions.{Symbol, variable, known, built, called, Expression, Every}
use Rattle.rules.specs.Forms.{form_of, Form, substituted}
use Rattle.rules.specs.Shapes.{Shape, shape_at}
use Rattle.rules.specs.Check.{checked}
use Rattle.rules.specs.Machine.{Value, State, start, after, result_of}
use Rattle.rules.specs.Values.{Has, Typed}
use Rattle.rules.specs.Prefix.{arguments_right, values, written, written_all}
use Rattle.rules.specs.Run.{Lent, Tables, refused_with, started, run}
use Rattle.rules.specs.HeapRun.{started_on}
use Rattle.rules.specs.Quasi.{Correct}
use Rattle.rules.specs.Types.{types_at, types_right}
use Rattle.rules.specs.Judgements.{WellTyped}
use Rattle.rules.specs.declared.records.Instruction.{Instruction}
use Rattle.rules.specs.Records.{decode}
use Rattle.rules.specs.Flow.{flow_right}
use Rattle.rules.specs.Promise.{Lives, Waiting}

-- Past the check a run is refused by 11 to 17 only: never by 0, which is that of a state that can neither step nor end
abbrev pub NumberFact : Type 0
NumberFact =
    (file : List ℕ) (s : Program) → checked file ≡ found s
    → (entry : ℕ) (arguments : List ℕ) (budget : ℕ) (lent : Lent) (r : Refusal)
    → (run file entry arguments budget lent).ending ≡ refused_with r → (11 ≤ r.number) × (r.number ≤ 17)

-- A result's length in bytes fits 32 bits, whatever state has it
abbrev pub ResultFact : Type 0
ResultFact =
    (file : List ℕ) (s : Program) → Bytes file → checked file ≡ found s
    → (entry : ℕ) (f : Function) → function s entry ≡ Some f → (arguments : List ℕ) → arguments_right s f arguments ≡ passed
    → (k : ℕ) (st : State) (v : Value) → after s k (start entry (values s arguments)) ≡ Some st → result_of s st ≡ Some v
    → length (written v) < 4294967296

-- Types without sizes are enough to go on: where 4, 7 and 8 hold, whatever the size bounds say, each state that is reached has the result,
-- has given up or has a next step, and a waiting frame stands at its call
abbrev pub ProgressFact : Type 0
ProgressFact =
    (payload : List ℕ) (s : Program) → decode payload ≡ found s → flow_right s ≡ passed → types_right s ≡ passed
    → (n : ℕ) (f : Function) → function s n ≡ Some f → (us : List Value) → Typed s us f.parameters
    → (k : ℕ) (st : State) → after s k (start n us) ≡ Some st → Lives s st × Waiting s st

-- an alternative has 16 coefficients of at most c, and a constant of at most k
abbrev pub Fits16 : ℕ → ℕ → Alternative → Type 0
Fits16 c k a = (length a.coefficients ≡ 16) × All (λ m. m ≤ c) a.coefficients × (a.constant ≤ k)

-- "Covered entries keep coefficients at 15 or less, so sums fit 32 bits": at each visited instruction the entries that stand on the stack,
-- and what a build or call makes of the top four or fewer
abbrev pub CoverFact : Type 0
CoverFact =
    (file : List ℕ) (s : Program) → Bytes file → checked file ≡ found s → (n : ℕ) (f : Function) → function s n ≡ Some f
    → (i : ℕ) (shape : Shape) → shape_at s n f i ≡ Some shape
    → All (λ e. All (Fits16 15 126735) (form_of s e)) shape.stack
    × ((k : ℕ) (parts : List Expression × List Expression) → k ≤ 4 → split k shape.stack ≡ Some parts → (symbol : Symbol)
    → All (Fits16 900 7669635) (form_of s (made symbol parts.1)))

-- an expression of variables and known constructors: nothing in it was built or called
abbrev pub Unmade : Symbol → Trees Symbol → Type 0
Unmade (variable k) ts = Unit {0}
Unmade (known c) ts = Unit {0}
Unmade (built c) ts = ⊥
Unmade (called g) ts = ⊥

abbrev pub Plain : Expression → Type 0
Plain e = Every Unmade e

-- At each visited branch nothing built and no call's result is on the stack, so the cases of `branch_on` for these do not come up
abbrev pub BranchFact : Type 0
BranchFact =
    (file : List ℕ) (s : Program) → checked file ≡ found s → (n : ℕ) (f : Function) → function s n ≡ Some f
    → (i : ℕ) (shape : Shape) → shape_at s n f i ≡ Some shape → (c b : ℕ) → slot i f.code ≡ Some (Branch c b)
    → All Plain shape.stack

-- Arguments that pass the argument check are values of the declared types, and what is written of these values is the bytes read
abbrev pub ArgumentFact : Type 0
ArgumentFact =
    (s : Program) (f : Function) (bytes : List ℕ) → arguments_right s f bytes ≡ passed
    → (length bytes ≤ 65535) × Typed s (values s bytes) f.parameters × (written_all (from_list (values s bytes)) ≡ bytes)

-- "Figures are written likewise": a value of a type is read back from what is written of it, and so are values one after the other
abbrev pub ReadBackFact : Type 0
ReadBackFact =
    (s : Program) → ((v : Value) (t : ℕ) → Has s v t → values s (written v) ≡ v ∷ [])
    × ((vs : List Value) (ts : List ℕ) → Typed s vs ts → values s (written_all (from_list vs)) ≡ vs)

-- With more room in the tables a run that did not end for want of it, "15: cells. 16: stack, all heights added. 17: frames", ends the same
abbrev pub RoomFact : Type 0
RoomFact =
    (file : List ℕ) (entry : ℕ) (arguments : List ℕ) (budget : ℕ) (lent more : Lent)
    → lent.cells ≤ more.cells → lent.stack ≤ more.stack → lent.frames ≤ more.frames → lent.output ≡ more.output
    → ((r : Refusal) → (run file entry arguments budget lent).ending ≡ refused_with r
    → (r.number ≡ 15 → ⊥) × (r.number ≡ 16 → ⊥) × (r.number ≡ 17 → ⊥))
    → run file entry arguments budget more ≡ run file entry arguments budget lent

-- The run over heap cells, in which "A constructor of arity 0 becomes the number of its constructor", every other argument byte and build
-- takes a cell, "and a cell only ever names cells made before it", answers as the run over values: there are at most 64 constructors
abbrev pub HeapFact : Type 0
HeapFact = (s : Program) → length s.constructors ≤ 64 → (m : Tables) (budget entry : ℕ) (bytes : List ℕ)
    → started_on s m budget entry bytes ≡ started s m budget entry bytes

-- Definition 3: where the check accepts, 001's inequality holds at each visited instruction for all sizes of the variables, which are at
-- most 16
abbrev pub SizeFact : Type 0
SizeFact =
    (file : List ℕ) (s : Program) → checked file ≡ found s → (n : ℕ) (f : Function) → function s n ≡ Some f
    → (i : ℕ) (shape : Shape) → shape_at s n f i ≡ Some shape → (sizes : List ℕ) → length sizes ≤ 16 → Correct s sizes f shape

-- Definition 1: where the check accepts, the type stacks that obey Table 2 are those that it works out, so there is one table T
abbrev pub TypesFact : Type 0
TypesFact =
    (file : List ℕ) (s : Program) → checked file ≡ found s → (n : ℕ) (f : Function) → function s n ≡ Some f
    → (T : ℕ → List ℕ) → WellTyped s f T → (i : ℕ) (ins : Instruction) → slot i f.code ≡ Some ins → types_at s n f i ≡ Some (T i)

-- "Substituting into an alternative takes every choice of one alternative from each argument whose coefficient is not 0; nothing is dropped
-- as a duplicate": so many alternatives come of it
abbrev pub choices_of : List ℕ → List Form → ℕ
choices_of [] forms = 1
choices_of (m ∷ ms) [] = 1
choices_of (zero ∷ ms) (form ∷ forms) = choices_of ms forms
choices_of (suc m ∷ ms) (form ∷ forms) = length form * choices_of ms forms

abbrev pub ChoiceFact : Type 0
ChoiceFact = (ms : List ℕ) (k : ℕ) (forms : List Form) → length (substituted ms k forms) ≡ choices_of ms forms
