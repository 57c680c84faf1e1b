-- Which files the check accepts, and which number and place a refused one is given: relations beside the passes, none of which they cite.
use Rattle.std.specs.Prelude.{◌≡◌, List, ◌++◌, ◌↔◌, ℕ, suc, ◌+◌, ◌<◌, length, Option, Some}
use Rattle.rules.specs.declared.records.Instruction.{Instruction}
use Rattle.rules.specs.declared.records.Instruction.TheVariants.{Load, Build, Call, Branch, Return, Stop}
use Rattle.rules.specs.Base.{Refusal, refusal, found, refused}
use Rattle.rules.specs.Container.{payload}
use Rattle.rules.specs.Program.{Constructor, Function, Program, constructor, function}
use Rattle.rules.specs.Records.{program_of}
use Rattle.rules.specs.Tree.{Trees, node, made}
use Rattle.rules.specs.Stacks.{slot, push}
use Rattle.rules.specs.Expressions.{Symbol, variable, built, called, Expression}
use Rattle.rules.specs.Forms.{form_of}
use Rattle.rules.specs.Shapes.{Shape}
use Rattle.rules.specs.Check.{checked}
use Rattle.rules.specs.FileRules.{BlocksRight, BlocksFail, RecordsHold, RecordsFail}
use Rattle.rules.specs.DeclarationRules.{DeclarationsHold, DeclarationsFail, BoundsHold, BoundsFail}
use Rattle.rules.specs.FlowRules.{AllFlow, FlowFails}
use Rattle.rules.specs.Judgements.{TypedBefore, WellTyped, Covered, SizedBefore, WellSized}

---- What holds of a program, number by number

-- of every function
abbrev pub EachFunction : Program → (ℕ → Function → Type 0) → Type 0
EachFunction s P = (n : ℕ) (f : Function) → function s n ≡ Some f → P n f

-- of those before number n
abbrev pub Earlier : Program → (ℕ → Function → Type 0) → ℕ → Type 0
Earlier s P n = (m : ℕ) (g : Function) → m < n → function s m ≡ Some g → P m g

abbrev pub HasTypes : Program → ℕ → Function → Type 0
HasTypes s n f = (T : ℕ → List ℕ) × WellTyped s f T

abbrev pub HasShapes : Program → ℕ → Function → Type 0
HasShapes s n f = (S : ℕ → Option Shape) × WellSized s n f S

---- Where a rule fails in a function

-- 8: some type stacks obey Table 2 at every instruction before i, and none at i as well
pub record TypesFail (s : Program) (f : Function) (i : ℕ) : Type 0 where
  pub before : (T : ℕ → List ℕ) × TypedBefore s f T i
  pub here : (T : ℕ → List ℕ) → TypedBefore s f T (suc i) → ⊥

-- shapes obey the rules before i, and whichever do arrive at i with this
pub record ArriveWith (s : Program) (n : ℕ) (f : Function) (i : ℕ) (P : Instruction → Shape → Type 0) : Type 0 where
  pub before : (S : ℕ → Option Shape) × SizedBefore s n f S i
  pub ins : Instruction
  pub stands : slot i f.code ≡ Some ins
  pub here : (S : ℕ → Option Shape) → SizedBefore s n f S i → (x : Shape) × (S i ≡ Some x) × P ins x

-- "more than 16 variables or alternatives made": a symbol over the top entries, or the parts of a variable
abbrev pub TooMany : Program → Shape → ℕ → Symbol → Type 0
TooMany s x args symbol =
    (rest es : List Expression) × (length es ≡ args) × (x.stack ≡ rest ++ es) × (16 < length (form_of s (made symbol es)))

abbrev pub Many : Program → Instruction → Shape → Type 0
Many s (Load a) x = ⊥
Many s (Build c) x = (k : Constructor) × (constructor s c ≡ Some k) × TooMany s x (length k.arguments) (built c)
Many s (Call g) x = (k : Function) × (function s g ≡ Some k) × TooMany s x (length k.parameters) (called g)
Many s (Branch c b) x =
    (k : Constructor) × (constructor s c ≡ Some k) × (rest : List Expression) × (v : ℕ) × (ts : Trees Symbol)
    × (x.stack ≡ push rest (node (variable v) ts)) × (16 < x.count + length k.arguments)
Many s Return x = ⊥
Many s Stop x = ⊥

-- 10: an entry that the bound does not cover. 9: all are covered, and too many are made
abbrev pub CoverFails : Program → ℕ → Function → ℕ → Type 0
CoverFails s n f i = ArriveWith s n f i (λ ins x. Covered s x → ⊥)

abbrev pub ManyFails : Program → ℕ → Function → ℕ → Type 0
ManyFails s n f i = ArriveWith s n f i (λ ins x. Covered s x × Many s ins x)

---- The whole check, number by number

-- a file holds program s, whose rules hold up to number 4
pub record UpTo4 (file : List ℕ) (s : Program) : Type 0 where
  pub blocks : BlocksRight file  -- 1, 2 and 3
  pub records : RecordsHold (payload file)  -- 4
  pub program : program_of (payload file) ≡ s

pub record UpTo5 (file : List ℕ) (s : Program) : Type 0 where
  pub read : UpTo4 file s
  pub declarations : DeclarationsHold s

pub record UpTo6 (file : List ℕ) (s : Program) : Type 0 where
  pub declared : UpTo5 file s
  pub bounds : BoundsHold s

pub record UpTo7 (file : List ℕ) (s : Program) : Type 0 where
  pub bounded : UpTo6 file s
  pub flow : EachFunction s (λ n f. AllFlow f.code)

pub record UpTo8 (file : List ℕ) (s : Program) : Type 0 where
  pub flowing : UpTo7 file s
  pub types : EachFunction s (HasTypes s)

-- and all rules: 10 and 9 too
pub record Obeys (file : List ℕ) (s : Program) : Type 0 where
  pub typed : UpTo8 file s
  pub sizes : EachFunction s (HasShapes s)

-- "1; block by block 2 then 3; then 4 to 8, each over the whole sheet in file order; then one walk .. for 10 and 9": what comes earlier in
-- this order holds, and the rule fails at this place. One constructor a number
pub data Fails (file : List ℕ) : Refusal → Type 0 where
  whole : BlocksFail file (refusal 1 0 0) → Fails file (refusal 1 0 0)
  sum : {k : ℕ} → BlocksFail file (refusal 2 k 0) → Fails file (refusal 2 k 0)
  fields : {k : ℕ} → BlocksFail file (refusal 3 k 0) → Fails file (refusal 3 k 0)
  records : {at : ℕ} → BlocksRight file → RecordsFail (payload file) (refusal 4 at 0) → Fails file (refusal 4 at 0)
  declarations : {s : Program} {p q : ℕ} → UpTo4 file s → DeclarationsFail s (refusal 5 p q) → Fails file (refusal 5 p q)
  bounds : {s : Program} {g k : ℕ} → UpTo5 file s → BoundsFail s (refusal 6 g k) → Fails file (refusal 6 g k)
  flow : {s : Program} {n i : ℕ} {f : Function} → UpTo6 file s → function s n ≡ Some f → Earlier s (λ m g. AllFlow g.code) n
      → FlowFails f.code i → Fails file (refusal 7 n i)
  types : {s : Program} {n i : ℕ} {f : Function} → UpTo7 file s → function s n ≡ Some f → Earlier s (HasTypes s) n → TypesFail s f i
      → Fails file (refusal 8 n i)
  many : {s : Program} {n i : ℕ} {f : Function} → UpTo8 file s → function s n ≡ Some f → Earlier s (HasShapes s) n → ManyFails s n f i
      → Fails file (refusal 9 n i)
  cover : {s : Program} {n i : ℕ} {f : Function} → UpTo8 file s → function s n ≡ Some f → Earlier s (HasShapes s) n → CoverFails s n f i
      → Fails file (refusal 10 n i)

-- the check accepts a file just where it obeys every rule, and refuses it with just the number and the places at which a rule fails
abbrev pub CheckExact : Type 0
CheckExact = (file : List ℕ) (s : Program) → checked file ≡ found s ↔ Obeys file s

abbrev pub RefusalExact : Type 0
RefusalExact = (file : List ℕ) (r : Refusal) → checked file ≡ refused r ↔ Fails file r
