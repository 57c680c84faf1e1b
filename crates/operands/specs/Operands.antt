-- The types of a stack as the type pass keeps them, and what its answers say.
use Rattle.std.specs.Prelude.{if◌then◌else◌, ◌≡◌, List, [], ◌∷◌, ◌++◌, ℕ, suc, ◌-◌, length, take, leb, eqb}
use Rattle.std.specs.Prelude.{Option, None, Some}
use Rattle.std.specs.List.{ends_with}
use Rattle.rules.specs.declared.records.Declaration.{Declaration}
use Rattle.rules.specs.Base.{Tried, found, refused, refusal, ◌>>=◌}
use Rattle.rules.specs.Program.{Function, Program}
use Rattle.rules.specs.Records.{arguments_of}
use Rattle.rules.specs.Walk.{Arrow}
use Rattle.rules.specs.Stacks.{push}
use Rattle.rules.specs.Types.{below, types_on}
use Rattle.operands.specs.declared.stack.Stack.{Stack}
use Rattle.operands.specs.declared.operation.TypedStep.{TypedStep}
use Rattle.operands.specs.declared.operation.TypedStep.TheVariants.{Ends, Next, Both}

abbrev pub stack_of : Stack → List ℕ
stack_of st = take st.height st.types

-- types that a stack has room for
abbrev pub grown : List ℕ → Option (List ℕ)
grown types = if leb (length types) 16 then Some types else None

-- what is below these types, where a stack ends in them
abbrev pub below_of : List ℕ → List ℕ → Option (List ℕ)
below_of types stack = if ends_with eqb stack types then Some (take (length stack - length types) stack) else None

---- What the answers say, in function n at instruction i, where this stack arrives

-- the arrows that leave
abbrev pub arrows_of : ℕ → List ℕ → TypedStep → List (Arrow (List ℕ))
arrows_of i here Ends = []
arrows_of i here (Next next) = (suc i, stack_of next) ∷ []
arrows_of i here (Both next to) = (suc i, stack_of next) ∷ (to, here) ∷ []

-- or 8
abbrev pub typed_of : ℕ → ℕ → List ℕ → Option TypedStep → Tried (List (Arrow (List ℕ)))
typed_of n i here None = refused (refusal 8 n i)
typed_of n i here (Some r) = found (arrows_of i here r)

-- an answer says what a rule does
pub record TypeSays (n i : ℕ) (here : List ℕ) (r : Option TypedStep) (rule : Tried (List (Arrow (List ℕ)))) : Type 0 where
  pub says : typed_of n i here r ≡ rule

---- The type rules once the signature that an instruction names is found

-- a build or a call
abbrev pub applied : Program → ℕ → Function → ℕ → List ℕ → ℕ → List ℕ → Tried (List (Arrow (List ℕ)))
applied s n f i types result stack = do
  rest ← below s n f i types stack
  types_on s n f i (push rest result)

-- a branch
abbrev pub branched : Program → ℕ → Function → ℕ → ℕ → List ℕ → ℕ → List ℕ → Tried (List (Arrow (List ℕ)))
branched s n f i result types b stack = do
  rest ← below s n f i (result ∷ []) stack
  on ← types_on s n f i (rest ++ types)
  found (on ++ ((b, stack) ∷ []))

---- The signature that an instruction names

-- the types of the arguments, and the result type
abbrev pub Signature : Type 0
Signature = List ℕ × ℕ

abbrev pub signature_of : Declaration → Signature
signature_of d = (arguments_of d, d.result)

-- a build or a call of what is named, and a branch on it
abbrev pub applied_to : Program → ℕ → Function → ℕ → Option Signature → List ℕ → Tried (List (Arrow (List ℕ)))
applied_to s n f i None stack = refused (refusal 8 n i)
applied_to s n f i (Some d) stack = applied s n f i d.0 d.1 stack

abbrev pub branched_to : Program → ℕ → Function → ℕ → Option Signature → ℕ → List ℕ → Tried (List (Arrow (List ℕ)))
branched_to s n f i None b stack = refused (refusal 8 n i)
branched_to s n f i (Some d) b stack = branched s n f i d.1 d.0 b stack
