-- The signatures that instructions name: a number below the header's count has one, at its offset, and no other has. Build and call are
-- one rule over a signature.
use mathlib.Core.Path.{◌≡◌, refl, ap, ◌∙◌}
use mathlib.Core.List.{List, [], ◌++◌}
use Rattle.std.specs.Prelude.{Option, None, Some}
use Prim.Native.Nat.{ℕ, ◌≤◌, ◌<◌}
use native.Mathlib.Omega.{arith}
use native.Mathlib.Nat.{zero-add}
use lib.ListN.{get_or}
use Rattle.rules.specs.declared.records.Declaration.{Declaration}
use Rattle.rules.specs.declared.records.Header.{Header}
use Rattle.rules.specs.declared.records.Instruction.TheVariants.{Build, Call, Branch}
use Rattle.rules.specs.Base.{passed, refusal, or_refuse, ◌>>=◌, byte_at}
use Rattle.rules.specs.Container.{payload}
use Rattle.rules.specs.Established.{Headed, LaidOut}
use Rattle.rules.specs.Program.{Constructor, Function, Program, constructor, function}
use Rattle.rules.specs.Records.{declaration_at, constructor_at, constructor_offset, arguments_of, constructor_of, function_of}
use Rattle.rules.specs.Records.{program_of, program_in, function_in}
use Rattle.rules.specs.Flow.{flow_of, flow_right}
use Rattle.rules.specs.Types.{type_rule}
use Rattle.rules.proofs.EachLaws.{each_from_0}
use Rattle.rules.proofs.NumberedLaws.{numbered_at, numbered_past}
use Rattle.operands.specs.declared.stack.Stack.{Stack}
use Rattle.operands.specs.Operands.{stack_of, applied, branched, signature_of}
use Rattle.operands.specs.Operands.{applied_to, branched_to}
use Rattle.typing.specs.Typing.{constructor_signature, function_signature}
use Rattle.program.proofs.LayoutLaws.{constructors_count, functions_count, head_placed}

---- What has a number

module _ {file : List ℕ} {h : Header} (o : Headed file h) where
  constructor_unknown : (c : ℕ) → h.constructors ≤ c → constructor (program_in file) c ≡ None
  unfolding program_of
  constructor_unknown c l =
      numbered_past (λ c. constructor_of (constructor_at (payload file) (constructor_offset c))) (byte_at (payload file) 2) 0 c
      (omega (arith, constructors_count o))

  constructor_known : (c : ℕ) → c < h.constructors
      → constructor (program_in file) c ≡ Some (constructor_of (constructor_at (payload file) (constructor_offset c)))
  unfolding program_of
  constructor_known c l =
      numbered_at (λ c. constructor_of (constructor_at (payload file) (constructor_offset c))) (byte_at (payload file) 2) 0 c
      (omega (arith, constructors_count o))
      ∙ ap (λ (x : ℕ). Some (constructor_of (constructor_at (payload file) (constructor_offset x)))) (zero-add c)

  function_unknown : (g : ℕ) → h.functions ≤ g → function (program_in file) g ≡ None
  unfolding program_of
  function_unknown g l = numbered_past (function_in file) (byte_at (payload file) 3) 0 g (omega (arith, functions_count o))

  function_known : (g : ℕ) → g < h.functions → function (program_in file) g ≡ Some (function_in file g)
  unfolding program_of
  function_known g l =
      numbered_at (function_in file) (byte_at (payload file) 3) 0 g (omega (arith, functions_count o))
      ∙ ap (λ (x : ℕ). Some (function_in file x)) (zero-add g)

  -- the flow of a function, where that of all has passed
  flow_passed : flow_right (program_in file) ≡ passed → (g : ℕ) → g < h.functions → flow_of g (function_in file g) ≡ passed
  unfolding flow_right
  flow_passed e g l = (each_from_0 flow_of (program_in file).functions).0 e g (function_in file g) (function_known g l)

---- What a lookup finds

module _ {file : List ℕ} {h : Header} (o : Headed file h) (c : ℕ) where
  pub constructor_missing : h.constructors ≤ c → None ≡ constructor_signature (constructor (program_in file) c)
  constructor_missing q = rw (constructor_unknown o c q) refl

  -- as it is read where it stands
  pub constructor_read : {d : Declaration} → c < h.constructors → d ≡ declaration_at (payload file) (constructor_offset c)
      → Some (signature_of d) ≡ constructor_signature (constructor (program_in file) c)
  unfolding constructor_of
  constructor_read l e = rw (e, constructor_known o c l) refl

module _ {file : List ℕ} {h : Header} {heads : List ℕ} (o : LaidOut file h heads) (g : ℕ) where
  pub function_missing : h.functions ≤ g → None ≡ function_signature (function (program_in file) g)
  function_missing q = rw (function_unknown o.headed g q) refl

  pub function_read : {d : Declaration} → g < h.functions → d ≡ declaration_at (payload file) (get_or heads g 0)
      → Some (signature_of d) ≡ function_signature (function (program_in file) g)
  unfolding function_of
  function_read l e = rw (e, head_placed o g l, function_known o.headed g l) refl

  -- its flow is right, where its head stands by the layout
  pub flow_placed : flow_right (program_in file) ≡ passed → g < h.functions
      → flow_of g (function_of (payload file) (get_or heads g 0)) ≡ passed
  flow_placed e l = rw (head_placed o g l) (flow_passed o.headed e g l)

---- The rules over what is found

module _ (s : Program) (n : ℕ) (f : Function) (i : ℕ) (stack : List ℕ) where
  pub build_rule : (c : ℕ) → type_rule s n f i (Build c) stack ≡ applied_to s n f i (constructor_signature (constructor s c)) stack
  unfolding type_rule
  build_rule c = go (constructor s c)
    where
      go : (o : Option Constructor) → (or_refuse o (refusal 8 n i) >>= (λ k. applied s n f i k.arguments k.result stack))
          ≡ applied_to s n f i (constructor_signature o) stack
      go None = refl
      go (Some k) = refl

  pub call_rule : (g : ℕ) → type_rule s n f i (Call g) stack ≡ applied_to s n f i (function_signature (function s g)) stack
  unfolding type_rule
  call_rule g = go (function s g)
    where
      go : (o : Option Function) → (or_refuse o (refusal 8 n i) >>= (λ k. applied s n f i k.parameters k.result stack))
          ≡ applied_to s n f i (function_signature o) stack
      go None = refl
      go (Some k) = refl

  pub branch_rule : (c b : ℕ) → type_rule s n f i (Branch c b) stack ≡ branched_to s n f i (constructor_signature (constructor s c)) b stack
  unfolding type_rule
  branch_rule c b = go (constructor s c)
    where
      go : (o : Option Constructor) → (or_refuse o (refusal 8 n i) >>= (λ k. branched s n f i k.result k.arguments b stack))
          ≡ branched_to s n f i (constructor_signature o) b stack
      go None = refl
      go (Some k) = refl

---- The signature of the function itself

module _ (bytes : List ℕ) (at : ℕ) {d : Declaration} (e : d ≡ declaration_at bytes at) where
  pub own_result : (function_of bytes at).result ≡ d.result
  unfolding function_of
  own_result = rw e

  -- its parameters are the stack at the start
  pub own_start : (empty first : Stack) → stack_of empty ≡ [] → stack_of first ≡ stack_of empty ++ arguments_of d
      → stack_of first ≡ (function_of bytes at).parameters
  unfolding function_of
  own_start _ _ o p = p ∙ rw (o, e) refl
