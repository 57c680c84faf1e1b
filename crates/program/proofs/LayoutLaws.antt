-- What the header and the layout of a parsed file say of its records, and a pass over all constructors or all functions as a check by
-- number.
use mathlib.Core.Path.{◌≡◌, refl, sym, ap, ◌∙◌, subst}
use mathlib.Core.List.{List}
use Prim.Native.Nat.{ℕ, ◌+◌, ◌≤◌, ◌<◌}
use lib.ListN.{length, get_or}
use Rattle.rules.specs.declared.records.Header.{Header}
use Rattle.rules.specs.Base.{Check, for_each, each, byte_at}
use Rattle.rules.specs.Container.{payload}
use Rattle.rules.specs.Program.{Constructor, Function}
use Rattle.rules.specs.Records.{constructor_at, constructor_offset, head_offset, header_right, constructor_of, function_of, program_of}
use Rattle.rules.specs.Records.{program_in, function_in}
use Rattle.rules.specs.There.{FunctionThere, RecordsThere}
use Rattle.rules.specs.Established.{Headed, LaidOut}
use Rattle.rules.proofs.NumberedLaws.{each_numbered}
use Rattle.rules.proofs.RecordLaws.{records_there}
use Rattle.program.proofs.OpenLaws.{few_constructors, few_functions}

-- a rule at constructor c, and at function g
abbrev pub at_constructor : (ℕ → Constructor → Check) → List ℕ → ℕ → Check
at_constructor rule bytes c = rule c (constructor_of (constructor_at bytes (constructor_offset c)))

abbrev pub at_function : (ℕ → Function → Check) → List ℕ → ℕ → Check
at_function rule bytes g = rule g (function_of bytes (head_offset bytes g))

module _ {file : List ℕ} {h : Header} (o : Headed file h) where
  pub headed_records : RecordsThere (payload file)
  headed_records = records_there (payload file) o.parsed.records

  pub types_count : h.types ≡ byte_at (payload file) 1
  types_count = ap (λ (x : Header). x.types) o.header

  pub constructors_count : h.constructors ≡ byte_at (payload file) 2
  constructors_count = ap (λ (x : Header). x.constructors) o.header

  pub functions_count : h.functions ≡ byte_at (payload file) 3
  functions_count = ap (λ (x : Header). x.functions) o.header

  pub constructors_few : h.constructors ≤ 64
  constructors_few = few_constructors h (ap header_right o.header ∙ headed_records.header_right_lem)

  pub functions_few : h.functions ≤ 32
  functions_few = few_functions h (ap header_right o.header ∙ headed_records.header_right_lem)

  -- constructor c is all there, and has at most four arguments
  pub constructor_there : (c : ℕ) → c < h.constructors
      → (constructor_offset c + 8 ≤ length (payload file)) × (byte_at (payload file) (constructor_offset c + 1) ≤ 4)
  constructor_there c l = headed_records.constructor c (subst (λ (x : ℕ). c < x) constructors_count l)

  -- and so is function g
  pub function_there : (g : ℕ) → g < h.functions → FunctionThere (payload file) (head_offset (payload file) g)
  function_there g l = headed_records.function g (subst (λ (x : ℕ). g < x) functions_count l)

  -- a pass, as the code makes it
  pub constructors_pass : (rule : ℕ → Constructor → Check)
      → each rule 0 (program_in file).constructors ≡ for_each (at_constructor rule (payload file)) 0 h.constructors
  unfolding program_of
  constructors_pass rule =
      each_numbered rule (λ c. constructor_of (constructor_at (payload file) (constructor_offset c))) (λ i. i) (λ k. refl)
      (byte_at (payload file) 2) 0
      ∙ ap (for_each (at_constructor rule (payload file)) 0) (sym constructors_count)

  pub functions_pass : (rule : ℕ → Function → Check)
      → each rule 0 (program_in file).functions ≡ for_each (at_function rule (payload file)) 0 h.functions
  unfolding program_of
  functions_pass rule =
      each_numbered rule (function_in file) (λ i. i) (λ k. refl) (byte_at (payload file) 3) 0
      ∙ ap (for_each (at_function rule (payload file)) 0) (sym functions_count)

module _ {file : List ℕ} {h : Header} {heads : List ℕ} (o : LaidOut file h heads) where
  -- function g is there, where the table says
  pub head_placed : (g : ℕ) → g < h.functions → get_or heads g 0 ≡ head_offset (payload file) g
  head_placed g l = o.placed g (subst (λ (x : ℕ). g < x) (functions_count o.headed) l)

  pub function_placed : (g : ℕ) → g < h.functions → FunctionThere (payload file) (get_or heads g 0)
  function_placed g l = subst (λ (x : ℕ). FunctionThere (payload file) x) (sym (head_placed g l)) (function_there o.headed g l)

  -- a rule at one function as the code finds it
  pub function_here : (rule : ℕ → Function → Check) (g : ℕ) {t : Check} → g < h.functions
      → rule g (function_of (payload file) (get_or heads g 0)) ≡ t → at_function rule (payload file) g ≡ t
  function_here rule g l e = ap (λ (x : ℕ). rule g (function_of (payload file) x)) (sym (head_placed g l)) ∙ e
