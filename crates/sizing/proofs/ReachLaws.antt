-- At an instruction of a file's function that is reached: it is read, what it names is there, and what 7 and 8 say of it.
use mathlib.Core.Path.{◌≡◌, sym, ap, ◌∙◌}
use mathlib.Core.List.{List}
use Rattle.std.specs.Prelude.{Some}
use mathlib.Core.Bool.{Bool, true, false}
use Prim.Native.Nat.{ℕ, suc, ◌+◌, ◌-◌, ◌≤◌, ◌<◌}
use native.Mathlib.Omega.{arith}
use lib.ListN.{length}
use Rattle.rules.specs.declared.records.Instruction.{Instruction}
use Rattle.rules.specs.declared.records.Instruction.TheVariants.{Load, Build, Call, Branch, Return, Stop}
use Rattle.rules.specs.Base.{byte_at}
use Rattle.rules.specs.Container.{payload}
use Rattle.rules.specs.Program.{Constructor, Function, arity, constructor, function}
use Rattle.rules.specs.Records.{instruction_at, code_offset, head_offset, instruction_of, program_in, function_in, instruction_offset}
use Rattle.rules.specs.Stacks.{slot}
use Rattle.sizing.specs.Chart.{ReachedAt}
use Rattle.sizing.specs.Routines.{OperandThere}
use Rattle.sizing.specs.Walking.{Walking}
use Rattle.sizing.proofs.ChartLaws as chart
use Rattle.sizing.proofs.ChartLaws.{Branches}
use Rattle.sizing.proofs.FileLaws.{constructor_named, function_named, here, few_parameters, code_length, code_at}
use Rattle.sizing.proofs.FileLaws.{flow_right_lem, types_right_lem}

module _ {file heads : List ℕ} (w : Walking file heads) {g : ℕ} (t : g < byte_at (payload file) 3) where
  pub at_start : ReachedAt (program_in file) g (function_in file g) 1 (arity (function_in file g)) false
  at_start =
      chart.at_start (program_in file) g (function_in file g) (flow_right_lem w g t) (types_right_lem w g t) (few_parameters w g t)

  module _ {i h : ℕ} {p : Bool} (y : ReachedAt (program_in file) g (function_in file g) i h p) where
    pub at_low : h ≤ 16
    at_low =
        chart.at_low (program_in file) g (function_in file g) (flow_right_lem w g t) (types_right_lem w g t) (few_parameters w g t) i h p y

    at_there : (1 ≤ i) × (i ≤ length (function_in file g).code)
    at_there =
        chart.at_there (program_in file) g (function_in file g) (flow_right_lem w g t) (types_right_lem w g t) (few_parameters w g t) i h
        p y

    -- where it stands, if the code starts at base
    pub at_place : (base : ℕ) → base ≡ code_offset (payload file) (head_offset (payload file) g) → (1 ≤ i)
        × (i ≤ length (function_in file g).code) × (i ≤ 256) × (instruction_offset base (i - 1) + 4 ≤ length (payload file))
    at_place base e =
        let c = code_at w g t i at_there.0 at_there.1 in
        (at_there.0, at_there.1, omega (arith, at_there.1, code_length w g t, (here w g t).short_code), omega (arith, c.1))

    pub at_instruction : (base : ℕ) → base ≡ code_offset (payload file) (head_offset (payload file) g) → {x : ℕ}
        → x ≡ instruction_offset base (i - 1)
        → (ins : Instruction) → ins ≡ instruction_of (instruction_at (payload file) x) → slot i (function_in file g).code ≡ Some ins
    at_instruction base e q ins is =
        (code_at w g t i at_there.0 at_there.1).0
        ∙ ap Some (sym (is ∙ ap (λ (x : ℕ). instruction_of (instruction_at (payload file) x))
        (q ∙ ap (λ (b : ℕ). instruction_offset b (i - 1)) e)))

    pub at_some : (ins : Instruction) × (slot i (function_in file g).code ≡ Some ins)
    at_some = (_, (code_at w g t i at_there.0 at_there.1).0)

    pub at_load : (a : ℕ) → slot i (function_in file g).code ≡ Some (Load a) → (1 ≤ a) × (a ≤ h)
        × ReachedAt (program_in file) g (function_in file g) (suc i) (h + 1) p
    at_load a e =
        chart.at_load (program_in file) g (function_in file g) (flow_right_lem w g t) (types_right_lem w g t) (few_parameters w g t) i h p
        a y e

    pub at_build : (c : ℕ) → slot i (function_in file g).code ≡ Some (Build c)
        → (k : Constructor) × (constructor (program_in file) c ≡ Some k) × (length k.arguments ≤ h)
        × ReachedAt (program_in file) g (function_in file g) (suc i) (h - length k.arguments + 1) true
    at_build c e =
        chart.at_build (program_in file) g (function_in file g) (flow_right_lem w g t) (types_right_lem w g t) (few_parameters w g t) i h
        p c y e

    pub at_call : (c : ℕ) → slot i (function_in file g).code ≡ Some (Call c)
        → (k : Function) × (function (program_in file) c ≡ Some k) × (arity k ≤ h)
        × ReachedAt (program_in file) g (function_in file g) (suc i) (h - arity k + 1) true
    at_call c e =
        chart.at_call (program_in file) g (function_in file g) (flow_right_lem w g t) (types_right_lem w g t) (few_parameters w g t) i h p
        c y e

    pub at_branch : (c b : ℕ) → slot i (function_in file g).code ≡ Some (Branch c b)
        → (p ≡ false) × Branches (program_in file) g (function_in file g) i h c b
    at_branch c b e =
        chart.at_branch (program_in file) g (function_in file g) (flow_right_lem w g t) (types_right_lem w g t) (few_parameters w g t) i h
        p c b y e

    -- what an instruction names is there
    pub operand_there : (ins : Instruction) → slot i (function_in file g).code ≡ Some ins → OperandThere (payload file) ins
    operand_there (Load a) e = tt
    operand_there (Build c) e = let k = at_build c e in (constructor_named w c k.0 k.1).0
    operand_there (Call c) e = let k = at_call c e in (function_named w c k.0 k.1).0
    operand_there (Branch c b) e = let k = at_branch c b e in (constructor_named w c k.1.kind k.1.known).0
    operand_there Return e = tt
    operand_there Stop e = tt
