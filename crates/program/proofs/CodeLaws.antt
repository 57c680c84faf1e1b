-- A function's code in the payload, as the passes read it: an instruction at each offset, and a test of each.
use mathlib.Core.Path.{◌≡◌, refl, ap, ◌∙◌}
use mathlib.Core.List.{List}
use Rattle.std.specs.Prelude.{Option, Some}
use Prim.Native.Nat.{ℕ, suc, ◌+◌, ◌≤◌, ◌<◌}
use native.Mathlib.Omega.{arith}
use native.Mathlib.Nat.{zero-add}
use lib.ListN.{length}
use Rattle.rules.specs.declared.records.Instruction.{Instruction}
use Rattle.rules.specs.Base.{Tried, Check, word_at, numbered, for_each}
use Rattle.rules.specs.There.{FunctionThere}
use Rattle.rules.specs.Established.{Verified}
use Rattle.rules.specs.Container.{payload}
use Rattle.rules.specs.Records.{instruction_at, instruction_of, code_offset, instruction_offset, function_of}
use Rattle.rules.specs.Stacks.{slot}
use Rattle.rules.specs.Walk.{Arrow, state_at, along}
use Rattle.rules.proofs.NumberedLaws.{numbered_length, numbered_at}
use Rattle.program.specs.declared.code.Code.{Code}
use Rattle.rules.proofs.WalkingLaws.{along_numbered}

-- instruction i, from 0, of code at an offset
abbrev pub code_at : List ℕ → ℕ → ℕ → Instruction
code_at bytes base i = instruction_of (instruction_at bytes (instruction_offset base i))

-- the code of the function whose head stands at an offset of a payload
pub record CodeThere (bytes : List ℕ) (at : ℕ) (c : Code) : Type 0 where
  pub there : FunctionThere bytes at
  pub small : length bytes ≤ 32256
  pub base : c.base ≡ code_offset bytes at
  pub last : c.last ≡ word_at bytes (at + 8)

pub code_there : {file : List ℕ} {at : ℕ} {c : Code} → Verified file → FunctionThere (payload file) at
    → (c.base ≡ code_offset (payload file) at) × (c.last ≡ word_at (payload file) (at + 8)) → CodeThere (payload file) at c
code_there o t q = record { there = t; small = o.small; base = q.0; last = q.1 }

module _ {bytes : List ℕ} {at : ℕ} {c : Code} (t : CodeThere bytes at c) where
  pub code_short : c.last ≤ 256
  code_short = omega (arith, t.last, t.there.short_code)

  -- instruction k, from 0, at its offset x as the code has it
  pub code_here_lem : {x : ℕ} (k : ℕ) → x ≡ instruction_offset c.base k → k < c.last → x + 4 ≤ length bytes
  code_here_lem k e h = omega (arith, t.base, (t.there.instruction k (omega (arith, t.last))).0)

  pub code_read : {x : ℕ} (k : ℕ) {ins : Instruction} → x ≡ instruction_offset c.base k → ins ≡ instruction_of (instruction_at bytes x)
      → ins ≡ code_at bytes c.base k
  code_read k e q = q ∙ ap (λ (x : ℕ). instruction_of (instruction_at bytes x)) e

  pub base_small : c.base ≤ 32256
  base_small = omega (arith, code_here_lem 0 refl (omega (arith, t.last, t.there.some_code)), t.small)

  pub code_is : (function_of bytes at).code ≡ numbered (code_at bytes c.base) 0 c.last
  unfolding function_of
  code_is = rw (t.base, t.last)

  pub code_length : length (function_of bytes at).code ≡ c.last
  code_length = ap length code_is ∙ numbered_length (code_at bytes c.base) c.last 0

  -- instruction k + 1 of the function, and a test of each with the state there
  pub code_slot : (k : ℕ) → k < c.last → slot (suc k) (function_of bytes at).code ≡ Some (code_at bytes c.base k)
  code_slot k h = rw code_is (numbered_at (code_at bytes c.base) c.last 0 k h ∙ rw (zero-add k))

  pub code_along : {S : Type 0} (rule : ℕ → Instruction → S → Tried (List (Arrow S))) (roots : ℕ → Option S)
      (test : ℕ → Instruction → Option S → Check)
      → along rule roots (function_of bytes at).code test
      ≡ for_each (λ k. test (suc k) (code_at bytes c.base k) (state_at rule roots (function_of bytes at).code (suc k))) 0 c.last
  code_along rule roots test = along_numbered rule roots (code_at bytes c.base) c.last code_is test
