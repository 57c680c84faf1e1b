-- Where the check accepts, the readers give the program's records: the bytes as they stand are the payload, and each record is there.
use mathlib.Core.Path.{◌≡◌, refl, sym, ap, subst}
use mathlib.Core.List.{List}
use mathlib.Core.Bool.{true}
use Rattle.std.specs.Prelude.{Option, None, Some}
use Prim.Native.Nat.{ℕ, ◌+◌}
use native.Mathlib.Omega.{arith}
use Rattle.rules.specs.declared.records.Alternative.{Alternative}
use Rattle.rules.specs.declared.records.Instruction.{Instruction}
use Rattle.rules.specs.declared.records.Instruction.TheVariants.{Stop}
use Rattle.rules.specs.Base.{found, passed, byte_at, word_at}
use Rattle.rules.specs.Container.{verify, payload}
use Rattle.rules.specs.Check.{checked}
use Rattle.rules.specs.Established.{Verified}
use Rattle.rules.specs.Program.{Function, Program, constructor, function}
use Rattle.rules.specs.Records.{constructor_at, head_at, alternative_at, instruction_at, constructor_of}
use Rattle.rules.specs.Records.{alternative_of}
use Rattle.rules.specs.Records.{instruction_of, function_of, program_of, decode, records_right, is_some, or_else, operation}
use Rattle.rules.specs.Records.{constructor_offset, head_offset, alternative_offset, code_offset, instruction_offset}
use Rattle.rules.specs.There.{FunctionThere}
use Rattle.rules.proofs.Accepted.{checked_parts}
use Rattle.rules.proofs.CheckLaws.{verdict_accepted}
use Rattle.rules.proofs.ContainerLaws.{verified_length}
use Rattle.rules.proofs.NumberedLaws.{numbered_length, numbered_is}
use Rattle.rules.proofs.RecordLaws.{records_there, arguments_length}
use Rattle.rules.proofs.TriedLaws.{bind_found, found_inj}
use Rattle.opened.specs.Opened.{counts_from, counts_in, FunctionRead, OpenExact}
use Rattle.standing.proofs.StandingLaws.{found_payload}

is_some_lem : {A : Type 0} (o : Option A) (b : A) {a : A} → is_some o ≡ true → or_else o b ≡ a → o ≡ Some a
is_some_lem None b t e = let z : ◌≡◌ {A = ℕ} 0 1 = cc in absurd (omega arith)
is_some_lem (Some x) b t e = ap Some e

module _ {file : List ℕ} (v : Verified file) where
  function_read : (at : ℕ) → FunctionThere (payload file) at → FunctionRead file (function_of (payload file) at) at
  unfolding function_of instruction_of
  function_read at t =
      let alternative : ℕ → Alternative = λ k. alternative_of (byte_at (payload file) (at + 1)) (alternative_at (payload file)
      (alternative_offset at k)) in
      let instruction : ℕ → Instruction = λ i. instruction_of (instruction_at (payload file) (instruction_offset (code_offset (payload file)
      at) i)) in
      record {
        head = rw (found_payload v 10 head_at at t.head) (record {
          result = refl;
          parameters = refl;
          alternatives = sym (numbered_length alternative _ 0);
          instructions = sym (numbered_length instruction _ 0);
        });
        bound = λ k a e.
            let n = numbered_is alternative (byte_at (payload file) (at + 6)) k e in
            rw (
              found_payload v 6 alternative_at (alternative_offset at k) (t.alternative k n.0).0,
              arguments_length (payload file) at t.arity,
            ) (sym n.1);
        code = λ i ins e.
            let n = numbered_is instruction (word_at (payload file) (at + 8)) i e in
            let o = instruction_offset (code_offset (payload file) at) i in
            let there = t.instruction i n.0 in
            rw (found_payload v 4 instruction_at o there.0)
            (is_some_lem (operation (instruction_at (payload file) o)) Stop there.1 (sym n.1));
      }

-- what an accepted file's parts are
module _ (file : List ℕ) (s : Program) (e : checked file ≡ found s) where
  accepted_verified : Verified file
  unfolding checked
  accepted_verified =
      let one = bind_found (verify file) _ e in
      record { blocks = one.1; small = (verified_length file one.1).2 }

  accepted_records : (records_right (payload file) ≡ passed) × (program_of (payload file) ≡ s)
  unfolding decode
  accepted_records = let one = bind_found (records_right (payload file)) _ (checked_parts file s e).reads in (one.1, found_inj one.2)

pub open_exact : OpenExact
unfolding counts_in program_of
open_exact file s e =
    let v = accepted_verified file s e in
    let p = accepted_records file s e in
    let t = records_there (payload file) p.0 in
    record {
      counts = ap counts_from (verdict_accepted file e);
      constructors = λ c k h.
          let n = numbered_is (λ c. constructor_of (constructor_at (payload file) (constructor_offset c))) (byte_at (payload file) 2) c
          (subst (λ (x : Program). constructor x c ≡ Some k) (sym p.1) h) in
          rw (found_payload v 8 constructor_at (constructor_offset c) (t.constructor c n.0).0) (sym n.1);
      functions = λ g f h.
          let n = numbered_is (λ g. function_of (payload file) (head_offset (payload file) g)) (byte_at (payload file) 3) g
          (subst (λ (x : Program). function x g ≡ Some f) (sym p.1) h) in
          subst (λ (x : Function). FunctionRead file x (head_offset (payload file) g)) (sym n.1)
          (function_read v (head_offset (payload file) g) (t.function g n.0));
    }
