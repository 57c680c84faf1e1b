-- The records of a payload: what stands where if all are right, and what a decoded program has (small arities and coefficients, numbers of
-- the payload's bytes, code).
use mathlib.Core.Path.{◌≡◌, refl, sym}
use mathlib.Core.List.{List}
use mathlib.Core.Bool.{Bool, true, ◌&&◌}
use Prim.Native.Nat.{ℕ, ◌+◌, ◌≤◌, ◌<◌}
use native.Mathlib.Omega.{arith}
use native.Mathlib.Nat.{le_trans, le_of_eq, zero-add}
use lib.ListN.{length, drop}
use lib.Seq.{length-take-le}
use lib.Dec.{leb, eqb}
use borrow.Author.Tests.{leb-true, lt-leb, le-leb, eqb-true}
use Rattle.rules.specs.declared.records.Alternative.{Alternative}
use Rattle.rules.specs.declared.records.Declaration.{Declaration}
use Rattle.rules.specs.Base.{found, refused, refusal, passed, require, within, is_zero, all, byte_at, word_at, for_each}
use Rattle.rules.specs.Lists.{All}
use Rattle.rules.specs.Program.{Constructor, Function, Program}
use Rattle.rules.specs.Records.{four_at, header_at, declaration_at, constructor_at, head_at, alternative_at, instruction_at, past_zero}
use Rattle.rules.specs.Records.{header_right, declaration_right, constructor_right, head_right, alternative_right, constructor_offset}
use Rattle.rules.specs.Records.{alternative_offset, code_offset, instruction_offset, head_offset, record_right, constructor_check}
use Rattle.rules.specs.Records.{alternative_check, instruction_check, function_right, constructors_right, functions_right, nothing_left}
use Rattle.rules.specs.Records.{records_right, arguments_of, constructor_of, alternative_of, instruction_of, function_of, program_of}
use Rattle.rules.specs.Records.{decode}
use Rattle.rules.specs.There.{FunctionThere, RecordsThere}
use Rattle.rules.proofs.ListLaws.{and_left, and_right, all_true, all_take}
use Rattle.rules.proofs.TriedLaws.{bind_found, found_inj, required}
use Rattle.rules.proofs.NumberedLaws.{numbered_length, numbered_all, for_each_at}

---- One record

-- a record that is right is all there, and its fields are in range
record_there : (size : ℕ) (bytes : List ℕ) (at : ℕ) (r : Bool) {u : Unit {0}} → record_right size bytes at r ≡ found u
    → (at + size ≤ length bytes) × (r ≡ true)
unfolding record_right
record_there size bytes at r e =
    let t = required (leb (at + size) (length bytes) && r) _ e in
    (leb-true _ _ (and_left (leb (at + size) (length bytes)) r t), and_right (leb (at + size) (length bytes)) r t)

-- as the code tests it, where n is the payload's length: one that is cut short, and one that is all there
pub record_short : (size : ℕ) (bytes : List ℕ) (at n : ℕ) (r : Bool) → n ≡ length bytes → n < at + size
    → refused (refusal 4 at 0) ≡ record_right size bytes at r
unfolding record_right
record_short size bytes at n r e h = simp (lt-leb (at + size) (length bytes) (omega arith))

pub record_whole : (size : ℕ) (bytes : List ℕ) (at n : ℕ) (r r' : Bool) → n ≡ length bytes → at + size ≤ n → r ≡ r'
    → require r (refusal 4 at 0) ≡ record_right size bytes at r'
unfolding record_right
record_whole size bytes at n r r' e h e' = simp (le-leb (at + size) (length bytes) (omega arith), e')

few_fields : (n : ℕ) (four : List ℕ) → past_zero n four ≡ true → n ≤ 4
few_fields n four e = leb-true n 4 (and_left (leb n 4) (all is_zero (drop n four)) e)

few_arguments : (d : Declaration) → declaration_right d ≡ true → d.arity ≤ 4
unfolding declaration_right
few_arguments d e = few_fields d.arity d.types e

pub arguments_length : (bytes : List ℕ) (at : ℕ) → byte_at bytes (at + 1) ≤ 4
    → length (arguments_of (declaration_at bytes at)) ≡ byte_at bytes (at + 1)
arguments_length bytes at h = length-take-le (byte_at bytes (at + 1)) (four_at bytes (at + 2)) h

---- A function

-- where the records of a function are right, it is there
function_there : (bytes : List ℕ) (at : ℕ) {u : Unit {0}} → function_right bytes at ≡ found u → FunctionThere bytes at
unfolding function_right head_right
function_there bytes at e =
    let one = bind_found (record_right 10 bytes at (head_right (head_at bytes at))) _ e in
    let two = bind_found (for_each (alternative_check bytes at) 0 (byte_at bytes (at + 6))) _ one.2 in
    let h = record_there 10 bytes at _ one.1 in
    let d = declaration_right (declaration_at bytes at) in
    let a = within 1 4 (byte_at bytes (at + 6)) in
    let z = is_zero (byte_at bytes (at + 7)) in
    let c = within 1 256 (word_at bytes (at + 8)) in
    let hc = and_right (d && a && z) c h.1 in
    let hda = and_left (d && a) z (and_left (d && a && z) c h.1) in
    let ha = and_right d a hda in
    record {
      head = h.0;
      arity = few_arguments (declaration_at bytes at) (and_left d a hda);
      some_alternatives = leb-true _ _ (and_left (leb 1 (byte_at bytes (at + 6))) (leb (byte_at bytes (at + 6)) 4) ha);
      few_alternatives = leb-true _ _ (and_right (leb 1 (byte_at bytes (at + 6))) (leb (byte_at bytes (at + 6)) 4) ha);
      some_code = leb-true _ _ (and_left (leb 1 (word_at bytes (at + 8))) (leb (word_at bytes (at + 8)) 256) hc);
      short_code = leb-true _ _ (and_right (leb 1 (word_at bytes (at + 8))) (leb (word_at bytes (at + 8)) 256) hc);
      alternative = λ k l. record_there 6 bytes (alternative_offset at k) _ (for_each_at (alternative_check bytes at) _ two.1 k l);
      instruction =
          λ i l. record_there 4 bytes (instruction_offset (code_offset bytes at) i) _
          (for_each_at (instruction_check bytes (code_offset bytes at)) _ two.2 i l);
    }

---- All records

pub records_there : (bytes : List ℕ) {u : Unit {0}} → records_right bytes ≡ found u → RecordsThere bytes
unfolding records_right constructors_right functions_right constructor_right nothing_left
records_there bytes e =
    let one = bind_found (record_right 4 bytes 0 (header_right (header_at bytes 0))) _ e in
    let two = bind_found (constructors_right bytes) _ one.2 in
    let three = bind_found (functions_right bytes) _ two.2 in
    let h = record_there 4 bytes 0 _ one.1 in
    record {
      header = h.0;
      header_right_lem = h.1;
      constructor = λ c l.
          let r = record_there 8 bytes (constructor_offset c) _ (for_each_at (constructor_check bytes) (byte_at bytes 2) two.1 c l) in
          let d = declaration_at bytes (constructor_offset c) in
          (r.0, few_arguments d (and_left (declaration_right d) (is_zero (byte_at bytes (constructor_offset c + 7))) r.1));
      function =
          λ g l. function_there bytes (head_offset bytes g)
          (for_each_at (λ g. function_right bytes (head_offset bytes g)) (byte_at bytes 3) three.1 g l);
      end = eqb-true _ _ (required (eqb (head_offset bytes (byte_at bytes 3)) (length bytes)) _ three.2);
    }

---- The decoded program

module _ (bytes : List ℕ) where
  -- an alternative's coefficients are at most 15, and its constant is a number of two bytes
  pub record DecodedAlternative (a : Alternative) : Type 0 where
    pub coefficients : All (λ c. c ≤ 15) a.coefficients
    pub place : ℕ
    pub constant : a.constant ≡ word_at bytes place

  pub record DecodedFunction (f : Function) : Type 0 where
    pub few : length f.parameters ≤ 4
    pub some_code : 1 ≤ length f.code
    pub some_bound : 1 ≤ length f.bound
    pub alternatives : All DecodedAlternative f.bound

  pub record DecodedConstructor (k : Constructor) : Type 0 where
    pub few : length k.arguments ≤ 4
    pub place : ℕ
    pub weight : k.weight ≡ byte_at bytes place

  alternative_decoded : (n at : ℕ) → alternative_right n (alternative_at bytes at) ≡ true
      → DecodedAlternative (alternative_of n (alternative_at bytes at))
  unfolding alternative_right alternative_of
  alternative_decoded n at e = record {
    coefficients =
        all_take n (all_true (λ c. leb c 15) (λ c h. leb-true c 15 h) (four_at bytes at)
        (and_right (past_zero n (four_at bytes at)) (all (λ c. leb c 15) (four_at bytes at)) e));
    place = at + 4;
    constant = refl;
  }

  function_decoded : (at : ℕ) → FunctionThere bytes at → DecodedFunction (function_of bytes at)
  unfolding function_of
  function_decoded at t = record {
    few = le_trans (le_of_eq (arguments_length bytes at t.arity)) t.arity;
    some_code =
        le_trans t.some_code (le_of_eq
        (sym (numbered_length (λ i. instruction_of (instruction_at bytes (instruction_offset (code_offset bytes at) i)))
        (word_at bytes (at + 8))
        0)));
    some_bound =
        le_trans t.some_alternatives (le_of_eq
        (sym (numbered_length (λ k. alternative_of (byte_at bytes (at + 1)) (alternative_at bytes (alternative_offset at k)))
        (byte_at bytes (at + 6)) 0)));
    alternatives =
        numbered_all (λ k. alternative_of (byte_at bytes (at + 1)) (alternative_at bytes (alternative_offset at k)))
        (byte_at bytes (at + 6)) 0
        (λ k l. rw (zero-add k) (alternative_decoded (byte_at bytes (at + 1)) (alternative_offset at k) (t.alternative k l).1));
  }

  constructor_decoded : (at : ℕ) → byte_at bytes (at + 1) ≤ 4 → DecodedConstructor (constructor_of (constructor_at bytes at))
  unfolding constructor_of
  constructor_decoded at h = record { few = le_trans (le_of_eq (arguments_length bytes at h)) h; place = at + 6; weight = refl }

  -- decoding in its two parts
  decode_parts : {s : Program} → decode bytes ≡ found s → (records_right bytes ≡ passed) × (program_of bytes ≡ s)
  unfolding decode
  decode_parts e = let r = bind_found (records_right bytes) _ e in (r.1, found_inj r.2)

  pub decoded : {s : Program} → decode bytes ≡ found s → All DecodedFunction s.functions × All DecodedConstructor s.constructors
  unfolding program_of
  decoded e =
      let r = decode_parts e in
      let t = records_there bytes r.0 in
      rw (← r.1) (
        numbered_all (λ g. function_of bytes (head_offset bytes g)) (byte_at bytes 3) 0
            (λ g l. rw (zero-add g) (function_decoded (head_offset bytes g) (t.function g l))),
        numbered_all (λ c. constructor_of (constructor_at bytes (constructor_offset c))) (byte_at bytes 2) 0
            (λ c l. rw (zero-add c) (constructor_decoded (constructor_offset c) (t.constructor c l).1)),
      )
