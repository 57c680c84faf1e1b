-- What the bytes of a parsed file and the index say of the program that it holds.
use Prim.Native.Nat.{ℕ, zero, suc, ◌+◌, ◌-◌, ◌≤◌, ◌<◌}
use mathlib.Core.Path.{◌≡◌, refl, sym, ap, ◌∙◌, subst}
use mathlib.Core.List.{List}
use Rattle.std.specs.Prelude.{Option, None, Some}
use mathlib.Core.Bool.{Bool, ◌&&◌}
use native.Mathlib.Omega.{arith}
use native.Mathlib.Nat.{zero-add}
use lib.ListN.{length}
use lib.Dec.{leb, eqb}
use borrow.Author.Tests.{leb-true}
use Rattle.rules.specs.declared.records.Instruction.{Instruction}
use Rattle.rules.specs.Base.{byte_at, word_at, numbered, within}
use Rattle.rules.specs.Container.{payload, place_of}
use Rattle.rules.specs.Program.{Constructor, Function, constructor, function}
use Rattle.rules.specs.Records.{constructor_of, function_of, instruction_of, program_of, constructor_at, instruction_at, header_right}
use Rattle.rules.specs.Records.{constructor_offset, head_offset, code_offset, instruction_offset, program_in}
use Rattle.rules.specs.There.{RecordsThere}
use Rattle.rules.specs.Established.{Parsed}
use Rattle.rules.specs.Stacks.{slot}
use Rattle.rules.specs.Machine.{current}
use Rattle.rules.specs.Prefix.{arity, arity_of}
use Rattle.rules.proofs.ListLaws.{some_inj, and_left, and_right, none_some, at_less}
use Rattle.rules.proofs.NumberedLaws.{numbered_length, numbered_at}
use Rattle.rules.proofs.RecordLaws.{arguments_length, records_there}
use Rattle.rules.proofs.MachineLaws.{bind_some}
use Rattle.rules.proofs.ContainerLaws.{verified_place, verified_byte}
use Rattle.rules.proofs.PrefixLaws.{arity_is}
use Rattle.fetch.specs.declared.index.Index.{Index}
use Rattle.fetch.specs.Indexed.{Indexed, constructor_arity, function_arity, arity_at, code_at}
use Rattle.fetch.specs.Places.{StandsAt}
use Rattle.fetch.specs.Arities.{inputs, place, NumbersInRange}
use Rattle.fetch.proofs.ArityLaws.{inputs_is}
use Rattle.fetch.proofs.PlaceLaws.{place_inside, place_offset, place_small}

module _ (bytes : List ℕ) where
  pub constructor_count : length (program_of bytes).constructors ≡ byte_at bytes 2
  unfolding program_of
  constructor_count = numbered_length _ (byte_at bytes 2) 0

  pub function_count : length (program_of bytes).functions ≡ byte_at bytes 3
  unfolding program_of
  function_count = numbered_length _ (byte_at bytes 3) 0

  pub constructor_is : (c : ℕ) → c < byte_at bytes 2
      → constructor (program_of bytes) c ≡ Some (constructor_of (constructor_at bytes (constructor_offset c)))
  unfolding program_of
  constructor_is c h = rw zero-add at (numbered_at (λ k. constructor_of (constructor_at bytes (constructor_offset k))) (byte_at bytes 2) 0
      c h)

  pub function_is : (f : ℕ) → f < byte_at bytes 3 → function (program_of bytes) f ≡ Some (function_of bytes (head_offset bytes f))
  unfolding program_of
  function_is f h = rw zero-add at (numbered_at (λ g. function_of bytes (head_offset bytes g)) (byte_at bytes 3) 0 f h)

  module _ (there : RecordsThere bytes) where
    few : (byte_at bytes 2 ≤ 64) × (byte_at bytes 3 ≤ 32)
    unfolding header_right
    few =
        let first : Bool = eqb (byte_at bytes 0) 1 && within 1 32 (byte_at bytes 1) in
        let c = and_right first (within 1 64 (byte_at bytes 2))
        (and_left (first && within 1 64 (byte_at bytes 2)) (within 1 32 (byte_at bytes 3)) there.header_right_lem) in
        let f = and_right (first && within 1 64 (byte_at bytes 2)) (within 1 32 (byte_at bytes 3)) there.header_right_lem in (
          leb-true (byte_at bytes 2) 64 (and_right (leb 1 (byte_at bytes 2)) (leb (byte_at bytes 2) 64) c),
          leb-true (byte_at bytes
              3) 32 (and_right (leb 1 (byte_at bytes 3)) (leb (byte_at bytes 3) 32) f),
        )

    held_arity : (c : ℕ) → c < byte_at bytes 2 → (arity (program_of bytes) c ≡ byte_at bytes (constructor_offset c + 1)) × (c < 64)
        × (byte_at bytes (constructor_offset c + 1) ≤ 4)
    unfolding constructor_of
    held_arity c h =
        let most = (there.constructor c h).1 in (
          arity_is (program_of bytes) c (constructor_is c h)
              ∙ arguments_length bytes (constructor_offset c) most,
          omega (arith, few.0),
          most,
        )

    held_inputs : (f : ℕ) → f < byte_at bytes 3 → (inputs (program_of bytes) f ≡ byte_at bytes (head_offset bytes f + 1)) × (f < 32)
        × (byte_at bytes (head_offset bytes f + 1) ≤ 4)
    unfolding function_of
    held_inputs f h =
        let most = (there.function f h).arity in
        (inputs_is (program_of bytes) f (function_is f h) ∙ arguments_length bytes (head_offset bytes f) most, omega (arith, few.1), most)

    -- where an instruction stands: function, number and record
    pub record CodePlaced (f i : ℕ) (ins : Instruction) : Type 0 where
      pub function : f < byte_at bytes 3
      pub first : 0 < i
      pub last : i - 1 < word_at bytes (head_offset bytes f + 8)
      pub is : ins ≡ instruction_of (instruction_at bytes (instruction_offset (code_offset bytes (head_offset bytes f)) (i - 1)))

    pub placed : (f i : ℕ) (ins : Instruction) → current (program_of bytes) (place f i) ≡ Some ins → CodePlaced f i ins
    unfolding current function_of
    placed f i ins e =
        let a = bind_some (function (program_of bytes) f) _ e in
        let h : f < byte_at bytes 3 = omega (arith, at_less (program_of bytes).functions f a.1, function_count) in
        let same : a.0 ≡ function_of bytes (head_offset bytes f) = some_inj (sym a.1 ∙ function_is f h) in
        go i h (subst (λ (k : Function). slot i k.code ≡ Some ins) same a.2)
      where
        go : (j : ℕ) → f < byte_at bytes 3 → slot j (function_of bytes (head_offset bytes f)).code ≡ Some ins → CodePlaced f j ins
        go zero h q = none_some q
        go (suc j) h q =
            let head = head_offset bytes f in
            let code : ℕ → Instruction = λ k. instruction_of (instruction_at bytes (instruction_offset (code_offset bytes head) k)) in
            let l = at_less (numbered code 0 (word_at bytes (head + 8))) j q in
            let n = numbered_length code (word_at bytes (head + 8)) 0 in
            let m : j < word_at bytes (head + 8) = omega (arith, l, n) in
            let w = numbered_at code (word_at bytes (head + 8)) 0 j m in
            let e₁ : suc j - 1 ≡ j = omega arith in
            record {
              function = h;
              first = omega arith;
              last = rw e₁ m;
              is = rw e₁ (some_inj (sym q ∙ w) ∙ ap code (zero-add j));
            }

---- A parsed file

module _ {file : List ℕ} (parsed : Parsed file) where
  there : RecordsThere (payload file)
  there = records_there (payload file) parsed.records

  pub in_range : NumbersInRange (program_in file)
  unfolding arity_of
  in_range = record {
    few = λ c. go c (constructor (program_in file) c) refl;
    at = λ f i ins e.
        let p = placed (payload file) there f i ins e in (
          (held_inputs (payload file) there f p.function).1,
          omega (arith, p.first, p.last, (there.function f p.function).short_code),
        );
  }
    where
      go : (c : ℕ) (o : Option Constructor) → constructor (program_in file) c ≡ o → arity (program_in file) c ≤ 4
      go c None e = rw e (omega arith)
      go c (Some k) e =
          let n = constructor_count (payload file) in
          let h : c < byte_at (payload file) 2 = omega (arith, at_less (program_in file).constructors c e) in
          let a = held_arity (payload file) there c h in
          omega (arith, a.0, a.2)

  -- what is read of a constructor of the program
  pub constructor_read : (c : ℕ) → c < length (program_in file).constructors
      → (c < byte_at (payload file) 2) × (constructor_arity file c ≡ arity (program_in file) c) × (arity (program_in file) c ≤ 4)
  constructor_read c h =
      let h' : c < byte_at (payload file) 2 = omega (arith, constructor_count (payload file)) in
      let a = held_arity (payload file) there c h' in
      (h', sym a.0, omega (arith, a.0, a.2))

  -- and of a function
  pub function_read : (f : ℕ) → f < length (program_in file).functions
      → (f < byte_at (payload file) 3) × (function_arity file f ≡ inputs (program_in file) f) × (inputs (program_in file) f ≤ 4) × (f < 32)
  function_read f h =
      let h' : f < byte_at (payload file) 3 = omega (arith, function_count (payload file)) in
      let a = held_inputs (payload file) there f h' in
      (h', sym a.0, omega (arith, a.0, a.2), a.1)

  -- where the arity of a constructor stands: its byte is in the file
  pub arity_stands : (c place : ℕ) → c < byte_at (payload file) 2 → place ≡ place_of (constructor_offset c + 1)
      → (place < length file) × (byte_at file place ≡ constructor_arity file c)
  arity_stands c place h e =
      let l : constructor_offset c + 1 < length (payload file) = omega (arith, (there.constructor c h).0) in
      rw e (verified_place parsed.verified (constructor_offset c + 1) l, verified_byte parsed.verified (constructor_offset c + 1) l)

  -- a constructor's number and arity are small
  pub constructor_small : (c : ℕ) → c < byte_at (payload file) 2 → (c < 64) × (constructor_arity file c ≤ 4)
  constructor_small c h = let a = held_arity (payload file) there c h in (a.1, a.2)

  -- and a function's
  pub function_small : (f : ℕ) → f < byte_at (payload file) 3 → (f < 32) × (function_arity file f ≤ 4)
  function_small f h = let a = held_inputs (payload file) there f h in (a.1, a.2)

---- An indexed one

module _ (file : List ℕ) (index : Index) (ok : Indexed file index) where
  -- where the arity of a function stands
  pub inputs_stand : (f place : ℕ) → f < byte_at (payload file) 3 → place ≡ arity_at index f
      → (place < length file) × (byte_at file place ≡ function_arity file f)
  inputs_stand f place h e =
      let v = ok.parsed.verified in
      let k : ℕ = head_offset (payload file) f + 1 in
      let l : k < length (payload file) = omega (arith, ((there ok.parsed).function f h).head) in
      rw (e ∙ (ok.function f h).arity) (verified_place v k l, verified_byte v k l)

  -- instruction 0 is there, so its place is in the file
  pub code_stands : (f : ℕ) → f < length (program_in file).functions → StandsAt file f 1 (code_at index f) × (code_at index f ≤ 33000)
  code_stands f h =
      let h' : f < byte_at (payload file) 3 = omega (arith, function_count (payload file)) in
      let k : ℕ = code_offset (payload file) (head_offset (payload file) f) in
      let r = (there ok.parsed).function f h' in
      let e : code_at index f ≡ place_of k = (ok.function f h').code in
      let short : k + 4 ≤ length (payload file) = omega (arith, (r.instruction 0 r.some_code).0) in
      rw e (
        record { first = omega arith; inside = place_inside k; is = omega (arith, place_offset k) },
        place_small (place_of k) (omega (arith, place_offset k, ok.parsed.verified.small)),
      )
