-- What a file whose records are right and which 6, 7 and 8 pass gives: its functions, constructors and bounds as the code reads them.
use mathlib.Core.Path.{◌≡◌, refl, sym, ap, ◌∙◌}
use mathlib.Core.List.{List, [], ◌∷◌}
use Rattle.std.specs.Prelude.{Some}
use mathlib.Core.Bool.{true}
use Prim.Native.Nat.{ℕ, zero, suc, ◌+◌, ◌-◌, ◌≤◌, ◌<◌, zero-le}
use native.Mathlib.Omega.{arith}
use lib.ListN.{length, take, drop, get_or}
use lib.Seq.{length-take-le}
use lib.Dec.{leb, ltb}
use borrow.Author.Tests.{leb-true}
use Rattle.rules.specs.Base.{refusal, numbered, is_zero, all, any, byte_at, word_at, passed}
use Rattle.rules.specs.Container.{payload}
use Rattle.rules.specs.Program.{Constructor, Function, arity, constructor, function}
use Rattle.rules.specs.Records.{alternative_at, constructor_at, instruction_at, past_zero, alternative_right, constructor_offset}
use Rattle.rules.specs.Records.{alternative_offset, code_offset, instruction_offset, head_offset, constructor_of, alternative_of}
use Rattle.rules.specs.Records.{instruction_of}
use Rattle.rules.specs.Records.{function_of, program_of, four_at, program_in, function_in}
use Rattle.rules.specs.Declarations.{counted, argument_rule, bound_rule, bounds_right}
use Rattle.rules.specs.Stacks.{slot}
use Rattle.rules.specs.Flow.{flow_of, flow_right}
use Rattle.rules.specs.Types.{types_of, types_right}
use Rattle.rules.specs.There.{FunctionThere}
use Rattle.rules.proofs.ListLaws.{and_left, and_right, all_true, all_get_d}
use Rattle.rules.proofs.TriedLaws.{required}
use Rattle.rules.proofs.NumberedLaws.{numbered_length, numbered_is, numbered_there}
use Rattle.rules.proofs.RecordLaws.{arguments_length}
use Rattle.rules.proofs.ContainerLaws.{byte_small}
use Rattle.sizing.specs.declared.bounds.Bound.{Bound}
use Rattle.sizing.specs.Bounds.{rows_in, row_in, bound_in, BoundRight}
use Rattle.sizing.specs.Routines.{declared_bound}
use Rattle.sizing.specs.Walking.{Walking}
use Rattle.sizing.proofs.ListLaws.{element_at, numbered_same}
use Rattle.sizing.proofs.OwnLaws.{widened_past}
use Rattle.sizing.proofs.ConvertLaws.{Weights, OwnBound}
use Rattle.rules.proofs.EachLaws.{each_from_0, each_from_1}
use Rattle.rules.proofs.Accepted.{FlowsRightly, flows_rightly}

module _ {file heads : List ℕ} (w : Walking file heads) where
  ---- Constructors

  pub constructor_named : (c : ℕ) (k : Constructor) → constructor (program_in file) c ≡ Some k → (c < byte_at (payload file) 2)
      × (k ≡ constructor_of (constructor_at (payload file) (constructor_offset c)))
  unfolding program_of
  constructor_named c k e =
      numbered_is (λ c. constructor_of (constructor_at (payload file) (constructor_offset c))) (byte_at (payload file) 2) c e

  -- what is read of it
  pub constructor_read : (c : ℕ) (k : Constructor) → constructor (program_in file) c ≡ Some k
      → (length k.arguments ≡ byte_at (payload file) (constructor_offset c + 1)) × (length k.arguments ≤ 4)
      × (k.weight ≡ byte_at (payload file) (constructor_offset c + 6))
  unfolding constructor_of
  constructor_read c k e =
      let r = constructor_named c k e in
      let four = (w.records.there.constructor c r.0).1 in
      let long : length k.arguments ≡ byte_at (payload file) (constructor_offset c + 1) =
      ap (λ (y : Constructor). length y.arguments) r.1 ∙ arguments_length (payload file) (constructor_offset c) four in
      (long, omega arith, ap (λ (y : Constructor). y.weight) r.1)

  pub light : (c : ℕ) (k : Constructor) → constructor (program_in file) c ≡ Some k → k.weight ≤ 255
  light c k e = omega (arith, (constructor_read c k e).2, byte_small w.records.verified w.records.bytes (constructor_offset c + 6))

  pub weights : Weights file
  weights p r = record {
    there = (w.records.there.constructor p.constructor (constructor_named p.constructor r.declared_as r.known).0).0;
    weight = rw r.known (sym (constructor_read p.constructor r.declared_as r.known).2);
    light = rw r.known (light p.constructor r.declared_as r.known);
  }

  ---- Functions

  pub function_named : (g : ℕ) (f : Function) → function (program_in file) g ≡ Some f → (g < byte_at (payload file) 3)
      × (f ≡ function_in file g)
  unfolding program_of
  function_named g f e = numbered_is (λ g. function_in file g) (byte_at (payload file) 3) g e

  module _ (g : ℕ) (h : g < byte_at (payload file) 3) where
    function_is : function (program_in file) g ≡ Some (function_in file g)
    unfolding program_of
    function_is = numbered_there (λ g. function_in file g) (byte_at (payload file) 3) g h

    pub here : FunctionThere (payload file) (head_offset (payload file) g)
    here = w.records.there.function g h

    pub arity_is : arity (function_in file g) ≡ byte_at (payload file) (head_offset (payload file) g + 1)
    unfolding function_of
    arity_is = arguments_length (payload file) (head_offset (payload file) g) here.arity

    pub few_parameters : arity (function_in file g) ≤ 4
    few_parameters = omega (arith, arity_is, here.arity)

    pub code_length : length (function_in file g).code ≡ word_at (payload file) (head_offset (payload file) g + 8)
    unfolding function_of
    code_length =
        numbered_length (λ i. instruction_of (instruction_at (payload file)
        (instruction_offset (code_offset (payload file) (head_offset (payload file) g)) i)))
        (word_at (payload file) (head_offset (payload file) g + 8)) 0

    pub some_code : 1 ≤ length (function_in file g).code
    some_code = omega (arith, code_length, here.some_code)

    -- instruction i, from 1
    pub code_at : (i : ℕ) → 1 ≤ i → i ≤ length (function_in file g).code
        → (slot i (function_in file g).code
        ≡ Some (instruction_of (instruction_at (payload file)
        (instruction_offset (code_offset (payload file) (head_offset (payload file) g)) (i - 1)))))
        × (instruction_offset (code_offset (payload file) (head_offset (payload file) g)) (i - 1) + 4 ≤ length (payload file))
    unfolding function_of
    code_at zero l m = absurd (omega arith)
    code_at (suc i) l m =
        let z : suc i - 1 ≡ i = omega arith in
        let c = code_length in
        rw z (
          numbered_there (λ i. instruction_of
              (instruction_at (payload file) (instruction_offset (code_offset (payload file) (head_offset (payload file) g)) i)))
              (word_at (payload file) (head_offset (payload file) g + 8)) i (omega arith),
          (here.instruction i (omega arith)).0,
        )

    pub flow_right_lem : FlowsRightly g (function_in file g)
    unfolding flow_right
    flow_right_lem =
        flows_rightly g (function_in file g) some_code
        ((each_from_0 flow_of (program_in file).functions).0 w.typechecked.flowing.flow g (function_in file g) function_is)

    pub types_right_lem : types_of (program_in file) g (function_in file g) ≡ passed
    unfolding types_right
    types_right_lem =
        (each_from_0 (types_of (program_in file)) (program_in file).functions).0 w.typechecked.types g (function_in file g) function_is

    -- 6: each parameter counts in the bound
    pub parameter_counts : (v : ℕ) → v < arity (function_in file g)
        → any (λ a. ltb 0 (get_or a.coefficients v 0)) (function_in file g).bound ≡ true
    unfolding bounds_right bound_rule argument_rule counted
    parameter_counts v l =
        let f = function_in file g in
        let r = (each_from_0 bound_rule (program_in file).functions).0 w.typechecked.flowing.declared.bounds g f function_is in
        let q = (each_from_1 (argument_rule g f) f.parameters).0 r (suc v) (get_or f.parameters v 0) (element_at 0 f.parameters v l) in
        let e : suc v - 1 ≡ v = omega arith in
        rw e at (required (counted (suc v) f.bound) (refusal 6 g (suc v)) q)

    ---- The bound

    module _ (b : Bound) (is : b ≡ declared_bound (payload file) (head_offset (payload file) g)) where
      row_is : (i : ℕ) → row_in (payload file) b i ≡ alternative_at (payload file) (alternative_offset (head_offset (payload file) g) i)
      unfolding row_in
      row_is i = rw is

      rows_counted : rows_in b ≡ byte_at (payload file) (head_offset (payload file) g + 6)
      rows_counted = ap rows_in is

      counted_in : (i : ℕ) → i < rows_in b → i < byte_at (payload file) (head_offset (payload file) g + 6)
      counted_in i l = rw is at l

      row_right : (i : ℕ) → i < rows_in b → alternative_right (byte_at (payload file) (head_offset (payload file) g + 1))
          (alternative_at (payload file) (alternative_offset (head_offset (payload file) g) i)) ≡ true
      row_right i l = (here.alternative i (counted_in i l)).1

      small_at : (i : ℕ) → i < rows_in b → (k : ℕ)
          → get_or (four_at (payload file) (alternative_offset (head_offset (payload file) g) i)) k 0 ≤ 15
      unfolding alternative_right
      small_at i l k =
          all_get_d k 0 zero-le
          (all_true (λ c. leb c 15) (λ c h. leb-true c 15 h) (four_at (payload file) (alternative_offset (head_offset (payload file) g) i))
          (and_right (past_zero (byte_at (payload file) (head_offset (payload file) g + 1))
          (four_at (payload file) (alternative_offset (head_offset (payload file) g) i)))
          (all (λ c. leb c 15) (four_at (payload file) (alternative_offset (head_offset (payload file) g) i))) (row_right i l)))

      constant_small : (i : ℕ) → word_at (payload file) (alternative_offset (head_offset (payload file) g) i + 4) ≤ 65535
      constant_small i =
          let at = alternative_offset (head_offset (payload file) g) i + 4 in
          omega (
            arith,
            byte_small w.records.verified w.records.bytes at,
            byte_small w.records.verified w.records.bytes (at + 1),
          )

      pub bound_right : BoundRight (payload file) b
      bound_right =
          let c = rows_counted in let lo = here.some_alternatives in let hi = here.few_alternatives in
          record {
            some = omega arith;
            few = omega arith;
            there = λ i l. rw is (here.alternative i (counted_in i l)).0;
            each = λ i l. rw (row_is i) (record { four = refl; small = small_at i l; constant = constant_small i });
          }

      rows_are : bound_in (payload file) (byte_at (payload file) (head_offset (payload file) g + 1)) b ≡ (function_in file g).bound
      unfolding function_of
      rows_are =
          let n = byte_at (payload file) (head_offset (payload file) g + 1) in
          ap (numbered (λ k. alternative_of n (row_in (payload file) b k)) 0) rows_counted
          ∙ numbered_same (λ k. alternative_of n (row_in (payload file) b k))
          (λ k. alternative_of n (alternative_at (payload file) (alternative_offset (head_offset (payload file) g) k)))
          (byte_at (payload file) (head_offset (payload file) g + 6)) (λ k l. ap (alternative_of n) (row_is k))

      pub bound_is : bound_in (payload file) (arity (function_in file g)) b ≡ (function_in file g).bound
      bound_is = rw arity_is rows_are

      rows_own : OwnBound (payload file) (byte_at (payload file) (head_offset (payload file) g + 1)) b
      unfolding alternative_of alternative_right
      rows_own = record {
        right = bound_right;
        fits = λ i l. rw (row_is i) (record {
          narrow =
              omega (
                arith,
                length-take-le (byte_at (payload file) (head_offset (payload file) g + 1)) (four_at (payload file)
                    (alternative_offset (head_offset (payload file) g) i)) here.arity,
              );
          small =
              λ k. taken (byte_at (payload file) (head_offset (payload file) g + 1))
              (four_at (payload file) (alternative_offset (head_offset (payload file) g) i)) k (small_at i l k);
          constant = constant_small i;
        });
        padded = λ i l. rw (row_is i)
            (widened_past (byte_at (payload file) (head_offset (payload file) g + 1)) 0
            (four_at (payload file) (alternative_offset (head_offset (payload file) g) i))
            (word_at (payload file) (alternative_offset (head_offset (payload file) g) i + 4))
            (and_right (leb (byte_at (payload file) (head_offset (payload file) g + 1)) 4)
            (all is_zero (drop (byte_at (payload file) (head_offset (payload file) g + 1))
            (four_at (payload file) (alternative_offset (head_offset (payload file) g) i))))
            (and_left (past_zero (byte_at (payload file) (head_offset (payload file) g + 1))
            (four_at (payload file) (alternative_offset (head_offset (payload file) g) i)))
            (all (λ c. leb c 15) (four_at (payload file) (alternative_offset (head_offset (payload file) g) i))) (row_right i l))));
      }
        where
          taken : (m : ℕ) (xs : List ℕ) (k : ℕ) → get_or xs k 0 ≤ 15 → get_or (take m xs) k 0 ≤ 15
          taken zero xs k h = zero-le
          taken (suc m) [] k h = h
          taken (suc m) (x ∷ xs) zero h = h
          taken (suc m) (x ∷ xs) (suc k) h = taken m xs k h

      pub own_bound : OwnBound (payload file) (arity (function_in file g)) b
      own_bound = rw arity_is rows_own
