-- A program that passes the check: its type and shape tables hold of every instruction at once.
use mathlib.Core.Path.{◌≡◌, refl, sym, ap, ◌∙◌}
use mathlib.Core.List.{List, ◌∷◌}
use Rattle.std.specs.Prelude.{Some}
use mathlib.Core.Bool.{Bool, true, false, ◌&&◌, ◌||◌}
use Prim.Native.Nat.{ℕ, zero, suc, ◌≤◌}
use native.Mathlib.Omega.{arith}
use native.Mathlib.Nat.{le_trans, le_of_eq}
use lib.ListN.{length}
use lib.Dec.{ltb, eqb}
use borrow.Author.Tests.{eqb-true}
use Rattle.rules.specs.Base.{Tried, found, passed, all, each}
use Rattle.rules.specs.Container.{verify, payload}
use Rattle.rules.specs.Program.{Constructor, Function, Program, constructor, function}
use Rattle.rules.specs.Records.{or_else, decode}
use Rattle.rules.specs.Declarations.{constructor_rule, weight_right, declarations_right, bounds_right}
use Rattle.rules.specs.Stacks.{slot}
use Rattle.rules.specs.declared.records.Instruction.{Instruction}
use Rattle.rules.specs.Walk.{targets, hits, arrivals, Arrow, root_at, state_at, judged}
use Rattle.rules.specs.Flow.{passing, leaves_right, past_at, flow_rule, flow_of, flow_right}
use Rattle.rules.specs.Types.{type_rule, types_at, types_of, types_right}
use Rattle.rules.specs.Shapes.{shape_rule, start_shape, shape_at, sizes_of, sizes_right, Shape}
use Rattle.rules.specs.Check.{checked}
use Rattle.rules.proofs.ListLaws.{and_right, all_at, all_map}
use Rattle.rules.proofs.TriedLaws.{bind_found, found_inj, required}
use Rattle.rules.proofs.EachLaws.{each_from_0}
use Rattle.rules.proofs.WalkLaws.{count, slot_there, state_stands, along_passed, judged_found, state_all, Tree, root_start}
use Rattle.rules.proofs.WalkLaws.{state_start, state_leads}
use Rattle.rules.proofs.RuleLaws.{flow_found, leaves_ahead, type_all, shape_among, Low, type_low, shape_bound}
use Rattle.rules.proofs.RecordLaws.{DecodedFunction, DecodedConstructor, decoded}
use Rattle.rules.proofs.Models.{Light}
use Rattle.rules.proofs.TypedSound.{Stands, TypedFn}
use Rattle.rules.proofs.Sound.{SizedFn}

-- the parts of a check that passes
pub record Passed (bytes : List ℕ) (s : Program) : Type 0 where
  pub reads : decode (payload bytes) ≡ found s
  pub declarations : declarations_right s ≡ found tt
  pub bounds : bounds_right s ≡ found tt
  pub flow : flow_right s ≡ found tt
  pub types : types_right s ≡ found tt
  pub shapes : sizes_right s ≡ found tt

pub checked_parts : (bytes : List ℕ) (s : Program) → checked bytes ≡ found s → Passed bytes s
unfolding checked
checked_parts bytes s e =
    let v = bind_found (verify bytes) _ e in
    let d = bind_found (decode (payload bytes)) _ v.2 in
    let r₅ = bind_found (declarations_right d.0) _ d.2 in
    let r₆ = bind_found (bounds_right d.0) _ r₅.2 in
    let r₇ = bind_found (flow_right d.0) _ r₆.2 in
    let r₈ = bind_found (types_right d.0) _ r₇.2 in
    let r₉ = bind_found (sizes_right d.0) _ r₈.2 in
    let same = found_inj r₉.2 in
    rw (← same) (record { reads = d.1; declarations = r₅.1; bounds = r₆.1; flow = r₇.1; types = r₈.1; shapes = r₉.1 })

-- the height stays at most 16 at every state
pub low_states : (s : Program) (n : ℕ) (f : Function) → length f.parameters ≤ 16 → (i : ℕ) (ts : List ℕ) → types_at s n f i ≡ Some ts
    → length ts ≤ 16
low_states s n f few i ts h =
    state_all (type_rule s n f) (root_at 1 f.parameters) f.code (λ _ x. Low x)
    (λ j x e. rw (← (root_start (type_rule s n f) f.parameters f.code j x e).1) few)
    (λ i ins c x e M r l. type_low s n f i ins x M r l) i ts h

-- every shape has the function's own bound
pub own_bounds : (s : Program) (n : ℕ) (f : Function) (i : ℕ) (x : Shape) → shape_at s n f i ≡ Some x → x.bound ≡ f.bound
unfolding start_shape
own_bounds s n f i x h =
    state_all (shape_rule s n f) (root_at 1 (start_shape f)) f.code (λ _ x. x.bound ≡ f.bound)
    (λ j y e. ap (λ (y : Shape). y.bound) (sym (root_start (shape_rule s n f) (start_shape f) f.code j y e).1))
    (λ i ins c y e M r q. all_map (λ a p. p ∙ q) (shape_bound s n f i ins y M r)) i x h

-- a function whose flow is right
pub record FlowsRightly (n : ℕ) (f : Function) : Type 0 where
  pub tree : Tree f.code
  pub each : (i : ℕ) (ins : Instruction) → slot i f.code ≡ Some ins → flow_rule f.code n i ins (past_at f.code i) ≡ passed

pub flows_rightly : (n : ℕ) (f : Function) → 1 ≤ length f.code → flow_of n f ≡ passed → FlowsRightly n f
unfolding flow_of
flows_rightly n f h e = record {
  tree = record {
    some_code = h;
    ahead = λ i ins c. leaves_ahead (length f.code) i ins (or_else (past_at f.code i) false) (right i ins c).1;
    once = λ j lo hi. let c = there_is j (omega arith) hi in (right j c.0 c.1).0 lo;
  };
  each = every;
}
  where
    every : (i : ℕ) (ins : Instruction) → slot i f.code ≡ Some ins → flow_rule f.code n i ins (past_at f.code i) ≡ passed
    every = (along_passed passing (root_at 1 false) f.code (flow_rule f.code n)).0 e

    right : (i : ℕ) (ins : Instruction) → slot i f.code ≡ Some ins → (2 ≤ i → arrivals f.code i ≡ 1)
        × (leaves_right (length f.code) i ins (or_else (past_at f.code i) false) ≡ true)
    right i ins c = flow_found f.code n i ins (past_at f.code i) (every i ins c)

    there_is : (j : ℕ) → 1 ≤ j → j ≤ length f.code → (ins : Instruction) × (slot j f.code ≡ Some ins)
    there_is j lo hi = slot_there f.code j lo hi

-- the states of a rule that passes hold of every instruction at once
states_stand : {S : Type 0} (rule : ℕ → Instruction → S → Tried (List (Arrow S))) (x₁ : S) (code : List Instruction) → Tree code
    → ((i : ℕ) (ins : Instruction) (x : S) (M : List (Arrow S)) → rule i ins x ≡ found M → (j : ℕ) → count j M ≤ hits j (targets i ins))
    → judged rule (root_at 1 x₁) code ≡ passed → Stands (state_at rule (root_at 1 x₁) code) rule code
states_stand rule x₁ code tree among e i x h =
    let c = state_stands rule (root_at 1 x₁) code i h in
    let r = judged_found rule (root_at 1 x₁) code e i c.3 c.4 x h in
    (c.3, c.4, r.0, r.1, state_leads rule x₁ code tree among i c.3 c.4 x h r.0 r.1)

-- where 4, 7 and 8 hold
module _ (bytes : List ℕ) {s : Program} (reads : decode bytes ≡ found s) (flow : flow_right s ≡ passed) (types : types_right s ≡ passed)
    (n : ℕ) (f : Function) (e : function s n ≡ Some f) where
  function_reads : DecodedFunction bytes f
  function_reads = all_at n (decoded bytes reads).0 e

  pub function_flows : FlowsRightly n f
  unfolding flow_right
  function_flows = flows_rightly n f function_reads.some_code ((each_from_0 flow_of s.functions).0 flow n f e)

  pub types_stand : TypedFn s n f (types_at s n f)
  unfolding types_right types_of
  types_stand = record {
    type_start = state_start (type_rule s n f) f.parameters f.code function_reads.some_code;
    type_on = states_stand (type_rule s n f) f.parameters f.code function_flows.tree
        (λ i ins x M r j. le_of_eq (type_all s n f i ins x M r j)) ((each_from_0 (types_of s) s.functions).0 types n f e);
  }

module _ {bytes : List ℕ} {s : Program} (P : Passed bytes s) where
  pub decoded_function : (n : ℕ) (f : Function) → function s n ≡ Some f → DecodedFunction (payload bytes) f
  decoded_function n f e = all_at n (decoded (payload bytes) P.reads).0 e

  pub decoded_constructor : (c : ℕ) (k : Constructor) → constructor s c ≡ Some k → DecodedConstructor (payload bytes) k
  decoded_constructor c k e = all_at c (decoded (payload bytes) P.reads).1 e

  -- a constructor weighs nothing just where it has no arguments
  pub weight_right_lem : (c : ℕ) (k : Constructor) → constructor s c ≡ Some k → weight_right k ≡ true
  unfolding declarations_right constructor_rule
  weight_right_lem c k e =
      let d = bind_found (each (constructor_rule s.types) 0 s.constructors) _ P.declarations in
      let r = (each_from_0 (constructor_rule s.types) s.constructors).0 d.1 c k e in
      and_right (all (λ t. ltb t s.types) (k.result ∷ k.arguments)) (weight_right k) (required _ _ r)

  pub light : Light s
  unfolding weight_right
  light c k e len = one (length k.arguments) len (weight_right_lem c k e)
    where
      or-false : (b : Bool) → (b || false) ≡ true → b ≡ true
      or-false true h = refl
      or-false false h = h

      one : (m : ℕ) → m ≡ 0 → (eqb m 0 && eqb k.weight 0 || ltb 0 m && ltb 0 k.weight) ≡ true → k.weight ≡ 0
      one zero z h = eqb-true k.weight 0 (or-false (eqb k.weight 0) h)
      one (suc m) z h = absurd (omega arith)

  pub flowing : (n : ℕ) (f : Function) → function s n ≡ Some f → FlowsRightly n f
  flowing n f e = function_flows (payload bytes) P.reads P.flow P.types n f e

  pub types_accepted : (n : ℕ) (f : Function) → function s n ≡ Some f → TypedFn s n f (types_at s n f)
  types_accepted n f e = types_stand (payload bytes) P.reads P.flow P.types n f e

  pub sizes_accepted : (n : ℕ) (f : Function) → function s n ≡ Some f → SizedFn s n f (shape_at s n f)
  unfolding sizes_right sizes_of
  sizes_accepted n f e = record {
    few = le_trans (decoded_function n f e).few (omega arith);
    shape_start = state_start (shape_rule s n f) (start_shape f) f.code (decoded_function n f e).some_code;
    shape_on = states_stand (shape_rule s n f) (start_shape f) f.code (flowing n f e).tree (shape_among s n f)
        ((each_from_0 (sizes_of s) s.functions).0 P.shapes n f e);
    shape_own = own_bounds s n f;
  }

  pub types_low : (n : ℕ) (f : Function) → function s n ≡ Some f → (i : ℕ) (ts : List ℕ) → types_at s n f i ≡ Some ts → length ts ≤ 16
  types_low n f e i ts h = low_states s n f (le_trans (decoded_function n f e).few (omega arith)) i ts h
