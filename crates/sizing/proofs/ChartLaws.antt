-- What 7 and 8 give at each instruction that is reached: its operands are there, and what follows it is reached.
use mathlib.Core.Path.{◌≡◌, refl, ap, ◌∙◌}
use mathlib.Core.List.{List, [], ◌∷◌, ◌++◌}
use Rattle.std.specs.Prelude.{Some}
use mathlib.Core.Bool.{Bool, true, false}
use Prim.Native.Nat.{ℕ, suc, ◌+◌, ◌-◌, ◌≤◌}
use native.Mathlib.Omega.{arith}
use native.Mathlib.Nat.{le_trans, le_of_eq}
use lib.ListN.{length, length-append}
use lib.Seq.{length-take-le}
use Rattle.rules.specs.declared.records.Instruction.{Instruction}
use Rattle.rules.specs.declared.records.Instruction.TheVariants.{Load, Build, Call, Branch}
use Rattle.rules.specs.Base.{found, passed}
use Rattle.rules.specs.Program.{Constructor, Function, Program, arity, constructor, function}
use Rattle.rules.specs.Stacks.{slot, split, push}
use Rattle.rules.specs.Walk.{Arrow, root_at}
use Rattle.rules.specs.Flow.{passing, past_at}
use Rattle.rules.specs.Types.{type_rule, types_at, types_of}
use Rattle.rules.specs.Lists.{All}
use Rattle.rules.proofs.ListLaws.{slot_low, split_parts, all_one, all_two}
use Rattle.rules.proofs.WalkLaws.{LeadsOn, state_stands, judged_found, state_start, state_leads}
use Rattle.rules.proofs.RuleLaws.{flow_found, branch_leaves, type_all, type_load, type_build, type_call, type_branch}
use Rattle.rules.proofs.Accepted.{FlowsRightly, low_states}
use Rattle.rules.proofs.Calls.{past_leads}
use Rattle.sizing.specs.Chart.{ReachedAt}

-- a split: how high it is, and what is left below
split_low : {A : Type 0} (n : ℕ) (xs : List A) {p : List A × List A} → split n xs ≡ Some p → (n ≤ length xs)
    × (length p.0 ≡ length xs - n)
split_low n xs e =
    let r = split_parts n xs e in
    (r.0, ap (λ (q : _ × _). length q.0) r.1 ∙ length-take-le (length xs - n) xs (omega arith))

-- a branch: the else target lies further on than the next instruction, and no build or call has been passed on the way to either
pub record Branches (s : Program) (g : ℕ) (f : Function) (i h c b : ℕ) : Type 0 where
  pub kind : Constructor
  pub known : constructor s c ≡ Some kind
  pub some_stack : 1 ≤ h
  pub ahead : i + 2 ≤ b
  pub next : ReachedAt s g f (suc i) (h - 1 + length kind.arguments) false
  pub other : ReachedAt s g f b h false

module _ (s : Program) (g : ℕ) (f : Function) (flow : FlowsRightly g f) (types : types_of s g f ≡ passed) (few : arity f ≤ 4) where
  pub at_start : ReachedAt s g f 1 (arity f) false
  at_start = record {
    stack = f.parameters;
    types = state_start (type_rule s g f) f.parameters f.code flow.tree.some_code;
    high = refl;
    flow = state_start passing false f.code flow.tree.some_code;
  }

  pub at_low : (i h : ℕ) (p : Bool) → ReachedAt s g f i h p → h ≤ 16
  at_low i h p a = rw a.high at (low_states s g f (le_trans few (omega arith)) i a.stack a.types)

  abbrev Types : ℕ → Instruction → List ℕ → Type 0
  Types i ins ts = (M : List (Arrow (List ℕ))) × (type_rule s g f i ins ts ≡ found M) × All (LeadsOn (types_at s g f)) M

  -- the type rule holds of an instruction that is there, and the paths are handed on
  at_as : (i h : ℕ) (p : Bool) (a : ReachedAt s g f i h p) (ins : Instruction) → slot i f.code ≡ Some ins → Types i ins a.stack
  unfolding types_of
  at_as i h p a ins c =
      let r = judged_found (type_rule s g f) (root_at 1 f.parameters) f.code types i ins c a.stack a.types in (
        r.0,
        r.1,
        state_leads (type_rule s g f) f.parameters f.code flow.tree
            (λ i ins x M e j. le_of_eq (type_all s g f i ins x M e j)) i ins c a.stack a.types r.0 r.1,
      )

  goes_on_lem : (i h : ℕ) (p : Bool) (a : ReachedAt s g f i h p) (ins : Instruction) → slot i f.code ≡ Some ins → {L : List (Arrow Bool)}
      → passing i ins p ≡ found L → All (LeadsOn (past_at f.code)) L
  goes_on_lem i h p a ins c e = past_leads s g f flow i ins c p a.flow e

  pub at_there : (i h : ℕ) (p : Bool) → ReachedAt s g f i h p → (1 ≤ i) × (i ≤ length f.code)
  at_there i h p a =
      let c = state_stands (type_rule s g f) (root_at 1 f.parameters) f.code i a.types in
      slot_low i f.code c.4

  pub at_load : (i h : ℕ) (p : Bool) (a : ℕ) → ReachedAt s g f i h p → slot i f.code ≡ Some (Load a) → (1 ≤ a) × (a ≤ h)
      × ReachedAt s g f (suc i) (h + 1) p
  unfolding passing
  at_load i h p a y e =
      let r = at_as i h p y (Load a) e in
      let t = type_load s g f i a y.stack r.1 in
      let b = slot_low a y.stack t.1 in
      let z = y.high in (
        b.0,
        omega (arith, b.1),
        record {
          stack = push y.stack t.0;
          types = all_one t.2 r.2;
          high = length-append y.stack (t.0 ∷ []) ∙ omega arith;
          flow = all_one refl (goes_on_lem i h p y (Load a) e refl);
        },
      )

  pub at_build : (i h : ℕ) (p : Bool) (c : ℕ) → ReachedAt s g f i h p → slot i f.code ≡ Some (Build c)
      → (k : Constructor) × (constructor s c ≡ Some k) × (length k.arguments ≤ h)
      × ReachedAt s g f (suc i) (h - length k.arguments + 1) true
  unfolding passing
  at_build i h p c y e =
      let r = at_as i h p y (Build c) e in
      let t = type_build s g f i c y.stack r.1 in
      let b = split_low (length t.0.arguments) y.stack t.3 in
      let z = y.high in (
        t.0,
        t.1,
        omega (arith, b.0),
        record {
          stack = push t.2 t.0.result;
          types = all_one t.4 r.2;
          high = length-append t.2 (t.0.result ∷ []) ∙ omega (arith, b.1);
          flow = all_one refl (goes_on_lem i h p y (Build c) e refl);
        },
      )

  pub at_call : (i h : ℕ) (p : Bool) (c : ℕ) → ReachedAt s g f i h p → slot i f.code ≡ Some (Call c)
      → (k : Function) × (function s c ≡ Some k) × (arity k ≤ h) × ReachedAt s g f (suc i) (h - arity k + 1) true
  unfolding passing
  at_call i h p c y e =
      let r = at_as i h p y (Call c) e in
      let t = type_call s g f i c y.stack r.1 in
      let b = split_low (length t.0.parameters) y.stack t.3 in
      let z = y.high in (
        t.0,
        t.1,
        omega (arith, b.0),
        record {
          stack = push t.2 t.0.result;
          types = all_one t.4 r.2;
          high = length-append t.2 (t.0.result ∷ []) ∙ omega (arith, b.1);
          flow = all_one refl (goes_on_lem i h p y (Call c) e refl);
        },
      )

  pub at_branch : (i h : ℕ) (p : Bool) (c b : ℕ) → ReachedAt s g f i h p → slot i f.code ≡ Some (Branch c b) → (p ≡ false)
      × Branches s g f i h c b
  unfolding passing
  at_branch i h p c b y e =
      let r = at_as i h p y (Branch c b) e in
      let t = type_branch s g f i c b y.stack r.1 in
      let right = (flow_found f.code g i (Branch c b) (past_at f.code i) (flow.each i (Branch c b) e)).1 in
      let l = branch_leaves (length f.code) i c b p (rw y.flow at right) in
      let d = split_low 1 y.stack t.3 in
      let z = y.high in
      let types = all_two t.4 r.2 in
      let flows = all_two refl (goes_on_lem i h p y (Branch c b) e refl) in (
        l.2,
        record {
          kind = t.0;
          known = t.1;
          some_stack = omega (arith, d.0);
          ahead = l.0;
          next = record {
            stack = t.2 ++ t.0.arguments;
            types = types.0;
            high = length-append t.2 t.0.arguments ∙ omega (arith, d.1);
            flow = flows.0 ∙ ap Some l.2;
          };
          other = record { stack = y.stack; types = types.1; high = y.high; flow = flows.1 ∙ ap Some l.2 };
        },
      )
