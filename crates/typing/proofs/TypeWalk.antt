-- The type pass of one function, whose flow is right: every instruction has a state, and its slot holds it.
use mathlib.Core.Path.{◌≡◌, refl, sym, ap, ◌∙◌}
use mathlib.Core.List.{List, ◌++◌}
use Rattle.std.specs.Prelude.{Option, None, Some}
use Prim.Native.Nat.{ℕ, zero, suc, ◌+◌, ◌≤◌, ◌<◌}
use native.Mathlib.Omega.{arith}
use native.Mathlib.Numerals.{add-one}
use native.Mathlib.Nat.{le_of_eq}
use lib.ListN.{length, get_or, set, replicate, length-set}
use lib.Seq.{get_or-set_other}
use Rattle.rules.specs.declared.records.Instruction.{Instruction}
use Rattle.rules.specs.Base.{Tried, found, refused, refusal, Check, passed, only, for_each}
use Rattle.rules.specs.Lists.{here, there}
use Rattle.rules.specs.Program.{Function}
use Rattle.rules.specs.Records.{function_of, program_of}
use Rattle.rules.specs.Stacks.{slot}
use Rattle.rules.specs.Walk.{targets, hits, Arrow, root_at, state_at, judge, judged, arrow_to}
use Rattle.rules.specs.Flow.{flow_of}
use Rattle.rules.specs.Types.{type_rule, types_of}
use Rattle.rules.proofs.WalkLaws.{count, state_reached, hits_all, arrow_count, In, judge_found}
use Rattle.rules.proofs.RuleLaws.{type_all}
use Rattle.rules.proofs.PassLaws.{Passing, pass_first, pass_stop, pass_next, pass_end}
use Rattle.rules.proofs.WalkingLaws.{WalkOn, walking_start, walking_here, walking_next}
use Rattle.rules.proofs.Accepted.{FlowsRightly, flows_rightly}
use Rattle.program.specs.declared.code.Code.{Code}
use Rattle.operands.specs.declared.stack.Stack.{Stack}
use Rattle.operands.specs.declared.operation.TypedStep.{TypedStep}
use Rattle.operands.specs.declared.operation.TypedStep.TheVariants.{Ends, Next, Both}
use Rattle.std.proofs.lemmas.List.{get_or_default}
use Rattle.operands.specs.Operands.{stack_of, arrows_of, typed_of, TypeSays}
use Rattle.program.proofs.CodeLaws.{code_at, CodeThere, code_short, code_length, code_slot, code_along}
use Rattle.rules.proofs.ListLaws.{none_some, some_inj}

-- what a place behind the end of a list of stacks is read as
abbrev no_stack : Stack
no_stack = record { height = 0; types = replicate 16 0; places = refl; within = omega arith }

-- a slot's stack has these types
abbrev Has : Stack → List ℕ → Type 0
Has st types = stack_of st ≡ types

-- slot 0, which no instruction has, says nothing
walk_from_1 : {S : Type 0} (rule : ℕ → Instruction → S → Tried (List (Arrow S))) (x₁ : S) (code : List Instruction) {W : Type 0}
    (R : W → S → Type 0) (d : W) {k : ℕ} {w : List W} (v : W) → WalkOn rule x₁ code R d (suc k) (set w 0 v)
    → WalkOn rule x₁ code R d (suc k) w
walk_from_1 rule x₁ code R d {k} {w} v s = record {
  within = s.within;
  room = rw (length-set w 0 v) at s.room;
  waits = λ j y lo hi e. rw (get_or-set_other w 0 j v d (λ q. absurd (omega arith))) at (s.waits j y lo hi e);
}

module _ (bytes : List ℕ) (at g : ℕ) (c : Code) where
  abbrev fn : Function
  fn = function_of bytes at

  abbrev typing : ℕ → Instruction → List ℕ → Tried (List (Arrow (List ℕ)))
  typing = type_rule (program_of bytes) g fn

  abbrev types_here : ℕ → Option (List ℕ)
  types_here i = state_at typing (root_at 1 fn.parameters) fn.code i

  -- the rule at instruction k + 1
  abbrev rule : ℕ → Check
  rule k = judge typing (root_at 1 fn.parameters) fn.code (suc k) (code_at bytes c.base k) (types_here (suc k))

  abbrev whole : Check
  whole = types_of (program_of bytes) g fn

  -- the pass is at instruction k + 1
  pub record Typing (k : ℕ) (w : List Stack) : Type 0 where
    pub code : CodeThere bytes at c
    flow : FlowsRightly g fn
    walking : WalkOn typing fn.parameters fn.code Has no_stack k w
    passing : Passing rule c.last k

  pub typing_start : CodeThere bytes at c → flow_of g fn ≡ passed → (empty first : Stack) → Has first fn.parameters
      → Typing 0 (set (replicate 257 empty) 1 first)
  typing_start t e empty first o = record {
    code = t;
    flow = flows_rightly g fn (omega (arith, code_length t, t.last, t.there.some_code)) e;
    walking = walking_start typing fn.parameters fn.code Has no_stack (set (replicate 257 empty) 1 first)
        (omega (arith, code_short t, code_length t)) o;
    passing = pass_first;
  }

  typing_whole : CodeThere bytes at c → for_each rule 0 c.last ≡ whole
  unfolding types_of judged
  typing_whole t =
      sym (code_along t typing (root_at 1 fn.parameters) (judge typing (root_at 1 fn.parameters) fn.code))

  pub typing_end : {k : ℕ} {w : List Stack} → Typing k w → c.last ≤ k → passed ≡ whole
  typing_end s h = pass_end s.passing h ∙ typing_whole s.code

  module _ {k : ℕ} {w : List Stack} (s : Typing k w) (h : k < c.last) where
    inside : suc k ≤ length fn.code
    inside = omega (arith, code_length s.code)

    here_slot : slot (suc k) fn.code ≡ Some (code_at bytes c.base k)
    here_slot = code_slot s.code k h

    -- every instruction so far has passed, so this one has a state
    passes : (i : ℕ) (ins : Instruction) → i < suc k → slot i fn.code ≡ Some ins → (ts : List ℕ) → types_here i ≡ Some ts
        → (M : List (Arrow (List ℕ))) × (typing i ins ts ≡ found M)
    passes zero ins l e ts q = none_some e
    passes (suc j) ins l e ts q =
        let is : code_at bytes c.base j ≡ ins = some_inj (sym (code_slot s.code j (omega arith)) ∙ e) in
        judge_found typing (root_at 1 fn.parameters) fn.code (suc j) ins ts (rw is at (s.passing.before j (omega arith))) q

    here_state : (ts : List ℕ) × (types_here (suc k) ≡ Some ts)
    here_state =
        state_reached typing fn.parameters fn.code s.flow.tree (type_all (program_of bytes) g fn) (suc k) passes (suc k)
        (omega arith) (omega arith) inside

    pub typing_listed : k + 1 < length w
    typing_listed = omega (arith, s.walking.room, inside)

    -- the stack in the slot is the one that arrives
    module _ (d : Stack) {st : Stack} (is_read : get_or w (k + 1) d ≡ st) where
      slot_is : get_or w (suc k) no_stack ≡ st
      slot_is = get_or_default w (suc k) no_stack d (omega (arith, s.walking.room, inside)) ∙ (rw add-one at is_read)

      here_is : types_here (suc k) ≡ Some (stack_of st)
      here_is =
          let has : Has st here_state.0 =
          rw slot_is at (walking_here typing fn.parameters fn.code Has no_stack s.walking inside here_state.0 here_state.1) in
          here_state.1 ∙ ap Some (sym has)

      module _ {ins : Instruction} (is : ins ≡ code_at bytes c.base k) {r : Option TypedStep}
          (says : TypeSays g (k + 1) (stack_of st) r (typing (k + 1) ins (stack_of st))) where
        here_says : TypeSays g (suc k) (stack_of st) r (typing (suc k) (code_at bytes c.base k) (stack_of st))
        here_says = rw (add-one k, is) at says

        here_rule : rule k ≡ only (typed_of g (suc k) (stack_of st) r)
        here_rule = rw (here_is, here_says.says)

        pub typing_wrong : r ≡ None → refused (refusal 8 g (k + 1)) ≡ whole
        typing_wrong e =
            ap (λ (i : ℕ). refused (refusal 8 g i)) (add-one k) ∙ pass_stop s.passing h (here_rule ∙ rw e) ∙ typing_whole s.code

        module _ {l : TypedStep} (e : r ≡ Some l) where
          abbrev leaving : List (Arrow (List ℕ))
          leaving = arrows_of (suc k) (stack_of st) l

          here_leaves : typing (suc k) (code_at bytes c.base k) (stack_of st) ≡ found leaving
          here_leaves = sym here_says.says ∙ rw e

          here_all : (j : ℕ) → count j leaving ≡ hits j (targets (suc k) (code_at bytes c.base k))
          here_all = type_all (program_of bytes) g fn (suc k) (code_at bytes c.base k) (stack_of st) leaving here_leaves

          -- what leaves leads on, within the code
          leads_within : (j : ℕ) (x : List ℕ) → In (j, x) leaving → (suc k < j) × (j ≤ c.last)
          leads_within j x m =
              let l = hits_all j (s.flow.tree.ahead (suc k) (code_at bytes c.base k) here_slot)
              (rw (here_all j) at (arrow_count leaving (j, x) m)) in
              (l.0, omega (arith, l.1, code_length s.code))

          goes : (w' : List Stack) → WalkOn typing fn.parameters fn.code Has no_stack (suc k) w' → Typing (k + 1) w'
          goes w' o = record {
            code = s.code;
            flow = s.flow;
            walking = rw (add-one k) o;
            passing = pass_next s.passing h (here_rule ∙ rw e);
          }

          -- two stores, of which those to slot 0 are none
          stores : (on to : ℕ) (y z : List ℕ) (v u : Stack) → leaving ≡ arrow_to on y ++ arrow_to to z → on ≤ c.last → to ≤ c.last
              → Has v y → Has u z → WalkOn typing fn.parameters fn.code Has no_stack (suc k) (set (set w to u) on v)
          stores on to y z v u q l l' v_has u_has =
              walking_next typing fn.parameters fn.code Has no_stack s.walking inside s.flow.tree (code_at bytes c.base k) here_slot
              (stack_of st) here_is on to y z v u (here_leaves ∙ ap found q) (λ j. le_of_eq (ap (count j) (sym q) ∙ here_all j))
              (omega (arith, code_length s.code)) (omega (arith, code_length s.code)) v_has u_has

        pub typing_ends : r ≡ Some Ends → Typing (k + 1) w
        unfolding arrow_to
        typing_ends e =
            goes e w (walk_from_1 typing fn.parameters fn.code Has no_stack st (walk_from_1 typing fn.parameters fn.code Has no_stack st
            (stores e 0 0 (stack_of st) (stack_of st) st st refl (omega arith) (omega arith) refl refl)))

        module _ {next : Stack} where
          pub room_one : r ≡ Some (Next next) → k + 1 + 1 ≤ c.last
          room_one e = rw (add-one (k + 1), add-one k) (leads_within e (suc (suc k)) (stack_of next) (here refl)).1

          pub typing_one : r ≡ Some (Next next) → Typing (k + 1) (set w (k + 1 + 1) next)
          unfolding arrow_to
          typing_one e =
              let z : k + 1 + 1 ≡ suc (suc k) = omega arith in
              rw z (goes e (set w (suc (suc k)) next) (walk_from_1 typing fn.parameters fn.code Has no_stack st
              (stores e 0 (suc (suc k)) (stack_of st) (stack_of next) st next refl (omega arith)
              (leads_within e (suc (suc k)) (stack_of next) (here refl)).1 refl refl)))

          module _ {to : ℕ} where
            pub room_two : r ≡ Some (Both next to) → (k + 1 + 1 ≤ c.last) × (to ≤ c.last)
            room_two e = (
              rw (add-one (k + 1), add-one k) (leads_within e (suc (suc k)) (stack_of next) (here refl)).1,
              (leads_within e to (stack_of st) (there (here refl))).1,
            )

            pub typing_two : r ≡ Some (Both next to) → Typing (k + 1) (set (set w to st) (k + 1 + 1) next)
            unfolding arrow_to
            typing_two e =
                let z : k + 1 + 1 ≡ suc (suc k) = omega arith in
                rw z (goes e (set (set w to st) (suc (suc k)) next) (both to refl))
              where
                both : (t : ℕ) → to ≡ t → WalkOn typing fn.parameters fn.code Has no_stack (suc k) (set (set w to st) (suc (suc k)) next)
                both zero q = absurd (omega (arith, (leads_within e to (stack_of st) (there (here refl))).0))
                both (suc t) q =
                    stores e (suc (suc k)) to (stack_of next) (stack_of st) next st (rw q refl)
                    (leads_within e (suc (suc k)) (stack_of next) (here refl)).1
                    (leads_within e to (stack_of st) (there (here refl))).1 refl refl
