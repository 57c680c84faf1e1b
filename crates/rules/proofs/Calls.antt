-- At a branch no call's result is on the stack: none has been passed on the path.
use Rattle.std.specs.Prelude.{if◌then◌else◌, Option, Some}
use mathlib.Core.Path.{◌≡◌, refl, sym, ap, ◌∙◌}
use mathlib.Core.List.{List, [], ◌∷◌, ◌++◌}
use mathlib.Core.Bool.{Bool, true, false}
use Prim.Native.Nat.{ℕ, zero, suc}
use native.Mathlib.Omega.{arith}
use native.Mathlib.Nat.{le_of_eq}
use lib.ListN.{length}
use lib.Dec.{eqb}
use Rattle.rules.specs.declared.records.Instruction.{Instruction}
use Rattle.rules.specs.declared.records.Instruction.TheVariants.{Load, Build, Call, Branch, Return, Stop}
use Rattle.rules.specs.Base.{found}
use Rattle.rules.specs.Program.{Function, Program, arity}
use Rattle.rules.specs.Tree.{node, to_list, made}
use Rattle.rules.specs.Stacks.{slot}
use Rattle.rules.specs.Walk.{Arrow, root_at}
use Rattle.rules.specs.Flow.{passing, past_at}
use Rattle.rules.specs.Expressions.{variable, known, built, called, Expression, variables}
use Rattle.rules.specs.Shapes.{Shape, with_stack, split_variable, branch_on, shape_from, shape_rule, start_shape, shape_at}
use Rattle.rules.specs.Lists.{All, l[], ◌l∷◌}
use Rattle.rules.specs.Facts.{Plain, BranchFact, Unmade}
use Rattle.rules.proofs.ListLaws.{none_some, all_append, all_one, at_less, all_slot, all_parts}
use Rattle.rules.proofs.TriedLaws.{found_inj}
use Rattle.rules.proofs.WalkLaws.{LeadsOn, BringsAt, state_all, state_leads, state_reached, root_start}
use Rattle.rules.proofs.RuleLaws.{flow_found, branch_leaves, passing_found, passing_all, shape_covered, shape_load, shape_build}
use Rattle.rules.proofs.RuleLaws.{shape_call, shape_branch, branch_none, branch_variable, branch_known, branch_built, branch_called}
use Rattle.rules.proofs.ExpressionLaws.{every_list, every_trees, every_fresh, every_replaced, unmade_stays}
use Rattle.rules.proofs.Accepted.{FlowsRightly, flowing, checked_parts}

true_false : Some true ≡ Some false → ⊥
true_false e = let z : ◌≡◌ {A = ℕ} 0 1 = cc in omega arith

module _ (s : Program) (n : ℕ) (f : Function) (flow : FlowsRightly n f) where
  abbrev past : ℕ → Option Bool
  past i = past_at f.code i

  -- every instruction is on a path, and hands on whether a build or call has been passed
  past_there : (i : ℕ) (ins : Instruction) → slot i f.code ≡ Some ins → (p : Bool) × (past i ≡ Some p)
  past_there zero ins c = none_some c
  past_there (suc d) ins c =
      state_reached passing false f.code flow.tree passing_all (suc d) (λ i ins l c x e. passing_found i ins x) (suc d) (omega arith)
      (omega arith) (at_less f.code d c)

  pub past_leads : (i : ℕ) (ins : Instruction) → slot i f.code ≡ Some ins → (p : Bool) → past i ≡ Some p → {L : List (Arrow Bool)}
      → passing i ins p ≡ found L → All (LeadsOn past) L
  past_leads i ins c p e {L} r =
      state_leads passing false f.code flow.tree (λ i ins x M r j. le_of_eq (passing_all i ins x M r j)) i ins c p e L r

  fresh : (b n : ℕ) → All Plain (variables b n)
  fresh b n = every_fresh Unmade (λ k. tt) b n

  -- nothing made is on the stack where nothing has been made
  abbrev Free : ℕ → Shape → Type 0
  Free i x = past i ≡ Some false → All Plain x.stack

  branch_free : (i : ℕ) (x : Shape) (rest : List Expression) (c args b : ℕ) (es : List Expression) (M : List (Arrow Shape))
      → All Plain x.stack → All Plain rest → All Plain es
      → branch_on s n f i x rest c args b es ≡ found M → All (BringsAt Free) M
  unfolding split_variable
  branch_free i x rest c args b [] M h r q e = absurd (branch_none s n f i x rest c args b e)
  branch_free i x rest c args b (node (variable v) ts ∷ more) M h r q e =
      let new : Expression = made (known c) (variables x.count args) in
      rw (branch_variable s n f i x rest c args b v ts more e).1
      ((λ _. all_append (every_replaced Unmade v new (tt, every_trees Unmade (fresh x.count args)) (unmade_stays v new) r) (fresh
      x.count args)) l∷ (λ _. h) l∷ l[])
  branch_free i x rest c args b (node (known d) ts ∷ more) M h r (q l∷ qs) e =
      rw (branch_known s n f i x rest c args b d ts more e) (one (eqb d c))
    where
      one : (y : Bool) → All (BringsAt Free) ((if y then (suc i, with_stack x (rest ++ to_list ts)) else (b, x)) ∷ [])
      one true = (λ _. all_append r (every_list Unmade ts q.1)) l∷ l[]
      one false = (λ _. h) l∷ l[]
  branch_free i x rest c args b (node (built d) ts ∷ more) M h r q e = absurd (branch_built s n f i x rest c args b d ts more e)
  branch_free i x rest c args b (node (called g) ts ∷ more) M h r q e = absurd (branch_called s n f i x rest c args b g ts more e)

  -- a branch comes before anything is made
  branch_here : (i c b : ℕ) → slot i f.code ≡ Some (Branch c b) → past i ≡ Some false
  branch_here i c b at_i =
      let t = past_there i (Branch c b) at_i in
      let r = (flow_found f.code n i (Branch c b) (past i) (flow.each i (Branch c b) at_i)).1 in
      t.1 ∙ ap Some (branch_leaves (length f.code) i c b t.0 (rw t.1 at r)).2

  from_free : (i : ℕ) (ins : Instruction) → slot i f.code ≡ Some ins → (x : Shape) (M : List (Arrow Shape))
      → shape_from s n f i ins x ≡ found M → Free i x → All (BringsAt Free) M
  unfolding shape_from passing
  from_free i (Load a) c x M e h =
      let t = past_there i (Load a) c in
      let on : past (suc i) ≡ Some t.0 = all_one refl (past_leads i (Load a) c t.0 t.1 refl) in
      let r = shape_load s n f i a x e in
      rw r.2 ((λ z. let q = h (t.1 ∙ sym on ∙ z) in all_append q (all_slot a r.1 q l∷ l[])) l∷ l[])
  from_free i (Build k) c x M e h =
      let t = past_there i (Build k) c in
      let on : past (suc i) ≡ Some true = all_one refl (past_leads i (Build k) c t.0 t.1 refl) in
      rw (shape_build s n f i k x e).4 ((λ z. absurd (true_false (sym on ∙ z))) l∷ l[])
  from_free i (Call g) c x M e h =
      let t = past_there i (Call g) c in
      let on : past (suc i) ≡ Some true = all_one refl (past_leads i (Call g) c t.0 t.1 refl) in
      rw (shape_call s n f i g x e).4 ((λ z. absurd (true_false (sym on ∙ z))) l∷ l[])
  from_free i (Branch k b) c x M e h =
      let r = shape_branch s n f i k b x e in
      let q = h (branch_here i k b c) in
      let parts = all_parts 1 r.3 q in
      branch_free i x r.2.0 k (length r.0.arguments) b r.2.1 M q parts.0 parts.1 r.4
  from_free i Return c x M e h = rw (← found_inj e) l[]
  from_free i Stop c x M e h = rw (← found_inj e) l[]

  -- at every state
  pub states_free : (i : ℕ) (x : Shape) → shape_at s n f i ≡ Some x → Free i x
  unfolding start_shape
  states_free i x e =
      state_all (shape_rule s n f) (root_at 1 (start_shape f)) f.code Free
      (λ j y c _. rw (← (root_start (shape_rule s n f) (start_shape f) f.code j y c).1) (fresh 0 (arity f)))
      (λ i ins c y w M r p. from_free i ins c y M (shape_covered s n f i ins y r).1 p) i x e

  pub branch_plain : (i : ℕ) (x : Shape) → shape_at s n f i ≡ Some x → (c b : ℕ) → slot i f.code ≡ Some (Branch c b)
      → All Plain x.stack
  branch_plain i x e c b at_i = states_free i x e (branch_here i c b at_i)

pub branch_fact : BranchFact
branch_fact bytes s e n f at_f i x h c b at_i = branch_plain s n f (flowing (checked_parts bytes s e) n f at_f) i x h c b at_i
