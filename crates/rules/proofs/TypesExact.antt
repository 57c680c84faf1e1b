-- The type pass says of each function just what Table 2 says.
use mathlib.Core.Path.{◌≡◌, refl, sym, ap, ◌∙◌}
use mathlib.Core.List.{List, [], ◌∷◌, ◌++◌}
use Rattle.std.specs.Prelude.{Option, None, Some}
use Prim.Native.Nat.{ℕ, suc, ◌≤◌, ◌<◌}
use native.Mathlib.Omega.{arith}
use native.Mathlib.Nat.{le_trans, le_of_eq}
use lib.ListN.{length}
use lib.Dec.{leb}
use Rattle.rules.specs.declared.records.Instruction.{Instruction}
use Rattle.rules.specs.declared.records.Instruction.TheVariants.{Load, Build, Call, Branch, Return, Stop}
use Rattle.rules.specs.Base.{Refusal, refusal, Tried, found, refused, ◌>>=◌, passed, Check, Decides}
use Rattle.rules.specs.Lists.{All, l[], ◌l∷◌}
use Rattle.rules.specs.Program.{Function, Program, constructor, function}
use Rattle.rules.specs.Records.{or_else}
use Rattle.rules.specs.Stacks.{slot, split, push}
use Rattle.rules.specs.Walk.{targets, Arrow, root_at, judge, judged}
use Rattle.rules.specs.Types.{same, below, types_on, type_rule, types_at, types_of, types_right}
use Rattle.rules.specs.Judgements.{wt, TypedBefore, WellTyped}
use Rattle.rules.specs.Refusals.{TypesFail}
use Rattle.rules.proofs.ListLaws.{cut, some_inj, slot_low, all_one, all_two}
use Rattle.rules.proofs.TriedLaws.{Refuses, refuses_bind, refuses_required, refuses_some, refused_found, only_refused}
use Rattle.rules.proofs.VerdictLaws.{verdict_of_lem, verdict_decides}
use Rattle.rules.proofs.EachLaws.{StopsAt, level, each_from_0}
use Rattle.rules.proofs.WalkLaws.{LeadsOn, state_start, state_leads, state_reached, tab_is, judge_found, along_passed, along_stops}
use Rattle.rules.proofs.WalkLaws.{judged_found}
use Rattle.rules.proofs.RuleLaws.{type_load, type_build, type_call, type_branch, type_return, type_all}
use Rattle.rules.proofs.OutcomeLaws.{split_append, below_ends, types_on_lem, load_typed, build_typed, call_typed, branch_typed}
use Rattle.rules.proofs.OutcomeLaws.{return_typed, stop_typed}
use Rattle.rules.proofs.Accepted.{FlowsRightly, low_states, checked_parts, decoded_function, flowing}
use Rattle.rules.specs.Facts.{TypesFact}

pub joined : {A : Type 0} (k : ℕ) (xs rest top : List A) → xs ≡ rest ++ top → length top ≡ k → split k xs ≡ Some (rest, top)
joined k xs rest top e len = rw (e, ← len) (split_append rest top)

-- the rule passes, and what it hands on stands in the table
abbrev pub Passes : {S : Type 0} → (ℕ → Instruction → S → Tried (List (Arrow S))) → (ℕ → Option S) → ℕ → Instruction → S → Type 0
Passes {S} rule tab i ins x = (M : List (Arrow S)) × (rule i ins x ≡ found M) × All (LeadsOn tab) M

---- Every refusal names 8 and its instruction

module _ (s : Program) (n : ℕ) (f : Function) where
  abbrev At : ℕ → Refusal → Type 0
  At i r = r ≡ refusal 8 n i

  below_named : (i : ℕ) (types stack : List ℕ) → Refuses (At i) (below s n f i types stack)
  unfolding below
  below_named i ts stack =
      refuses_some (At i) (split (length ts) stack) _ _ refl (λ p. refuses_required (At i) (same p.1 ts) _ _ refl tt)

  on_named : (i : ℕ) (stack : List ℕ) → Refuses (At i) (types_on s n f i stack)
  unfolding types_on
  on_named i stack = refuses_required (At i) (leb (length stack) 16) _ _ refl tt

  rule_named : (i : ℕ) (ins : Instruction) (ts : List ℕ) → Refuses (At i) (type_rule s n f i ins ts)
  unfolding type_rule
  rule_named i (Load a) ts = refuses_some (At i) (slot a ts) _ _ refl (λ t. on_named i (push ts t))
  rule_named i (Build c) ts =
      refuses_some (At i) (constructor s c) _ _ refl (λ k. refuses_bind (At i) (below s n f i k.arguments ts) _
      (below_named i k.arguments ts) (λ rest. on_named i (push rest k.result)))
  rule_named i (Call g) ts =
      refuses_some (At i) (function s g) _ _ refl (λ k. refuses_bind (At i) (below s n f i k.parameters ts) _
      (below_named i k.parameters ts) (λ rest. on_named i (push rest k.result)))
  rule_named i (Branch c b) ts =
      refuses_some (At i) (constructor s c) _ _ refl (λ k. refuses_bind (At i) (below s n f i (k.result ∷ []) ts) _
      (below_named i (k.result ∷ []) ts) (λ rest. refuses_bind (At i) (types_on s n f i (rest ++ k.arguments)) _
      (on_named i (rest ++ k.arguments)) (λ on. tt)))
  rule_named i Return ts = refuses_bind (At i) (below s n f i (f.result ∷ []) ts) _ (below_named i (f.result ∷ []) ts) (λ rest. tt)
  rule_named i Stop ts = tt

---- From Table 2 to the rule

module _ (s : Program) (n : ℕ) (f : Function) (T : ℕ → List ℕ) (low : (i : ℕ) → length (T i) ≤ 16) where
  abbrev at : ℕ → Option (List ℕ)
  at i = Some (T i)

  goes_on_lem : (i : ℕ) (stack : List ℕ) → i < length f.code → T (suc i) ≡ stack → (types_on s n f i stack ≡ found ((suc i, stack) ∷ []))
      × LeadsOn at (suc i, stack)
  goes_on_lem i stack h e = (types_on_lem s n f i stack (rw (← e) (low (suc i))), ap Some e)

  type_passes : (i : ℕ) (ins : Instruction) → wt s f T i ins → Passes (type_rule s n f) at i ins (T i)
  type_passes i (Load a) (h, t, e, o) =
      let g = goes_on_lem i (push (T i) t) h o in
      ((suc i, push (T i) t) ∷ [], load_typed s n f i a (T i) e ∙ g.0, g.1 l∷ l[])
  type_passes i (Build c) (h, k, ck, rest, e, o) =
      let g = goes_on_lem i (push rest k.result) h o in (
        (suc i, push rest k.result) ∷ [],
        build_typed s n f i c
            (T i) ck ∙ rw (e, below_ends s n f i rest k.arguments) g.0,
        g.1 l∷ l[],
      )
  type_passes i (Call c) (h, k, ck, rest, e, o) =
      let g = goes_on_lem i (push rest k.result) h o in (
        (suc i, push rest k.result) ∷ [],
        call_typed s n f i c
            (T i) ck ∙ rw (e, below_ends s n f i rest k.parameters) g.0,
        g.1 l∷ l[],
      )
  type_passes i (Branch c b) (h, k, ck, rest, e, o, j) =
      let g = goes_on_lem i (rest ++ k.arguments) h o in
      let whole : type_rule s n f i (Branch c b) (T i) ≡ found ((suc i, rest ++ k.arguments) ∷ (b, T i) ∷ []) =
      branch_typed s n f i c b (T i) ck ∙ branched (T i) e g.0 in
      ((suc i, rest ++ k.arguments) ∷ (b, T i) ∷ [], whole, g.1 l∷ ap Some j l∷ l[])
    where
      branched : (stack : List ℕ) → stack ≡ push rest k.result
          → types_on s n f i (rest ++ k.arguments) ≡ found ((suc i, rest ++ k.arguments) ∷ [])
          → (below s n f i (k.result ∷ []) stack
          >>= (λ rest'. types_on s n f i (rest' ++ k.arguments) >>= (λ on. found (on ++ ((b, stack) ∷ [])))))
          ≡ found ((suc i, rest ++ k.arguments) ∷ (b, stack) ∷ [])
      branched stack e g = rw (e, below_ends s n f i rest (k.result ∷ []), g)
  type_passes i Return (rest, e) = ([], return_typed s n f i (T i) ∙ rw (e, below_ends s n f i rest (f.result ∷ [])), l[])
  type_passes i Stop w = ([], stop_typed s n f i (T i), l[])

---- From the states to Table 2 and back

module _ (s : Program) (n : ℕ) (f : Function) (few : length f.parameters ≤ 16) (flow : FlowsRightly n f) where
  abbrev last : ℕ
  last = length f.code

  abbrev T : ℕ → List ℕ
  T i = or_else (types_at s n f i) []

  is : (i : ℕ) {ts : List ℕ} → types_at s n f i ≡ Some ts → T i ≡ ts
  is i e = rw e

  -- where the rule passes and what it hands on stands in T, Table 2 holds
  typed_at : (i : ℕ) (ins : Instruction) → All (λ j. (i < j) × (j ≤ last)) (targets i ins) → (ts : List ℕ) → T i ≡ ts
      → (M : List (Arrow (List ℕ))) → type_rule s n f i ins ts ≡ found M → All (LeadsOn (types_at s n f)) M → wt s f T i ins
  typed_at i (Load a) (p l∷ ps) ts t M r l =
      let q = type_load s n f i a ts r in
      (p.1, q.0, rw t q.1, rw t (is (suc i) (all_one q.2 l)))
  typed_at i (Build c) (p l∷ ps) ts t M r l =
      let q = type_build s n f i c ts r in
      (p.1, q.0, q.1, q.2, t ∙ (cut _ ts q.2 _ q.3).0, is (suc i) (all_one q.4 l))
  typed_at i (Call g) (p l∷ ps) ts t M r l =
      let q = type_call s n f i g ts r in
      (p.1, q.0, q.1, q.2, t ∙ (cut _ ts q.2 _ q.3).0, is (suc i) (all_one q.4 l))
  typed_at i (Branch c b) (p l∷ ps) ts t M r l =
      let q = type_branch s n f i c b ts r in
      let both = all_two q.4 l in
      (p.1, q.0, q.1, q.2, t ∙ (cut _ ts q.2 _ q.3).0, is (suc i) both.0, is b both.1 ∙ sym t)
  typed_at i Return h ts t M r l = let q = type_return s n f i ts r in (q.0, t ∙ (cut _ ts q.0 _ q.1).0)
  typed_at i Stop h ts t M r l = tt

  abbrev PassBefore : ℕ → Type 0
  PassBefore m =
      (i : ℕ) (ins : Instruction) → i < m → slot i f.code ≡ Some ins → (ts : List ℕ) → types_at s n f i ≡ Some ts
      → (M : List (Arrow (List ℕ))) × (type_rule s n f i ins ts ≡ found M)

  -- every instruction up to m has a state, where the rule passes before it
  pub reached : (m : ℕ) → PassBefore m → (i : ℕ) → 1 ≤ i → i ≤ m → i ≤ last → (ts : List ℕ) × (types_at s n f i ≡ Some ts)
  reached m pass i lo hi l = state_reached (type_rule s n f) f.parameters f.code flow.tree (type_all s n f) m pass i lo hi l

  pub states_typed : (m : ℕ) → PassBefore m → TypedBefore s f T m
  states_typed m pass = record {
    start = is 1 (state_start (type_rule s n f) f.parameters f.code flow.tree.some_code);
    instructions = λ i ins lt c.
        let h = slot_low i f.code c in
        let w = reached m pass i h.0 (omega arith) h.1 in
        let r = pass i ins lt c w.0 w.1 in
        typed_at i ins (flow.tree.ahead i ins c) w.0 (is i w.1) r.0 r.1
        (state_leads (type_rule s n f) f.parameters f.code flow.tree (λ i ins x M e j. le_of_eq (type_all s n f i ins x M e j)) i
        ins c w.0 w.1 r.0 r.1);
    low = λ i. one i (types_at s n f i) refl;
  }
    where
      one : (i : ℕ) (o : Option (List ℕ)) → types_at s n f i ≡ o → length (or_else o []) ≤ 16
      one i None e = omega arith
      one i (Some ts) e = low_states s n f few i ts e

  -- whatever obeys Table 2 before m has the states up to m, and the rule passes there
  pub typed_states : (U : ℕ → List ℕ) (m : ℕ) → TypedBefore s f U m → (i : ℕ) → i ≤ m → (ts : List ℕ) → types_at s n f i ≡ Some ts
      → U i ≡ ts
  typed_states U m W i h ts e =
      some_inj (tab_is (type_rule s n f) f.parameters f.code (λ j. Some (U j)) (ap Some W.start) m
      (λ j ins lt c x q. rw (← some_inj q) (type_passes s n f U W.low j ins (W.instructions j ins lt c))) i h ts e)

  pub typed_passes : (U : ℕ → List ℕ) (m : ℕ) → TypedBefore s f U m → PassBefore m
  typed_passes U m W i ins lt c ts e =
      let same = typed_states U m W i (omega arith) ts e in
      let p = type_passes s n f U W.low i ins (W.instructions i ins lt c) in
      (p.0, rw (← same) p.1)

  abbrev TypesStop : Refusal → Type 0
  TypesStop r = (i : ℕ) × (r ≡ refusal 8 n i) × TypesFail s f i

  shorter : (U : ℕ → List ℕ) (m k : ℕ) → k ≤ m → TypedBefore s f U m → TypedBefore s f U k
  shorter U m k h W = record { start = W.start; instructions = λ i ins lt c. W.instructions i ins (le_trans lt h) c; low = W.low }

  pub typed_whole : (U : ℕ → List ℕ) → WellTyped s f U → (m : ℕ) → TypedBefore s f U m
  typed_whole U W m = record {
    start = W.start;
    instructions = λ i ins lt c. W.instructions i ins (let h = slot_low i f.code c in omega (arith, h.1)) c;
    low = W.low;
  }

  -- 8 is given at just the first instruction up to which no type stacks obey Table 2
  pub types_exact : Decides (types_of s n f) ((U : ℕ → List ℕ) × WellTyped s f U) (λ r. (i : ℕ) × (r ≡ refusal 8 n i) × TypesFail s f i)
  unfolding types_of judged
  types_exact = verdict_decides (verdict_of_lem (types_of s n f) all stops) apart one
    where
      test : ℕ → Instruction → Option (List ℕ) → Check
      test = judge (type_rule s n f) (root_at 1 f.parameters) f.code

      all : types_of s n f ≡ passed → (U : ℕ → List ℕ) × WellTyped s f U
      all e = (
        T,
        states_typed (suc last) (λ i ins lt c ts h. judge_found (type_rule s n f) (root_at 1 f.parameters) f.code i ins ts
            ((along_passed (type_rule s n f) (root_at 1 f.parameters) f.code test).0 e i ins c) h),
      )

      stops : (r : Refusal) → types_of s n f ≡ refused r → TypesStop r
      stops r e =
          let w = (along_stops (type_rule s n f) (root_at 1 f.parameters) f.code test).0 e in
          at_state w.0 w.1 (types_at s n f w.0) refl
        where
          at_state : (i : ℕ) (w : StopsAt (λ i. slot i f.code) (λ i ins. test i ins (types_at s n f i)) r i) (o : Option (List ℕ))
              → types_at s n f i ≡ o → TypesStop r
          at_state i w None q = absurd (refused_found (sym (rw q at w.refuses)))
          at_state i w (Some ts) q =
              let no = only_refused (type_rule s n f i w.it ts) (rw q at w.refuses) in
              let pass : PassBefore i = λ j ins lt c us h. judge_found (type_rule s n f) (root_at 1 f.parameters) f.code j ins us
              (w.before j ins lt c) h in (
                i,
                rw no at (rule_named s n f i w.it ts),
                record {
                  before = (T, states_typed i pass);
                  here = λ U W. refused_found (sym no ∙ (typed_passes U (suc i) W i w.it (omega arith) w.there ts q).1);
                },
              )

      apart : (r : Refusal) → (U : ℕ → List ℕ) × WellTyped s f U → TypesStop r → ⊥
      apart r (U, W) (i, e, w) = w.here U (typed_whole U W (suc i))

      one : (r q : Refusal) → TypesStop r → TypesStop q → r ≡ q
      one r q (i, e, w) (j, e', w') =
          let same : i ≡ j = level i j (λ l. w.here w'.before.0 (shorter w'.before.0 j (suc i) l w'.before.1))
          (λ l. w'.here w.before.0 (shorter w.before.0 i (suc j) l w.before.1)) in
          e ∙ ap (refusal 8 n) same ∙ sym e'

-- there is one table of type stacks
pub types_fact : TypesFact
unfolding types_right types_of
types_fact file s e n f at_f T W i ins c =
    let P = checked_parts file s e in
    let few : length f.parameters ≤ 16 = le_trans (decoded_function P n f at_f).few (omega arith) in
    let flow = flowing P n f at_f in
    let pass = judged_found (type_rule s n f) (root_at 1 f.parameters) f.code ((each_from_0 (types_of s) s.functions).0
    P.types n f at_f)
    in
    let low = slot_low i f.code c in
    let w = reached s n f few flow i (λ j ins lt c ts h. pass j ins c ts h) i low.0 (omega arith) low.1 in
    w.1 ∙ ap Some (sym (typed_states s n f few flow T (suc i) (typed_whole s n f few flow T W (suc i)) i (omega arith) w.0 w.1))
