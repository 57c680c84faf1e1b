-- The pass for 10 and 9 says of each function just what Table 3 and the cover test say.
use Rattle.std.specs.Prelude.{if◌then◌else◌, Option, None, Some}
use mathlib.Core.Path.{◌≡◌, refl, sym, ap, ◌∙◌}
use mathlib.Core.List.{List, [], ◌∷◌, ◌++◌, map}
use mathlib.Core.Bool.{Bool, true, false}
use mathlib.Core.Logic.{◌⊎◌, inl, inr}
use Prim.Native.Nat.{ℕ, suc, ◌+◌, ◌-◌, ◌≤◌, ◌<◌}
use native.Mathlib.Omega.{arith}
use native.Mathlib.Nat.{le_trans, le_refl, le_of_eq}
use lib.ListN.{length, take, drop, length-append, length-map}
use lib.Dec.{leb, eqb}
use borrow.Author.Tests.{eqb-true, eqb-false, leb-false, le-leb}
use Rattle.rules.specs.declared.records.Instruction.{Instruction}
use Rattle.rules.specs.declared.records.Instruction.TheVariants.{Load, Build, Call, Branch, Return, Stop}
use Rattle.rules.specs.Base.{Refusal, refusal, found, refused, Check, passed, Decides}
use Rattle.rules.specs.Lists.{All, l[], ◌l∷◌}
use Rattle.rules.specs.Program.{Constructor, Function, Program, arity, constructor}
use Rattle.rules.specs.Tree.{Trees, node, to_list, made, from_list}
use Rattle.rules.specs.Stacks.{slot, split, push}
use Rattle.rules.specs.Walk.{Arrow, root_at, judge, judged}
use Rattle.rules.specs.Types.{type_rule, types_at}
use Rattle.rules.specs.Expressions.{Symbol, variable, known, built, called, Expression, variables, replace}
use Rattle.rules.specs.Forms.{form_of}
use Rattle.rules.specs.Facts.{Plain}
use Rattle.rules.specs.Shapes.{Shape, with_stack, split_variable, covered_at, enter, branch_on, shape_from, shape_rule, start_shape}
use Rattle.rules.specs.Shapes.{shape_at}
use Rattle.rules.specs.Shapes.{sizes_of}
use Rattle.rules.specs.Judgements.{branch_on_lem, wsh, Covered, SizedBefore, WellSized}
use Rattle.rules.specs.Refusals.{ArriveWith, TooMany, Many, CoverFails, ManyFails}
use Rattle.rules.proofs.ListLaws.{some_inj, slot_low, all_one, all_two, all_append, all_slot, all_parts, cut}
use Rattle.rules.proofs.TriedLaws.{found_inj, refused_found, refused_inj, only_refused, found_required}
use Rattle.rules.proofs.VerdictLaws.{verdict_of_lem, verdict_decides}
use Rattle.rules.proofs.EachLaws.{StopsAt, level}
use Rattle.rules.proofs.WalkLaws.{LeadsOn, BringsAt, slot_there, state_all, root_start, state_start, state_leads, tab_is}
use Rattle.rules.proofs.WalkLaws.{judge_found, along_passed, along_stops}
use Rattle.rules.proofs.RuleLaws.{type_load, type_build, type_call, type_branch, type_all, shape_covered, shape_load, shape_build}
use Rattle.rules.proofs.RuleLaws.{shape_call, shape_branch, branch_variable, branch_known, branch_built, branch_called, branch_none}
use Rattle.rules.proofs.RuleLaws.{shape_among}
use Rattle.rules.proofs.OutcomeLaws.{split_append, rule_covered, load_shaped, enter_fits, build_shaped, call_shaped, branch_shaped}
use Rattle.rules.proofs.OutcomeLaws.{variable_fits, known_same, known_other, return_shaped, stop_shaped}
use Rattle.rules.proofs.Accepted.{FlowsRightly}
use Rattle.rules.proofs.ExpressionLaws.{every_list, every_trees, every_fresh, every_replaced, HasArguments}
use Rattle.rules.proofs.ExpressionLaws.{Full, arguments_stay, variables_length}
use Rattle.rules.proofs.Models.{to_from}
use Rattle.rules.proofs.Calls.{branch_plain}
use Rattle.rules.proofs.TypesExact.{Passes, joined}
use Rattle.rules.proofs.CoverExact.{covered_iff, uncovered}

---- From shapes that stand to Table 3

module _ (s : Program) (n : ℕ) (f : Function) where
  abbrev sh : ℕ → Option Shape
  sh i = shape_at s n f i

  -- a branch on the one entry that is on top
  branched_at : (i : ℕ) (x : Shape) (rest tops : List Expression) (c args b : ℕ) (M : List (Arrow Shape)) → (x.stack ≡ rest ++ tops)
      × (length tops ≡ 1) → branch_on s n f i x rest c args b tops ≡ found M → All (LeadsOn sh) M
      → (p : Expression) × (x.stack ≡ push rest p) × branch_on_lem s n f sh i x rest c args b p
  branched_at i x rest [] c args b M (w, one) r l = absurd (omega arith)
  branched_at i x rest (p ∷ q ∷ more) c args b M (w, one) r l = absurd (omega arith)
  branched_at i x rest (node (variable v) ts ∷ []) c args b M (w, one) r l =
      let q = branch_variable s n f i x rest c args b v ts [] r in
      let both = all_two q.1 l in
      (node (variable v) ts, w, (q.0, both.0, both.1))
  branched_at i x rest (node (known d) ts ∷ []) c args b M (w, one) r l =
      (node (known d) ts, w, two (eqb d c) refl (all_one (branch_known s n f i x rest c args b d ts [] r) l))
    where
      two : (t : Bool) → eqb d c ≡ t → LeadsOn sh (if eqb d c then (suc i, with_stack x (rest ++ to_list ts)) else (b, x))
          → branch_on_lem s n f sh i x rest c args b (node (known d) ts)
      two true e l' = ((λ _. rw e at l'), λ no. absurd (no (eqb-true d c e)))
      two false e l' = ((λ yes. absurd (eqb-false d c e yes)), λ _. rw e at l')
  branched_at i x rest (node (built d) ts ∷ []) c args b M (w, one) r l = absurd (branch_built s n f i x rest c args b d ts [] r)
  branched_at i x rest (node (called g) ts ∷ []) c args b M (w, one) r l = absurd (branch_called s n f i x rest c args b g ts [] r)

  shaped_at : (i : ℕ) (ins : Instruction) (x : Shape) (M : List (Arrow Shape)) → shape_from s n f i ins x ≡ found M → All (LeadsOn sh) M
      → wsh s n f sh i ins x
  shaped_at i (Load a) x M r l = let q = shape_load s n f i a x r in (q.0, q.1, all_one q.2 l)
  shaped_at i (Build c) x M r l =
      let q = shape_build s n f i c x r in
      let p = cut _ x.stack q.2.0 q.2.1 q.3 in
      (q.0, q.1, q.2.0, q.2.1, p.1, (p.0, q.5, all_one q.4 l))
  shaped_at i (Call g) x M r l =
      let q = shape_call s n f i g x r in
      let p = cut _ x.stack q.2.0 q.2.1 q.3 in
      (q.0, q.1, q.2.0, q.2.1, p.1, (p.0, q.5, all_one q.4 l))
  shaped_at i (Branch c b) x M r l =
      let q = shape_branch s n f i c b x r in
      let p = branched_at i x q.2.0 q.2.1 c (length q.0.arguments) b M (cut 1 x.stack q.2.0 q.2.1 q.3) q.4 l in
      (q.0, q.1, q.2.0, p.0, p.1, p.2)
  shaped_at i Return x M r l = tt
  shaped_at i Stop x M r l = tt

---- From Table 3 to the rule

module _ (s : Program) (n : ℕ) (f : Function) (S : ℕ → Option Shape) where
  branch_passes : (i c b : ℕ) (x : Shape) (k : Constructor) → constructor s c ≡ Some k → (rest : List Expression) (p : Expression)
      → x.stack ≡ push rest p → branch_on_lem s n f S i x rest c (length k.arguments) b p
      → (M : List (Arrow Shape)) × (shape_from s n f i (Branch c b) x ≡ found M) × All (LeadsOn S) M
  branch_passes i c b x k ck rest p e w = one p (branch_shaped s n f i c b x ck (rw e (split_append rest (p ∷ [])))) w
    where
      one : (p : Expression) → shape_from s n f i (Branch c b) x ≡ branch_on s n f i x rest c (length k.arguments) b (p ∷ [])
          → branch_on_lem s n f S i x rest c (length k.arguments) b p
          → (M : List (Arrow Shape)) × (shape_from s n f i (Branch c b) x ≡ found M) × All (LeadsOn S) M
      one (node (variable v) ts) h (few, on, off) = (
        (suc i, split_variable x rest v c (length k.arguments)) ∷ (b, x) ∷ [],
        h ∙ variable_fits s n f i x rest c
            (length k.arguments) b v ts [] few,
        on l∷ off l∷ l[],
      )
      one (node (known d) ts) h (same, other) = two (eqb d c) refl
        where
          two : (t : Bool) → eqb d c ≡ t → (M : List (Arrow Shape)) × (shape_from s n f i (Branch c b) x ≡ found M) × All (LeadsOn S) M
          two true t =
              let d-is = eqb-true d c t in (
                (suc i, with_stack x (rest ++ to_list ts)) ∷ [],
                h ∙ known_same s n f i x rest c
                    (length k.arguments) b d ts [] d-is,
                same d-is l∷ l[],
              )
          two false t =
              let d-not = eqb-false d c t in
              ((b, x) ∷ [], h ∙ known_other s n f i x rest c (length k.arguments) b d ts [] d-not, other d-not l∷ l[])
      one (node (built d) ts) h w = absurd w
      one (node (called g) ts) h w = absurd w

  from_passes : (i : ℕ) (ins : Instruction) (x : Shape) → wsh s n f S i ins x → (M : List (Arrow Shape))
      × (shape_from s n f i ins x ≡ found M) × All (LeadsOn S) M
  from_passes i (Load a) x (e, h, o) = ((suc i, with_stack x (push x.stack e)) ∷ [], load_shaped s n f i a x h, o l∷ l[])
  from_passes i (Build c) x (k, ck, rest, es, len, (e, few, o)) = (
    (suc i, with_stack x (push rest (made (built c) es))) ∷ [],
    build_shaped s n f i c x ck ∙ enter_fits s n f i x
        (length k.arguments) (built c) (joined _ x.stack rest es e len) few,
    o l∷ l[],
  )
  from_passes i (Call g) x (k, ck, rest, es, len, (e, few, o)) = (
    (suc i, with_stack x (push rest (made (called g) es))) ∷ [],
    call_shaped s n f i g x ck ∙ enter_fits s n f i x
        (length k.parameters) (called g) (joined _ x.stack rest es e len) few,
    o l∷ l[],
  )
  from_passes i (Branch c b) x (k, ck, rest, p, e, w) = branch_passes i c b x k ck rest p e w
  from_passes i Return x w = ([], return_shaped s n f i x, l[])
  from_passes i Stop x w = ([], stop_shaped s n f i x, l[])

  rule_passes : (m : ℕ) → SizedBefore s n f S m → (i : ℕ) (ins : Instruction) → i < m → slot i f.code ≡ Some ins → (x : Shape)
      → S i ≡ Some x → Passes (shape_rule s n f) S i ins x
  rule_passes m W i ins lt c x e =
      let r = from_passes i ins x (W.instructions i ins lt c x e) in
      (r.0, rule_covered s n f i ins x ((covered_iff s x).1 (W.covered i ins lt c x e)) ∙ r.1, r.2)

  -- what obeys Table 3 makes not too many
  few_made : (x : Shape) (rest es : List Expression) (symbol : Symbol) → x.stack ≡ rest ++ es → length (form_of s (made symbol es)) ≤ 16
      → TooMany s x (length es) symbol → ⊥
  few_made x rest es symbol e few (rest', es', len, e', many) =
      let same : es ≡ es' = tops (some_inj (sym (joined (length es) x.stack rest es e refl)
      ∙ joined (length es) x.stack rest' es' e' len)) in
      let z : length (form_of s (made symbol es')) ≤ 16 = rw same at few in
      omega arith
    where
      tops : {p q : List Expression × List Expression} → p ≡ q → p.1 ≡ q.1
      tops e = ap (λ (p : List Expression × List Expression). p.1) e

  few_are : (i : ℕ) (ins : Instruction) (x : Shape) → wsh s n f S i ins x → Many s ins x → ⊥
  few_are i (Load _) x _ x6 = elim x6 [ ]
  few_are i Return x _ x6 = elim x6 [ ]
  few_are i Stop x _ x7 = elim x7 [ ]
  few_are i (Build c) x (k, ck, rest, es, len, (e, few, o)) (k', ck', m) =
      let same : k' ≡ k = some_inj (sym ck' ∙ ck) in
      few_made x rest es (built c) e few (rw len (rw same at m))
  few_are i (Call g) x (k, ck, rest, es, len, (e, few, o)) (k', ck', m) =
      let same : k' ≡ k = some_inj (sym ck' ∙ ck) in
      few_made x rest es (called g) e few (rw len (rw same at m))
  few_are i (Branch c b) x (k, ck, rest, p, e, w) (k', ck', rest', v, ts, e', many) =
      let same : k' ≡ k = some_inj (sym ck' ∙ ck) in
      let parts = some_inj (sym (joined 1 x.stack rest (p ∷ []) e refl)
      ∙ joined 1 x.stack rest' (node (variable v) ts ∷ []) e' refl) in
      let top : p ∷ [] ≡ node (variable v) ts ∷ [] = ap (λ (q : List Expression × List Expression). q.1) parts in
      let is : p ≡ node (variable v) ts = cc in
      let few = (rw is at w).0 in
      let z : 16 < x.count + length k.arguments = rw same at many in
      omega arith

---- Behind 7 and 8 the rule says neither again

split_there : {A : Type 0} (k : ℕ) (xs : List A) → k ≤ length xs → (p : List A × List A) × (split k xs ≡ Some p)
unfolding split
split_there k xs h = ((take (length xs - k) xs, drop (length xs - k) xs), rw (le-leb k (length xs) h))

split_length : {A : Type 0} (k : ℕ) (xs : List A) {p : List A × List A} → split k xs ≡ Some p → (length p.0 ≡ length xs - k)
    × (k ≤ length xs) × (length p.1 ≡ k)
split_length k xs {p} e =
    let c = cut k xs p.0 p.1 e in
    let l : length xs ≡ length p.0 + length p.1 = ap length c.0 ∙ length-append p.0 p.1 in
    (omega (arith, l, c.1), omega (arith, l, c.1), c.1)

module _ (s : Program) (n : ℕ) (f : Function) (flow : FlowsRightly n f)
    (typed : (i : ℕ) (ins : Instruction) → slot i f.code ≡ Some ins → (ts : List ℕ) → types_at s n f i ≡ Some ts
    → (M : List (Arrow (List ℕ))) × (type_rule s n f i ins ts ≡ found M)) where
  -- the entries are as many as the types worked out
  pub record Matched (i : ℕ) (x : Shape) : Type 0 where
    types : List ℕ
    worked_out_lem : types_at s n f i ≡ Some types
    height : length x.stack ≡ length types
    pub full : All (Full s) x.stack

  type_leads : (i : ℕ) (ins : Instruction) → slot i f.code ≡ Some ins → (ts : List ℕ) → types_at s n f i ≡ Some ts
      → (M : List (Arrow (List ℕ))) → type_rule s n f i ins ts ≡ found M → All (LeadsOn (types_at s n f)) M
  type_leads i ins c ts e M r =
      state_leads (type_rule s n f) f.parameters f.code flow.tree (λ i ins x M e j. le_of_eq (type_all s n f i ins x M e j)) i ins c
      ts e M r

  longer : {A B : Type 0} (xs us : List A) (ys vs : List B) → length xs ≡ length ys → length us ≡ length vs
      → length (xs ++ us) ≡ length (ys ++ vs)
  longer xs us ys vs e e' = length-append xs us ∙ omega arith ∙ sym (length-append ys vs)

  -- a new entry over as many as the types taken
  entered : (i args : ℕ) (x : Shape) (m : Matched i x) (rest : List ℕ) (taken : List ℕ) (t : ℕ) (p : List Expression × List Expression)
      (symbol : Symbol) → HasArguments s symbol (from_list p.1) → split args x.stack ≡ Some p
      → split args m.types ≡ Some (rest, taken) → types_at s n f (suc i) ≡ Some (push rest t)
      → Matched (suc i) (with_stack x (push p.0 (made symbol p.1)))
  entered i args x m rest taken t p symbol fills e e' on =
      let a = split_length args x.stack e in
      let b = split_length args m.types e' in
      let same : length p.0 ≡ length rest = a.0 ∙ rw m.height (sym b.0) in
      let q = all_parts args e m.full in
      record {
        types = push rest t;
        worked_out_lem = on;
        height = longer p.0 (made symbol p.1 ∷ []) rest (t ∷ []) same refl;
        full = all_append q.0 (◌l∷◌ {x = made symbol p.1} (fills, every_trees (HasArguments s) q.1) l[]);
      }

  module _ (i c b : ℕ) (x : Shape) (m : Matched i x) (k : Constructor) (ck : constructor s c ≡ Some k) (rest : List ℕ)
      (p : List Expression × List Expression) (e : split 1 x.stack ≡ Some p) (e' : split 1 m.types ≡ Some (rest, k.result ∷ []))
      (on : types_at s n f (suc i) ≡ Some (rest ++ k.arguments)) (off : types_at s n f b ≡ Some m.types) where
    under : length p.0 ≡ length rest
    under = (split_length 1 x.stack e).0 ∙ rw m.height (sym (split_length 1 m.types e').0)

    other : Matched b x
    other = record { types = m.types; worked_out_lem = off; height = m.height; full = m.full }

    next_split : (v : ℕ) → Matched (suc i) (split_variable x p.0 v c (length k.arguments))
    unfolding split_variable
    next_split v =
        let fresh = variables x.count (length k.arguments) in
        let new : Expression = made (known c) fresh in
        let full-fresh = every_fresh (HasArguments s) (λ j. tt) x.count (length k.arguments) in
        let own : length (to_list (from_list fresh)) ≡ length k.arguments =
        ap length (to_from fresh) ∙ variables_length x.count (length k.arguments) in
        record {
          types = rest ++ k.arguments;
          worked_out_lem = on;
          height = longer (map (replace v new) p.0) fresh rest k.arguments (length-map p.0 (replace v new) ∙ under)
              (variables_length x.count (length k.arguments));
          full = all_append (every_replaced (HasArguments s) v new ((k, ck, own), every_trees (HasArguments s) full-fresh)
              (arguments_stay s v new)
              (all_parts 1 e m.full).0) full-fresh;
        }

    next_known : (d : ℕ) (ts : Trees Symbol) → d ≡ c → All (Full s) (node (known d) ts ∷ [])
        → Matched (suc i) (with_stack x (p.0 ++ to_list ts))
    next_known d ts same (h l∷ l[]) =
        let is : h.0.0 ≡ k = some_inj (sym h.0.1 ∙ rw (← same) at ck) in
        record {
          types = rest ++ k.arguments;
          worked_out_lem = on;
          height = longer p.0 (to_list ts) rest k.arguments under (h.0.2 ∙ ap (λ (k : Constructor). length k.arguments) is);
          full = all_append (all_parts 1 e m.full).0 (every_list (HasArguments s) ts h.1);
        }

    branch_matched : (tops : List Expression) → length tops ≡ 1 → All (Full s) tops → (M : List (Arrow Shape))
        → branch_on s n f i x p.0 c (length k.arguments) b tops ≡ found M → All (BringsAt Matched) M
    branch_matched [] l h M r = absurd (branch_none s n f i x p.0 c (length k.arguments) b r)
    branch_matched (y ∷ z ∷ more) l h M r = absurd (omega arith)
    branch_matched (node (variable v) ts ∷ []) l h M r =
        rw (branch_variable s n f i x p.0 c (length k.arguments) b v ts [] r).1 (next_split v l∷ other l∷ l[])
    branch_matched (node (known d) ts ∷ []) l h M r =
        rw (branch_known s n f i x p.0 c (length k.arguments) b d ts [] r) (two (eqb d c) refl)
      where
        two : (t : Bool) → eqb d c ≡ t → All (BringsAt Matched) ((if t then (suc i, with_stack x (p.0 ++ to_list ts)) else (b, x)) ∷ [])
        two true q = next_known d ts (eqb-true d c q) h l∷ l[]
        two false q = other l∷ l[]
    branch_matched (node (built d) ts ∷ []) l h M r = absurd (branch_built s n f i x p.0 c (length k.arguments) b d ts [] r)
    branch_matched (node (called g) ts ∷ []) l h M r = absurd (branch_called s n f i x p.0 c (length k.arguments) b g ts [] r)

  taken : (args : ℕ) (xs : List Expression) {p : List Expression × List Expression} → split args xs ≡ Some p
      → length (to_list (from_list p.1)) ≡ args
  taken args xs {p} e = ap length (to_from p.1) ∙ (split_length args xs e).2

  from_matched : (i : ℕ) (ins : Instruction) → slot i f.code ≡ Some ins → (x : Shape) → Matched i x → (M : List (Arrow Shape))
      → shape_from s n f i ins x ≡ found M → All (BringsAt Matched) M
  unfolding shape_from
  from_matched i (Load a) c x m M r =
      let t = typed i (Load a) c m.types m.worked_out_lem in
      let w = type_load s n f i a m.types t.1 in
      let on = all_one w.2 (type_leads i (Load a) c m.types m.worked_out_lem t.0 t.1) in
      let q = shape_load s n f i a x r in
      rw q.2 (record {
        types = push m.types w.0;
        worked_out_lem = on;
        height = longer x.stack (q.0 ∷ []) m.types (w.0 ∷ []) m.height refl;
        full = all_append m.full (all_slot a q.1 m.full l∷ l[]);
      } l∷ l[])
  from_matched i (Build k) c x m M r =
      let t = typed i (Build k) c m.types m.worked_out_lem in
      let w = type_build s n f i k m.types t.1 in
      let on = all_one w.4 (type_leads i (Build k) c m.types m.worked_out_lem t.0 t.1) in
      let q = shape_build s n f i k x r in
      let same : q.0 ≡ w.0 = some_inj (sym q.1 ∙ w.1) in
      rw q.4 (entered i (length w.0.arguments) x m w.2 w.0.arguments w.0.result q.2 (built k)
      (w.0, w.1, taken (length w.0.arguments) x.stack (rw same at q.3))
      (rw same at q.3) w.3 on l∷ l[])
  from_matched i (Call g) c x m M r =
      let t = typed i (Call g) c m.types m.worked_out_lem in
      let w = type_call s n f i g m.types t.1 in
      let on = all_one w.4 (type_leads i (Call g) c m.types m.worked_out_lem t.0 t.1) in
      let q = shape_call s n f i g x r in
      let same : q.0 ≡ w.0 = some_inj (sym q.1 ∙ w.1) in
      rw q.4 (entered i (length w.0.parameters) x m w.2 w.0.parameters w.0.result q.2 (called g)
      (w.0, w.1, taken (length w.0.parameters) x.stack (rw same at q.3))
      (rw same at q.3) w.3 on l∷ l[])
  from_matched i (Branch k b) c x m M r =
      let t = typed i (Branch k b) c m.types m.worked_out_lem in
      let w = type_branch s n f i k b m.types t.1 in
      let on = all_two w.4 (type_leads i (Branch k b) c m.types m.worked_out_lem t.0 t.1) in
      let q = shape_branch s n f i k b x r in
      let same : q.0 ≡ w.0 = some_inj (sym q.1 ∙ w.1) in
      branch_matched i k b x m w.0 w.1 w.2 q.2 q.3 w.3 on.0 on.1 q.2.1 (split_length 1 x.stack q.3).2
      (all_parts 1 q.3 m.full).1 M (rw same at q.4)
  from_matched i Return c x m M r = rw (← found_inj r) l[]
  from_matched i Stop c x m M r = rw (← found_inj r) l[]

  pub matched : (i : ℕ) (x : Shape) → shape_at s n f i ≡ Some x → Matched i x
  unfolding start_shape
  matched i x e =
      state_all (shape_rule s n f) (root_at 1 (start_shape f)) f.code Matched (λ j y q. begin j y q)
      (λ i ins c y w M r m. from_matched i ins c y m M (shape_covered s n f i ins y r).1) i x e
    where
      begin : (j : ℕ) (y : Shape) → root_at 1 (start_shape f) j ≡ Some y → Matched j y
      begin j y q =
          let r = root_start (shape_rule s n f) (start_shape f) f.code j y q in
          rw (← r.0, ← r.1) (record {
            types = f.parameters;
            worked_out_lem = state_start (type_rule s n f) f.parameters f.code flow.tree.some_code;
            height = variables_length 0 (arity f);
            full = every_fresh (HasArguments s) (λ k. tt) 0 (arity f);
          })

  -- what is needed is there, so that a refusal is for too many
  abbrev Nine : ℕ → Instruction → Shape → Refusal → Type 0
  Nine i ins x r = (r ≡ refusal 9 n i) × Many s ins x

  made_refused : (i : ℕ) (x : Shape) (args : ℕ) (symbol : Symbol) → args ≤ length x.stack → {r : Refusal}
      → enter s n f i x args symbol ≡ refused r → (r ≡ refusal 9 n i) × TooMany s x args symbol
  unfolding enter
  made_refused i x args symbol h {r} e =
      let p = split_there args x.stack h in
      let c = cut args x.stack p.0.0 p.0.1 p.1 in
      let q = found_required (leb (length (form_of s (made symbol p.0.1))) 16) (refusal 9 n i) _ (rw p.1 at e) in
      (sym q.1, (p.0.0, p.0.1, c.1, c.0, leb-false _ _ q.0))

  branch_refused : (i c b : ℕ) (x : Shape) (k : Constructor) → constructor s c ≡ Some k → (rest tops : List Expression) → length tops ≡ 1
      → x.stack ≡ rest ++ tops → All Plain tops → {r : Refusal} → branch_on s n f i x rest c (length k.arguments) b tops ≡ refused r
      → Nine i (Branch c b) x r
  unfolding branch_on
  branch_refused i c b x k ck rest [] l w h e = absurd (omega arith)
  branch_refused i c b x k ck rest (y ∷ z ∷ more) l w h e = absurd (omega arith)
  branch_refused i c b x k ck rest (node (variable v) ts ∷ []) l w h e =
      let q = found_required (leb (x.count + length k.arguments) 16) (refusal 9 n i) _ e in
      (sym q.1, (k, ck, rest, v, ts, w, leb-false _ _ q.0))
  branch_refused i c b x k ck rest (node (known d) ts ∷ []) l w h e = absurd (refused_found (sym e))
  branch_refused i c b x k ck rest (node (built d) ts ∷ []) l w (h l∷ l[]) e = absurd h.0
  branch_refused i c b x k ck rest (node (called g) ts ∷ []) l w (h l∷ l[]) e = absurd h.0

  from_refused : (i : ℕ) (ins : Instruction) → slot i f.code ≡ Some ins → (x : Shape) → shape_at s n f i ≡ Some x → {r : Refusal}
      → shape_from s n f i ins x ≡ refused r → Nine i ins x r
  unfolding shape_from
  from_refused i (Load a) c x at_x e =
      let m = matched i x at_x in
      let t = typed i (Load a) c m.types m.worked_out_lem in
      let low = slot_low a m.types (type_load s n f i a m.types t.1).1 in
      let there_is = slot_there x.stack a low.0 (omega (arith, low.1, m.height)) in
      absurd (refused_found (sym (rw there_is.1 at e)))
  from_refused i (Build k) c x at_x e =
      let m = matched i x at_x in
      let t = typed i (Build k) c m.types m.worked_out_lem in
      let w = type_build s n f i k m.types t.1 in
      let l = (split_length (length w.0.arguments) m.types w.3).1 in
      let q = made_refused i x (length w.0.arguments) (built k) (omega (arith, l, m.height)) (rw w.1 at e) in
      (q.0, (w.0, w.1, q.1))
  from_refused i (Call g) c x at_x e =
      let m = matched i x at_x in
      let t = typed i (Call g) c m.types m.worked_out_lem in
      let w = type_call s n f i g m.types t.1 in
      let l = (split_length (length w.0.parameters) m.types w.3).1 in
      let q = made_refused i x (length w.0.parameters) (called g) (omega (arith, l, m.height)) (rw w.1 at e) in
      (q.0, (w.0, w.1, q.1))
  from_refused i (Branch k b) c x at_x e =
      let m = matched i x at_x in
      let t = typed i (Branch k b) c m.types m.worked_out_lem in
      let w = type_branch s n f i k b m.types t.1 in
      let l = (split_length 1 m.types w.3).1 in
      let p = split_there 1 x.stack (omega (arith, l, m.height)) in
      let parts = cut 1 x.stack p.0.0 p.0.1 p.1 in
      branch_refused i k b x w.0 w.1 p.0.0 p.0.1 parts.1 parts.0
      (all_parts 1 p.1 (branch_plain s n f flow i x at_x k b c)).1 (rw (w.1, p.1) at e)
  from_refused i Return c x at_x e = absurd (refused_found (sym e))
  from_refused i Stop c x at_x e = absurd (refused_found (sym e))

---- Exactly

module _ (s : Program) (n : ℕ) (f : Function) (flow : FlowsRightly n f)
    (typed : (i : ℕ) (ins : Instruction) → slot i f.code ≡ Some ins → (ts : List ℕ) → types_at s n f i ≡ Some ts
    → (M : List (Arrow (List ℕ))) × (type_rule s n f i ins ts ≡ found M)) where
  abbrev last : ℕ
  last = length f.code

  abbrev PassBefore : ℕ → Type 0
  PassBefore m =
      (i : ℕ) (ins : Instruction) → i < m → slot i f.code ≡ Some ins → (x : Shape) → shape_at s n f i ≡ Some x
      → (M : List (Arrow Shape)) × (shape_rule s n f i ins x ≡ found M)

  states_sized : (m : ℕ) → PassBefore m → SizedBefore s n f (shape_at s n f) m
  states_sized m pass = record {
    start = state_start (shape_rule s n f) (start_shape f) f.code flow.tree.some_code;
    instructions = λ i ins lt c x e.
        let r = pass i ins lt c x e in
        shaped_at s n f i ins x r.0 (shape_covered s n f i ins x r.1).1
        (state_leads (shape_rule s n f) (start_shape f) f.code flow.tree (shape_among s n f) i ins c x e r.0 r.1);
    covered = λ i ins lt c x e. let r = pass i ins lt c x e in (covered_iff s x).0 (shape_covered s n f i ins x r.1).0;
  }

  -- whatever obeys Table 3 before m has the states up to m
  sized_states : (S : ℕ → Option Shape) (m : ℕ) → SizedBefore s n f S m → (i : ℕ) → i ≤ m → (x : Shape) → shape_at s n f i ≡ Some x
      → S i ≡ Some x
  sized_states S m W i h x e = tab_is (shape_rule s n f) (start_shape f) f.code S W.start m (rule_passes s n f S m W) i h x e

  shorter : (S : ℕ → Option Shape) (m k : ℕ) → k ≤ m → SizedBefore s n f S m → SizedBefore s n f S k
  shorter S m k h W = record {
    start = W.start;
    instructions = λ i ins lt c. W.instructions i ins (le_trans lt h) c;
    covered = λ i ins lt c. W.covered i ins (le_trans lt h) c;
  }

  abbrev SizesStop : Refusal → Type 0
  SizesStop r = ((i : ℕ) × (r ≡ refusal 10 n i) × CoverFails s n f i) ⊎ ((i : ℕ) × (r ≡ refusal 9 n i) × ManyFails s n f i)

  -- shapes that obey the rules at i do not fail there
  abbrev Excluded : (Instruction → Shape → Type 0) → Type 0
  Excluded P = (S : ℕ → Option Shape) (i : ℕ) (ins : Instruction) (x : Shape) → wsh s n f S i ins x → Covered s x → P ins x → ⊥

  no_cover : Excluded (λ ins x. Covered s x → ⊥)
  no_cover S i ins x w c p = p c

  no_many : Excluded (λ ins x. Covered s x × Many s ins x)
  no_many S i ins x w c p = few_are s n f S i ins x w p.1

  not_past : {P : Instruction → Shape → Type 0} → Excluded P → (S : ℕ → Option Shape) (m i : ℕ) → i < m → SizedBefore s n f S m
      → ArriveWith s n f i P → ⊥
  not_past ex S m i lt W a =
      let h = a.here S (shorter S m i (omega arith) W) in
      ex S i a.ins h.0 (W.instructions i a.ins lt a.stands h.0 h.1) (W.covered i a.ins lt a.stands h.0 h.1)
      h.2

  same_place : {P Q : Instruction → Shape → Type 0} → Excluded P → Excluded Q → (i j : ℕ) → ArriveWith s n f i P → ArriveWith s n f j Q
      → i ≡ j
  same_place ex ex' i j a a' =
      level i j (λ l. not_past ex a'.before.0 j i l a'.before.1 a) (λ l. not_past ex' a.before.0 i j l a.before.1 a')

  not_both : (i : ℕ) → CoverFails s n f i → ManyFails s n f i → ⊥
  not_both i a b =
      let h = a.here a.before.0 a.before.1 in
      let k = b.here a.before.0 a.before.1 in
      let same : k.0 ≡ h.0 = some_inj (sym k.1 ∙ h.1) in
      h.2 (rw same at k.2.0)

  -- 10 and 9 are given at just the first instruction at which the arriving entries are not covered, or too many are made
  pub sizes_exact : Decides (sizes_of s n f) ((S : ℕ → Option Shape) × WellSized s n f S)
      (λ r. ((i : ℕ) × (r ≡ refusal 10 n i) × CoverFails s n f i) ⊎ ((i : ℕ) × (r ≡ refusal 9 n i) × ManyFails s n f i))
  unfolding sizes_of judged shape_rule
  sizes_exact = verdict_decides (verdict_of_lem (sizes_of s n f) all stops) apart one
    where
      test : ℕ → Instruction → Option Shape → Check
      test = judge (shape_rule s n f) (root_at 1 (start_shape f)) f.code

      all : sizes_of s n f ≡ passed → (S : ℕ → Option Shape) × WellSized s n f S
      all e = (
        shape_at s n f,
        states_sized (suc last) (λ i ins lt c x h. judge_found (shape_rule s n f) (root_at 1 (start_shape f)) f.code i ins
            x ((along_passed (shape_rule s n f) (root_at 1 (start_shape f)) f.code test).0 e i ins c) h),
      )

      stops : (r : Refusal) → sizes_of s n f ≡ refused r → SizesStop r
      stops r e =
          let w = (along_stops (shape_rule s n f) (root_at 1 (start_shape f)) f.code test).0 e in
          at_state w.0 w.1 (shape_at s n f w.0) refl
        where
          at_state : (i : ℕ) (w : StopsAt (λ i. slot i f.code) (λ i ins. test i ins (shape_at s n f i)) r i) (o : Option Shape)
              → shape_at s n f i ≡ o → SizesStop r
          at_state i w None q = absurd (refused_found (sym (rw q at w.refuses)))
          at_state i w (Some x) q = by_cover (covered_at s x) refl
            where
              no : shape_rule s n f i w.it x ≡ refused r
              no = only_refused (shape_rule s n f i w.it x) (rw q at w.refuses)

              arrives : (P : Instruction → Shape → Type 0) → P w.it x → ArriveWith s n f i P
              arrives P p = record {
                before = (
                  shape_at s n f,
                  states_sized i (λ j ins lt c y h. judge_found (shape_rule s n f) (root_at 1 (start_shape f)) f.code
                      j ins y (w.before j ins lt c) h),
                );
                ins = w.it;
                stands = w.there;
                here = λ S W. (x, sized_states S i W i (le_refl i) x q, p);
              }

              by_cover : (t : Bool) → covered_at s x ≡ t → SizesStop r
              by_cover false h =
                  inl (i, sym (refused_inj (rw h at no)), arrives (λ ins x. Covered s x → ⊥) (uncovered s x h))
              by_cover true h =
                  let m = from_refused s n f flow typed i w.it w.there x q (rw h at no) in
                  inr (i, m.0, arrives (λ ins x. Covered s x × Many s ins x) ((covered_iff s x).0 h, m.1))

      inside : {P : Instruction → Shape → Type 0} (S : ℕ → Option Shape) (i : ℕ) → Excluded P → WellSized s n f S → ArriveWith s n f i P → ⊥
      inside S i ex W a = not_past ex S (suc last) i (let h = slot_low i f.code a.stands in omega (arith, h.1)) W a

      apart : (r : Refusal) → (S : ℕ → Option Shape) × WellSized s n f S → SizesStop r → ⊥
      apart r (S, W) (inl (i, e, a)) = inside S i no_cover W a
      apart r (S, W) (inr (i, e, a)) = inside S i no_many W a

      one : (r q : Refusal) → SizesStop r → SizesStop q → r ≡ q
      one r q (inl (i, e, a)) (inl (j, e', a')) = e ∙ ap (refusal 10 n) (same_place no_cover no_cover i j a a') ∙ sym e'
      one r q (inl (i, e, a)) (inr (j, e', a')) = absurd (not_both i a (rw (sym (same_place no_cover no_many i j a a')) at a'))
      one r q (inr (i, e, a)) (inl (j, e', a')) = absurd (not_both j a' (rw (same_place no_many no_cover i j a a') at a))
      one r q (inr (i, e, a)) (inr (j, e', a')) = e ∙ ap (refusal 9 n) (same_place no_many no_many i j a a') ∙ sym e'
