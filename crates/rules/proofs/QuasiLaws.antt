-- 001's inequality of sizes from the cover test: what an expression comes to is under its form, and over it where nothing is called.
use Rattle.std.specs.Prelude.{if◌then◌else◌, Some}
use mathlib.Core.Path.{◌≡◌, refl, sym, ap, ◌∙◌}
use mathlib.Core.List.{List, [], ◌∷◌, map, ◌++◌}
use mathlib.Core.Bool.{Bool, true, false}
use Prim.Native.Nat.{ℕ, zero, suc, ◌+◌, ◌*◌, ◌≤◌}
use native.Mathlib.Omega.{arith}
use native.Mathlib.Nat.{le_trans, le_of_eq, not-suc-le-zero}
use lib.ListN.{length, get_or, set, replicate, length-append, length-map}
use lib.Dec.{leb, eqb}
use borrow.Author.Tests.{leb-true, leb-false}
use Rattle.rules.specs.declared.records.Alternative.{Alternative}
use Rattle.rules.specs.declared.records.Instruction.{Instruction}
use Rattle.rules.specs.Base.{found}
use Rattle.rules.specs.Lists.{All, l[], ◌l∷◌, here, there, All2, a[], ◌a∷◌}
use Rattle.rules.specs.Program.{Constructor, Function, Program, arity, constructor, function}
use Rattle.rules.specs.Tree.{Trees, node, nil, cons, to_list, from_list, made}
use Rattle.rules.specs.Walk.{Arrow, root_at}
use Rattle.rules.specs.Expressions.{Symbol, variable, known, built, called, Expression, variables, EveryIn}
use Rattle.rules.specs.Forms.{variable_only, flat_map, added, substituted, built_form, called_form, form_of, forms_of, into_bound, covers}
use Rattle.rules.specs.Values.{dot, value_at, bound_at}
use Rattle.rules.specs.Shapes.{Shape, with_stack, split_variable, covered_at, branch_on, shape_from, shape_rule, start_shape, shape_at}
use Rattle.rules.specs.Quasi.{of_constructor, quasi, quasis}
use Rattle.rules.specs.Facts.{Unmade, Plain, SizeFact, choices_of, ChoiceFact}
use Rattle.rules.proofs.ListLaws.{all_true, all_both, all_map, any_map}
use Rattle.rules.proofs.FormLaws.{Under, Over, under_bound, variable_value, dot_ones, covers_under, substituted_under}
use Rattle.rules.proofs.FormLaws.{substituted_over, into_under, into_over}
use Rattle.rules.proofs.Models.{Light, to_from}
use Rattle.rules.proofs.ExpressionLaws.{HasArguments, Full, every_trees, every_fresh, every_replaced, arguments_stay, unmade_stays}
use Rattle.rules.proofs.ExpressionLaws.{variables_length}
use Rattle.rules.proofs.RuleLaws.{shape_covered, shape_load, shape_build, shape_call, shape_branch, branch_none, branch_variable}
use Rattle.rules.proofs.RuleLaws.{branch_known, branch_built, branch_called}
use Rattle.rules.proofs.WalkLaws.{Brings, state_all, root_start, judged_found}
use Rattle.rules.proofs.TriedLaws.{found_inj}
use Rattle.rules.proofs.EachLaws.{each_from_0}
use Rattle.rules.proofs.Accepted.{checked_parts, sizes_accepted, light, decoded_function, flowing, own_bounds}
use Rattle.rules.proofs.SizesExact.{matched}
use Rattle.rules.specs.Types.{type_rule, types_of, types_right}
use Rattle.rules.specs.declared.records.Instruction.TheVariants.{Load, Build, Call, Branch, Return, Stop}

---- One expression

-- a variable that no alternative has
dot_past : (n v : ℕ) (sizes : List ℕ) → n ≤ v → dot (set (replicate n 0) v 1) sizes ≡ 0
dot_past zero v sizes h = refl
dot_past (suc n) zero sizes h = absurd (omega arith)
dot_past (suc n) (suc v) [] h = refl
dot_past (suc n) (suc v) (z ∷ sizes) h = omega (arith, dot_past n v sizes (omega arith))

past_sizes : (sizes : List ℕ) (k : ℕ) → length sizes ≤ k → get_or sizes k 0 ≡ 0
past_sizes [] k h = refl
past_sizes (z ∷ sizes) zero h = absurd (omega arith)
past_sizes (z ∷ sizes) (suc k) h = past_sizes sizes k (omega arith)

-- a bound reaches its value
bound_reached : (bound : List Alternative) (sizes : List ℕ) → 1 ≤ length bound → Under sizes (bound_at bound sizes) bound
bound_reached [] sizes h = absurd (not-suc-le-zero h)
bound_reached (a ∷ []) sizes h = here {x = a} (omega arith)
bound_reached (a ∷ b ∷ more) sizes h = one (leb (bound_at (b ∷ more) sizes) (value_at sizes a)) refl (bound_reached (b ∷ more) sizes
    (omega arith))
  where
    one : (t : Bool) → leb (bound_at (b ∷ more) sizes) (value_at sizes a) ≡ t → Under sizes (bound_at (b ∷ more) sizes) (b ∷ more)
        → Under sizes (bound_at (a ∷ b ∷ more) sizes) (a ∷ b ∷ more)
    one true e u = here {x = a} (omega (arith, leb-true (bound_at (b ∷ more) sizes) (value_at sizes a) e))
    one false e u = there (any_map (λ c h. le_trans (omega (arith, leb-false (bound_at (b ∷ more) sizes) (value_at sizes a) e)) h) u)

module _ (s : Program) (light : Light s) (bounded : (g : ℕ) (f : Function) → function s g ≡ Some f → 1 ≤ length f.bound)
    (sizes : List ℕ) (wide : length sizes ≤ 16) where
  variable_at : (k : ℕ) → value_at sizes (variable_only k) ≡ get_or sizes k 0
  unfolding variable_only
  variable_at k = one (leb (suc k) 16) refl
    where
      one : (t : Bool) → leb (suc k) 16 ≡ t → value_at sizes (variable_only k) ≡ get_or sizes k 0
      one true e = variable_value sizes k (leb-true (suc k) 16 e)
      one false e =
          let h = leb-false (suc k) 16 e in
          omega (arith, dot_past 16 k sizes (omega arith), past_sizes sizes k (omega arith))

  quasis_length : (ts : Trees Symbol) → length (quasis s sizes ts) ≡ length (to_list ts)
  quasis_length nil = refl
  quasis_length (cons t ts) = ap suc (quasis_length ts)

  constructor_at_lem : (c : ℕ) (k : Constructor) → constructor s c ≡ Some k → (ns : List ℕ) → length ns ≡ length k.arguments
      → of_constructor (Some k) ns ≡ k.weight + dot (replicate (length k.arguments) 1) ns
  constructor_at_lem c k e [] h = omega (arith, light c k e (sym h), dot_ones (length k.arguments) [] h)
  constructor_at_lem c k e (n ∷ ns) h = omega (arith, dot_ones (length k.arguments) (n ∷ ns) h)

  mutual
    unfolding form_of built_form called_form

    quasi_under : (e : Expression) → Full s e → Under sizes (quasi s sizes e) (form_of s e)
    quasi_under (node (variable k) ts) h = here {x = variable_only k} (le_of_eq (sym (variable_at k)))
    quasi_under (node (known c) ts) h =
        rw (h.0.1, constructor_at_lem c h.0.0 h.0.1 (quasis s sizes ts) (quasis_length ts ∙ h.0.2))
        (substituted_under sizes (replicate (length h.0.0.arguments) 1) h.0.0.weight (quasis_under ts h.1))
    quasi_under (node (built c) ts) h =
        rw (h.0.1, constructor_at_lem c h.0.0 h.0.1 (quasis s sizes ts) (quasis_length ts ∙ h.0.2))
        (substituted_under sizes (replicate (length h.0.0.arguments) 1) h.0.0.weight (quasis_under ts h.1))
    quasi_under (node (called g) ts) h =
        rw h.0.1 (into_under sizes h.0.0.bound (bound_at h.0.0.bound (quasis s sizes ts)) (quasis_under ts h.1)
        (bound_reached h.0.0.bound (quasis s sizes ts) (bounded g h.0.0 h.0.1)))

    quasis_under : (ts : Trees Symbol) → EveryIn (HasArguments s) ts → All2 (Under sizes) (quasis s sizes ts) (forms_of s ts)
    quasis_under nil h = a[]
    quasis_under (cons t ts) h = quasi_under t h.0 a∷ quasis_under ts h.1

  mutual
    unfolding form_of built_form called_form

    quasi_over : (e : Expression) → Full s e → Plain e → Over sizes (quasi s sizes e) (form_of s e)
    quasi_over (node (variable k) ts) h p = ◌l∷◌ {x = variable_only k} (le_of_eq (variable_at k)) l[]
    quasi_over (node (known c) ts) h p =
        rw (h.0.1, constructor_at_lem c h.0.0 h.0.1 (quasis s sizes ts) (quasis_length ts ∙ h.0.2))
        (substituted_over sizes (replicate (length h.0.0.arguments) 1) h.0.0.weight (quasis_over ts h.1 p.1))
    quasi_over (node (built c) ts) h p = absurd p.0
    quasi_over (node (called g) ts) h p = absurd p.0

    quasis_over : (ts : Trees Symbol) → EveryIn (HasArguments s) ts → EveryIn Unmade ts
        → All2 (Over sizes) (quasis s sizes ts) (forms_of s ts)
    quasis_over nil h p = a[]
    quasis_over (cons t ts) h p = quasi_over t h.0 p.0 a∷ quasis_over ts h.1 p.1

---- The parameters' shapes at every state

module _ (s : Program) (n : ℕ) (f : Function) where
  -- nothing in them was made, and every constructor has its arguments
  abbrev Known : Expression → Type 0
  Known e = Full s e × Plain e

  abbrev AllKnown : Shape → Type 0
  AllKnown x = All Known x.parameters

  both : {es : List Expression} → All (Full s) es → All Plain es → All Known es
  both h p = all_both h p

  split_known : (x : Shape) (rest : List Expression) (v c : ℕ) (k : Constructor) → constructor s c ≡ Some k → AllKnown x
      → AllKnown (split_variable x rest v c (length k.arguments))
  unfolding split_variable
  split_known x rest v c k ck h =
      let fresh = variables x.count (length k.arguments) in
      let new : Expression = made (known c) fresh in
      let own : length (to_list (from_list fresh)) ≡ length k.arguments =
      ap length (to_from fresh) ∙ variables_length x.count (length k.arguments) in
      let full_new : Full s new = (
        (k, ck, own),
        every_trees (HasArguments s) (every_fresh (HasArguments s) (λ j. tt) x.count
            (length k.arguments)),
      ) in
      let plain_new : Plain new = (tt, every_trees Unmade (every_fresh Unmade (λ j. tt) x.count (length k.arguments))) in
      both (every_replaced (HasArguments s) v new full_new (arguments_stay s v new) (all_map (λ e q. q.0) h))
      (every_replaced Unmade v new plain_new (unmade_stays v new) (all_map (λ e q. q.1) h))

  branch_known_all : (i : ℕ) (x : Shape) (rest : List Expression) (c b : ℕ) (k : Constructor) → constructor s c ≡ Some k
      → (es : List Expression) (M : List (Arrow Shape)) → branch_on s n f i x rest c (length k.arguments) b es ≡ found M → AllKnown x
      → All (Brings AllKnown) M
  branch_known_all i x rest c b k ck [] M e h = absurd (branch_none s n f i x rest c (length k.arguments) b e)
  branch_known_all i x rest c b k ck (node (variable v) ts ∷ more) M e h =
      rw (branch_variable s n f i x rest c (length k.arguments) b v ts more e).1 (split_known x rest v c k ck h l∷ h l∷ l[])
  branch_known_all i x rest c b k ck (node (known d) ts ∷ more) M e h =
      rw (branch_known s n f i x rest c (length k.arguments) b d ts more e) (one (eqb d c))
    where
      one : (t : Bool) → All (Brings AllKnown) ((if t then (suc i, with_stack x (rest ++ to_list ts)) else (b, x)) ∷ [])
      one true = h l∷ l[]
      one false = h l∷ l[]
  branch_known_all i x rest c b k ck (node (built d) ts ∷ more) M e h =
      absurd (branch_built s n f i x rest c (length k.arguments) b d ts more e)
  branch_known_all i x rest c b k ck (node (called g) ts ∷ more) M e h =
      absurd (branch_called s n f i x rest c (length k.arguments) b g ts more e)

  from_known : (i : ℕ) (ins : Instruction) (x : Shape) (M : List (Arrow Shape)) → shape_from s n f i ins x ≡ found M → AllKnown x
      → All (Brings AllKnown) M
  unfolding shape_from
  from_known i (Load a) x M e h = rw (shape_load s n f i a x e).2 (h l∷ l[])
  from_known i (Build c) x M e h = rw (shape_build s n f i c x e).4 (h l∷ l[])
  from_known i (Call g) x M e h = rw (shape_call s n f i g x e).4 (h l∷ l[])
  from_known i (Branch c b) x M e h =
      let r = shape_branch s n f i c b x e in
      branch_known_all i x r.2.0 c b r.0 r.1 r.2.1 M r.4 h
  from_known i Return x M e h = rw (← found_inj e) l[]
  from_known i Stop x M e h = rw (← found_inj e) l[]

  parameters_known : (i : ℕ) (x : Shape) → shape_at s n f i ≡ Some x → AllKnown x
  unfolding start_shape
  parameters_known i x e =
      state_all (shape_rule s n f) (root_at 1 (start_shape f)) f.code (λ _ x. AllKnown x)
      (λ j y c. rw (← (root_start (shape_rule s n f) (start_shape f) f.code j y c).1)
      (both (every_fresh (HasArguments s) (λ k. tt) 0 (arity f)) (every_fresh Unmade (λ k. tt) 0 (arity f))))
      (λ i ins c y w M r h. from_known i ins y M (shape_covered s n f i ins y r).1 h) i x e

---- Definition 3

over_all : (s : Program) (light : Light s) (bounded : (g : ℕ) (f : Function) → function s g ≡ Some f → 1 ≤ length f.bound)
    (sizes : List ℕ) (wide : length sizes ≤ 16) {es : List Expression} → All (λ e. Full s e × Plain e) es
    → All2 (Over sizes) (map (quasi s sizes) es) (map (form_of s) es)
over_all s light bounded sizes wide l[] = a[]
over_all s light bounded sizes wide (◌l∷◌ {x} p ps) =
    quasi_over s light bounded sizes wide x p.0 p.1 a∷ over_all s light bounded sizes wide ps

pub size_fact : SizeFact
unfolding covered_at types_right types_of
size_fact file s e n f at_f i x h sizes wide =
    let P = checked_parts file s e in
    let r = (sizes_accepted P n f at_f).shape_on i x h in
    let bounded : (g : ℕ) (f : Function) → function s g ≡ Some f
    → 1 ≤ length f.bound = λ g f at. (decoded_function P g f at).some_bound in
    let over = over_all s (light P) bounded sizes wide (parameters_known s n f i x h) in
    let pass = judged_found (type_rule s n f) (root_at 1 f.parameters) f.code ((each_from_0 (types_of s) s.functions).0
    P.types n f at_f)
    in
    let full = (matched s n f (flowing P n f at_f) pass i x h).full in
    let own = into_bound f.bound (map (form_of s) x.parameters) in
    let covered : All (λ e. covers own (form_of s e) ≡ true) x.stack =
    all_true (λ e. covers own (form_of s e)) (λ e w. w) x.stack
    (rw (own_bounds s n f i x h) at (shape_covered s n f i r.0 x r.3).0) in
    all_map (λ e q. under_bound (map (quasi s sizes) x.parameters) (quasi s sizes e)
    (into_over sizes f.bound (quasi s sizes e) over
    (covers_under sizes (quasi s sizes e) own (form_of s e) q.0 (quasi_under s (light P) bounded sizes wide e q.1))))
    (all_both covered full)

---- How many choices there are

flat_length : {A B : Type 0} (g : A → List B) (n : ℕ) → ((x : A) → length (g x) ≡ n) → (xs : List A)
    → length (flat_map g xs) ≡ length xs * n
unfolding flat_map
flat_length g n h [] = omega arith
flat_length g n h (x ∷ xs) = length-append (g x) (flat_map g xs) ∙ omega (arith, h x, flat_length g n h xs)

pub choice_fact : ChoiceFact
unfolding substituted
choice_fact [] k forms = refl
choice_fact (m ∷ ms) k [] = refl
choice_fact (zero ∷ ms) k (form ∷ forms) = choice_fact ms k forms
choice_fact (suc m ∷ ms) k (form ∷ forms) =
    flat_length (λ choice. map (added (suc m) choice) (substituted ms k forms)) (choices_of ms forms)
    (λ choice. length-map (substituted ms k forms) (added (suc m) choice) ∙ choice_fact ms k forms) form
