-- In the parameters' shapes every variable stands at most once.
use Rattle.std.specs.Prelude.{if◌then◌else◌, Some}
use mathlib.Core.Path.{◌≡◌, refl}
use mathlib.Core.List.{List, [], ◌∷◌, ◌++◌, map}
use mathlib.Core.Bool.{Bool, true, false}
use Prim.Native.Nat.{ℕ, suc, ◌+◌, ◌*◌, ◌≤◌, ◌<◌, zero-le}
use native.Mathlib.Omega.{arith}
use native.Mathlib.Nat.{le_trans, le_of_eq, mul-le-mul, mul-le-mul_right}
use lib.ListN.{length}
use lib.Dec.{leb, eqb}
use borrow.Author.Tests.{leb-true, leb-false}
use Rattle.rules.specs.Base.{found}
use Rattle.rules.specs.declared.records.Instruction.{Instruction}
use Rattle.rules.specs.declared.records.Instruction.TheVariants.{Load, Build, Call, Branch, Return, Stop}
use Rattle.rules.specs.Program.{Constructor, Function, Program, arity, constructor, function}
use Rattle.rules.specs.Tree.{node, to_list, made}
use Rattle.rules.specs.Walk.{Arrow, root_at}
use Rattle.rules.specs.Expressions.{variable, known, built, called, Expression, variables, replace}
use Rattle.rules.specs.Shapes.{Shape, with_stack, split_variable, branch_on, shape_from, shape_rule, start_shape, shape_at}
use Rattle.rules.specs.Lists.{All, l[], ◌l∷◌}
use Rattle.rules.specs.Facts.{Plain, Unmade}
use Rattle.rules.proofs.RuleLaws.{shape_covered, shape_load, shape_build, shape_call, shape_branch, branch_none, branch_variable}
use Rattle.rules.proofs.RuleLaws.{branch_known, branch_built, branch_called}
use Rattle.rules.proofs.TriedLaws.{found_inj}
use Rattle.rules.proofs.Accepted.{Passed, sizes_accepted}
use Rattle.rules.proofs.ProgramLaws.{weight_heavy}
use Rattle.rules.proofs.WalkLaws.{Brings, state_all, root_start}
use Rattle.rules.proofs.Amounts.{one_at, amount, in_all, amounts_list, replaced_amount, fresh_weightless, fresh_below, fresh_above}
use Rattle.rules.proofs.Amounts.{fresh_once}
use Rattle.rules.proofs.ExpressionLaws.{every_trees, every_fresh, every_replaced, unmade_stays}

---- Shapes on the way

module _ (s : Program) (heavy : (c : ℕ) (k : Constructor) → constructor s c ≡ Some k → k.weight ≤ 255 * length k.arguments) where
  -- in the parameters' shapes every variable stands at most once, none from the count on, and little weight
  pub record Tame (x : Shape) : Type 0 where
    pub plain : All Plain x.parameters
    pub once : (v : ℕ) → in_all s 0 (one_at v) x.parameters ≤ 1
    pub none_above : (v : ℕ) → x.count ≤ v → in_all s 0 (one_at v) x.parameters ≤ 0
    pub little : in_all s 1 (λ k. 0) x.parameters ≤ 255 * x.count
    pub few : x.count ≤ 16

  module _ (n : ℕ) (f : Function) where
    start_tame : arity f ≤ 16 → Tame (start_shape f)
    unfolding start_shape
    start_tame h = record {
      plain = every_fresh Unmade (λ k. tt) 0 (arity f);
      once = λ v. fresh_once s v 0 (arity f);
      none_above = λ v h'. le_of_eq (fresh_above s v 0 (arity f) (omega arith));
      little = le_trans (le_of_eq (fresh_weightless s 1 0 (arity f))) zero-le;
      few = h;
    }

    stack_tame : (x : Shape) (es : List Expression) → Tame x → Tame (with_stack x es)
    stack_tame x es t = record { plain = t.plain; once = t.once; none_above = t.none_above; little = t.little; few = t.few }

    split_tame : (x : Shape) (rest : List Expression) (v c : ℕ) (k : Constructor) → constructor s c ≡ Some k
        → x.count + length k.arguments ≤ 16 → Tame x → Tame (split_variable x rest v c (length k.arguments))
    unfolding split_variable
    split_tame x rest v c k ck room t = record {
      plain = every_replaced Unmade v new (tt, every_trees Unmade (every_fresh Unmade (λ k. tt) x.count (length k.arguments)))
          (unmade_stays v new) t.plain;
      once = λ y. le_trans (grows 0 (one_at y)) (rw (amount_new 0 (one_at y)) (once_more y (leb x.count y) refl));
      none_above =
          λ y h. le_trans (grows 0 (one_at y)) (rw (amount_new 0 (one_at y), fresh_above s y x.count (length k.arguments) h)
          (omega (arith, t.none_above y (le_trans (omega arith) h))));
      little = le_trans (grows 1 (λ _. 0)) (rw (amount_new 1 (λ _. 0), fresh_weightless s 1 x.count (length k.arguments))
          (weighs (in_all s 1 (λ _. 0) x.parameters) (in_all s 0 (one_at v) x.parameters) k.weight x.count (length k.arguments)
          t.little (t.once v) (heavy c k ck)));
      few = room;
    }
      where
        new : Expression
        new = made (known c) (variables x.count (length k.arguments))

        amount_new : (κ : ℕ) (w : ℕ → ℕ) → amount s κ w (made (known c) (variables x.count (length k.arguments)))
            ≡ κ * k.weight + in_all s κ w (variables x.count (length k.arguments))
        amount_new κ w = rw (ck, amounts_list s κ w (variables x.count (length k.arguments)))

        grows : (κ : ℕ) (w : ℕ → ℕ) → in_all s κ w (map (replace v (made (known c) (variables x.count (length k.arguments))))
            x.parameters)
            ≤ in_all s κ w x.parameters + in_all s 0 (one_at v) x.parameters * amount s κ w
            (made (known c) (variables x.count (length k.arguments)))
        grows κ w = replaced_amount s κ w v (made (known c) (variables x.count (length k.arguments))) x.parameters

        weighs : (p q w a b : ℕ) → p ≤ 255 * a → q ≤ 1 → w ≤ 255 * b → p + q * (1 * w + 0) ≤ 255 * (a + b)
        weighs p q w a b hp hq hw = omega (arith, mul-le-mul_right (1 * w + 0) hq)

        new_once : (p q a : ℕ) → p ≤ 0 → q ≤ 1 → a ≤ 1 → p + q * (0 * k.weight + a) ≤ 1
        new_once p q a hp hq ha = omega (arith, mul-le-mul hq ha)

        once_more : (y : ℕ) (b : Bool) → leb x.count y ≡ b
            → in_all s 0 (one_at y) x.parameters + in_all s 0 (one_at v)
            x.parameters * (0 * k.weight + in_all s 0 (one_at y) (variables x.count (length k.arguments))) ≤ 1
        once_more y true e =
            new_once (in_all s 0 (one_at y) x.parameters) (in_all s 0 (one_at v) x.parameters)
            (in_all s 0 (one_at y) (variables x.count (length k.arguments)))
            (t.none_above y (leb-true _ _ e)) (t.once v) (fresh_once s y x.count (length k.arguments))
        once_more y false e = rw (fresh_below s y x.count (length k.arguments) (leb-false _ _ e)) (omega (arith, t.once y))

    branch_tame : (i : ℕ) (x : Shape) (rest : List Expression) (c b : ℕ) (k : Constructor) → constructor s c ≡ Some k
        → (es : List Expression) (M : List (Arrow Shape))
        → branch_on s n f i x rest c (length k.arguments) b es ≡ found M → Tame x → All (Brings Tame) M
    branch_tame i x rest c b k ck [] M e t = absurd (branch_none s n f i x rest c (length k.arguments) b e)
    branch_tame i x rest c b k ck (node (variable v) ts ∷ more) M e t =
        let r = branch_variable s n f i x rest c (length k.arguments) b v ts more e in
        rw r.1 (split_tame x rest v c k ck r.0 t l∷ t l∷ l[])
    branch_tame i x rest c b k ck (node (known d) ts ∷ more) M e t =
        rw (branch_known s n f i x rest c (length k.arguments) b d ts more e) (one (eqb d c))
      where
        one : (y : Bool) → All (Brings Tame) ((if y then (suc i, with_stack x (rest ++ to_list ts)) else (b, x)) ∷ [])
        one true = stack_tame x (rest ++ to_list ts) t l∷ l[]
        one false = t l∷ l[]
    branch_tame i x rest c b k ck (node (built d) ts ∷ more) M e t =
        absurd (branch_built s n f i x rest c (length k.arguments) b d ts more e)
    branch_tame i x rest c b k ck (node (called g) ts ∷ more) M e t =
        absurd (branch_called s n f i x rest c (length k.arguments) b g ts more e)

    from_tame : (i : ℕ) (ins : Instruction) (x : Shape) (M : List (Arrow Shape)) → shape_from s n f i ins x ≡ found M → Tame x
        → All (Brings Tame) M
    unfolding shape_from
    from_tame i (Load a) x M e t = rw (shape_load s n f i a x e).2 (stack_tame x _ t l∷ l[])
    from_tame i (Build c) x M e t = rw (shape_build s n f i c x e).4 (stack_tame x _ t l∷ l[])
    from_tame i (Call g) x M e t = rw (shape_call s n f i g x e).4 (stack_tame x _ t l∷ l[])
    from_tame i (Branch c b) x M e t =
        let r = shape_branch s n f i c b x e in
        branch_tame i x r.2.0 c b r.0 r.1 r.2.1 M r.4 t
    from_tame i Return x M e t = rw (← found_inj e) l[]
    from_tame i Stop x M e t = rw (← found_inj e) l[]

    rule_tame : (i : ℕ) (ins : Instruction) (x : Shape) (M : List (Arrow Shape)) → shape_rule s n f i ins x ≡ found M → Tame x
        → All (Brings Tame) M
    rule_tame i ins x M e t = from_tame i ins x M (shape_covered s n f i ins x e).1 t

module _ {bytes : List ℕ} {s : Program} (P : Passed bytes s) (small : All (λ b. b < 256) bytes) where
  pub shapes_tame : (n : ℕ) (f : Function) → function s n ≡ Some f → (i : ℕ) (x : Shape) → shape_at s n f i ≡ Some x
      → Tame s (weight_heavy P small) x
  shapes_tame n f e i x h =
      state_all (shape_rule s n f) (root_at 1 (start_shape f)) f.code (λ _ x. Tame s (weight_heavy P small) x)
      (λ j y c. rw (← (root_start (shape_rule s n f) (start_shape f) f.code j y c).1)
      (start_tame s (weight_heavy P small) n f (sizes_accepted P n f e).few))
      (λ i ins c y w M r t. rule_tame s (weight_heavy P small) n f i ins y M r t) i x h
