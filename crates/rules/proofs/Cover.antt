-- Covered entries keep coefficients at 15 or less, and what is made of them fits 32 bits.
use Rattle.std.specs.Prelude.{if◌then◌else◌, Option, None, Some}
use mathlib.Core.Path.{◌≡◌, refl, sym, ap, ◌∙◌}
use mathlib.Core.List.{List, [], ◌∷◌, map}
use mathlib.Core.Bool.{Bool, true, false}
use Prim.Native.Nat.{ℕ, zero, suc, ◌+◌, ◌*◌, ◌-◌, ◌≤◌, ◌<◌, zero-le}
use native.Mathlib.Omega.{arith}
use native.Mathlib.Nat.{le_trans, le_of_eq}
use lib.ListN.{length, get_or, replicate, set, drop, length-replicate, length-set, length-drop}
use lib.Dec.{leb, eqb}
use borrow.Author.Tests.{leb-true}
use Rattle.rules.specs.Base.{any}
use Rattle.rules.specs.Program.{Constructor, Function, Program, constructor, function}
use Rattle.rules.specs.declared.records.Alternative.{Alternative}
use Rattle.rules.specs.Tree.{from_list, made}
use Rattle.rules.specs.Stacks.{split}
use Rattle.rules.specs.Expressions.{Symbol, variable, known, built, called, Expression}
use Rattle.rules.specs.Forms.{Form, variable_only, substituted, into_bound, built_form, called_form, form_of, forms_of, at_most, matches}
use Rattle.rules.specs.Forms.{covers}
use Rattle.rules.specs.Shapes.{Shape, covered_at}
use Rattle.rules.specs.Lists.{All, l[], ◌l∷◌, Any}
use Rattle.rules.specs.Facts.{Fits16, CoverFact}
use Rattle.rules.proofs.ListLaws.{split_parts, all_drop, all_get_d, all_both, all_map, and_left, and_right, all_true, any_true}
use Rattle.rules.proofs.ListLaws.{any_all}
use Rattle.rules.proofs.FormLaws.{all_flat_map}
use Rattle.rules.proofs.RuleLaws.{shape_covered}
use Rattle.rules.proofs.Accepted.{Passed, checked_parts, sizes_accepted, own_bounds}
use Rattle.rules.proofs.ProgramLaws.{weight_most, weight_heavy, bound_numbers}
use Rattle.rules.proofs.Linear.{Tame, shapes_tame}
use Rattle.rules.proofs.Measures.{coefficient_measure, constant_measure, at_unit, bound_most, at_most_at, all_of_at, WideForm}
use Rattle.rules.proofs.Measures.{substituted_wide, form_wide, made_most}

abbrev Small : ℕ → Alternative → Type 0
Small K a = All (λ c. c ≤ 15) a.coefficients × (a.constant ≤ K)

module _ (s : Program) (heavy : (c : ℕ) (k : Constructor) → constructor s c ≡ Some k → k.weight ≤ 255 * length k.arguments) where
  -- what a bound at tame shapes covers
  covered_small : (bound : List Alternative) (x : Shape) → Tame s heavy x → All (Small 65535) bound → (form : Form)
      → covers (into_bound bound (map (form_of s) x.parameters)) form ≡ true → All (Small 126735) form
  unfolding covers matches coefficient_measure constant_measure
  covered_small bound x t h form c =
      all_map one (all_true (λ a. any (matches a) (into_bound bound (map (form_of s) x.parameters)))
      (λ a e. any_true (matches a) (λ b w. w) (into_bound bound (map (form_of s) x.parameters)) e) form c)
    where
      one : (a : Alternative) → Any (λ b. matches a b ≡ true) (into_bound bound (map (form_of s) x.parameters)) → Small 126735 a
      one a m = (
        all_of_at 15 a.coefficients
            (λ y. any_all (λ b (z : get_or b.coefficients y 0 ≤ 0 * 65535 + 15 * 1) w. le_trans
            (at_most_at a.coefficients b.coefficients
            (and_right (leb a.constant b.constant) (at_most a.coefficients b.coefficients) w) y) (le_trans z (omega arith)))
            (bound_most s (coefficient_measure y) bound x.parameters 65535 1 h t.plain (t.once y)) m),
        any_all (λ b (z : b.constant ≤ 1 * 65535 + 15 * (255 * x.count)) w. le_trans
            (leb-true _ _ (and_left (leb a.constant b.constant) (at_most a.coefficients b.coefficients) w))
            (omega (arith, t.few)))
            (bound_most s constant_measure bound x.parameters 65535 (255 * x.count) h t.plain t.little) m,
      )

all_head : {A : Type 0} {P : A → Type 0} {x : A} {xs : List A} → All P (x ∷ xs) → P x
all_head (p l∷ ps) = p

all_tail : {A : Type 0} {P : A → Type 0} {x : A} {xs : List A} → All P (x ∷ xs) → All P xs
all_tail (p l∷ ps) = ps

all_forall : {A B : Type 0} {P : B → A → Type 0} (xs : List A) → ((y : B) → All (P y) xs) → All (λ x. (y : B) → P y x) xs
all_forall [] h = l[]
all_forall (x ∷ xs) h = (λ y. all_head (h y)) l∷ all_forall xs (λ y. all_tail (h y))

at_all : (m : ℕ) {l : List ℕ} → All (λ c. c ≤ m) l → (y : ℕ) → get_or l y 0 ≤ m
at_all m h y = all_get_d y 0 zero-le h

module _ (s : Program) where
  made_fits : (ms : List ℕ) (k : ℕ) {forms : List Form} → All (λ c. c ≤ 15) ms → k ≤ 65535 → length forms ≤ 4 → All WideForm forms
      → All (All (Small 126735)) forms → All (Fits16 900 7669635) (substituted ms k forms)
  unfolding coefficient_measure constant_measure
  made_fits ms k {forms} h hk few w p =
      let coefficients : (y : ℕ) → All (λ a. get_or a.coefficients y 0 ≤ 0 * 65535 + 60 * 15) (substituted ms k forms) =
      λ y. made_most s (coefficient_measure y) 15 ms k 65535 h hk few (all_map (λ form q. all_map (λ a z. at_all 15 z.0 y) q) p) in
      let constants : All (λ a. a.constant ≤ 1 * 65535 + 60 * 126735) (substituted ms k forms) =
      made_most s constant_measure 126735 ms k 65535 h hk few (all_map (λ form q. all_map (λ a z. z.1) q) p) in
      all_map (λ a z. (z.0.0, all_of_at 900 a.coefficients (λ y. le_trans (z.0.1 y) (omega arith)), le_trans z.1 (omega arith)))
      (all_both (all_both (substituted_wide ms k w) (all_forall (substituted ms k forms) coefficients)) constants)

  variable_fits : (k : ℕ) → Fits16 900 7669635 (variable_only k)
  unfolding variable_only
  variable_fits k = (
    length-set {A = ℕ} (replicate 16 0) k 1 ∙ length-replicate {A = ℕ} 16 0,
    all_of_at 900 (set (replicate 16 0) k 1) (λ y. le_trans
        (at_unit 16 k y) (one (eqb k y))),
    zero-le,
  )
    where
      one : (b : Bool) → (if b then 1 else 0) ≤ 900
      one true = omega arith
      one false = zero-le

  forms_of_lem : {P : Form → Type 0} {es : List Expression} → All (λ e. P (form_of s e)) es → All P (forms_of s (from_list es))
  unfolding form_of
  forms_of_lem l[] = l[]
  forms_of_lem (p l∷ ps) = p l∷ forms_of_lem ps

  forms_length : (es : List Expression) → length (forms_of s (from_list es)) ≡ length es
  unfolding form_of
  forms_length [] = refl
  forms_length (e ∷ es) = ap suc (forms_length es)

module _ {bytes : List ℕ} {s : Program} (P : Passed bytes s) (small : All (λ b. b < 256) bytes) where
  -- what a constructor over four or fewer small entries makes, and what any symbol does
  constructor_fits : (c : ℕ) (es : List Expression) → length es ≤ 4 → All (λ e. All (Fits16 15 126735) (form_of s e)) es
      → All (Fits16 900 7669635) (built_form (constructor s c) (forms_of s (from_list es)))
  unfolding built_form
  constructor_fits c es few h = one (constructor s c) refl
    where
      ones : (n : ℕ) → All (λ c. c ≤ 15) (replicate n 1)
      ones zero = l[]
      ones (suc n) = ◌l∷◌ {x = 1} (omega arith) (ones n)

      one : (o : Option Constructor) → constructor s c ≡ o → All (Fits16 900 7669635) (built_form o (forms_of s (from_list es)))
      one None e = l[]
      one (Some k) e =
          made_fits s (replicate (length k.arguments) 1) k.weight (ones (length k.arguments))
          (le_trans (weight_most P small c k e) (omega arith)) (le_trans (le_of_eq (forms_length s es)) few)
          (forms_of_lem s (all_map (λ e q. all_map (λ a z. z.0) q) h)) (forms_of_lem s (all_map (λ e q. all_map (λ a z. (z.1, z.2)) q) h))

  symbol_fits : (y : Symbol) (es : List Expression) → length es ≤ 4 → All (λ e. All (Fits16 15 126735) (form_of s e)) es
      → All (Fits16 900 7669635) (form_of s (made y es))
  unfolding form_of called_form into_bound
  symbol_fits (variable k) es few h = variable_fits s k l∷ l[]
  symbol_fits (known c) es few h = constructor_fits c es few h
  symbol_fits (built c) es few h = constructor_fits c es few h
  symbol_fits (called g) es few h = one (function s g) refl
    where
      one : (o : Option Function) → function s g ≡ o → All (Fits16 900 7669635) (called_form o (forms_of s (from_list es)))
      one None e = l[]
      one (Some f) e =
          all_flat_map (λ a. substituted a.coefficients a.constant (forms_of s (from_list es)))
          (λ a (q : Small 65535 a). made_fits s a.coefficients a.constant q.0 q.1 (le_trans (le_of_eq (forms_length s es)) few)
          (forms_of_lem s (all_map (λ e q. all_map (λ a z. z.0) q) h)) (forms_of_lem s (all_map (λ e q. all_map (λ a z. (z.1, z.2)) q) h)))
          (bound_numbers P small g f e)

pub cover_fact : CoverFact
unfolding covered_at
cover_fact bytes s small e n f at_f i x h = (entries, makes)
  where
    entries : All (λ e. All (Fits16 15 126735) (form_of s e)) x.stack
    entries =
        let P = checked_parts bytes s e in
        let r = (sizes_accepted P n f at_f).shape_on i x h in
        all_true (λ z. covers (into_bound f.bound (map (form_of s) x.parameters)) (form_of s z))
        (λ z c. all_map (λ a q. (q.0, q.1.0, q.1.1)) (all_both (form_wide s z)
        (covered_small s (weight_heavy P small) f.bound x (shapes_tame P small n f at_f i x h) (bound_numbers P small n f at_f)
        (form_of s z) c)))
        x.stack (rw (own_bounds s n f i x h) at (shape_covered s n f i r.0 x r.3).0)

    makes : (k : ℕ) (parts : List Expression × List Expression) → k ≤ 4 → split k x.stack ≡ Some parts → (symbol : Symbol)
        → All (Fits16 900 7669635) (form_of s (made symbol parts.1))
    makes k parts few cut symbol =
        let r = split_parts k x.stack cut in
        let is : drop (length x.stack - k) x.stack ≡ parts.1 = ap (λ (q : List Expression × List Expression). q.1) (sym r.1) in
        let count : length (drop (length x.stack - k) x.stack) ≤ 4 =
        rw (length-drop (length x.stack - k) x.stack) (omega (arith, r.0)) in
        symbol_fits (checked_parts bytes s e) small symbol parts.1 (rw is at count) (rw is at (all_drop (length x.stack - k) entries))
