-- The shape rules where the stack is variables: one law for each instruction.
use Rattle.std.specs.Prelude.{if◌then◌else◌}
use mathlib.Core.Path.{◌≡◌, refl, sym, ap, ◌∙◌}
use mathlib.Core.List.{List, [], ◌∷◌, ◌++◌, map, map-append}
use mathlib.Core.Bool.{true, false}
use Rattle.std.specs.Prelude.{Some, slice_get}
use Prim.Native.Nat.{ℕ, zero, suc, ◌+◌, ◌-◌, ◌≤◌, ◌<◌}
use native.Mathlib.Omega.{arith}
use native.Mathlib.Nat.{le_refl, not-suc-le-zero, le_of_suc-le-suc}
use lib.ListN.{length, get_or, length-append}
use lib.Seq.{take_at, drop_at}
use lib.Dec.{eqb}
use borrow.Author.Tests.{le-leb, lt-leb, eq-eqb, ne_eqb}
use Rattle.rules.specs.declared.records.Instruction.{Instruction}
use Rattle.rules.specs.declared.records.Instruction.TheVariants.{Load, Branch}
use Rattle.rules.specs.Base.{refusal, found, refused}
use Rattle.rules.specs.Program.{constructor, Constructor, Function, Program, arity}
use Rattle.rules.specs.Tree.{Trees, node, cons, from_list, made}
use Rattle.rules.specs.Stacks.{split}
use Rattle.rules.specs.Expressions.{Symbol, known, Expression, variables, replace, replace_all}
use Rattle.rules.specs.Shapes.{covered_at, branch_on, split_variable, shape_from, shape_rule}
use Rattle.rules.proofs.Models.{to_from}
use Rattle.sizing.specs.declared.splits.Split.{Split}
use Rattle.sizing.specs.Splits.{variable_e, split_e, through, Numbered, Whole, shape_of, SplitRight, SplitsRight}
use Rattle.sizing.specs.States.{up_from}
use Rattle.sizing.proofs.SplitLaws.{through_more, through_whole, whole_new}
use Rattle.sizing.proofs.OwnLaws.{variables_covered}
use Rattle.sizing.specs.Right.{Path, own_at, AllUnder}

---- Lists

split_seam : {A : Type 0} (xs ys : List A) (n : ℕ) → length ys ≡ n → split n (xs ++ ys) ≡ Some (xs, ys)
unfolding split
split_seam xs ys n e =
    let l = length-append xs ys in
    let a : length xs ≡ length (xs ++ ys) - n = omega arith in
    rw (le-leb n (length (xs ++ ys)) (omega arith), take_at xs ys (length (xs ++ ys) - n) a, drop_at xs ys (length (xs ++ ys) - n) a)

element_map : {A B : Type 0} (g : A → B) (d : A) (xs : List A) (k : ℕ) → k < length xs → slice_get (map g xs) k ≡ Some (g (get_or xs k d))
element_map g d [] k h = absurd (not-suc-le-zero h)
element_map g d (x ∷ xs) zero h = refl
element_map g d (x ∷ xs) (suc k) h = element_map g d xs k (le_of_suc-le-suc h)

map-map : {A B C : Type 0} (f : B → C) (g : A → B) (h : A → C) (xs : List A) → ((x : A) → f (g x) ≡ h x) → map f (map g xs) ≡ map h xs
map-map f g h [] e = refl
map-map f g h (x ∷ xs) e = let a = e x in let b = map-map f g h xs e in cc

---- What a variable that was split stands for

replace_all_list : (k : ℕ) (e : Expression) (xs : List Expression) → replace_all k e (from_list xs) ≡ from_list (map (replace k e) xs)
unfolding replace replace_all
replace_all_list k e [] = refl
replace_all_list k e (x ∷ xs) = ap (λ (l : Trees Symbol). cons (replace k e x) l) (replace_all_list k e xs)

-- splits go into a constructor's arguments
through_made : (ps : List Split) (c : ℕ) (xs : List Expression) → through ps (made (known c) xs) ≡ made (known c) (map (through ps) xs)
unfolding through replace replace_all
through_made [] c xs = ap (made (known c)) (sym (map_same xs))
  where
    map_same : (xs : List Expression) → map (λ e. e) xs ≡ xs
    map_same [] = refl
    map_same (x ∷ xs) = ap (λ (l : List Expression). x ∷ l) (map_same xs)
through_made (p ∷ ps) c xs =
    ap (λ (ts : Trees Symbol). through ps (node (known c) ts)) (replace_all_list p.variable (split_e p) xs)
    ∙ through_made ps c (map (replace p.variable (split_e p)) xs)
    ∙ ap (made (known c)) (map-map (through ps) (replace p.variable (split_e p)) (λ e. through ps (replace p.variable (split_e p) e)) xs
    (λ x. refl))

-- variables from k on are not touched by a split of an earlier one
variables_kept : (v : ℕ) (e : Expression) (k n : ℕ) → v < k → map (replace v e) (variables k n) ≡ variables k n
unfolding variables replace
variables_kept v e k zero h = refl
variables_kept v e k (suc n) h =
    let ih = variables_kept v e (suc k) n (omega arith) in
    let b : eqb k v ≡ false = ne_eqb k v (λ z. omega arith) in
    rw (b, ih)

through_head : (p : Split) (ps : List Split) (xs : List Expression) → map (replace p.variable (split_e p)) xs ≡ xs
    → map (through (p ∷ ps)) xs ≡ map (through ps) xs
unfolding through
through_head p ps xs e =
    sym (map-map (through ps) (replace p.variable (split_e p)) (λ x. through ps (replace p.variable (split_e p) x)) xs (λ x. refl))
    ∙ ap (map (through ps)) e

-- the split that takes variable v apart: the i-th, and none before it
pub data Splitting (v : ℕ) : List Split → Split → Type 0 where
  now_split : {p : Split} {ps : List Split} → p.variable ≡ v → Splitting v (p ∷ ps) p
  later_split : {q p : Split} {ps : List Split} → (v ≡ q.variable → ⊥) → Splitting v ps p → Splitting v (q ∷ ps) p

pub splitting_right : (s : Program) {v : ℕ} {ps : List Split} {p : Split} → Splitting v ps p → SplitsRight s ps → SplitRight s p
splitting_right s (now_split e) r = r.0
splitting_right s (later_split d g) r = splitting_right s g r.1

splitting_first : {v : ℕ} {ps : List Split} {p : Split} (n count : ℕ) → Splitting v ps p → Numbered n ps count → n ≤ p.first
splitting_first n count (now_split e) h = let z = h.1 in omega arith
splitting_first n count (later_split {q} {p} {ps} d g) h = let z = splitting_first (n + q.parts) count g h.2 in omega arith

through_split : {v : ℕ} {ps : List Split} {p : Split} (n count : ℕ) → Splitting v ps p → Numbered n ps count
    → through ps (variable_e v) ≡ made (known p.constructor) (map (through ps) (variables p.first p.parts))
unfolding through replace
through_split {v} n count (now_split {p} {ps} e) h =
    let z = h.0 in let y = h.1 in
    rw (eq-eqb v p.variable (sym e))
    (through_made ps p.constructor (variables p.first p.parts)
    ∙ ap (made (known p.constructor))
    (sym (through_head p ps (variables p.first p.parts)
    (variables_kept p.variable (split_e p) p.first p.parts (omega arith)))))
through_split {v} n count (later_split {q} {p} {ps} d g) h =
    let l = splitting_first (n + q.parts) count g h.2 in let z = h.0 in
    rw (ne_eqb v q.variable d)
    (through_split (n + q.parts) count g h.2
    ∙ ap (made (known p.constructor))
    (sym (through_head q ps (variables p.first p.parts)
    (variables_kept q.variable (split_e q) p.first p.parts (omega arith)))))

variables_map : (ps : List Split) (k n : ℕ) → map (through ps) (variables k n) ≡ map (λ v. through ps (variable_e v)) (up_from k n)
unfolding variables up_from
variables_map ps k zero = refl
variables_map ps k (suc n) = ap (λ (l : List Expression). through ps (variable_e k) ∷ l) (variables_map ps (suc k) n)

---- The rules

module _ (s : Program) (n : ℕ) (f : Function) (ps : List Split) (count : ℕ) (stack : List ℕ) (path : Path s (own_at s f) (arity f) ps count)
    (under : AllUnder count stack) where
  covered_here : covered_at s (shape_of f ps count stack) ≡ true
  covered_here = variables_covered s n f ps count stack path under

  -- nothing is tested
  pub rule_from : (i : ℕ) (ins : Instruction)
      → shape_rule s n f i ins (shape_of f ps count stack) ≡ shape_from s n f i ins (shape_of f ps count stack)
  unfolding shape_rule
  rule_from i ins = rw covered_here

  pub load_rule : (i k : ℕ) → k < length stack
      → shape_from s n f i (Load (suc k)) (shape_of f ps count stack)
      ≡ found ((suc i, shape_of f ps count (stack ++ (get_or stack k 0 ∷ []))) ∷ [])
  unfolding shape_from
  load_rule i k h =
      rw (
        element_map (λ v. through ps (variable_e v)) 0 stack k h,
        map-append (λ v. through ps (variable_e v)) stack
            (get_or stack k 0 ∷ []),
      )

  -- a branch on a variable that was taken apart
  module _ (i b : ℕ) (rest : List ℕ) (v : ℕ) (top : stack ≡ rest ++ (v ∷ [])) (p : Split) (g : Splitting v ps p) (c : ℕ) (k : Constructor)
      (declared : constructor s c ≡ Some k) where
    stack_is : map (λ v. through ps (variable_e v)) stack ≡ map (λ v. through ps (variable_e v)) rest ++ (through ps (variable_e v) ∷ [])
    stack_is = ap (map (λ v. through ps (variable_e v))) top ∙ map-append (λ v. through ps (variable_e v)) rest (v ∷ [])

    split_is : split 1 (map (λ v. through ps (variable_e v)) stack)
        ≡ Some (map (λ v. through ps (variable_e v)) rest, through ps (variable_e v) ∷ [])
    split_is = ap (split 1) stack_is ∙ split_seam (map (λ v. through ps (variable_e v)) rest) (through ps (variable_e v) ∷ []) 1 refl

    pub branch_known : shape_from s n f i (Branch c b) (shape_of f ps count stack)
        ≡ found ((if eqb p.constructor c then (suc i, shape_of f ps count (rest ++ up_from p.first p.parts)) else
        (b, shape_of f ps count stack)) ∷ [])
    unfolding shape_from branch_on
    branch_known =
        rw (
          declared,
          split_is,
          through_split (arity f) count g path.numbered,
          to_from (map (through ps) (variables p.first p.parts)),
          map-append (λ v. through ps (variable_e v)) rest (up_from p.first p.parts),
          variables_map ps p.first p.parts,
        )

  -- a branch on a whole variable
  module _ (i b : ℕ) (rest : List ℕ) (v : ℕ) (top : stack ≡ rest ++ (v ∷ [])) (w : Whole v ps) (c : ℕ) (k : Constructor)
      (declared : constructor s c ≡ Some k) where
    split_whole : split 1 (map (λ v. through ps (variable_e v)) stack) ≡ Some (map (λ v. through ps (variable_e v)) rest, variable_e v ∷ [])
    split_whole =
        ap (split 1) (ap (map (λ v. through ps (variable_e v))) top ∙ map-append (λ v. through ps (variable_e v)) rest (v ∷ []))
        ∙ split_seam (map (λ v. through ps (variable_e v)) rest) (through ps (variable_e v) ∷ []) 1 refl
        ∙ ap (λ (e : Expression). Some (map (λ v. through ps (variable_e v)) rest, e ∷ [])) (through_whole ps v w)

    pub branch_large : 16 < count + length k.arguments
        → shape_from s n f i (Branch c b) (shape_of f ps count stack) ≡ refused (refusal 9 n i)
    unfolding shape_from branch_on
    branch_large h = rw (declared, split_whole, lt-leb (count + length k.arguments) 16 h)

    -- p: the split of v by c
    module _ (p : Split) (pv : p.variable ≡ v) (pc : p.constructor ≡ c) (pf : p.first ≡ count) (pn : p.parts ≡ length k.arguments)
      where
        more_whole : (x : ℕ) → count ≤ x → v < count → Whole x (ps ++ (p ∷ []))
        more_whole x h l = whole_append ps p x (whole_new ps (arity f) count x path.numbered h) (λ e. omega arith)
          where
            whole_append : (qs : List Split) (p : Split) (x : ℕ) → Whole x qs → (x ≡ p.variable → ⊥) → Whole x (qs ++ (p ∷ []))
            whole_append [] p x w d = (d, tt)
            whole_append (q ∷ qs) p x w d = (w.0, whole_append qs p x w.1 d)

        fresh_kept : (m x : ℕ) → count ≤ x → v < count → variables x m ≡ map (λ v. through (ps ++ (p ∷ [])) (variable_e v)) (up_from x m)
        unfolding variables up_from
        fresh_kept zero x h l = refl
        fresh_kept (suc m) x h l =
            let a = through_whole (ps ++ (p ∷ [])) x (more_whole x h l) in
            let ih = fresh_kept m (suc x) (omega arith) l in
            cc

        more_all : (xs : List Expression) → map (replace v (made (known c) (variables count (length k.arguments)))) (map (through ps) xs)
            ≡ map (through (ps ++ (p ∷ []))) xs
        more_all xs =
            map-map (replace v (made (known c) (variables count (length k.arguments)))) (through ps) (through (ps ++ (p ∷ []))) xs
            (λ x. sym (through_more ps p x ∙ rw (pv, pc, pf, pn)))

        more_stack : (xs : List ℕ) → map (replace v (made (known c) (variables count (length k.arguments))))
            (map (λ v. through ps (variable_e v)) xs) ≡ map (λ v. through (ps ++ (p ∷ [])) (variable_e v)) xs
        more_stack xs =
            map-map (replace v (made (known c) (variables count (length k.arguments)))) (λ v. through ps (variable_e v))
            (λ v. through (ps ++ (p ∷ [])) (variable_e v)) xs
            (λ x. sym (through_more ps p (variable_e x) ∙ rw (pv, pc, pf, pn)))

        split_shape : v < count → split_variable (shape_of f ps count stack) (map (λ v. through ps (variable_e v)) rest) v c
            (length k.arguments)
            ≡ shape_of f (ps ++ (p ∷ [])) (count + length k.arguments) (rest ++ up_from count (length k.arguments))
        unfolding split_variable
        split_shape l =
            let a = more_all (variables 0 (arity f)) in
            let b = ap (λ (xs : List Expression). xs ++ variables count (length k.arguments)) (more_stack rest)
            ∙ ap (λ (xs : List Expression). map (λ v. through (ps ++ (p ∷ [])) (variable_e v)) rest ++ xs)
            (fresh_kept (length k.arguments) count (le_refl count) l)
            ∙ sym (map-append (λ v. through (ps ++ (p ∷ [])) (variable_e v)) rest (up_from count (length k.arguments))) in
            λ x. record { parameters = a x; count = count + length k.arguments; stack = b x; bound = f.bound }

        pub branch_whole : v < count → count + length k.arguments ≤ 16
            → shape_from s n f i (Branch c b) (shape_of f ps count stack)
            ≡ found ((
              suc i,
              shape_of f (ps ++ (p ∷ [])) (count + length k.arguments)
                  (rest ++ up_from count (length k.arguments)),
            ) ∷ (b, shape_of f ps count stack) ∷ [])
        unfolding shape_from branch_on
        branch_whole l h = rw (declared, split_whole, le-leb (count + length k.arguments) 16 h, split_shape l)
