-- One law for each outcome of a rule that passes: what it hands on.
use mathlib.Core.Path.{◌≡◌, refl}
use mathlib.Core.List.{List, [], ◌∷◌, ◌++◌}
use Rattle.std.specs.Prelude.{Some}
use mathlib.Core.Bool.{true}
use Prim.Native.Nat.{ℕ, suc, ◌+◌, ◌-◌, ◌≤◌}
use native.Mathlib.Omega.{arith}
use lib.ListN.{length, length-append}
use lib.Seq.{take-append_seam, drop-append_seam}
use borrow.Author.Tests.{le-leb, eq-eqb, ne_eqb}
use Rattle.rules.specs.declared.records.Instruction.{Instruction}
use Rattle.rules.specs.declared.records.Instruction.TheVariants.{Load, Build, Call, Branch, Return, Stop}
use Rattle.rules.specs.Base.{found, ◌>>=◌}
use Rattle.rules.specs.Program.{Constructor, Function, Program, constructor, function}
use Rattle.rules.specs.Tree.{Trees, node, to_list, made}
use Rattle.rules.specs.Stacks.{slot, split, push}
use Rattle.rules.specs.Types.{same, below, types_on, type_rule}
use Rattle.rules.specs.Expressions.{Symbol, variable, known, built, called, Expression}
use Rattle.rules.specs.Forms.{form_of}
use Rattle.rules.specs.Shapes.{Shape, with_stack, split_variable, covered_at, enter, branch_on, shape_from, shape_rule}

---- Stacks

pub split_append : {A : Type 0} (xs ys : List A) → split (length ys) (xs ++ ys) ≡ Some (xs, ys)
unfolding split
split_append xs ys =
    let l : length (xs ++ ys) - length ys ≡ length xs = omega (arith, length-append xs ys) in
    rw (le-leb (length ys) (length (xs ++ ys)) (omega (arith, length-append xs ys)), l, take-append_seam xs ys, drop-append_seam xs ys)

---- 8

same_refl : (xs : List ℕ) → same xs xs ≡ true
unfolding same
same_refl [] = refl
same_refl (x ∷ xs) = rw (eq-eqb x x refl, same_refl xs)

module _ (s : Program) (n : ℕ) (f : Function) where
  pub below_ends : (i : ℕ) (rest types : List ℕ) → below s n f i types (rest ++ types) ≡ found rest
  unfolding below
  below_ends i rest types = rw (split_append rest types, same_refl types)

  pub types_on_lem : (i : ℕ) (stack : List ℕ) → length stack ≤ 16 → types_on s n f i stack ≡ found ((suc i, stack) ∷ [])
  unfolding types_on
  types_on_lem i stack h = rw (le-leb (length stack) 16 h)

  pub load_typed : (i a : ℕ) (stack : List ℕ) {t : ℕ} → slot a stack ≡ Some t
      → type_rule s n f i (Load a) stack ≡ types_on s n f i (push stack t)
  unfolding type_rule
  load_typed i a stack e = rw e

  pub build_typed : (i c : ℕ) (stack : List ℕ) {k : Constructor} → constructor s c ≡ Some k
      → type_rule s n f i (Build c) stack ≡ (below s n f i k.arguments stack >>= (λ rest. types_on s n f i (push rest k.result)))
  unfolding type_rule
  build_typed i c stack e = rw e

  pub call_typed : (i g : ℕ) (stack : List ℕ) {k : Function} → function s g ≡ Some k
      → type_rule s n f i (Call g) stack ≡ (below s n f i k.parameters stack >>= (λ rest. types_on s n f i (push rest k.result)))
  unfolding type_rule
  call_typed i g stack e = rw e

  pub branch_typed : (i c b : ℕ) (stack : List ℕ) {k : Constructor} → constructor s c ≡ Some k
      → type_rule s n f i (Branch c b) stack
      ≡ (below s n f i (k.result ∷ []) stack
      >>= (λ rest. types_on s n f i (rest ++ k.arguments) >>= (λ on. found (on ++ ((b, stack) ∷ [])))))
  unfolding type_rule
  branch_typed i c b stack e = rw e

  pub return_typed : (i : ℕ) (stack : List ℕ)
      → type_rule s n f i Return stack ≡ (below s n f i (f.result ∷ []) stack >>= (λ rest. found []))
  unfolding type_rule
  return_typed i stack = refl

  pub stop_typed : (i : ℕ) (stack : List ℕ) → type_rule s n f i Stop stack ≡ found []
  unfolding type_rule
  stop_typed i stack = refl

---- 10 and 9

module _ (s : Program) (n : ℕ) (f : Function) where
  pub rule_covered : (i : ℕ) (ins : Instruction) (x : Shape) → covered_at s x ≡ true → shape_rule s n f i ins x ≡ shape_from s n f i ins x
  unfolding shape_rule
  rule_covered i ins x e = rw e

  pub load_shaped : (i a : ℕ) (x : Shape) {e : Expression} → slot a x.stack ≡ Some e
      → shape_from s n f i (Load a) x ≡ found ((suc i, with_stack x (push x.stack e)) ∷ [])
  unfolding shape_from
  load_shaped i a x h = rw h

  pub enter_fits : (i : ℕ) (x : Shape) (args : ℕ) (y : Symbol) {p : List Expression × List Expression} → split args x.stack ≡ Some p
      → length (form_of s (made y p.1)) ≤ 16
      → enter s n f i x args y ≡ found ((suc i, with_stack x (push p.0 (made y p.1))) ∷ [])
  unfolding enter
  enter_fits i x args y {p} e h = rw (e, le-leb (length (form_of s (made y p.1))) 16 h)

  pub build_shaped : (i c : ℕ) (x : Shape) {k : Constructor} → constructor s c ≡ Some k
      → shape_from s n f i (Build c) x ≡ enter s n f i x (length k.arguments) (built c)
  unfolding shape_from
  build_shaped i c x e = rw e

  pub call_shaped : (i g : ℕ) (x : Shape) {k : Function} → function s g ≡ Some k
      → shape_from s n f i (Call g) x ≡ enter s n f i x (length k.parameters) (called g)
  unfolding shape_from
  call_shaped i g x e = rw e

  pub branch_shaped : (i c b : ℕ) (x : Shape) {k : Constructor} {p : List Expression × List Expression} → constructor s c ≡ Some k
      → split 1 x.stack ≡ Some p
      → shape_from s n f i (Branch c b) x ≡ branch_on s n f i x p.0 c (length k.arguments) b p.1
  unfolding shape_from
  branch_shaped i c b x e h = rw (e, h)

  -- both sides
  pub variable_fits : (i : ℕ) (x : Shape) (rest : List Expression) (c args b v : ℕ) (ts : Trees Symbol) (more : List Expression)
      → x.count + args ≤ 16
      → branch_on s n f i x rest c args b (node (variable v) ts ∷ more) ≡ found ((suc i, split_variable x rest v c args) ∷ (b, x) ∷ [])
  unfolding branch_on
  variable_fits i x rest c args b v ts more h = rw (le-leb (x.count + args) 16 h)

  -- the side that can be taken
  pub known_same : (i : ℕ) (x : Shape) (rest : List Expression) (c args b d : ℕ) (ts : Trees Symbol) (more : List Expression) → d ≡ c
      → branch_on s n f i x rest c args b (node (known d) ts ∷ more) ≡ found ((suc i, with_stack x (rest ++ to_list ts)) ∷ [])
  unfolding branch_on
  known_same i x rest c args b d ts more e = rw (eq-eqb d c e)

  pub known_other : (i : ℕ) (x : Shape) (rest : List Expression) (c args b d : ℕ) (ts : Trees Symbol) (more : List Expression) → (d ≡ c → ⊥)
      → branch_on s n f i x rest c args b (node (known d) ts ∷ more) ≡ found ((b, x) ∷ [])
  unfolding branch_on
  known_other i x rest c args b d ts more e = rw (ne_eqb d c e)

  pub return_shaped : (i : ℕ) (x : Shape) → shape_from s n f i Return x ≡ found []
  unfolding shape_from
  return_shaped i x = refl

  pub stop_shaped : (i : ℕ) (x : Shape) → shape_from s n f i Stop x ≡ found []
  unfolding shape_from
  stop_shaped i x = refl
