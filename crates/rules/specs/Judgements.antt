-- 001's rules as it prints them: relations on whole tables, beside the walks that compute the tables.
-- `check_exact` of proofs/CheckExact.antt shows that the check accepts just where these relations and document 01's limits hold.
use Rattle.std.specs.Prelude.{◌≡◌, List, ◌++◌, map, ℕ, suc, ◌+◌, ◌≤◌, ◌<◌, length, get_or, Option, Some}
use Rattle.rules.specs.declared.records.Alternative.{Alternative}
use Rattle.rules.specs.declared.records.Instruction.{Instruction}
use Rattle.rules.specs.declared.records.Instruction.TheVariants.{Load, Build, Call, Branch, Return, Stop}
use Rattle.rules.specs.Lists.{All, Any}
use Rattle.rules.specs.Program.{Constructor, Function, Program, constructor, function}
use Rattle.rules.specs.Tree.{node, to_list, made}
use Rattle.rules.specs.Stacks.{slot, push}
use Rattle.rules.specs.Expressions.{Symbol, variable, known, built, called, Expression}
use Rattle.rules.specs.Forms.{form_of, into_bound}
use Rattle.rules.specs.Shapes.{Shape, with_stack, split_variable, start_shape}

---- Table 2, "Well-Typed Instructions", over a sequence T of type stacks, of which places 1 to L count

module _ (s : Program) (f : Function) (T : ℕ → List ℕ) where
  abbrev last : ℕ
  last = length f.code

  -- load k: i < |T|, T_i[k] = t and T_{i+1} = T_i · t
  -- build c n, call g n: let (t_1, .., t_n) → t_0 in T_i = T · t_1 .. t_n and T_{i+1} = T · t_0
  -- branch c j: T_i = T · t_0, T_{i+1} = T · t_1 .. t_n and T_j = T_i
  -- return n: T_i = T · t_0. stop: true
  abbrev pub wt : ℕ → Instruction → Type 0
  wt i (Load k) = (i < last) × (t : ℕ) × (slot k (T i) ≡ Some t) × (T (suc i) ≡ push (T i) t)
  wt i (Build c) =
      (i < last) × (k : Constructor) × (constructor s c ≡ Some k) × (rest : List ℕ) × (T i ≡ rest ++ k.arguments)
      × (T (suc i) ≡ push rest k.result)
  wt i (Call g) =
      (i < last) × (k : Function) × (function s g ≡ Some k) × (rest : List ℕ) × (T i ≡ rest ++ k.parameters)
      × (T (suc i) ≡ push rest k.result)
  wt i (Branch c j) =
      (i < last) × (k : Constructor) × (constructor s c ≡ Some k) × (rest : List ℕ) × (T i ≡ push rest k.result)
      × (T (suc i) ≡ rest ++ k.arguments) × (T j ≡ T i)
  wt i Return = (rest : List ℕ) × (T i ≡ push rest f.result)
  wt i Stop = Unit {0}

  -- Table 2 at every instruction before m, with document 01's limit on the height
  pub record TypedBefore (m : ℕ) : Type 0 where
    pub start : T 1 ≡ f.parameters
    pub instructions : (i : ℕ) (ins : Instruction) → i < m → slot i f.code ≡ Some ins → wt i ins
    pub low : (i : ℕ) → length (T i) ≤ 16

  -- Definition 1
  abbrev pub WellTyped : Type 0
  WellTyped = TypedBefore (suc last)

---- "every alternative of every stack entry must be matched by one alternative of the function's own bound at its parameters' current
---- shapes: no coefficient and no constant exceeds it"

abbrev pub NoMore : Alternative → Alternative → Type 0
NoMore a b = (a.constant ≤ b.constant) × ((k : ℕ) → get_or a.coefficients k 0 ≤ get_or b.coefficients k 0)

abbrev pub Covered : Program → Shape → Type 0
Covered s x = All (λ e. All (λ a. Any (NoMore a) (into_bound x.bound (map (form_of s) x.parameters))) (form_of s e)) x.stack

---- Table 3, "Shape Constraints", over σ and E at each visited instruction

module _ (s : Program) (n : ℕ) (f : Function) (S : ℕ → Option Shape) where
  -- a new entry over these expressions, whose form has at most 16 alternatives
  abbrev pub made_next : ℕ → Shape → List Expression → List Expression → Symbol → Type 0
  made_next i x rest es symbol =
      (x.stack ≡ rest ++ es) × (length (form_of s (made symbol es)) ≤ 16) × (S (suc i) ≡ Some (with_stack x (push rest (made symbol es))))

  -- branch c j on p, with n arguments: if p is a variable x then let σ' = [c(..)/x] in σ_j = σ_i, E_j = E_i, σ_{i+1} = σ' ∘ σ_i and E_{i+1}
  -- = σ'(E) · .., with at most 16 variables; else if p = c(e_1, .., e_n) the next instruction; else if p = d(..) with d ≠ c instruction j
  abbrev pub branch_on_lem : ℕ → Shape → List Expression → ℕ → ℕ → ℕ → Expression → Type 0
  branch_on_lem i x rest c args j (node (variable v) ts) =
      (x.count + args ≤ 16) × (S (suc i) ≡ Some (split_variable x rest v c args)) × (S j ≡ Some x)
  branch_on_lem i x rest c args j (node (known d) ts) =
      (d ≡ c → S (suc i) ≡ Some (with_stack x (rest ++ to_list ts))) × ((d ≡ c → ⊥) → S j ≡ Some x)
  branch_on_lem i x rest c args j (node (built d) ts) = ⊥
  branch_on_lem i x rest c args j (node (called g) ts) = ⊥

  abbrev pub wsh : ℕ → Instruction → Shape → Type 0
  wsh i (Load k) x = (e : Expression) × (slot k x.stack ≡ Some e) × (S (suc i) ≡ Some (with_stack x (push x.stack e)))
  wsh i (Build c) x =
      (k : Constructor) × (constructor s c ≡ Some k) × (rest es : List Expression) × (length es ≡ length k.arguments)
      × made_next i x rest es (built c)
  wsh i (Call g) x =
      (k : Function) × (function s g ≡ Some k) × (rest es : List Expression) × (length es ≡ length k.parameters)
      × made_next i x rest es (called g)
  wsh i (Branch c j) x =
      (k : Constructor) × (constructor s c ≡ Some k) × (rest : List Expression) × (p : Expression) × (x.stack ≡ push rest p)
      × branch_on_lem i x rest c (length k.arguments) j p
  wsh i Return x = Unit {0}
  wsh i Stop x = Unit {0}

  -- Definition 2 at every visited instruction before m, and Definition 3 with document 01's cover test: the own bound at the parameters'
  -- shapes covers every entry
  pub record SizedBefore (m : ℕ) : Type 0 where
    pub start : S 1 ≡ Some (start_shape f)
    pub instructions : (i : ℕ) (ins : Instruction) → i < m → slot i f.code ≡ Some ins → (x : Shape) → S i ≡ Some x → wsh i ins x
    pub covered : (i : ℕ) (ins : Instruction) → i < m → slot i f.code ≡ Some ins → (x : Shape) → S i ≡ Some x → Covered s x

  abbrev pub WellSized : Type 0
  WellSized = SizedBefore (suc (length f.code))
