-- What each rule that passes says: of its premises, and of the arrows that leave.
use Rattle.std.specs.Prelude.{if◌then◌else◌, Some, Option}
use mathlib.Core.Path.{◌≡◌, refl, sym, ap, ◌∙◌}
use mathlib.Core.List.{List, [], ◌∷◌, ◌++◌, map}
use mathlib.Core.Bool.{Bool, true, false, not, ◌&&◌, ◌||◌}
use Prim.Native.Nat.{ℕ, suc, ◌+◌, ◌≤◌, ◌<◌}
use native.Mathlib.Omega.{arith}
use native.Mathlib.Nat.{le_refl, le_trans}
use lib.ListN.{length}
use lib.Dec.{leb, eqb}
use borrow.Author.Tests.{leb-true, ltb-true, eqb-true, not-true}
use Rattle.rules.specs.declared.records.Instruction.{Instruction}
use Rattle.rules.specs.declared.records.Instruction.TheVariants.{Load, Build, Call, Branch, Return, Stop}
use Rattle.rules.specs.Base.{found, within, passed}
use Rattle.rules.specs.Program.{Constructor, Function, Program, constructor, function}
use Rattle.rules.specs.Tree.{Trees, node, to_list, made}
use Rattle.rules.specs.Stacks.{slot, split, push}
use Rattle.rules.specs.Walk.{targets, hits, arrivals, Arrow, arriving}
use Rattle.rules.specs.Flow.{passing, leaves_right, arrives_right, flow_rule}
use Rattle.rules.specs.Types.{same, below, types_on, type_rule}
use Rattle.rules.specs.Expressions.{Symbol, variable, known, built, called, Expression}
use Rattle.rules.specs.Forms.{form_of}
use Rattle.rules.specs.Shapes.{Shape, with_stack, enter, split_variable, branch_on, covered_at, shape_from, shape_rule}
use Rattle.rules.specs.Lists.{All, l[], ◌l∷◌}
use Rattle.rules.proofs.ListLaws.{all_append, and_left, and_right}
use Rattle.rules.proofs.TriedLaws.{bind_found, found_inj, refused_found, after_some, after_required, same_true, required}
use Rattle.rules.proofs.WalkLaws.{count}
use Rattle.rules.specs.Records.{or_else}

pair_path : {A B : Type 0} {x x' : A} {y y' : B} → x ≡ x' → y ≡ y' → ◌≡◌ {A = A × B} (x, y) (x', y')
pair_path e e' = rw (e, e')

---- Types

module _ (s : Program) (n : ℕ) (f : Function) where
  next_found : (i : ℕ) (stack : List ℕ) {M : List (Arrow (List ℕ))} → types_on s n f i stack ≡ found M → M ≡ (suc i, stack) ∷ []
  unfolding types_on
  next_found i stack e = sym (found_inj (after_required (leb (length stack) 16) _ _ e).1)

  below_found : (i : ℕ) (types stack : List ℕ) {rest : List ℕ} → below s n f i types stack ≡ found rest
      → split (length types) stack ≡ Some (rest, types)
  unfolding below
  below_found i types stack e =
      let a = after_some (split (length types) stack) _ _ e in
      let b = after_required (same a.0.1 types) _ _ a.2 in
      let p : a.0.1 ≡ types = same_true _ _ b.0 in
      let q = found_inj b.1 in
      a.1 ∙ ap Some (pair_path q p)

  pub type_load : (i a : ℕ) (ts : List ℕ) {M : List (Arrow (List ℕ))} → type_rule s n f i (Load a) ts ≡ found M → (t : ℕ)
      × (slot a ts ≡ Some t) × (M ≡ (suc i, push ts t) ∷ [])
  unfolding type_rule
  type_load i a ts e =
      let b = after_some (slot a ts) _ _ e in
      (b.0, b.1, next_found i (push ts b.0) b.2)

  pub type_build : (i c : ℕ) (ts : List ℕ) {M : List (Arrow (List ℕ))} → type_rule s n f i (Build c) ts ≡ found M
      → (k : Constructor) × (constructor s c ≡ Some k) × (rest : List ℕ) × (split (length k.arguments) ts ≡ Some (rest, k.arguments))
      × (M ≡ (suc i, push rest k.result) ∷ [])
  unfolding type_rule
  type_build i c ts e =
      let b = after_some (constructor s c) _ _ e in
      let r = bind_found (below s n f i b.0.arguments ts) _ b.2 in
      (b.0, b.1, r.0, below_found i b.0.arguments ts r.1, next_found i (push r.0 b.0.result) r.2)

  pub type_call : (i g : ℕ) (ts : List ℕ) {M : List (Arrow (List ℕ))} → type_rule s n f i (Call g) ts ≡ found M
      → (k : Function) × (function s g ≡ Some k) × (rest : List ℕ) × (split (length k.parameters) ts ≡ Some (rest, k.parameters))
      × (M ≡ (suc i, push rest k.result) ∷ [])
  unfolding type_rule
  type_call i g ts e =
      let b = after_some (function s g) _ _ e in
      let r = bind_found (below s n f i b.0.parameters ts) _ b.2 in
      (b.0, b.1, r.0, below_found i b.0.parameters ts r.1, next_found i (push r.0 b.0.result) r.2)

  pub type_branch : (i c b : ℕ) (ts : List ℕ) {M : List (Arrow (List ℕ))} → type_rule s n f i (Branch c b) ts ≡ found M
      → (k : Constructor) × (constructor s c ≡ Some k) × (rest : List ℕ) × (split 1 ts ≡ Some (rest, k.result ∷ []))
      × (M ≡ (suc i, rest ++ k.arguments) ∷ (b, ts) ∷ [])
  unfolding type_rule
  type_branch i c b ts e =
      let k = after_some (constructor s c) _ _ e in
      let r = bind_found (below s n f i (k.0.result ∷ []) ts) _ k.2 in
      let on = bind_found (types_on s n f i (r.0 ++ k.0.arguments)) _ r.2 in (
        k.0,
        k.1,
        r.0,
        below_found i (k.0.result ∷ []) ts r.1,
        sym (found_inj on.2) ∙ ap (λ (l : List (Arrow (List ℕ))). l
            ++ ((b, ts) ∷ [])) (next_found i (r.0 ++ k.0.arguments) on.1),
      )

  pub type_return : (i : ℕ) (ts : List ℕ) {M : List (Arrow (List ℕ))} → type_rule s n f i Return ts ≡ found M → (rest : List ℕ)
      × (split 1 ts ≡ Some (rest, f.result ∷ [])) × (M ≡ [])
  unfolding type_rule
  type_return i ts e =
      let r = bind_found (below s n f i (f.result ∷ []) ts) _ e in
      (r.0, below_found i (f.result ∷ []) ts r.1, sym (found_inj r.2))

  pub type_stop : (i : ℕ) (ts : List ℕ) {M : List (Arrow (List ℕ))} → type_rule s n f i Stop ts ≡ found M → M ≡ []
  unfolding type_rule
  type_stop i ts e = sym (found_inj e)

-- the height stays at most 16
abbrev pub Low : List ℕ → Type 0
Low ts = length ts ≤ 16

module _ (s : Program) (n : ℕ) (f : Function) where
  next_low : (i : ℕ) (stack : List ℕ) {M : List (Arrow (List ℕ))} → types_on s n f i stack ≡ found M → All (λ a. Low a.1) M
  unfolding types_on
  next_low i stack e =
      let r = after_required (leb (length stack) 16) _ _ e in
      rw (← found_inj r.1) (leb-true _ _ r.0 l∷ l[])

  pub type_low : (i : ℕ) (ins : Instruction) (ts : List ℕ) (M : List (Arrow (List ℕ))) → type_rule s n f i ins ts ≡ found M → Low ts
      → All (λ a. Low a.1) M
  unfolding type_rule
  type_low i (Load a) ts M e h = next_low i _ (after_some (slot a ts) _ _ e).2
  type_low i (Build c) ts M e h =
      let k = after_some (constructor s c) _ _ e in
      next_low i _ (bind_found (below s n f i k.0.arguments ts) _ k.2).2
  type_low i (Call g) ts M e h =
      let k = after_some (function s g) _ _ e in
      next_low i _ (bind_found (below s n f i k.0.parameters ts) _ k.2).2
  type_low i (Branch c b) ts M e h =
      let k = after_some (constructor s c) _ _ e in
      let r = bind_found (below s n f i (k.0.result ∷ []) ts) _ k.2 in
      let on = bind_found (types_on s n f i (r.0 ++ k.0.arguments)) _ r.2 in
      rw (← found_inj on.2) (all_append (next_low i _ on.1) (◌l∷◌ {x = (b, ts)} h l[]))
  type_low i Return ts M e h = rw (← found_inj (bind_found (below s n f i (f.result ∷ []) ts) _ e).2) l[]
  type_low i Stop ts M e h = rw (← found_inj e) l[]

---- Shapes

module _ (s : Program) (n : ℕ) (f : Function) where
  pub shape_covered : (i : ℕ) (ins : Instruction) (sh : Shape) {M : List (Arrow Shape)} → shape_rule s n f i ins sh ≡ found M
      → (covered_at s sh ≡ true) × (shape_from s n f i ins sh ≡ found M)
  unfolding shape_rule
  shape_covered i ins sh e = after_required (covered_at s sh) _ _ e

  pub shape_load : (i a : ℕ) (sh : Shape) {M : List (Arrow Shape)} → shape_from s n f i (Load a) sh ≡ found M → (e : Expression)
      × (slot a sh.stack ≡ Some e) × (M ≡ (suc i, with_stack sh (push sh.stack e)) ∷ [])
  unfolding shape_from
  shape_load i a sh e =
      let b = after_some (slot a sh.stack) _ _ e in
      (b.0, b.1, sym (found_inj b.2))

  enter_found : (i : ℕ) (sh : Shape) (args : ℕ) (y : Symbol) {M : List (Arrow Shape)} → enter s n f i sh args y ≡ found M
      → (p : List Expression × List Expression) × (split args sh.stack ≡ Some p)
      × (M ≡ (suc i, with_stack sh (push p.0 (made y p.1))) ∷ []) × (length (form_of s (made y p.1)) ≤ 16)
  unfolding enter
  enter_found i sh args y e =
      let a = after_some (split args sh.stack) _ _ e in
      let b = after_required (leb (length (form_of s (made y a.0.1))) 16) _ _ a.2 in
      (a.0, a.1, sym (found_inj b.1), leb-true _ _ b.0)

  pub shape_build : (i c : ℕ) (sh : Shape) {M : List (Arrow Shape)} → shape_from s n f i (Build c) sh ≡ found M
      → (k : Constructor) × (constructor s c ≡ Some k) × (p : List Expression × List Expression)
      × (split (length k.arguments) sh.stack ≡ Some p)
      × (M ≡ (suc i, with_stack sh (push p.0 (made (built c) p.1))) ∷ []) × (length (form_of s (made (built c) p.1)) ≤ 16)
  unfolding shape_from
  shape_build i c sh e =
      let b = after_some (constructor s c) _ _ e in
      let r = enter_found i sh (length b.0.arguments) (built c) b.2 in
      (b.0, b.1, r.0, r.1, r.2, r.3)

  pub shape_call : (i g : ℕ) (sh : Shape) {M : List (Arrow Shape)} → shape_from s n f i (Call g) sh ≡ found M
      → (k : Function) × (function s g ≡ Some k) × (p : List Expression × List Expression)
      × (split (length k.parameters) sh.stack ≡ Some p)
      × (M ≡ (suc i, with_stack sh (push p.0 (made (called g) p.1))) ∷ []) × (length (form_of s (made (called g) p.1)) ≤ 16)
  unfolding shape_from
  shape_call i g sh e =
      let b = after_some (function s g) _ _ e in
      let r = enter_found i sh (length b.0.parameters) (called g) b.2 in
      (b.0, b.1, r.0, r.1, r.2, r.3)

  pub shape_branch : (i c b : ℕ) (sh : Shape) {M : List (Arrow Shape)} → shape_from s n f i (Branch c b) sh ≡ found M
      → (k : Constructor) × (constructor s c ≡ Some k) × (p : List Expression × List Expression) × (split 1 sh.stack ≡ Some p)
      × (branch_on s n f i sh p.0 c (length k.arguments) b p.1 ≡ found M)
  unfolding shape_from
  shape_branch i c b sh e =
      let k = after_some (constructor s c) _ _ e in
      let p = after_some (split 1 sh.stack) _ _ k.2 in
      (k.0, k.1, p.0, p.1, p.2)

  -- both sides of a branch on a variable
  pub branch_variable : (i : ℕ) (sh : Shape) (rest : List Expression) (c args b k : ℕ) (ts : Trees Symbol) (more : List Expression)
      {M : List (Arrow Shape)} → branch_on s n f i sh rest c args b (node (variable k) ts ∷ more) ≡ found M
      → (sh.count + args ≤ 16) × (M ≡ (suc i, split_variable sh rest k c args) ∷ (b, sh) ∷ [])
  unfolding branch_on
  branch_variable i sh rest c args b k ts more e =
      let r = after_required (leb (sh.count + args) 16) _ _ e in
      (leb-true _ _ r.0, sym (found_inj r.1))

  pub branch_known : (i : ℕ) (sh : Shape) (rest : List Expression) (c args b d : ℕ) (ts : Trees Symbol) (more : List Expression)
      {M : List (Arrow Shape)} → branch_on s n f i sh rest c args b (node (known d) ts ∷ more) ≡ found M
      → M ≡ (if eqb d c then (suc i, with_stack sh (rest ++ to_list ts)) else (b, sh)) ∷ []
  unfolding branch_on
  branch_known i sh rest c args b d ts more e = sym (found_inj e)

  pub branch_built : (i : ℕ) (sh : Shape) (rest : List Expression) (c args b d : ℕ) (ts : Trees Symbol) (more : List Expression)
      {M : List (Arrow Shape)} → branch_on s n f i sh rest c args b (node (built d) ts ∷ more) ≡ found M → ⊥
  unfolding branch_on
  branch_built i sh rest c args b d ts more e = refused_found e

  pub branch_called : (i : ℕ) (sh : Shape) (rest : List Expression) (c args b g : ℕ) (ts : Trees Symbol) (more : List Expression)
      {M : List (Arrow Shape)} → branch_on s n f i sh rest c args b (node (called g) ts ∷ more) ≡ found M → ⊥
  unfolding branch_on
  branch_called i sh rest c args b g ts more e = refused_found e

  pub branch_none : (i : ℕ) (sh : Shape) (rest : List Expression) (c args b : ℕ) {M : List (Arrow Shape)}
      → branch_on s n f i sh rest c args b [] ≡ found M → ⊥
  unfolding branch_on
  branch_none i sh rest c args b e = refused_found e

---- Where the arrows lead

-- some of these, in order
data Among {S : Type 0} : List (Arrow S) → List ℕ → Type 0 where
  s[] : Among [] []
  skip : {t : ℕ} {L : List (Arrow S)} {ts : List ℕ} → Among L ts → Among L (t ∷ ts)
  keep : {t : ℕ} {x : S} {L : List (Arrow S)} {ts : List ℕ} → Among L ts → Among ((t, x) ∷ L) (t ∷ ts)

among_count : {S : Type 0} (j : ℕ) {L : List (Arrow S)} {ts : List ℕ} → Among L ts → count j L ≤ hits j ts
unfolding arriving
among_count j s[] = le_refl 0
among_count j (skip {t} {ts} a) = le_trans (among_count j a) (omega arith)
among_count j (keep {t} {x} {L} {ts} a) = go (eqb t j) (among_count j a)
  where
    go : (b : Bool) → count j L ≤ hits j ts → length (if b then x ∷ arriving j L else arriving j L) ≤ (if b then 1 else 0) + hits j ts
    go true h = omega arith
    go false h = omega arith

---- Flow

-- the two parts of a rule that passes
pub flow_found : (code : List Instruction) (n i : ℕ) (ins : Instruction) (past : Option Bool) → flow_rule code n i ins past ≡ passed
    → (2 ≤ i → arrivals code i ≡ 1) × (leaves_right (length code) i ins (or_else past false) ≡ true)
unfolding flow_rule arrives_right
flow_found code n i ins past e =
    let r = required (arrives_right code i && leaves_right (length code) i ins (or_else past false)) _ e in (
      λ h. one (eqb i 1) refl h (and_left (arrives_right code i) (leaves_right (length code) i ins (or_else past false)) r),
      and_right (arrives_right code i) (leaves_right (length code) i ins (or_else past false)) r,
    )
  where
    one : (t : Bool) → eqb i 1 ≡ t → 2 ≤ i → (t || eqb (arrivals code i) 1) ≡ true → arrivals code i ≡ 1
    one true q h w = absurd (omega (arith, eqb-true i 1 q))
    one false q h w = eqb-true (arrivals code i) 1 w

-- a branch's target is right, and nothing made has been passed
pub branch_leaves : (last i c b : ℕ) (past : Bool) → leaves_right last i (Branch c b) past ≡ true → (i + 2 ≤ b) × (b ≤ last)
    × (past ≡ false)
unfolding leaves_right
branch_leaves last i c b past e =
    let w = and_left (within (i + 2) last b) (not past) e in (
      leb-true _ _ (and_left (leb (i + 2) b) (leb b last) w),
      leb-true _ _ (and_right (leb (i + 2) b) (leb b last) w),
      not-true past (and_right (within (i + 2) last b) (not past) e),
    )

-- an instruction that leaves rightly leads ahead
pub leaves_ahead : (last i : ℕ) (ins : Instruction) (past : Bool) → leaves_right last i ins past ≡ true
    → All (λ j. (i < j) × (j ≤ last)) (targets i ins)
unfolding leaves_right
leaves_ahead last i (Load a) past e = ◌l∷◌ {x = suc i} (omega arith, ltb-true i last e) l[]
leaves_ahead last i (Build c) past e = ◌l∷◌ {x = suc i} (omega arith, ltb-true i last e) l[]
leaves_ahead last i (Call g) past e = ◌l∷◌ {x = suc i} (omega arith, ltb-true i last e) l[]
leaves_ahead last i (Branch c b) past e =
    let w = branch_leaves last i c b past e in
    ◌l∷◌ {x = suc i} (omega arith, omega (arith, w.0, w.1)) (◌l∷◌ {x = b} (omega (arith, w.0), w.1) l[])
leaves_ahead last i Return past e = l[]
leaves_ahead last i Stop past e = l[]

pub passing_found : (i : ℕ) (ins : Instruction) (past : Bool) → (L : List (Arrow Bool)) × (passing i ins past ≡ found L)
unfolding passing
passing_found i (Load a) past = ((suc i, past) ∷ [], refl)
passing_found i (Build c) past = ((suc i, true) ∷ [], refl)
passing_found i (Call g) past = ((suc i, true) ∷ [], refl)
passing_found i (Branch c b) past = ((suc i, past) ∷ (b, past) ∷ [], refl)
passing_found i Return past = ([], refl)
passing_found i Stop past = ([], refl)

passing_targets : (i : ℕ) (ins : Instruction) (past : Bool) (L : List (Arrow Bool)) → passing i ins past ≡ found L
    → map (λ (a : Arrow Bool). a.0) L ≡ targets i ins
unfolding passing
passing_targets i (Load a) past L e = rw (← found_inj e)
passing_targets i (Build c) past L e = rw (← found_inj e)
passing_targets i (Call g) past L e = rw (← found_inj e)
passing_targets i (Branch c b) past L e = rw (← found_inj e)
passing_targets i Return past L e = rw (← found_inj e)
passing_targets i Stop past L e = rw (← found_inj e)

count_hits : {R : Type 0} (j : ℕ) (M : List (Arrow R)) → count j M ≡ hits j (map (λ (a : Arrow R). a.0) M)
unfolding arriving
count_hits j [] = refl
count_hits {R} j (a ∷ M) = one (eqb a.0 j) (count_hits j M)
  where
    one : (t : Bool) → count j M ≡ hits j (map (λ (b : Arrow R). b.0) M)
        → length (if t then a.1 ∷ arriving j M else arriving j M) ≡ (if t then 1 else 0) + hits j (map (λ (b : Arrow R). b.0) M)
    one true h = omega arith
    one false h = omega arith

pub passing_all : (i : ℕ) (ins : Instruction) (past : Bool) (L : List (Arrow Bool)) → passing i ins past ≡ found L → (j : ℕ)
    → count j L ≡ hits j (targets i ins)
passing_all i ins past L e j = count_hits j L ∙ ap (hits j) (passing_targets i ins past L e)

---- Types and shapes

module _ (s : Program) (n : ℕ) (f : Function) where
  type_targets : (i : ℕ) (ins : Instruction) (ts : List ℕ) (M : List (Arrow (List ℕ))) → type_rule s n f i ins ts ≡ found M
      → map (λ (a : Arrow (List ℕ)). a.0) M ≡ targets i ins
  type_targets i (Load a) ts M e = rw (type_load s n f i a ts e).2
  type_targets i (Build c) ts M e = rw (type_build s n f i c ts e).4
  type_targets i (Call g) ts M e = rw (type_call s n f i g ts e).4
  type_targets i (Branch c b) ts M e = rw (type_branch s n f i c b ts e).4
  type_targets i Return ts M e = rw (type_return s n f i ts e).2
  type_targets i Stop ts M e = rw (type_stop s n f i ts e)

  -- types are handed on to every target
  pub type_all : (i : ℕ) (ins : Instruction) (ts : List ℕ) (M : List (Arrow (List ℕ))) → type_rule s n f i ins ts ≡ found M → (j : ℕ)
      → count j M ≡ hits j (targets i ins)
  type_all i ins ts M e j = count_hits j M ∙ ap (hits j) (type_targets i ins ts M e)

module _ (s : Program) (n : ℕ) (f : Function) where
  branch_among : (i : ℕ) (sh : Shape) (rest : List Expression) (c args b : ℕ) (es : List Expression) (M : List (Arrow Shape))
      → branch_on s n f i sh rest c args b es ≡ found M → Among M (suc i ∷ b ∷ [])
  branch_among i sh rest c args b [] M e = absurd (branch_none s n f i sh rest c args b e)
  branch_among i sh rest c args b (node (variable k) ts ∷ more) M e =
      rw (branch_variable s n f i sh rest c args b k ts more e).1 (keep (keep s[]))
  branch_among i sh rest c args b (node (known d) ts ∷ more) M e = rw (branch_known s n f i sh rest c args b d ts more e) (one (eqb d c))
    where
      one : (t : Bool) → Among ((if t then (suc i, with_stack sh (rest ++ to_list ts)) else (b, sh)) ∷ []) (suc i ∷ b ∷ [])
      one true = keep (skip s[])
      one false = skip (keep s[])
  branch_among i sh rest c args b (node (built d) ts ∷ more) M e = absurd (branch_built s n f i sh rest c args b d ts more e)
  branch_among i sh rest c args b (node (called g) ts ∷ more) M e = absurd (branch_called s n f i sh rest c args b g ts more e)

  from_among : (i : ℕ) (ins : Instruction) (sh : Shape) (M : List (Arrow Shape)) → shape_from s n f i ins sh ≡ found M
      → Among M (targets i ins)
  unfolding shape_from
  from_among i (Load a) sh M e = rw (shape_load s n f i a sh e).2 (keep s[])
  from_among i (Build c) sh M e = rw (shape_build s n f i c sh e).4 (keep s[])
  from_among i (Call g) sh M e = rw (shape_call s n f i g sh e).4 (keep s[])
  from_among i (Branch c b) sh M e =
      let r = shape_branch s n f i c b sh e in
      branch_among i sh r.2.0 c (length r.0.arguments) b r.2.1 M r.4
  from_among i Return sh M e = rw (← found_inj e) s[]
  from_among i Stop sh M e = rw (← found_inj e) s[]

  -- shapes to some of them
  pub shape_among : (i : ℕ) (ins : Instruction) (sh : Shape) (M : List (Arrow Shape)) → shape_rule s n f i ins sh ≡ found M → (j : ℕ)
      → count j M ≤ hits j (targets i ins)
  shape_among i ins sh M e j = among_count j (from_among i ins sh M (shape_covered s n f i ins sh e).1)

  -- and the bound of the root goes with them
  branch_bound : (i : ℕ) (sh : Shape) (rest : List Expression) (c args b : ℕ) (es : List Expression) (M : List (Arrow Shape))
      → branch_on s n f i sh rest c args b es ≡ found M → All (λ (a : Arrow Shape). a.1.bound ≡ sh.bound) M
  unfolding split_variable
  branch_bound i sh rest c args b [] M e = absurd (branch_none s n f i sh rest c args b e)
  branch_bound i sh rest c args b (node (variable k) ts ∷ more) M e =
      rw (branch_variable s n f i sh rest c args b k ts more e).1 (refl l∷ refl l∷ l[])
  branch_bound i sh rest c args b (node (known d) ts ∷ more) M e = rw (branch_known s n f i sh rest c args b d ts more e) (one (eqb d c))
    where
      one : (t : Bool) → All (λ (a : Arrow Shape). a.1.bound
          ≡ sh.bound) ((if t then (suc i, with_stack sh (rest ++ to_list ts)) else (b, sh)) ∷ [])
      one true = refl l∷ l[]
      one false = refl l∷ l[]
  branch_bound i sh rest c args b (node (built d) ts ∷ more) M e = absurd (branch_built s n f i sh rest c args b d ts more e)
  branch_bound i sh rest c args b (node (called g) ts ∷ more) M e = absurd (branch_called s n f i sh rest c args b g ts more e)

  from_bound : (i : ℕ) (ins : Instruction) (sh : Shape) (M : List (Arrow Shape)) → shape_from s n f i ins sh ≡ found M
      → All (λ (a : Arrow Shape). a.1.bound ≡ sh.bound) M
  unfolding shape_from
  from_bound i (Load a) sh M e = rw (shape_load s n f i a sh e).2 (refl l∷ l[])
  from_bound i (Build c) sh M e = rw (shape_build s n f i c sh e).4 (refl l∷ l[])
  from_bound i (Call g) sh M e = rw (shape_call s n f i g sh e).4 (refl l∷ l[])
  from_bound i (Branch c b) sh M e =
      let r = shape_branch s n f i c b sh e in
      branch_bound i sh r.2.0 c (length r.0.arguments) b r.2.1 M r.4
  from_bound i Return sh M e = rw (← found_inj e) l[]
  from_bound i Stop sh M e = rw (← found_inj e) l[]

  pub shape_bound : (i : ℕ) (ins : Instruction) (sh : Shape) (M : List (Arrow Shape)) → shape_rule s n f i ins sh ≡ found M
      → All (λ (a : Arrow Shape). a.1.bound ≡ sh.bound) M
  shape_bound i ins sh M e = from_bound i ins sh M (shape_covered s n f i ins sh e).1
