-- The function's own bound at its parameters' shapes, and that every variable of a path is covered by it.
use mathlib.Core.Path.{◌≡◌, refl, sym, ap, ◌∙◌}
use mathlib.Core.List.{List, [], ◌∷◌, ◌++◌, map, map-map}
use mathlib.Core.Bool.{Bool, true, false}
use Prim.Native.Nat.{ℕ, zero, suc, ◌+◌, ◌≤◌, ◌<◌}
use native.Mathlib.Omega.{arith}
use native.Mathlib.Nat.{add-zero, zero-add}
use lib.ListN.{length, get_or, set, take, drop, replicate, length-set, get_or-eq_default}
use lib.Seq.{take-nil, get_or-set_same, get_or-set_other}
use lib.Dec.{eqb, ltb}
use borrow.Author.Count.{below_more}
use borrow.Author.Tests.{ne_eqb, ltb-true, ltb-false}
use Rattle.rules.specs.declared.records.Alternative.{Alternative}
use Rattle.rules.specs.Base.{all, is_zero}
use Rattle.rules.specs.Expressions.{Expression, variables}
use Rattle.rules.specs.Forms.{Form, added, constant_only, variable_only, flat_map, substituted, into_bound, form_of, forms_of, covers}
use Rattle.rules.specs.Shapes.{covered_at}
use Rattle.rules.specs.Program.{Function, Program, arity}
use Rattle.sizing.specs.declared.splits.Split.{Split}
use Rattle.sizing.specs.Put.{coefficient, put, Wide, AllWide, widened}
use Rattle.sizing.specs.Splits.{variable_e, through, split_a, carried, SplitsRight, shape_of}
use Rattle.sizing.proofs.PutLaws.{alternative_ext, zero_at, added_wide, added_at, added_constant, put_wide, constant_wide}
use Rattle.sizing.proofs.PutLaws.{constant_at, variable_wide, variable_same, variable_other, variable_constant}
use Rattle.rules.specs.Lists.{All, ◌l∷◌}
use Rattle.rules.proofs.ListLaws.{false_true, and_left, all_mapped, all_any}
use Rattle.rules.proofs.FormLaws.{all_flat_map}
use Rattle.rules.proofs.Measures.{substituted_wide, form_wide}
use Rattle.sizing.proofs.ListLaws.{and_both}
use Rattle.sizing.proofs.FormLaws.{put_bound}
use Rattle.sizing.proofs.SplitLaws.{split_wide, form_through}
use Rattle.sizing.specs.Right.{Path, own_at, AllUnder}

each_wide_put : (k : ℕ) (m : Alternative) → Wide m → {forms : List Form} → All AllWide forms → All AllWide (map (map (put k m)) forms)
each_wide_put k m q w = all_mapped (map (put k m)) (λ form h. all_mapped (put k m) (λ a. put_wide k m a q) h) w

-- carrying goes through a bound
carried_bound : (s : Program) (ps : List Split) (b : List Alternative) (forms : List Form) → All AllWide forms
    → map (carried s ps) (into_bound b forms) ≡ into_bound b (map (map (carried s ps)) forms)
unfolding carried
carried_bound s [] b forms w = map_same (into_bound b forms) ∙ ap (into_bound b) (sym (maps_same forms))
  where
    map_same : (xs : Form) → map (λ a. a) xs ≡ xs
    map_same [] = refl
    map_same (x ∷ xs) = ap (λ (l : Form). x ∷ l) (map_same xs)

    maps_same : (xs : List Form) → map (map (λ a. a)) xs ≡ xs
    maps_same [] = refl
    maps_same (x ∷ xs) = let a = map_same x in let b = maps_same xs in cc
carried_bound s (p ∷ ps) b forms w =
    sym (map-map (carried s ps) (put p.variable (split_a s p)) (into_bound b forms))
    ∙ ap (map (carried s ps)) (put_bound p.variable (split_a s p) (split_wide s p) b forms w)
    ∙ carried_bound s ps b (map (map (put p.variable (split_a s p))) forms)
    (each_wide_put p.variable (split_a s p) (split_wide s p) w)
    ∙ ap (into_bound b) (maps forms)
  where
    maps : (xs : List Form) → map (map (carried s ps)) (map (map (put p.variable (split_a s p))) xs)
        ≡ map (map (λ a. carried s ps (put p.variable (split_a s p) a))) xs
    maps [] = refl
    maps (x ∷ xs) = let a = map-map (carried s ps) (put p.variable (split_a s p)) x in let b = maps xs in cc

module _ (s : Program) where
  each_wide : (es : List Expression) → All AllWide (map (form_of s) es)
  each_wide es = all_mapped (form_of s) (λ e (u : Unit {0}). form_wide s e) (all_any es)

  forms_through : (ps : List Split) → SplitsRight s ps → (es : List Expression)
      → map (form_of s) (map (through ps) es) ≡ map (map (carried s ps)) (map (form_of s) es)
  forms_through ps r [] = refl
  forms_through ps r (e ∷ es) = let a = form_through s ps r e in let b = forms_through ps r es in cc

  pub own_wide : (f : Function) → AllWide (own_at s f)
  unfolding into_bound
  own_wide f =
      all_flat_map (λ a. substituted a.coefficients a.constant (map (form_of s) (variables 0 (arity f))))
      (λ a (u : Unit {0}). substituted_wide a.coefficients a.constant (each_wide (variables 0 (arity f)))) (all_any f.bound)

  pub own_through : (f : Function) (ps : List Split) → SplitsRight s ps
      → into_bound f.bound (map (form_of s) (map (through ps) (variables 0 (arity f)))) ≡ map (carried s ps) (own_at s f)
  own_through f ps r =
      ap (into_bound f.bound) (forms_through ps r (variables 0 (arity f)))
      ∙ sym (carried_bound s ps f.bound (map (form_of s) (variables 0 (arity f))) (each_wide (variables 0 (arity f))))

  pub variable_form : (v : ℕ) → form_of s (variable_e v) ≡ variable_only v ∷ []
  unfolding form_of forms_of
  variable_form v = refl

  -- nothing is to be tested where the stack is variables
  pub variables_covered : (n : ℕ) (f : Function) (ps : List Split) (count : ℕ) (stack : List ℕ) → Path s (own_at s f) (arity f) ps count
      → AllUnder count stack → covered_at s (shape_of f ps count stack) ≡ true
  unfolding covered_at
  variables_covered n f ps count stack p u = rw (own_through f ps p.right) (go stack u)
    where
      go : (vs : List ℕ) → AllUnder count vs
          → all (λ e. covers (map (carried s ps) (own_at s f)) (form_of s e)) (map (λ v. through ps (variable_e v)) vs) ≡ true
      go [] u = refl
      go (v ∷ vs) u =
          and_both (covers (map (carried s ps) (own_at s f)) (form_of s (through ps (variable_e v))))
          (all (λ e. covers (map (carried s ps) (own_at s f)) (form_of s e)) (map (λ v. through ps (variable_e v)) vs))
          (rw (form_through s ps p.right (variable_e v), variable_form v) (p.covered v u.0))
          (go vs u.1)

---- The own bound at the start: its coefficients, and every parameter covered

pub widened_wide : (k : ℕ) (cs : List ℕ) (w : ℕ) → Wide (widened k cs w)
unfolding widened
widened_wide k [] w = constant_wide w
widened_wide k (zero ∷ cs) w = widened_wide (suc k) cs w
widened_wide k (suc c ∷ cs) w = added_wide (suc c) (variable_only k) (widened (suc k) cs w) (variable_wide k) (widened_wide (suc k) cs w)

constant_only_lem : (w : ℕ) → (constant_only w).constant ≡ w
unfolding constant_only
constant_only_lem w = refl

pub widened_constant : (k : ℕ) (cs : List ℕ) (w : ℕ) → (widened k cs w).constant ≡ w
unfolding widened
widened_constant k [] w = constant_only_lem w
widened_constant k (zero ∷ cs) w = widened_constant (suc k) cs w
widened_constant k (suc c ∷ cs) w =
    added_constant (suc c) (variable_only k) (widened (suc k) cs w) ∙ rw (widened_constant (suc k) cs w, variable_constant k) (omega arith)

widened_low : (k : ℕ) (cs : List ℕ) (w i : ℕ) → i < k → coefficient (widened k cs w) i ≡ 0
unfolding widened
widened_low k [] w i h = constant_at w i
widened_low k (zero ∷ cs) w i h = widened_low (suc k) cs w i (omega arith)
widened_low k (suc c ∷ cs) w i h =
    added_at (suc c) (variable_only k) (widened (suc k) cs w) i (widened_wide (suc k) cs w) (variable_wide k)
    ∙ rw (widened_low (suc k) cs w i (omega arith), variable_other k i (λ e. omega arith)) (omega arith)

pub widened_at : (k : ℕ) (cs : List ℕ) (w i : ℕ) → k + length cs ≤ 16 → coefficient (widened k cs w) (k + i) ≡ get_or cs i 0
unfolding widened
widened_at k [] w i h = constant_at w (k + i)
widened_at k (zero ∷ cs) w zero h = widened_low (suc k) cs w (k + 0) (omega arith)
widened_at k (zero ∷ cs) w (suc i) h = let e : k + suc i ≡ suc k + i = omega arith in rw e (widened_at (suc k) cs w i (omega arith))
widened_at k (suc c ∷ cs) w zero h =
    added_at (suc c) (variable_only k) (widened (suc k) cs w) (k + 0) (widened_wide (suc k) cs w) (variable_wide k)
    ∙ rw (add-zero k, widened_low (suc k) cs w k (omega arith), variable_same k (omega arith)) (omega arith)
widened_at k (suc c ∷ cs) w (suc i) h =
    let e : k + suc i ≡ suc k + i = omega arith in
    added_at (suc c) (variable_only k) (widened (suc k) cs w) (k + suc i) (widened_wide (suc k) cs w) (variable_wide k)
    ∙ rw (variable_other k (k + suc i) (λ z. omega arith), e, widened_at (suc k) cs w i (omega arith)) (omega arith)

-- as the code has it
-- the first four of sixteen coefficients, as the code has them
pub record FirstFour (cs x : List ℕ) (i : ℕ) : Type 0 where
  pub long : length x ≡ 16
  pub done : (k : ℕ) → k < i → get_or x k 0 ≡ get_or cs k 0
  pub left : (k : ℕ) → i ≤ k → get_or x k 0 ≡ 0

pub four_first : {cs : List ℕ} → FirstFour cs (replicate 16 0) 0
four_first = record { long = refl; done = λ k l. absurd (omega arith); left = λ k l. zero_at 16 k }

pub four_next : {cs x : List ℕ} {i : ℕ} → i < 4 → FirstFour cs x i → FirstFour cs (set x i (get_or cs i 0)) (i + 1)
four_next {cs} {x} {i} h f = record {
  long = length-set x i (get_or cs i 0) ∙ f.long;
  done = below_more (λ k. get_or (set x i (get_or cs i 0)) k 0 ≡ get_or cs k 0) i
      (λ k l. get_or-set_other x i k (get_or cs i 0) 0 (λ e. omega arith) ∙ f.done k l)
      (let l = f.long in get_or-set_same x i (get_or cs i 0) 0 (omega arith));
  left = λ k l. get_or-set_other x i k (get_or cs i 0) 0 (λ e. omega arith) ∙ f.left k (omega arith);
}

pub four_end : (cs x : List ℕ) (w : ℕ) → length cs ≡ 4 → FirstFour cs x 4 → record { coefficients = x; constant = w } ≡ widened 0 cs w
four_end cs x w e f =
    alternative_ext (record { coefficients = x; constant = w }) (widened 0 cs w) f.long (widened_wide 0 cs w)
    (λ i. go i (ltb i 4) refl ∙ sym (rw (zero-add i) at (widened_at 0 cs w i (omega arith)))) (sym (widened_constant 0 cs w))
  where
    go : (i : ℕ) (t : Bool) → ltb i 4 ≡ t → get_or x i 0 ≡ get_or cs i 0
    go i true t = f.done i (ltb-true i 4 t)
    go i false t = let l = ltb-false i 4 t in f.left i l ∙ sym (get_or-eq_default cs 0 (omega arith))

-- coefficients past the first n are 0
pub widened_past : (n k : ℕ) (cs : List ℕ) (w : ℕ) → all is_zero (drop n cs) ≡ true → widened k cs w ≡ widened k (take n cs) w
unfolding widened
widened_past n k [] w e = rw (take-nil {A = ℕ} n)
widened_past zero k (zero ∷ cs) w e = widened_past 0 (suc k) cs w e
widened_past zero k (suc c ∷ cs) w e =
    absurd (false_true (sym (ne_eqb (suc c) 0 (λ z. omega arith)) ∙ and_left (eqb (suc c) 0) (all is_zero cs) e))
widened_past (suc n) k (zero ∷ cs) w e = widened_past n (suc k) cs w e
widened_past (suc n) k (suc c ∷ cs) w e = ap (added (suc c) (variable_only k)) (widened_past n (suc k) cs w e)

abbrev pub wide_row : Alternative → Alternative
wide_row a = widened 0 a.coefficients a.constant

-- an alternative of a size bound for n parameters
pub record RowFits (n : ℕ) (a : Alternative) : Type 0 where
  pub narrow : length a.coefficients ≤ n
  pub small : (i : ℕ) → get_or a.coefficients i 0 ≤ 15
  pub constant : a.constant ≤ 65535

module _ (s : Program) where
  units_substituted : (k m : ℕ) (cs : List ℕ) (w : ℕ) → length cs ≤ m
      → substituted cs w (map (form_of s) (variables k m)) ≡ widened k cs w ∷ []
  unfolding substituted widened variables form_of forms_of flat_map
  units_substituted k m [] w h = refl
  units_substituted k zero (c ∷ cs) w h = absurd (omega arith)
  units_substituted k (suc m) (zero ∷ cs) w h = units_substituted (suc k) m cs w (omega arith)
  units_substituted k (suc m) (suc c ∷ cs) w h =
      ap (λ (rest : Form). map (added (suc c) (variable_only k)) rest ++ []) (units_substituted (suc k) m cs w (omega arith))

  pub own_rows : (n : ℕ) (b : List Alternative) → All (RowFits n) b → into_bound b (map (form_of s) (variables 0 n)) ≡ map wide_row b
  unfolding into_bound flat_map
  own_rows n [] h = refl
  own_rows n (a ∷ b) (h l∷ hs) = let e = units_substituted 0 n a.coefficients a.constant h.narrow in let ih = own_rows n b hs in cc
