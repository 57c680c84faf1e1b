-- Splits: what a variable stands for after them, its size, and that every variable stays covered.
use mathlib.Core.Path.{◌≡◌, refl, sym, ap, ◌∙◌}
use mathlib.Core.List.{List, [], ◌∷◌, ◌++◌, map, map-map, map-id}
use mathlib.Core.Bool.{Bool, true, false}
use Prim.Native.Nat.{ℕ, zero, suc, ◌+◌, ◌*◌, ◌≤◌, ◌<◌}
use native.Mathlib.Omega.{arith}
use lib.ListN.{length, get_or, replicate}
use lib.Dec.{eqb, ltb}
use borrow.Author.Tests.{eqb-true, eqb-false, ne_eqb, ltb-true, ltb-false}
use Rattle.rules.specs.declared.records.Alternative.{Alternative}
use Rattle.rules.specs.Program.{Program}
use Rattle.rules.specs.Tree.{from_list}
use Rattle.rules.specs.Expressions.{Expression, variables, replace}
use Rattle.rules.specs.Forms.{Form, added, variable_only, flat_map, substituted, built_form, form_of, forms_of, covers}
use Rattle.sizing.specs.declared.splits.Split.{Split}
use Rattle.sizing.specs.Put.{coefficient, put, Wide, AllWide}
use Rattle.sizing.specs.Splits.{variable_e, split_e, through, spanned, weight_in, split_a, carried, SplitRight, SplitsRight, Numbered}
use Rattle.sizing.specs.Splits.{Whole, no_split}
use Rattle.sizing.specs.Right.{Path}
use Rattle.sizing.proofs.PutLaws.{added_wide, added_at, put_wide, constant_wide, constant_at, variable_wide, variable_same}
use Rattle.sizing.proofs.PutLaws.{variable_other, put_other_variable}
use Rattle.sizing.proofs.SpareLaws.{spare_split}
use Rattle.rules.specs.Lists.{l[], ◌l∷◌}
use Rattle.rules.proofs.ListLaws.{all_mapped}
use Rattle.sizing.proofs.FormLaws.{form_replaced}
use Rattle.sizing.proofs.CoverLaws.{covers_put, covers_part}

---- The alternative of a split

pub spanned_wide : (k n w : ℕ) → Wide (spanned k n w)
unfolding spanned
spanned_wide k zero w = constant_wide w
spanned_wide k (suc n) w = added_wide 1 (variable_only k) (spanned (suc k) n w) (variable_wide k) (spanned_wide (suc k) n w)

pub split_wide : (s : Program) (p : Split) → Wide (split_a s p)
split_wide s p = spanned_wide p.first p.parts (weight_in s p)

pub spanned_low : (k n w i : ℕ) → i < k → coefficient (spanned k n w) i ≡ 0
unfolding spanned
spanned_low k zero w i h = constant_at w i
spanned_low k (suc n) w i h =
    added_at 1 (variable_only k) (spanned (suc k) n w) i (spanned_wide (suc k) n w) (variable_wide k)
    ∙ rw (spanned_low (suc k) n w i (omega arith), variable_other k i (λ e. omega arith))

pub spanned_in : (k n w i : ℕ) → k + n ≤ 16 → k ≤ i → i < k + n → coefficient (spanned k n w) i ≡ 1
unfolding spanned
spanned_in k zero w i h a b = absurd (omega arith)
spanned_in k (suc n) w i h a b =
    added_at 1 (variable_only k) (spanned (suc k) n w) i (spanned_wide (suc k) n w) (variable_wide k)
    ∙ go (λ lt. spanned_in (suc k) n w i (omega arith) lt (omega arith)) (λ e. spanned_low (suc k) n w i (omega arith)) (eqb i k) refl
  where
    go : (suc k ≤ i → coefficient (spanned (suc k) n w) i ≡ 1) → (i ≡ k → coefficient (spanned (suc k) n w) i ≡ 0) → (t : Bool)
        → eqb i k ≡ t → coefficient (spanned (suc k) n w) i + 1 * coefficient (variable_only k) i ≡ 1
    go ih low true e = rw (low (eqb-true i k e), eqb-true i k e, variable_same k (omega arith))
    go ih low false e = rw (ih (omega (arith, eqb-false i k e)), variable_other k i (eqb-false i k e))

pub spanned_high : (k n w i : ℕ) → k + n ≤ i → coefficient (spanned k n w) i ≡ 0
unfolding spanned
spanned_high k zero w i h = constant_at w i
spanned_high k (suc n) w i h =
    added_at 1 (variable_only k) (spanned (suc k) n w) i (spanned_wide (suc k) n w) (variable_wide k)
    ∙ rw (spanned_high (suc k) n w i (omega arith), variable_other k i (λ e. omega arith))

module _ (s : Program) where
  substituted_variables : (k n w : ℕ) → substituted (replicate n 1) w (forms_of s (from_list (variables k n))) ≡ spanned k n w ∷ []
  unfolding spanned substituted flat_map form_of forms_of variables
  substituted_variables k zero w = refl
  substituted_variables k (suc n) w =
      ap (λ (rest : Form). map (added 1 (variable_only k)) rest ++ []) (substituted_variables (suc k) n w)

  split_form : (p : Split) → SplitRight s p → form_of s (split_e p) ≡ split_a s p ∷ []
  unfolding form_of forms_of built_form
  split_form p r = rw (r.known, r.arity) (substituted_variables p.first p.parts r.declared_as.weight)

  -- the form of an expression after the splits
  pub form_through : (ps : List Split) → SplitsRight s ps → (e : Expression) → form_of s (through ps e) ≡ map (carried s ps) (form_of s e)
  unfolding through carried
  form_through [] r e = sym (map-id (form_of s e))
  form_through (p ∷ ps) r e =
      form_through ps r.1 (replace p.variable (split_e p) e)
      ∙ ap (map (carried s ps)) (form_replaced p.variable (split_a s p) (split_wide s p) s r.0.small
      (split_e p) (split_form p r.0) e)
      ∙ map-map (carried s ps) (put p.variable (split_a s p)) (form_of s e)

---- One split more

pub through_more : (ps : List Split) (p : Split) (e : Expression)
    → through (ps ++ (p ∷ [])) e ≡ replace p.variable (split_e p) (through ps e)
unfolding through
through_more [] p e = refl
through_more (q ∷ ps) p e = through_more ps p (replace q.variable (split_e q) e)

carried_more : (s : Program) (ps : List Split) (p : Split) (a : Alternative)
    → carried s (ps ++ (p ∷ [])) a ≡ put p.variable (split_a s p) (carried s ps a)
unfolding carried
carried_more s [] p a = refl
carried_more s (q ∷ ps) p a = carried_more s ps p (put q.variable (split_a s q) a)

pub carried_wide : (s : Program) (ps : List Split) (a : Alternative) → Wide a → Wide (carried s ps a)
unfolding carried
carried_wide s [] a w = w
carried_wide s (p ∷ ps) a w =
    carried_wide s ps (put p.variable (split_a s p) a)
    (put_wide p.variable (split_a s p) a (split_wide s p) w)

---- A variable that is whole stays

pub through_whole : (ps : List Split) (v : ℕ) → Whole v ps → through ps (variable_e v) ≡ variable_e v
unfolding through replace
through_whole [] v w = refl
through_whole (p ∷ ps) v w = rw (ne_eqb v p.variable w.0) (through_whole ps v w.1)

carried_whole : (s : Program) (ps : List Split) (v : ℕ) → Whole v ps → carried s ps (variable_only v) ≡ variable_only v
unfolding carried
carried_whole s [] v w = refl
carried_whole s (p ∷ ps) v w =
    ap (carried s ps) (put_other_variable p.variable (split_a s p) v (split_wide s p) w.0)
    ∙ carried_whole s ps v w.1

pub numbered_le : (ps : List Split) (n count : ℕ) → Numbered n ps count → n ≤ count
numbered_le [] n count h = omega arith
numbered_le (p ∷ ps) n count h = omega (arith, numbered_le ps (n + p.parts) count h.2)

-- a variable that has not come up is whole
pub whole_new : (ps : List Split) (n count v : ℕ) → Numbered n ps count → count ≤ v → Whole v ps
whole_new [] n count v h l = tt
whole_new (p ∷ ps) n count v h l =
    ((λ e. let g = numbered_le ps (n + p.parts) count h.2 in omega (arith, h.0, g)), whole_new ps (n + p.parts) count v h.2 l)

numbered_more : (ps : List Split) (n count : ℕ) (p : Split) → Numbered n ps count → p.variable < count → p.first ≡ count
    → Numbered n (ps ++ (p ∷ [])) (count + p.parts)
numbered_more [] n count p h v f = rw h (v, f, refl)
numbered_more (q ∷ ps) n count p h v f = (h.0, h.1, numbered_more ps (n + q.parts) count p h.2 v f)

---- What a variable stands for, and every variable covered

map_more : (s : Program) (ps : List Split) (p : Split) (xs : Form)
    → map (carried s (ps ++ (p ∷ []))) xs ≡ map (put p.variable (split_a s p)) (map (carried s ps) xs)
map_more s ps p [] = refl
map_more s ps p (x ∷ xs) = let e = carried_more s ps p x in let ih = map_more s ps p xs in cc

carried_all_wide : (s : Program) (ps : List Split) (xs : Form) → AllWide xs → AllWide (map (carried s ps) xs)
carried_all_wide s ps xs w = all_mapped (carried s ps) (carried_wide s ps) w

right_more : (s : Program) (ps : List Split) (p : Split) → SplitsRight s ps → SplitRight s p → SplitsRight s (ps ++ (p ∷ []))
right_more s [] p r q = (q, tt)
right_more s (x ∷ ps) p r q = (r.0, right_more s ps p r.1 q)

pub split_at : (s : Program) (ps : List Split) (j : ℕ) → j < length ps → SplitsRight s ps → SplitRight s (get_or ps j no_split)
split_at s [] j h r = absurd (omega arith)
split_at s (p ∷ ps) zero h r = r.0
split_at s (p ∷ ps) (suc j) h r = split_at s ps j (omega arith) r.1

whole_append : (qs : List Split) (p : Split) (x : ℕ) → Whole x qs → (x ≡ p.variable → ⊥) → Whole x (qs ++ (p ∷ []))
whole_append [] p x w d = (d, tt)
whole_append (q ∷ qs) p x w d = (w.0, whole_append qs p x w.1 d)

-- a split of a whole variable: the next path
pub path_split : (s : Program) (own : Form) (n : ℕ) (ps : List Split) (count : ℕ) (p : Split) → AllWide own → Path s own n ps count
    → SplitRight s p → p.variable < count → Whole p.variable ps → p.first ≡ count → count + p.parts ≤ 16
    → Path s own n (ps ++ (p ∷ [])) (count + p.parts)
path_split s own n ps count p w h r v u f l =
    record {
      right = right_more s ps p h.right r;
      numbered = numbered_more ps n count p h.numbered v f;
      few = l;
      spare =
          spare_split ps count p h.spare v u (λ x g. whole_append ps p x (whole_new ps n count x h.numbered g) (λ e. omega arith));
      covered = λ x xl. rw (map_more s ps p own, carried_more s ps p (variable_only x)) (go x xl (ltb x count) refl);
    }
  where
    sw : Wide (split_a s p)
    sw = split_wide s p

    go : (x : ℕ) → x < count + p.parts → (t : Bool) → ltb x count ≡ t
        → covers (map (put p.variable (split_a s p)) (map (carried s ps) own))
        (put p.variable (split_a s p) (carried s ps (variable_only x)) ∷ []) ≡ true
    go x xl true e =
        covers_put p.variable (split_a s p) sw (map (carried s ps) own) (carried s ps (variable_only x) ∷ []) (carried_all_wide s ps own w)
        (carried_wide s ps (variable_only x) (variable_wide x) l∷ l[]) (h.covered x (ltb-true x count e))
    go x xl false e =
        let ge : count ≤ x = ltb-false x count e in
        rw (
          carried_whole s ps x (whole_new ps n count x h.numbered ge),
          put_other_variable p.variable (split_a s p) x sw (λ e. omega
              arith),
        )
        (covers_part p.variable (split_a s p) sw x (map (carried s ps) own) (omega arith) r.small (carried_all_wide s ps own w)
        (rw (spanned_in p.first p.parts (weight_in s p) x (omega arith) (omega arith) (omega arith)) (omega arith))
        (rw (carried_whole s ps p.variable u) at (h.covered p.variable v)))
