-- The form of an expression with one put for a variable: the alternatives with its alternative put there.
use Rattle.std.specs.Prelude.{if◌then◌else◌}
use mathlib.Core.Path.{◌≡◌, refl, sym, ap, ◌∙◌}
use mathlib.Core.List.{List, [], ◌∷◌, ◌++◌, map, map-append}
use mathlib.Core.Bool.{Bool, true, false}
use Rattle.std.specs.Prelude.{Option, None, Some}
use Prim.Native.Nat.{ℕ, zero, suc, ◌<◌}
use lib.ListN.{length, replicate}
use lib.Dec.{eqb}
use borrow.Author.Tests.{eqb-true, eqb-false}
use Rattle.rules.specs.declared.records.Alternative.{Alternative}
use Rattle.rules.specs.Program.{constructor, function, Constructor, Function, Program}
use Rattle.rules.specs.Tree.{Trees, node, nil, cons}
use Rattle.rules.specs.Expressions.{Symbol, variable, known, built, called, Expression, replace, replace_all}
use Rattle.rules.specs.Forms.{Form, added, constant_only, variable_only, flat_map, substituted, into_bound, built_form, called_form}
use Rattle.rules.specs.Forms.{form_of}
use Rattle.rules.specs.Forms.{forms_of}
use Rattle.rules.specs.Lists.{All, ◌l∷◌}
use Rattle.rules.proofs.Measures.{substituted_wide, forms_wide}
use Rattle.sizing.specs.Put.{put, Wide, AllWide}
use Rattle.sizing.proofs.PutLaws.{put_added, put_absent, constant_wide, constant_at, put_variable, put_other_variable}

---- Putting goes through substitution

module _ (k : ℕ) (m : Alternative) (w : Wide m) where
  put_map : (c : ℕ) (b : Alternative) (xs : Form) → Wide b → AllWide xs
      → map (put k m) (map (added c b) xs) ≡ map (added c (put k m b)) (map (put k m) xs)
  put_map c b [] q p = refl
  put_map c b (x ∷ xs) q (p l∷ ps) = let ih = put_map c b xs q ps in let e = put_added k m c b x w p q in cc

  put_choices : (c : ℕ) (form rest : Form) → AllWide form → AllWide rest
      → map (put k m) (flat_map (λ choice. map (added c choice) rest) form)
      ≡ flat_map (λ choice. map (added c choice) (map (put k m) rest)) (map (put k m) form)
  unfolding flat_map
  put_choices c [] rest q p = refl
  put_choices c (a ∷ form) rest (q l∷ qs) p =
      map-append (put k m) (map (added c a) rest) (flat_map (λ choice. map (added c choice) rest) form)
      ∙ ap (λ (l : Form). l ++ map (put k m) (flat_map (λ choice. map (added c choice) rest) form)) (put_map c a rest q p)
      ∙ ap (λ (l : Form). map (added c (put k m a)) (map (put k m) rest) ++ l) (put_choices c form rest qs p)

  put_constant_only : (v : ℕ) → put k m (constant_only v) ≡ constant_only v
  put_constant_only v = put_absent k m (constant_only v) w (constant_wide v) (constant_at v k)

  put_substituted : (ms : List ℕ) (v : ℕ) (forms : List Form) → All AllWide forms
      → map (put k m) (substituted ms v forms) ≡ substituted ms v (map (map (put k m)) forms)
  unfolding substituted
  put_substituted [] v forms p = ap (λ (a : Alternative). a ∷ []) (put_constant_only v)
  put_substituted (c ∷ ms) v [] p = ap (λ (a : Alternative). a ∷ []) (put_constant_only v)
  put_substituted (zero ∷ ms) v (form ∷ forms) (p l∷ ps) = put_substituted ms v forms ps
  put_substituted (suc c ∷ ms) v (form ∷ forms) (p l∷ ps) =
      put_choices (suc c) form (substituted ms v forms) p (substituted_wide ms v ps)
      ∙ ap (λ (rest : Form). flat_map (λ choice. map (added (suc c) choice) rest) (map (put k m) form)) (put_substituted ms v forms ps)

  pub put_bound : (bound : List Alternative) (forms : List Form) → All AllWide forms
      → map (put k m) (into_bound bound forms) ≡ into_bound bound (map (map (put k m)) forms)
  unfolding into_bound flat_map
  put_bound [] forms p = refl
  put_bound (a ∷ bound) forms p =
      map-append (put k m) (substituted a.coefficients a.constant forms) (into_bound bound forms)
      ∙ ap (λ (l : Form). l ++ map (put k m) (into_bound bound forms)) (put_substituted a.coefficients a.constant forms p)
      ∙ ap (λ (l : Form). substituted a.coefficients a.constant (map (map (put k m)) forms) ++ l) (put_bound bound forms p)

  put_built : (c : Option Constructor) (forms : List Form) → All AllWide forms
      → map (put k m) (built_form c forms) ≡ built_form c (map (map (put k m)) forms)
  unfolding built_form
  put_built None forms p = refl
  put_built (Some c) forms p = put_substituted (replicate (length c.arguments) 1) c.weight forms p

  put_called : (g : Option Function) (forms : List Form) → All AllWide forms
      → map (put k m) (called_form g forms) ≡ called_form g (map (map (put k m)) forms)
  unfolding called_form
  put_called None forms p = refl
  put_called (Some g) forms p = put_bound g.bound forms p

  module _ (s : Program) (small : k < 16) (x : Expression) (is : form_of s x ≡ m ∷ []) where
    replaced_variable : (j : ℕ) (ts : Trees Symbol) (t : Bool) → eqb j k ≡ t
        → form_of s (if t then x else node (variable j) ts) ≡ put k m (variable_only j) ∷ []
    unfolding form_of forms_of
    replaced_variable j ts true e =
        is ∙ ap (λ (a : Alternative). a ∷ []) (sym (ap (λ (i : ℕ). put k m (variable_only i)) (eqb-true j k e) ∙ put_variable k m small w))
    replaced_variable j ts false e = ap (λ (a : Alternative). a ∷ []) (sym (put_other_variable k m j w (eqb-false j k e)))

    mutual
      unfolding form_of forms_of replace replace_all

      pub form_replaced : (e : Expression) → form_of s (replace k x e) ≡ map (put k m) (form_of s e)
      form_replaced (node (variable j) ts) = replaced_variable j ts (eqb j k) refl
      form_replaced (node (known c) ts) =
          ap (built_form (constructor s c)) (forms_replaced ts) ∙ sym (put_built (constructor s c) (forms_of s ts) (forms_wide s ts))
      form_replaced (node (built c) ts) =
          ap (built_form (constructor s c)) (forms_replaced ts) ∙ sym (put_built (constructor s c) (forms_of s ts) (forms_wide s ts))
      form_replaced (node (called g) ts) =
          ap (called_form (function s g)) (forms_replaced ts) ∙ sym (put_called (function s g) (forms_of s ts) (forms_wide s ts))

      forms_replaced : (ts : Trees Symbol) → forms_of s (replace_all k x ts) ≡ map (map (put k m)) (forms_of s ts)
      forms_replaced nil = refl
      forms_replaced (cons t ts) = let a = form_replaced t in let b = forms_replaced ts in cc
