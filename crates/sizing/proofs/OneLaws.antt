-- One alternative put into one: there is one choice, and it takes the place of the alternative that was there.
use mathlib.Core.Path.{◌≡◌, refl, ap, ◌∙◌}
use mathlib.Core.List.{List, [], ◌∷◌}
use Prim.Native.Nat.{ℕ, zero, suc, ◌<◌}
use native.Mathlib.Omega.{arith}
use lib.ListN.{length, get_or, set, take, length-set}
use lib.Seq.{get_or-set_same}
use Rattle.rules.specs.declared.records.Alternative.{Alternative}
use Rattle.rules.specs.Lists.{l[], ◌l∷◌}
use Rattle.rules.specs.Forms.{added, flat_map}
use Rattle.sizing.specs.declared.forms.Form as code
use Rattle.sizing.specs.Put.{Wide, Bounded, AllBounded, no_alternative}
use Rattle.sizing.specs.Forms.{form_in, FormRight, Entry, Formed, choices}
use Rattle.sizing.proofs.PutLaws.{added_wide}
use Rattle.sizing.proofs.BuildLaws.{below_get}

first : (xs : List Alternative) (n : ℕ) → length xs ≡ 16 → n ≡ 1 → take n xs ≡ get_or xs 0 no_alternative ∷ []
first [] n l e = absurd (omega arith)
first (x ∷ xs) n l e = rw e

only : (x : code.Form) → FormRight x → x.count ≡ 1 → form_in x ≡ get_or x.alternatives 0 no_alternative ∷ []
only x r e = first x.alternatives x.count r.long e

one_choice : (m : ℕ) (c a : Alternative) → 0 < m → choices m (c ∷ []) (a ∷ []) ≡ added m c a ∷ []
unfolding choices flat_map
one_choice zero c a h = absurd (omega arith)
one_choice (suc m) c a h = refl

module _ {m k : ℕ} (x : code.Form) (r : FormRight x) (one : x.count ≡ 1) (b : AllBounded m k (form_in x)) where
  pub first_below : Bounded m k (get_or x.alternatives 0 no_alternative)
  first_below = below_get m k (get_or x.alternatives 0 no_alternative ∷ []) 0 (rw (only x r one) at b) (omega arith)

-- p: the choice
pub one_made : (m : ℕ) (form rest : code.Form) {p : Alternative} → 0 < m → Entry form → FormRight rest → form.count ≡ 1 → rest.count ≡ 1
    → Wide (get_or form.alternatives 0 no_alternative) → Wide (get_or rest.alternatives 0 no_alternative)
    → p ≡ added m (get_or form.alternatives 0 no_alternative) (get_or rest.alternatives 0 no_alternative)
    → Formed (record { alternatives = set rest.alternatives 0 p; count = rest.count }) (choices m (form_in form) (form_in rest))
one_made m form rest {p} h e r one single v w is =
    let long = length-set rest.alternatives 0 p ∙ r.long in
    let same : take rest.count (set rest.alternatives 0 p) ≡ p ∷ [] =
    first (set rest.alternatives 0 p) rest.count long single
    ∙ ap (λ (y : Alternative). y ∷ []) (get_or-set_same rest.alternatives 0 p no_alternative (omega (arith, r.long))) in
    record {
      right = record {
        few = r.few;
        long = long;
        wide =
            rw same (◌l∷◌ {x = p} (rw is (added_wide m (get_or form.alternatives 0 no_alternative)
            (get_or rest.alternatives 0 no_alternative) v w)) l[]);
      };
      some = omega (arith, single);
      same =
          same ∙ ap (λ (y : Alternative). y ∷ []) is
          ∙ rw (
            only form e.right one,
            only rest r single,
            one_choice m (get_or form.alternatives 0 no_alternative)
                (get_or rest.alternatives 0 no_alternative) h,
          );
    }
