-- Every choice, one after the other: choice i takes alternative i / k of the form and i % k of the k of the rest.
use mathlib.Core.Path.{◌≡◌, refl, sym, ap, ◌∙◌}
use mathlib.Core.List.{[], ◌∷◌, ◌++◌, map}
use mathlib.Core.Bool.{Bool, true, false}
use Prim.Native.Nat.{ℕ, suc, ◌+◌, ◌*◌, ◌-◌, ◌/◌, ◌%◌, ◌≤◌, ◌<◌}
use native.Mathlib.Omega.{arith}
use native.Mathlib.Numerals.{add-one}
use native.Mathlib.Nat.{div-eq_of_lt, mod-eq_of_lt, div-eq-sub-div, mod-eq-sub-mod, div-lt_iff_lt-mul, mod-lt, suc-mul}
use lib.ListN.{length, get_or, set, take, length-map, length-set, get_or-append}
use lib.Seq.{take-suc, take_all, get_or-append-add}
use lib.Dec.{ltb}
use borrow.Author.Tests.{ltb-true, ltb-false}
use Rattle.rules.specs.declared.records.Alternative.{Alternative}
use Rattle.rules.specs.Forms.{Form, added, flat_map}
use Rattle.sizing.specs.declared.forms.Form as code
use Rattle.sizing.specs.Put.{Bounded, AllBounded, no_alternative}
use Rattle.sizing.specs.Forms.{form_in, FormRight, Entry, Formed, choices}
use Rattle.sizing.proofs.ListLaws.{get_d_of_map, take_stored}
use Rattle.sizing.proofs.RightLaws.{form_length, form_at}
use Rattle.sizing.proofs.BuildLaws.{flat_length, flat_below, below_get, below_wide, choices_some, some_made}

flat_at : (f : Alternative → Alternative → Alternative) (rest xs : Form) (i : ℕ) → 0 < length rest → i < length xs * length rest
    → get_or (flat_map (λ c. map (f c) rest) xs) i no_alternative
    ≡ f (get_or xs (i / length rest) no_alternative) (get_or rest (i % length rest) no_alternative)
unfolding flat_map
flat_at f rest [] i p h = absurd (omega arith)
flat_at f rest (x ∷ xs) i p h = go (λ j l. flat_at f rest xs j p l) (ltb i (length rest)) refl
  where
    go : ((j : ℕ) → j < length xs * length rest
        → get_or (flat_map (λ c. map (f c) rest) xs) j no_alternative
        ≡ f (get_or xs (j / length rest) no_alternative) (get_or rest (j % length rest) no_alternative))
        → (t : Bool) → ltb i (length rest) ≡ t
        → get_or (map (f x) rest ++ flat_map (λ c. map (f c) rest) xs) i no_alternative
        ≡ f (get_or (x ∷ xs) (i / length rest) no_alternative) (get_or rest (i % length rest) no_alternative)
    go ih true e =
        let l = ltb-true i (length rest) e in
        let m = length-map rest (f x) in
        rw (div-eq_of_lt l, mod-eq_of_lt l)
        (get_or-append (map (f x) rest) (flat_map (λ c. map (f c) rest) xs) no_alternative i (omega arith)
        ∙ get_d_of_map (f x) rest i no_alternative no_alternative l)
    go ih false e =
        let l = ltb-false i (length rest) e in
        let m = length-map rest (f x) in
        let s : i ≡ length (map (f x) rest) + (i - length rest) = omega arith in
        let b : i - length rest < length xs * length rest = omega (arith, suc-mul (length xs) (length rest)) in
        let d : i / length rest ≡ suc ((i - length rest) / length rest) = div-eq-sub-div p l ∙ add-one ((i - length rest) / length rest) in
        rw (d, mod-eq-sub-mod l)
        (ap (λ (j : ℕ). get_or (map (f x) rest ++ flat_map (λ c. map (f c) rest) xs) j no_alternative) s
        ∙ get_or-append-add (map (f x) rest) (flat_map (λ c. map (f c) rest) xs) (i - length rest) no_alternative
        ∙ ih (i - length rest) b)

module _ (m : ℕ) (form rest : code.Form) where
  unfoldable pub all_choices : Form
  all_choices = flat_map (λ c. map (added m c) (form_in rest)) (form_in form)

  -- the first i are there
  pub record Choosing (i : ℕ) (x : code.Form) : Type 0 where
    pub long : length x.alternatives ≡ 16
    pub same : take i x.alternatives ≡ take i all_choices

module _ (m : ℕ) (form rest : code.Form) (h : Entry form) (r : FormRight rest) (p : 0 < rest.count)
    (b : AllBounded 32768 16777216 (form_in rest)) where
  many : length (all_choices m form rest) ≡ form.count * rest.count
  unfolding all_choices
  many = flat_length (added m) (form_in rest) (form_in form) ∙ rw (form_length form h.right, form_length rest r)

  pub choosing_start : (x : code.Form) → FormRight x → Choosing m form rest 0 x
  choosing_start x q = record { long = q.long; same = refl }

  -- choice i is made of these two
  module _ (i : ℕ) (l : i < form.count * rest.count) where
    pub choice_first : i / rest.count < form.count
    choice_first = (div-lt_iff_lt-mul p).1 l

    pub choice_second : i % rest.count < rest.count
    choice_second = mod-lt i p

    pub choice_below : Bounded 15 131072 (get_or form.alternatives (i / rest.count) no_alternative)
        × Bounded 32768 16777216 (get_or rest.alternatives (i % rest.count) no_alternative)
    choice_below =
        let n = form_length form h.right in let k = form_length rest r in
        let u = choice_first in let v = choice_second in (
          rw (form_at form h.right (i / rest.count) u)
              at (below_get 15 131072 (form_in form) (i / rest.count) h.below (omega arith)),
          rw (form_at rest r (i % rest.count) v) at (below_get 32768 16777216 (form_in rest) (i % rest.count) b (omega arith)),
        )

    pub choosing_next : form.count * rest.count ≤ 16 → (x : code.Form) (v : Alternative) → Choosing m form rest i x
        → v ≡ added m (get_or form.alternatives (i / rest.count) no_alternative)
        (get_or rest.alternatives (i % rest.count) no_alternative)
        → Choosing m form rest (i + 1) (record { alternatives = set x.alternatives i v; count = x.count })
    unfolding all_choices
    choosing_next few x v c e =
        let a = c.long in let k = form_length rest r in let n = form_length form h.right in let z = many in
        record {
          long = length-set x.alternatives i v ∙ c.long;
          same = take_stored x.alternatives (take i (all_choices m form rest)) i v (omega arith) c.same
              ∙ ap (λ (y : Alternative). take i (all_choices m form rest) ++ (y ∷ [])) (e ∙ sym at)
              ∙ sym (rw (add-one i) (take-suc (all_choices m form rest) i no_alternative (omega arith)));
        }
      where
        at : get_or (all_choices m form rest) i no_alternative
            ≡ added m (get_or form.alternatives (i / rest.count) no_alternative)
            (get_or rest.alternatives (i % rest.count) no_alternative)
        at =
            let k = form_length rest r in let n = form_length form h.right in
            flat_at (added m) (form_in rest) (form_in form) i (omega arith) (rw (k, n) l)
            ∙ rw (k, form_at form h.right (i / rest.count) choice_first, form_at rest r (i % rest.count) choice_second)

  pub choosing_end : (m ≡ 0 → ⊥) → form.count * rest.count ≤ 16 → (x : code.Form) → Choosing m form rest (form.count * rest.count) x
      → Formed (record { alternatives = x.alternatives; count = form.count * rest.count }) (choices m (form_in form) (form_in rest))
  unfolding all_choices
  choosing_end n few x c =
      let is : take (form.count * rest.count) x.alternatives ≡ all_choices m form rest = let z = many in
      c.same ∙ take_all (form.count * rest.count) (all_choices m form rest) (omega arith) in
      record {
        right = record {
          few = few;
          long = c.long;
          wide =
              rw is (below_wide (32768 + m * 15) (16777216 + m * 131072) (all_choices m form rest)
              (flat_below m 15 131072 32768 16777216 (form_in rest) (form_in form) h.below b));
        };
        some = omega (arith, some_made form.count rest.count h.some p);
        same = is ∙ sym (choices_some m (form_in form) (form_in rest) n);
      }

  pub choosing_many : (m ≡ 0 → ⊥) → 16 < form.count * rest.count → 16 < length (choices m (form_in form) (form_in rest))
  unfolding all_choices
  choosing_many n g =
      let e = ap length (choices_some m (form_in form) (form_in rest) n) in let l = many in omega arith
