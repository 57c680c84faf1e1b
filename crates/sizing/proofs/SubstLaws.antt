-- Substitution, argument by argument from the last: its next step, how many alternatives it makes, and how large they are.
use mathlib.Core.Path.{◌≡◌, refl, sym, ap, ◌∙◌}
use mathlib.Core.List.{List, [], ◌∷◌, map}
use Prim.Native.Nat.{ℕ, zero, suc, ◌+◌, ◌*◌, ◌-◌, ◌≤◌, ◌<◌, zero-le}
use native.Mathlib.Omega.{arith}
use native.Mathlib.Numerals.{add-one}
use native.Mathlib.Nat.{le_trans, le_refl, mul-le-mul_right}
use lib.ListN.{length, get_or, set, take, drop, length-map, get_or-map, drop_of_length-le}
use lib.Seq.{drop-cons, get_or-take, length-take-le}
use Rattle.rules.specs.declared.records.Alternative.{Alternative}
use Rattle.rules.specs.declared.records.AlternativeRecord.{AlternativeRecord}
use Rattle.rules.specs.Lists.{l[], ◌l∷◌}
use Rattle.rules.specs.Forms.{Form, added, flat_map, constant_only, substituted}
use Rattle.sizing.specs.declared.forms.Form as code
use Rattle.sizing.specs.Put.{Bounded, AllBounded, no_alternative}
use Rattle.sizing.specs.Forms.{form_in, FormRight, Entry, Formed, choices, no_form, forms_in, RowRight, ArgumentForms}
use Rattle.sizing.proofs.PutLaws.{constant_wide, constant_at}
use Rattle.sizing.proofs.RightLaws.{form_length}
use Rattle.sizing.proofs.OneLaws.{first_below, one_made}
use Rattle.sizing.proofs.BuildLaws.{flat_length, flat_below, below_more, choices_none}

abbrev EachSome : List Form → Type 0
EachSome [] = Unit {0}
EachSome (f ∷ fs) = (0 < length f) × EachSome fs

each_some : (fs : List Form) → ((i : ℕ) → i < length fs → 0 < length (get_or fs i [])) → EachSome fs
each_some [] h = tt
each_some (f ∷ fs) h = (h 0 (omega arith), each_some fs (λ i l. h (suc i) (omega arith)))

subst_cons : (m : ℕ) (ms : List ℕ) (w : ℕ) (f : Form) (fs : List Form) → substituted (m ∷ ms) w (f ∷ fs) ≡ choices m f (substituted ms w fs)
unfolding substituted choices
subst_cons zero ms w f fs = refl
subst_cons (suc m) ms w f fs = refl

subst_step : (cs : List ℕ) (fs : List Form) (w k : ℕ) → k < length cs → k < length fs
    → substituted (drop k cs) w (drop k fs) ≡ choices (get_or cs k 0) (get_or fs k []) (substituted (drop (suc k) cs) w (drop (suc k) fs))
subst_step cs fs w k h g =
    rw (drop-cons cs k 0 h, drop-cons fs k [] g) (subst_cons (get_or cs k 0) (drop (suc k) cs) w (get_or fs k []) (drop (suc k) fs))

choices_grow : (m : ℕ) (f rest : Form) → 0 < length f → length rest ≤ length (choices m f rest)
unfolding choices
choices_grow zero f rest h = le_refl (length rest)
choices_grow (suc m) f rest h =
    rw (flat_length (added (suc m)) rest f) (let z : 1 * length rest ≤ length f * length rest = mul-le-mul_right (length rest) h in
    omega arith)

subst_nil : (a b : List Form) (w : ℕ) → length (substituted [] w a) ≤ length (substituted [] w b)
unfolding substituted
subst_nil a b w = le_refl 1

subst_empty : (cs : List ℕ) (m : ℕ) (ms : List ℕ) (w : ℕ) → length (substituted cs w []) ≤ length (substituted (m ∷ ms) w [])
unfolding substituted
subst_empty [] m ms w = le_refl 1
subst_empty (c ∷ cs) m ms w = le_refl 1

subst_last : (cs : List ℕ) (fs : List Form) (w : ℕ) → cs ≡ [] → substituted cs w fs ≡ constant_only w ∷ []
unfolding substituted
subst_last cs fs w e = rw e

only : (w : ℕ) → (constant_only w).constant ≡ w
unfolding constant_only
only w = refl

subst_grows : (cs : List ℕ) (fs : List Form) (w k : ℕ) → EachSome fs
    → length (substituted (drop k cs) w (drop k fs)) ≤ length (substituted cs w fs)
subst_grows cs fs w zero s = le_refl (length (substituted cs w fs))
subst_grows [] fs w (suc k) s = subst_nil (drop (suc k) fs) fs w
subst_grows (m ∷ ms) [] w (suc k) s = subst_empty (drop k ms) m ms w
subst_grows (m ∷ ms) (f ∷ fs) w (suc k) s =
    le_trans (subst_grows ms fs w k s.1)
    (le_trans (choices_grow m f (substituted ms w fs) s.0)
    (rw (subst_cons m ms w f fs) (le_refl (length (choices m f (substituted ms w fs))))))

choices_below : (c m₂ k₂ : ℕ) (form rest : Form) → c ≤ 15 → AllBounded 15 131072 form → AllBounded m₂ k₂ rest
    → AllBounded (m₂ + 225) (k₂ + 1966080) (choices c form rest)
unfolding choices
choices_below zero m₂ k₂ form rest h p q = below_more m₂ k₂ (m₂ + 225) (k₂ + 1966080) rest (omega arith) (omega arith) q
choices_below (suc c) m₂ k₂ form rest h p q =
    below_more (m₂ + suc c * 15) (k₂ + suc c * 131072) (m₂ + 225) (k₂ + 1966080) (flat_map (λ choice. map (added (suc c) choice) rest) form)
    (omega arith) (omega arith) (flat_below (suc c) 15 131072 m₂ k₂ rest form p q)

---- What the code's loop has: the arguments from t on are done

pub record Substituting (row : AlternativeRecord) (arguments : List code.Form) (t : ℕ) (rest : code.Form) : Type 0 where
  pub right : FormRight rest
  pub some : 0 < rest.count
  pub below : AllBounded (225 * (length arguments - t)) (65535 + 1966080 * (length arguments - t)) (form_in rest)
  pub same : form_in rest ≡ substituted (drop t (take (length arguments) row.coefficients)) row.constant (drop t (forms_in arguments))

module _ (row : AlternativeRecord) (arguments : List code.Form) (r : RowRight row) (a : ArgumentForms arguments) where
  abbrev n : ℕ
  n = length arguments

  cs_length : length (take n row.coefficients) ≡ n
  cs_length = let l = r.four in let f = a.few in length-take-le n row.coefficients (omega arith)

  arguments_length : length (forms_in arguments) ≡ n
  arguments_length = length-map arguments form_in

  argument_at : (i : ℕ) → i < n → get_or (forms_in arguments) i [] ≡ form_in (get_or arguments i no_form)
  argument_at i h = get_or-map form_in arguments i no_form

  arguments_some : EachSome (forms_in arguments)
  arguments_some =
      each_some (forms_in arguments)
      (λ i h. let l : i < n = rw arguments_length at h in let e = a.entries i l in let z =
      form_length (get_or arguments i no_form) e.right in let y = e.some in rw (argument_at i l) (omega arith))

  pub substituting_start : (x : code.Form) → FormRight x → x.count ≡ 1 → form_in x ≡ constant_only row.constant ∷ []
      → Substituting row arguments n x
  substituting_start x p c e =
      let z = r.constant in
      record {
        right = p;
        some = omega arith;
        below =
            rw e (◌l∷◌ {x = constant_only row.constant}
            (constant_wide row.constant, λ i. rw (constant_at row.constant i) zero-le, rw (only row.constant) (omega arith)) l[]);
        same =
            e ∙ sym (subst_last (drop n (take n row.coefficients)) (drop n (forms_in arguments)) row.constant
            (drop_of_length-le (take n row.coefficients) {i = n} (let z = cs_length in omega arith)));
      }

  module _ (k : ℕ) (rest : code.Form) (h : k < n) (p : Substituting row arguments (k + 1) rest) where
    step : substituted (drop k (take n row.coefficients)) row.constant (drop k (forms_in arguments))
        ≡ choices (get_or row.coefficients k 0) (form_in (get_or arguments k no_form)) (form_in rest)
    step =
        let c = cs_length in let l = arguments_length in
        subst_step (take n row.coefficients) (forms_in arguments) row.constant k (omega arith) (omega arith)
        ∙ rw (get_or-take n row.coefficients k 0 h, argument_at k h, ← add-one k)
        (ap (choices (get_or row.coefficients k 0) (form_in (get_or arguments k no_form))) (sym p.same))

    pub substituting_next : (x : code.Form)
        → Formed x (choices (get_or row.coefficients k 0) (form_in (get_or arguments k no_form)) (form_in rest))
        → Substituting row arguments k x
    substituting_next x q = record {
      right = q.right;
      some = q.some;
      below =
          rw q.same (below_more (225 * (n - (k + 1)) + 225) (65535 + 1966080 * (n - (k + 1)) + 1966080) (225 * (n - k))
          (65535 + 1966080 * (n - k)) (choices (get_or row.coefficients k 0) (form_in (get_or arguments k no_form)) (form_in rest))
          (omega arith) (omega arith)
          (choices_below (get_or row.coefficients k 0) (225 * (n - (k + 1))) (65535 + 1966080 * (n - (k + 1)))
          (form_in (get_or arguments k no_form)) (form_in rest) (r.small k) (a.entries k h).below p.below));
      same = q.same ∙ sym step;
    }

    pub substituting_many : 16 < length (choices (get_or row.coefficients k 0) (form_in (get_or arguments k no_form)) (form_in rest))
        → 16 < length (substituted (take n row.coefficients) row.constant (forms_in arguments))
    substituting_many g =
        let l = subst_grows (take n row.coefficients) (forms_in arguments) row.constant k arguments_some in
        let e = ap length step in omega arith

    -- an argument with coefficient 0 has no part
    pub substituting_skip : get_or row.coefficients k 0 ≡ 0 → Substituting row arguments k rest
    substituting_skip e =
        substituting_next rest (record {
          right = p.right;
          some = p.some;
          same = sym (choices_none (get_or row.coefficients k 0) (form_in (get_or arguments k no_form)) (form_in rest) e);
        })

  pub substituting_asks : (k : ℕ) (rest : code.Form) → k < n → Substituting row arguments (k + 1) rest
      → (get_or row.coefficients k 0 ≡ 0 → ⊥)
      → (get_or row.coefficients k 0 ≤ 15) × Entry (get_or arguments k no_form) × FormRight rest × (0 < rest.count)
      × AllBounded 32768 16777216 (form_in rest) × (0 < get_or row.coefficients k 0)
  substituting_asks k rest h p m =
      let f = a.few in (
        r.small k,
        a.entries k h,
        p.right,
        p.some,
        below_more (225 * (n - (k + 1))) (65535 + 1966080
            * (n - (k + 1))) 32768 16777216 (form_in rest) (omega arith) (omega arith) p.below,
        omega (arith, m),
      )

  -- one alternative into one
  module _ (k : ℕ) (rest : code.Form) (h : k < n) (p : Substituting row arguments (k + 1) rest) (m : get_or row.coefficients k 0 ≡ 0 → ⊥)
      (two : (get_or arguments k no_form).count + rest.count ≡ 2) where
    one : (get_or arguments k no_form).count ≡ 1
    one = omega (arith, (a.entries k h).some, p.some)

    single : rest.count ≡ 1
    single = omega (arith, (a.entries k h).some, p.some)

    pub substituting_one_asks : (get_or row.coefficients k 0 ≤ 15)
        × Bounded 15 131072 (get_or (get_or arguments k no_form).alternatives 0 no_alternative)
        × Bounded 32768 16777216 (get_or rest.alternatives 0 no_alternative)
    substituting_one_asks =
        let q = substituting_asks k rest h p m in
        (q.0, first_below (get_or arguments k no_form) q.1.right one q.1.below, first_below rest q.2 single q.4)

    pub substituting_one : {x : Alternative}
        → x ≡ added (get_or row.coefficients k 0) (get_or (get_or arguments k no_form).alternatives 0 no_alternative)
        (get_or rest.alternatives 0 no_alternative)
        → Substituting row arguments k (record { alternatives = set rest.alternatives 0 x; count = rest.count })
    substituting_one e =
        let q = substituting_asks k rest h p m in let b = substituting_one_asks in
        substituting_next k rest h p (record { alternatives = set rest.alternatives 0 _; count = rest.count })
        (one_made (get_or row.coefficients k 0) (get_or arguments k no_form) rest q.5 q.1 q.2 one single b.1.0 b.2.0
        e)
