-- A bound at forms, row by row.
use mathlib.Core.Path.{◌≡◌, sym, ap, ◌∙◌, subst}
use mathlib.Core.List.{List, ◌++◌}
use Rattle.std.specs.Prelude.{Option}
use Prim.Native.Nat.{ℕ, ◌+◌, ◌≤◌, ◌<◌}
use native.Mathlib.Omega.{arith}
use lib.ListN.{length, get_or, take, drop, length-append, take-append-drop}
use lib.Seq.{take_all}
use Rattle.rules.specs.declared.records.Alternative.{Alternative}
use Rattle.rules.specs.declared.records.AlternativeRecord.{AlternativeRecord}
use Rattle.rules.specs.Records.{alternative_of}
use Rattle.rules.specs.Forms.{Form, flat_map, substituted, into_bound}
use Rattle.rules.proofs.ListLaws.{get_d_element}
use Rattle.rules.proofs.NumberedLaws.{numbered_length, numbered_there}
use Rattle.sizing.specs.declared.bounds.Bound.{Bound}
use Rattle.sizing.specs.declared.forms.Form as code
use Rattle.sizing.specs.Put.{no_alternative}
use Rattle.sizing.specs.Forms.{form_in, FormRight, Formed, FormMade}
use Rattle.sizing.specs.Bounds.{rows_in, row_in, bound_in}
use Rattle.sizing.proofs.RightLaws.{form_length}
use Rattle.sizing.proofs.BuildLaws.{flat_next, flat_append}

-- what an alternative of a bound makes of the forms of n arguments
abbrev pub row_form : ℕ → AlternativeRecord → List Form → Form
row_form n row forms = substituted (take n row.coefficients) row.constant forms

pub record Joining (bytes : List ℕ) (n : ℕ) (b : Bound) (forms : List Form) (i : ℕ) (x : code.Form) : Type 0 where
  pub right : FormRight x
  pub some : 0 < i → 0 < x.count
  pub same : form_in x ≡ into_bound (take i (bound_in bytes n b)) forms

module _ (bytes : List ℕ) (n : ℕ) (b : Bound) where
  bound_length : length (bound_in bytes n b) ≡ (rows_in b)
  bound_length = numbered_length (λ k. alternative_of n (row_in bytes b k)) (rows_in b) 0

  bound_at : (i : ℕ) → i < (rows_in b) → get_or (bound_in bytes n b) i no_alternative ≡ alternative_of n (row_in bytes b i)
  bound_at i h =
      get_d_element no_alternative (bound_in bytes n b) i (numbered_there (λ k. alternative_of n (row_in bytes b k)) (rows_in b) i h)

  module _ (forms : List Form) where
    bound_next : (i : ℕ) → i < (rows_in b) → into_bound (take (i + 1) (bound_in bytes n b)) forms
        ≡ into_bound (take i (bound_in bytes n b)) forms ++ row_form n (row_in bytes b i) forms
    unfolding into_bound alternative_of
    bound_next i h =
        let l = bound_length in
        flat_next no_alternative (λ a. substituted a.coefficients a.constant forms) (bound_in bytes n b) i (omega arith)
        ∙ ap (λ (a : Alternative). into_bound (take i (bound_in bytes n b)) forms ++ substituted a.coefficients a.constant forms)
        (bound_at i h)

    bound_grows : (k : ℕ) → length (into_bound (take k (bound_in bytes n b)) forms) ≤ length (into_bound (bound_in bytes n b) forms)
    unfolding into_bound
    bound_grows k =
        let g : Alternative → Form = λ a. substituted a.coefficients a.constant forms in
        let e : flat_map g (bound_in bytes n b)
        ≡ flat_map g (take k (bound_in bytes n b)) ++ flat_map g (drop k (bound_in bytes n b)) =
        ap (flat_map g) (sym (take-append-drop k (bound_in bytes n b)))
        ∙ flat_append no_alternative g (take k (bound_in bytes n b)) (drop k (bound_in bytes n b)) in
        let l = ap length e ∙ length-append (flat_map g (take k (bound_in bytes n b))) (flat_map g (drop k (bound_in bytes n b))) in
        omega arith

    -- one row alone
    pub only_row : rows_in b ≡ 1 → (y : Option code.Form) → FormMade y (row_form n (row_in bytes b 0) forms)
        → FormMade y (into_bound (bound_in bytes n b) forms)
    unfolding into_bound flat_map
    only_row e y m =
        let l = bound_length in
        let t : take 1 (bound_in bytes n b) ≡ bound_in bytes n b = take_all 1 (bound_in bytes n b) (omega arith) in
        let is : into_bound (bound_in bytes n b) forms ≡ row_form n (row_in bytes b 0) forms =
        ap (λ (a : List Alternative). into_bound a forms) (sym t) ∙ bound_next 0 (omega arith) in
        subst (FormMade y) (sym is) m

    pub joining_start : (x : code.Form) → FormRight x → x.count ≡ 0 → Joining bytes n b forms 0 x
    unfolding into_bound flat_map
    joining_start x p e = record { right = p; some = λ z. absurd (omega arith); same = ap (λ (k : ℕ). take k x.alternatives) e }

module _ {bytes : List ℕ} {n : ℕ} {b : Bound} {forms : List Form} {i : ℕ} {x : code.Form} (j : Joining bytes n b forms i x) where
  module _ (h : i < rows_in b) where
    pub joining_many : 16 < length (row_form n (row_in bytes b i) forms) → 16 < length (into_bound (bound_in bytes n b) forms)
    joining_many g =
        let e = ap length (bound_next bytes n b forms i h)
        ∙ length-append (into_bound (take i (bound_in bytes n b)) forms) (row_form n (row_in bytes b i) forms) in
        let l = bound_grows bytes n b forms (i + 1) in
        omega arith

    module _ {y : code.Form} (m : Formed y (row_form n (row_in bytes b i) forms)) where
      pub joining_over : 16 < x.count + y.count → 16 < length (into_bound (bound_in bytes n b) forms)
      joining_over o =
          let e = ap length (bound_next bytes n b forms i h ∙ ap (λ (l : Form). l ++ row_form n (row_in bytes b i) forms) (sym j.same)
          ∙ ap (λ (l : Form). form_in x ++ l) (sym m.same))
          ∙ length-append (form_in x) (form_in y) in
          let a = form_length x j.right in
          let c = form_length y m.right in
          let l = bound_grows bytes n b forms (i + 1) in
          omega arith

      pub joining_next : (z : code.Form) → FormRight z → z.count ≡ x.count + y.count → form_in z ≡ form_in x ++ form_in y
          → Joining bytes n b forms (i + 1) z
      joining_next z p c e =
          record {
            right = p;
            some = λ g. omega (arith, m.some);
            same =
                e ∙ ap (λ (l : Form). l ++ form_in y) j.same
                ∙ ap (λ (l : Form). into_bound (take i (bound_in bytes n b)) forms ++ l) m.same ∙ sym (bound_next bytes n b forms i h);
          }

  pub joining_end : i ≡ rows_in b → 0 < rows_in b → Formed x (into_bound (bound_in bytes n b) forms)
  joining_end e s =
      let l = bound_length bytes n b in
      let t : take i (bound_in bytes n b) ≡ bound_in bytes n b = take_all i (bound_in bytes n b) (omega arith) in
      record { right = j.right; some = j.some (omega arith); same = j.same ∙ ap (λ (a : List Alternative). into_bound a forms) t }
