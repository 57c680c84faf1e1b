-- The first build or call on a path: variables become forms, all covered.
use mathlib.Core.Path.{◌≡◌, refl, sym, ap, ◌∙◌}
use mathlib.Core.List.{List, [], ◌∷◌, map, map-map}
use mathlib.Core.Logic.{inl}
use Prim.Native.Nat.{ℕ, zero, suc, ◌+◌, ◌*◌, ◌≤◌, ◌<◌}
use native.Mathlib.Omega.{arith}
use native.Mathlib.Nat.{zero-add}
use lib.ListN.{length, get_or, set, take, length-map, length-set}
use lib.Seq.{get_or-take, length-take-le, ext_get_or}
use Rattle.rules.specs.declared.records.Alternative.{Alternative}
use Rattle.rules.specs.Container.{payload}
use Rattle.rules.specs.Program.{Function, Program, arity}
use Rattle.rules.specs.Forms.{variable_only, form_of}
use Rattle.sizing.specs.declared.forms.Form.{Form}
use Rattle.sizing.specs.declared.splits.Split.{Split}
use Rattle.sizing.specs.declared.paths.Saved.{Saved}
use Rattle.sizing.specs.Put.{coefficient, put, AllBounded, widened}
use Rattle.rules.specs.Lists.{All}
use Rattle.sizing.specs.Splits.{variable_e, through, weight_in, split_a, carried, SplitRight, SplitsRight, Numbered, Tidy, Loose}
use Rattle.sizing.specs.Splits.{WeightThere, Carrying, no_split}
use Rattle.sizing.specs.States.{stack_in, splits_in}
use Rattle.rules.specs.Records.{alternative_of, program_in}
use Rattle.rules.proofs.ListLaws.{all_mapped, stored_each}
use Rattle.rules.proofs.NumberedLaws.{numbered_all}
use Rattle.sizing.specs.declared.bounds.Bound.{Bound}
use Rattle.sizing.specs.Forms.{form_in, no_form}
use Rattle.sizing.specs.Bounds.{rows_in, row_in, bound_in, BoundRight}
use Rattle.sizing.specs.Right.{own_at, shape_in, SavedRight, LineRight}
use Rattle.sizing.specs.Steps.{EntryAsks, EntryIs, FormsAre, own_row, OwnAsks, own_after, OwnIs}
use Rattle.sizing.proofs.SplitLaws.{form_through, numbered_le, split_at}
use Rattle.sizing.proofs.CodeLaws.{put_loose, loose_unit, loose_below}
use Rattle.sizing.proofs.OwnLaws.{own_through, own_rows, variable_form, wide_row, RowFits, widened_wide, widened_constant, widened_at}
use Rattle.sizing.proofs.ListLaws.{get_d_of_map, map_numbered, numbered_same}
use Rattle.sizing.proofs.StepLaws.{under_get}

-- the weight of every split's constructor can be read
abbrev pub Weights : List ℕ → Type 0
Weights file = (p : Split) → SplitRight (program_in file) p → WeightThere file p

carried_loose : {s : Program} → ((p : Split) → SplitRight s p → weight_in s p ≤ 255) → (ps : List Split) (n count k : ℕ) (a : Alternative)
    → SplitsRight s ps → Numbered n ps count → count ≤ 16 → Loose n k a → Loose count (k + 3825 * length ps) (carried s ps a)
unfolding carried
carried_loose light [] n count k a r h l t = let e : k + 3825 * 0 ≡ k = omega arith in rw (e, ← h) t
carried_loose {s} light (p ∷ ps) n count k a r h l t =
    let e : k + 3825 * suc (length ps) ≡ k + 3825 + 3825 * length ps = omega arith in
    let g = numbered_le ps (n + p.parts) count h.2 in
    rw e (carried_loose light ps (n + p.parts) count (k + 3825) (put p.variable (split_a s p) a) r.1 h.2 l
    (put_loose s n k a p t h.0 h.1 (omega arith) (light p r.0)))

row_tidy : (n : ℕ) (a : Alternative) → n ≤ 16 → RowFits n a → Tidy n 65535 (wide_row a)
row_tidy n a few r =
    let h = r.narrow in
    record {
      wide = widened_wide 0 a.coefficients a.constant;
      most = λ i. rw (at i) (r.small i);
      none = λ i l. at i ∙ beyond a.coefficients i (omega arith);
      constant = rw (widened_constant 0 a.coefficients a.constant) r.constant;
    }
  where
    at : (i : ℕ) → coefficient (widened 0 a.coefficients a.constant) i ≡ get_or a.coefficients i 0
    at i =
        ap (λ (j : ℕ). coefficient (widened 0 a.coefficients a.constant) j) (sym (zero-add i))
        ∙ (let h = r.narrow in widened_at 0 a.coefficients a.constant i (omega arith))

    beyond : (l : List ℕ) (i : ℕ) → length l ≤ i → get_or l i 0 ≡ 0
    beyond [] i h = refl
    beyond (x ∷ l) zero h = absurd (omega arith)
    beyond (x ∷ l) (suc i) h = beyond l i (omega arith)

-- the bound of a function with n parameters, whose rows are padded by zeros
pub record OwnBound (bytes : List ℕ) (n : ℕ) (b : Bound) : Type 0 where
  pub right : BoundRight bytes b
  pub fits : (k : ℕ) → k < (rows_in b) → RowFits n (alternative_of n (row_in bytes b k))
  pub padded : (k : ℕ) → k < (rows_in b) → own_row (row_in bytes b k) ≡ wide_row (alternative_of n (row_in bytes b k))

pub rows_fit : {bytes : List ℕ} {n : ℕ} {b : Bound} → OwnBound bytes n b → {bound : List Alternative} → bound_in bytes n b ≡ bound
    → All (RowFits n) bound
rows_fit {bytes} {n} {b} o is =
    rw (← is) (numbered_all (λ k. alternative_of n (row_in bytes b k)) (rows_in b) 0 (λ k l. rw (zero-add k) (o.fits k l)))

-- one more entry has its form
pub forms_next : {file : List ℕ} {st : Saved} {n : ℕ} {fs : List Form} {x : Form} → FormsAre file st n fs → n < 16
    → EntryIs file st n x → FormsAre file st (n + 1) (set fs n x)
forms_next {file} {st} {n} {fs} {x} a l e =
    let long = a.long in
    record { long = length-set fs n x ∙ a.long; each = stored_each no_form (EntryIs file st) fs n x (omega arith) a.each e }

module _ (file : List ℕ) (f : Function) (st : Saved) (r : SavedRight (program_in file) f st) (weights : Weights file) where
  abbrev s : Program
  s = program_in file

  splits_length : length (splits_in st) ≡ st.splits.taken
  splits_length = let a = r.list in let b = r.few in length-take-le st.splits.taken st.splits.list (omega arith)

  stack_length : length (stack_in st) ≡ st.height
  stack_length = let a = r.long in let b = r.high in length-take-le st.height st.stack (omega arith)

  -- what `carry` asks
  carrying_of : (a : Alternative) → Loose (arity f) 65535 a → Carrying file a st.splits.taken st.splits.list
  carrying_of a h =
      record {
        start = arity f;
        count = st.count;
        few = r.few;
        narrow = r.path.few;
        loose = h;
        numbered = r.path.numbered;
        long = r.list;
        weights =
            λ i l. let z = splits_length in
            rw (get_or-take st.splits.taken st.splits.list i no_split l)
            at (weights (get_or (splits_in st) i no_split) (split_at s (splits_in st) i (omega arith) r.path.right));
      }

  -- what is on the stack has come up
  come_up : (i : ℕ) → i < st.height → get_or st.stack i 0 < st.count
  come_up i h =
      let z = stack_length in
      rw (get_or-take st.height st.stack i 0 h) at (under_get st.count (stack_in st) i (omega arith) r.under)

  pub entry_asks : (i : ℕ) → i < st.height → EntryAsks file st i
  entry_asks i h =
      let high = r.high in
      let small : get_or st.stack i 0 < 16 = omega (arith, come_up i h, r.path.few) in
      record {
        place = omega arith;
        small = small;
        carrying = carrying_of (variable_only (get_or st.stack i 0)) (loose_unit (arity f) 65535 (get_or st.stack i 0) small);
      }

  form_at : (v : ℕ) → form_of s (through (splits_in st) (variable_e v)) ≡ carried s (splits_in st) (variable_only v) ∷ []
  form_at v = form_through s (splits_in st) r.path.right (variable_e v) ∙ ap (map (carried s (splits_in st))) (variable_form s v)

  -- the forms of the stack
  stack_same : (fs : List Form) → FormsAre file st st.height fs
      → map (form_of s) (map (λ v. through (splits_in st) (variable_e v)) (stack_in st)) ≡ map form_in (take st.height fs)
  stack_same fs a =
      ext_get_or [] (map (form_of s) (map (λ v. through (splits_in st) (variable_e v)) (stack_in st))) (map form_in (take st.height fs))
      (first ∙ sym second)
      (λ i l. let h : i < st.height = rw first at l in
      get_d_of_map (form_of s) (map (λ v. through (splits_in st) (variable_e v)) (stack_in st)) i (through (splits_in st) (variable_e 0)) []
      (let z = length-map (stack_in st) (λ v. through (splits_in st) (variable_e v)) in let y = stack_length in omega arith)
      ∙ ap (form_of s) (get_d_of_map (λ v. through (splits_in st) (variable_e v)) (stack_in st) i 0 (through (splits_in st) (variable_e 0))
      (let y = stack_length in omega arith))
      ∙ form_at (get_or (stack_in st) i 0)
      ∙ ap (λ (v : ℕ). carried s (splits_in st) (variable_only v) ∷ []) (get_or-take st.height st.stack i 0 h)
      ∙ sym (get_d_of_map form_in (take st.height fs) i no_form [] (let y = fs_length in omega arith)
      ∙ ap form_in (get_or-take st.height fs i no_form h) ∙ (a.each i h).same))
    where
      fs_length : length (take st.height fs) ≡ st.height
      fs_length = let l = a.long in let b = r.high in length-take-le st.height fs (omega arith)

      first : length (map (form_of s) (map (λ v. through (splits_in st) (variable_e v)) (stack_in st))) ≡ st.height
      first =
          length-map (map (λ v. through (splits_in st) (variable_e v)) (stack_in st)) (form_of s)
          ∙ length-map (stack_in st) (λ v. through (splits_in st) (variable_e v)) ∙ stack_length

      second : length (map form_in (take st.height fs)) ≡ st.height
      second = length-map (take st.height fs) form_in ∙ fs_length

  -- the function's own bound, as the code has it
  module _ (few : arity f ≤ 16) (b : Bound) (o : OwnBound (payload file) (arity f) b)
      (is : bound_in (payload file) (arity f) b ≡ f.bound) where
    pub own_asks : OwnAsks file b st.splits
    own_asks = record {
      bound = o.right;
      carrying =
          λ k h. carrying_of (own_row (row_in (payload file) b k))
          (rw (o.padded k h) (inl (row_tidy (arity f) (alternative_of (arity f) (row_in (payload file) b k)) few (o.fits k h))));
    }

    own_below : (bound : List Alternative) → All (RowFits (arity f)) bound
        → AllBounded 15 131072 (map (carried s (splits_in st)) (map wide_row bound))
    own_below bound w =
        let z = splits_length in let y = r.few in
        all_mapped (carried s (splits_in st)) (λ a h. h)
        (all_mapped wide_row
        (λ a h. loose_below st.count (65535 + 3825 * length (splits_in st)) 131072 (carried s (splits_in st) (wide_row a)) (omega arith)
        (carried_loose (λ p q. (weights p q).light) (splits_in st) (arity f) st.count 65535 (wide_row a) r.path.right
        r.path.numbered r.path.few (inl (row_tidy (arity f) a few h))))
        w)

    -- all entries are covered, and small
    pub converted : (fs : List Form) (own : Form) → FormsAre file st st.height fs
        → OwnIs file b st.splits own → LineRight s f (shape_in f st) own fs st.height
    converted fs own a w =
        record {
          bound = w.right;
          most = rw (own_is, own_rows s (arity f) f.bound (rows_fit o is)) (own_below f.bound (rows_fit o is));
          shaped = own_is ∙ sym (own_through s f (splits_in st) r.path.right);
          long = a.long;
          high = r.high;
          held = λ i h. record {
            right = (a.each i h).right;
            some = let z = (a.each i h).one in omega arith;
            covered = rw (own_is, (a.each i h).same) (r.path.covered (get_or st.stack i 0) (come_up i h));
          };
          same = stack_same fs a;
        }
      where
        own_is : form_in own ≡ map (carried s (splits_in st)) (own_at s f)
        own_is =
            w.same
            ∙ numbered_same (own_after file b st.splits)
            (λ k. carried s (splits_in st) (wide_row (alternative_of (arity f) (row_in (payload file) b k)))) (rows_in b)
            (λ k h. ap (carried s (splits_in st)) (o.padded k h))
            ∙ sym (map_numbered (λ a. carried s (splits_in st) (wide_row a)) (λ k. alternative_of (arity f) (row_in (payload file) b k))
            (rows_in b) 0)
            ∙ ap (map (λ a. carried s (splits_in st) (wide_row a))) is
            ∙ sym (map-map (carried s (splits_in st)) wide_row f.bound)
            ∙ ap (map (carried s (splits_in st))) (sym (own_rows s (arity f) f.bound (rows_fit o is)))
