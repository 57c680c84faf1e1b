-- The straight line from a first build or call on: what is left of the walk stays the same from instruction to instruction.
use mathlib.Core.Path.{◌≡◌, refl, sym, ap, ◌∙◌}
use mathlib.Core.List.{List, [], ◌∷◌, append-nil}
use Rattle.std.specs.Prelude.{Some, None}
use mathlib.Core.Bool.{Bool, true, false}
use Prim.Native.Nat.{ℕ, zero, suc, ◌+◌, ◌-◌, ◌≤◌, ◌<◌}
use native.Mathlib.Omega.{arith}
use native.Mathlib.Numerals.{add-one}
use native.Mathlib.Nat.{le_trans, le_refl}
use lib.ListN.{length, get_or, set, take, replicate}
use borrow.Author.Tests.{eq-eqb}
use Rattle.rules.specs.declared.records.Alternative.{Alternative}
use Rattle.rules.specs.declared.records.Instruction.{Instruction}
use Rattle.rules.specs.declared.records.Instruction.TheVariants.{Load, Build, Call, Branch, Return, Stop}
use Rattle.rules.specs.Base.{refusal, found, refused, numbered}
use Rattle.rules.specs.Container.{payload}
use Rattle.rules.specs.Program.{Function, arity}
use Rattle.rules.specs.Records.{alternative_of, head_offset, program_in, function_in}
use Rattle.rules.specs.Stacks.{slot, push}
use Rattle.rules.specs.Walk.{Arrow, arriving, first}
use Rattle.rules.specs.Expressions.{Symbol, built, called}
use Rattle.rules.specs.Forms as forms
use Rattle.rules.specs.Forms.{form_of, flat_map, substituted, into_bound, covers}
use Rattle.rules.specs.Shapes.{Shape, with_stack, enter, shape_from, shape_rule}
use Rattle.rules.proofs.ListLaws.{false_true, none_some, some_inj}
use Rattle.sizing.specs.declared.forms.Form.{Form}
use Rattle.sizing.specs.declared.bounds.Bound.TheVariants.{Built}
use Rattle.sizing.specs.declared.paths.Saved.{Saved}
use Rattle.sizing.specs.declared.routines.Routine.{Routine}
use Rattle.sizing.specs.declared.routines.Maker.{Maker}
use Rattle.sizing.specs.Splits.{variable_e}
use Rattle.sizing.specs.Forms.{form_in, forms_in, Formed, no_form, ArgumentForms}
use Rattle.sizing.specs.Bounds.{row_in, bound_in, BoundRight}
use Rattle.sizing.specs.Right.{shape_in, LineRight}
use Rattle.sizing.specs.Steps.{EntryAsks, FormsAre, OwnAsks, OwnIs}
use Rattle.sizing.specs.Chart.{ReachedAt}
use Rattle.sizing.specs.Left.{left_from}
use Rattle.sizing.specs.Routines.{declared_bound, maker_in}
use Rattle.sizing.specs.Walking.{Makes, LineAsks}
use Rattle.sizing.proofs.WalkLaws.{alike_past, alike_here, alike_put, outcome_alike, outcome_refused, outcome_goes, first_put}
use Rattle.sizing.proofs.ReachLaws.{at_low, at_load, at_build, at_call, at_branch, at_some}
use Rattle.sizing.proofs.FileLaws.{constructor_read, light, weights, function_named, arity_is, few_parameters, bound_right, bound_is}
use Rattle.sizing.proofs.FileLaws.{own_bound}
use Rattle.sizing.proofs.ConvertLaws.{entry_asks, own_asks, converted}
use Rattle.sizing.proofs.LineLaws.{line_rule, line_entry, top, top_length, top_at, load_line, entered, entered_shape, enter_large}
use Rattle.sizing.proofs.LineLaws.{enter_goes, enter_line}
use Rattle.sizing.proofs.LineLaws.{enter_refused, build_form, call_form}

---- A build as a bound of one row

ones : (n : ℕ) → n ≤ 4 → take {A = ℕ} n (1 ∷ 1 ∷ 1 ∷ 1 ∷ []) ≡ replicate n 1
ones zero h = refl
ones (suc zero) h = refl
ones (suc (suc zero)) h = refl
ones (suc (suc (suc zero))) h = refl
ones (suc (suc (suc (suc zero)))) h = refl
ones (suc (suc (suc (suc (suc n))))) h = absurd (omega arith)

one_row : (bytes : List ℕ) (n w : ℕ) (fs : List forms.Form) → n ≤ 4
    → into_bound (bound_in bytes n (Built w)) fs ≡ substituted (replicate n 1) w fs
unfolding into_bound flat_map alternative_of numbered row_in
one_row bytes n w fs h =
    append-nil (substituted (take n (1 ∷ 1 ∷ 1 ∷ 1 ∷ [])) w fs) ∙ ap (λ (ms : List ℕ). substituted ms w fs) (ones n h)

one_right : (bytes : List ℕ) (w : ℕ) → w ≤ 255 → BoundRight bytes (Built w)
unfolding row_in
one_right bytes w h = record {
  some = omega arith;
  few = omega arith;
  there = λ k l. tt;
  each = λ k l. record { four = refl; small = small; constant = le_trans h (omega arith) };
}
  where
    small : (i : ℕ) → get_or {A = ℕ} (1 ∷ 1 ∷ 1 ∷ 1 ∷ []) i 0 ≤ 15
    small zero = omega arith
    small (suc zero) = omega arith
    small (suc (suc zero)) = omega arith
    small (suc (suc (suc zero))) = omega arith
    small (suc (suc (suc (suc i)))) = omega arith

---- The invariant

-- the line has come from a shape to instruction j
pub record LineGoes (file : List ℕ) (g start : ℕ) (from : Shape) (own : Form) (stack : List Form) (height j : ℕ) : Type 0 where
  pub shape : Shape
  pub line : LineRight (program_in file) (function_in file g) shape own stack height
  pub past : Bool
  pub at : ReachedAt (program_in file) g (function_in file g) j height past
  pub makes : past ≡ false → (ins : Instruction) → slot j (function_in file g).code ≡ Some ins → Makes ins
  pub behind : start ≤ j
  pub left : (arrows : List (Arrow Shape)) → first (arriving start arrows) ≡ Some from
      → left_from (program_in file) g (function_in file g) start arrows
      ≡ left_from (program_in file) g (function_in file g) j ((j, shape) ∷ arrows)

-- from every shape that the forms at the start stand for
abbrev pub Line : List ℕ → ℕ → ℕ → Form → List Form → ℕ → List Form → ℕ → ℕ → Type 0
Line file g start own stack₀ height₀ stack height j =
    (from : Shape) → LineRight (program_in file) (function_in file g) from own stack₀ height₀
    → LineGoes file g start from own stack height j

module _ {file heads : List ℕ} {g : ℕ} {r : Routine} {start : ℕ} {st : Saved} (a : LineAsks file heads g r start st) where
  ---- The start

  pub line_entry_asks : (i : ℕ) → i < st.height → EntryAsks file st i
  line_entry_asks = entry_asks file (function_in file g) st a.right (weights a.walking)

  pub line_own_asks : OwnAsks file r.bound st.splits
  line_own_asks = own_asks file (function_in file g) st a.right (weights a.walking)
      (le_trans (few_parameters a.walking g a.there) (omega arith)) r.bound
      (own_bound a.walking g a.there r.bound a.routine.bound)
      (bound_is a.walking g a.there r.bound a.routine.bound)

  -- where the code has the forms of all entries
  module _ {own : Form} {stack : List Form} {height : ℕ} (all : height ≡ st.height) where
    pub line_right_lem : OwnIs file r.bound st.splits own → FormsAre file st height stack
        → LineRight (program_in file) (function_in file g) (shape_in (function_in file g) st) own stack height
    line_right_lem o h =
        rw all (converted file (function_in file g) st a.right (weights a.walking)
        (le_trans (few_parameters a.walking g a.there) (omega arith)) r.bound
        (own_bound a.walking g a.there r.bound a.routine.bound)
        (bound_is a.walking g a.there r.bound a.routine.bound) stack own (rw all at h) o)

    pub line_start : Line file g start own stack height stack height start
    line_start from l = record {
      shape = from;
      line = l;
      past = false;
      at = rw all a.at;
      makes = λ _. a.makes;
      behind = le_refl start;
      left =
          λ arrows e. outcome_alike (shape_rule (program_in file) g (function_in file g)) (function_in file g).code start arrows
          ((start, from) ∷ arrows) (alike_here start from arrows e);
    }

  ---- At instruction j

  module _ {from : Shape} {own : Form} {stack : List Form} {height j : ℕ} (l : LineGoes file g start from own stack height j) where
    -- one arrow leaves, to the next instruction
    on : (ins : Instruction) (next : Shape) (arrows : List (Arrow Shape)) → slot j (function_in file g).code ≡ Some ins
        → shape_from (program_in file) g (function_in file g) j ins l.shape ≡ found ((suc j, next) ∷ [])
        → left_from (program_in file) g (function_in file g) j ((j, l.shape) ∷ arrows)
        ≡ left_from (program_in file) g (function_in file g) (suc j) ((suc j, next) ∷ arrows)
    on ins next arrows e h =
        outcome_goes (shape_rule (program_in file) g (function_in file g)) (function_in file g).code j ((j, l.shape) ∷ arrows) e l.shape
        ((suc j, next) ∷ []) (here_first arrows)
        (line_rule g l.line j ins ∙ h)
        ∙ outcome_alike (shape_rule (program_in file) g (function_in file g)) (function_in file g).code (suc j)
        ((suc j, next) ∷ (j, l.shape) ∷ arrows) ((suc j, next) ∷ arrows)
        (alike_put (suc j) (suc j) next ((j, l.shape) ∷ arrows) arrows (alike_past (suc j) j l.shape arrows (omega arith)))
      where
        here_first : (arrows : List (Arrow Shape)) → first (arriving j ((j, l.shape) ∷ arrows)) ≡ Some l.shape
        here_first arrows = first_put j j l.shape arrows ∙ rw (eq-eqb j j refl)

    -- the code's next number
    next_goes : (next : Shape) (stack' : List Form) (height' : ℕ) (p : Bool)
        → LineRight (program_in file) (function_in file g) next own stack' height'
        → ReachedAt (program_in file) g (function_in file g) (suc j) height' p → p ≡ true
        → ((arrows : List (Arrow Shape)) → left_from (program_in file) g (function_in file g) j ((j, l.shape) ∷ arrows)
        ≡ left_from (program_in file) g (function_in file g) (suc j) ((suc j, next) ∷ arrows))
        → LineGoes file g start from own stack' height' (j + 1)
    next_goes next stack' height' p r' y past-on h =
        let b = l.behind in
        rw (add-one j)
        (record {
          shape = next;
          line = r';
          past = p;
          at = y;
          makes = λ z. absurd (false_true (sym z ∙ past-on));
          behind = omega arith;
          left = λ arrows e. l.left arrows e ∙ h arrows;
        })

    ---- A load

    past_load : (x : ℕ) → slot j (function_in file g).code ≡ Some (Load x) → l.past ≡ true
    past_load x e = go l.past l.makes
      where
        go : (p : Bool) → (p ≡ false → (ins : Instruction) → slot j (function_in file g).code ≡ Some ins → Makes ins) → p ≡ true
        go true h = refl
        go false h = absurd (h refl (Load x) e)

    module _ (x : ℕ) (e : slot j (function_in file g).code ≡ Some (Load x)) where
      pub line_load_asks : (1 ≤ x) × (x ≤ height) × (height < 16)
      line_load_asks =
          let y = at_load a.walking a.there l.at x e in
          let z = at_low a.walking a.there y.2 in
          (y.0, y.1, omega arith)

      pub line_load : LineGoes file g start from own (set stack height (get_or stack (x - 1) no_form)) (height + 1) (j + 1)
      line_load =
          let q = line_load_asks in
          let y = at_load a.walking a.there l.at x e in
          let s : x ≡ suc (x - 1) = omega (arith, q.0) in
          let d = load_line g l.line j (x - 1) (variable_e 0) (omega (arith, q.0, q.1)) q.2 in
          next_goes (with_stack l.shape (push l.shape.stack (get_or l.shape.stack (x - 1) (variable_e 0))))
          (set stack height (get_or stack (x - 1) no_form)) (height + 1) l.past d.1 y.2 (past_load x e)
          (λ arrows. on (Load x) (with_stack l.shape (push l.shape.stack (get_or l.shape.stack (x - 1) (variable_e 0)))) arrows e
          (ap (λ (k : ℕ). shape_from (program_in file) g (function_in file g) j (Load k) l.shape) s ∙ d.0))

    ---- The end

    pub line_end : (ins : Instruction) → slot j (function_in file g).code ≡ Some ins → maker_in (payload file) ins ≡ None
        → ((x : ℕ) → ins ≡ Load x → ⊥)
        → ((arrows : List (Arrow Shape)) → first (arriving start arrows) ≡ Some from
        → left_from (program_in file) g (function_in file g) start arrows ≡ left_from (program_in file) g (function_in file g) (j + 1)
        arrows)
        × (start < j + 1)
    unfolding shape_from
    line_end ins e k other = ((λ arrows h. l.left arrows h ∙ ends ins e k other arrows), (let b = l.behind in omega arith))
      where
        stops : (ins : Instruction) → slot j (function_in file g).code ≡ Some ins
            → shape_from (program_in file) g (function_in file g) j ins l.shape ≡ found [] → (arrows : List (Arrow Shape))
            → left_from (program_in file) g (function_in file g) j ((j, l.shape) ∷ arrows)
            ≡ left_from (program_in file) g (function_in file g) (j + 1) arrows
        stops ins e h arrows =
            rw (add-one j)
            (outcome_goes (shape_rule (program_in file) g (function_in file g)) (function_in file g).code j ((j, l.shape) ∷ arrows) e
            l.shape [] (first_put j j l.shape arrows ∙ rw (eq-eqb j j refl))
            (line_rule g l.line j ins ∙ h)
            ∙ outcome_alike (shape_rule (program_in file) g (function_in file g)) (function_in file g).code (suc j) ((j, l.shape) ∷ arrows)
            arrows (alike_past (suc j) j l.shape arrows (omega arith)))

        ends : (ins : Instruction) → slot j (function_in file g).code ≡ Some ins → maker_in (payload file) ins ≡ None
            → ((x : ℕ) → ins ≡ Load x → ⊥) → (arrows : List (Arrow Shape))
            → left_from (program_in file) g (function_in file g) j ((j, l.shape) ∷ arrows)
            ≡ left_from (program_in file) g (function_in file g) (j + 1) arrows
        ends (Load x) e k other arrows = absurd (other x refl)
        ends (Build c) e k other arrows = none_some (sym k)
        ends (Call c) e k other arrows = none_some (sym k)
        ends (Branch c b) e k other arrows = absurd (l.makes (at_branch a.walking a.there l.at c b e).0 (Branch c b) e)
        ends Return e k other arrows = stops Return e refl arrows
        ends Stop e k other arrows = stops Stop e refl arrows

    ---- A build or a call

    pub record Making (ins : Instruction) (m : Maker) : Type 0 where
      pub few : m.arity ≤ 4
      pub high : m.arity ≤ height
      pub bound : BoundRight (payload file) m.bound
      pub symbol : Symbol
      pub rule : shape_from (program_in file) g (function_in file g) j ins l.shape
          ≡ enter (program_in file) g (function_in file g) j l.shape m.arity symbol
      pub form : form_of (program_in file) (entered g l.line m.arity symbol)
          ≡ into_bound (bound_in (payload file) m.arity m.bound) (forms_in (top g l.line m.arity))
      pub next : ReachedAt (program_in file) g (function_in file g) (suc j) (height - m.arity + 1) true

    pub line_making : (ins : Instruction) → slot j (function_in file g).code ≡ Some ins → (m : Maker) → maker_in (payload file) ins ≡ Some m
        → Making ins m
    unfolding shape_from
    line_making (Load x) e m k = none_some k
    line_making (Build c) e m k =
        let y = at_build a.walking a.there l.at c e in
        let q = constructor_read a.walking c y.0 y.1 in
        let n_is : m.arity ≡ length y.0.arguments = ap (λ (x : Maker). x.arity) (sym (some_inj k)) ∙ sym q.0 in
        let b_is : m.bound ≡ Built y.0.weight = ap (λ (x : Maker). x.bound) (sym (some_inj k)) ∙ ap Built (sym q.2) in
        rw (n_is, b_is) (record {
          few = q.1;
          high = y.2;
          bound = one_right (payload file) y.0.weight (light a.walking c y.0 y.1);
          symbol = built c;
          rule = rw y.1;
          form =
              build_form g l.line c y.0 y.1 y.2
              ∙ sym (one_row (payload file) (length y.0.arguments) y.0.weight _ q.1);
          next = y.3;
        })
    line_making (Call c) e m k =
        let y = at_call a.walking a.there l.at c e in
        let q = function_named a.walking c y.0 y.1 in
        let n_is : m.arity ≡ arity y.0 = ap (λ (x : Maker). x.arity) (sym (some_inj k))
        ∙ sym (ap (λ (h : Function). arity h) q.1 ∙ arity_is a.walking c q.0) in
        let d_is : m.bound ≡ declared_bound (payload file) (head_offset (payload file) c) = ap (λ (x : Maker). x.bound) (sym
        (some_inj k)) in
        let b_is : y.0.bound ≡ bound_in (payload file) (arity y.0) m.bound =
        ap (λ (h : Function). h.bound) q.1 ∙ sym (bound_is a.walking c q.0 m.bound d_is)
        ∙ ap (λ (h : Function). bound_in (payload file) (arity h) m.bound) (sym q.1) in
        rw n_is (record {
          few = rw q.1 (few_parameters a.walking c q.0);
          high = y.2;
          bound = bound_right a.walking c q.0 m.bound d_is;
          symbol = called c;
          rule = rw y.1;
          form = call_form g l.line c y.0 y.1 y.2
              ∙ ap (λ (b : List Alternative). into_bound b (forms_in (top g l.line (arity y.0)))) b_is;
          next = y.3;
        })
    line_making (Branch c b) e m k = none_some k
    line_making Return e m k = none_some k
    line_making Stop e m k = none_some k

    module _ (ins : Instruction) (is : slot j (function_in file g).code ≡ Some ins) (m : Maker) (k : Making ins m) where
      -- the arguments
      pub line_from : (height - m.arity < 16) × (height - m.arity ≤ height)
      line_from = let z = at_low a.walking a.there k.next in (omega arith, omega arith)

      pub line_arguments : ArgumentForms (top g l.line m.arity)
      line_arguments = record {
        few = rw (top_length g l.line m.arity k.high) k.few;
        entries = λ i h.
            let b : i < m.arity = rw (top_length g l.line m.arity k.high) at h in
            let v = k.high in
            rw (top_at g l.line m.arity i b v) (line_entry g l.line (height - m.arity + i) (omega arith));
      }

      -- what the code makes of them
      abbrev form_here : forms.Form
      form_here = into_bound (bound_in (payload file) (length (top g l.line m.arity)) m.bound) (forms_in (top g l.line m.arity))

      form_is : form_of (program_in file) (entered g l.line m.arity k.symbol) ≡ form_here
      form_is = rw (top_length g l.line m.arity k.high) k.form

      pub line_large : 16 < length form_here → (arrows : List (Arrow Shape)) → first (arriving start arrows) ≡ Some from
          → left_from (program_in file) g (function_in file g) start arrows ≡ refused (refusal 9 g j)
      line_large z arrows e =
          l.left arrows e
          ∙ outcome_refused (shape_rule (program_in file) g (function_in file g)) (function_in file g).code j ((j, l.shape) ∷ arrows) is
          l.shape (refusal 9 g j) (first_put j j l.shape arrows ∙ rw (eq-eqb j j refl))
          (line_rule g l.line j ins ∙ k.rule
          ∙ enter_large g l.line j m.arity k.symbol k.high _ form_is z)

      module _ (x : Form) (made : Formed x form_here) where
        goes : (arrows : List (Arrow Shape)) → left_from (program_in file) g (function_in file g) j ((j, l.shape) ∷ arrows)
            ≡ left_from (program_in file) g (function_in file g) (suc j) ((suc j, entered_shape g l.line m.arity k.symbol) ∷ arrows)
        goes arrows =
            on ins (entered_shape g l.line m.arity k.symbol) arrows is
            (k.rule ∙ enter_goes g l.line j m.arity k.symbol k.high _ form_is x made)

        pub line_uncovered : covers (form_in own) (form_in x) ≡ false → (arrows : List (Arrow Shape))
            → first (arriving start arrows) ≡ Some from
            → left_from (program_in file) g (function_in file g) start arrows ≡ refused (refusal 10 g (j + 1))
        line_uncovered z arrows e =
            let there = at_some a.walking a.there k.next in
            rw (add-one j)
            (l.left arrows e ∙ goes arrows
            ∙ outcome_refused (shape_rule (program_in file) g (function_in file g)) (function_in file g).code (suc j)
            ((suc j, entered_shape g l.line m.arity k.symbol) ∷ arrows) there.1
            (entered_shape g l.line m.arity k.symbol) (refusal 10 g (suc j))
            (first_put (suc j) (suc j) (entered_shape g l.line m.arity k.symbol) arrows ∙ rw (eq-eqb (suc j) (suc j) refl))
            (enter_refused g l.line j m.arity k.symbol k.high _ form_is x made z (suc j) there.0))

        pub line_made : covers (form_in own) (form_in x) ≡ true
            → LineGoes file g start from own (set stack (height - m.arity) x) (height - m.arity + 1) (j + 1)
        line_made z =
            next_goes (entered_shape g l.line m.arity k.symbol) (set stack (height - m.arity) x) (height - m.arity + 1) true
            (enter_line g l.line j m.arity k.symbol k.high _ form_is x made line_from.0 z) k.next refl goes
