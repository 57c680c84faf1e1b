-- The rules where the stack is forms: all are covered, and a load, a build and a call put one more on top.
use mathlib.Core.Path.{◌≡◌, refl, sym, ap, ◌∙◌}
use mathlib.Core.List.{List, [], ◌∷◌, ◌++◌, map, map-append}
use mathlib.Core.Bool.{Bool, true, false, ◌||◌}
use Rattle.std.specs.Prelude.{Some}
use Prim.Native.Nat.{ℕ, suc, ◌+◌, ◌-◌, ◌≤◌, ◌<◌}
use native.Mathlib.Omega.{arith}
use native.Mathlib.Nat.{le_trans}
use lib.ListN.{length-drop, length, get_or, set, take, drop, replicate, length-map, length-set}
use lib.Seq.{get_or-drop, get_or-take, length-take-le, take-take}
use borrow.Author.Tests.{le-leb, lt-leb}
use Rattle.rules.specs.declared.records.Alternative.{Alternative}
use Rattle.rules.specs.declared.records.Instruction.{Instruction}
use Rattle.rules.specs.declared.records.Instruction.TheVariants.{Load}
use Rattle.rules.specs.Lists.{l[], ◌l∷◌}
use Rattle.rules.specs.Base.{refusal, found, refused, all, any}
use Rattle.rules.specs.Program.{Constructor, Function, Program, arity, constructor, function}
use Rattle.rules.specs.Tree.{from_list, made}
use Rattle.rules.specs.Stacks.{split, push}
use Rattle.rules.specs.Expressions.{Symbol, built, called, Expression}
use Rattle.rules.specs.Forms as forms
use Rattle.rules.specs.Forms.{matches, covers, form_of, forms_of, substituted, into_bound, built_form, called_form}
use Rattle.rules.specs.Shapes.{Shape, with_stack, covered_at, enter, shape_from, shape_rule}
use Rattle.rules.proofs.ListLaws.{false_true, and_left, and_right, stored_each}
use Rattle.sizing.specs.declared.forms.Form.{Form}
use Rattle.sizing.specs.Put.{Wide, AllWide, Bounded, AllBounded}
use Rattle.sizing.specs.Forms.{form_in, forms_in, Entry, Formed, no_form}
use Rattle.sizing.specs.Right.{Held, LineRight}
use Rattle.sizing.proofs.ListLaws.{all_holds, all_last_fails, element_at, get_d_of_map, map_take, map_drop, drop_take, take_stored}
use Rattle.sizing.proofs.CoverLaws.{matches_under}
use Rattle.sizing.proofs.RightLaws.{form_length}

---- Covered forms are small

any_below : (m k : ℕ) (a : Alternative) (bound : forms.Form) → Wide a → AllBounded m k bound → any (matches a) bound ≡ true → Bounded m k a
any_below m k a [] w p e = absurd (false_true e)
any_below m k a (b ∷ bound) w (p l∷ ps) e = go (λ g. any_below m k a bound w ps g) (matches a b) refl e
  where
    go : (any (matches a) bound ≡ true → Bounded m k a) → (t : Bool) → matches a b ≡ t → (t || any (matches a) bound) ≡ true → Bounded m k a
    go ih true h e = let u = matches_under a b h in (w, λ i. le_trans (u.each i) (p.1 i), le_trans u.constant p.2)
    go ih false h e = ih e

-- this is why sums fit: what is covered has coefficients of at most 15
covered_below : (m k : ℕ) (bound form : forms.Form) → AllBounded m k bound → AllWide form → covers bound form ≡ true → AllBounded m k form
unfolding covers
covered_below m k bound [] p w e = l[]
covered_below m k bound (a ∷ form) p (w l∷ ws) e =
    any_below m k a bound w p (and_left (any (matches a) bound) (covers bound form) e) l∷ covered_below m k bound form p ws
    (and_right (any (matches a) bound) (covers bound form) e)

forms_list : (s : Program) (xs : List Expression) → forms_of s (from_list xs) ≡ map (form_of s) xs
unfolding form_of forms_of
forms_list s [] = refl
forms_list s (x ∷ xs) = ap (λ (l : List forms.Form). form_of s x ∷ l) (forms_list s xs)

---- The rules

module _ {s : Program} (n : ℕ) {f : Function} {sh : Shape} {own : Form} {stack : List Form} {height : ℕ}
    (r : LineRight s f sh own stack height) where
  taken_length : length (take height stack) ≡ height
  taken_length = let a = r.long in let b = r.high in length-take-le height stack (omega arith)

  stack_length : length sh.stack ≡ height
  stack_length = sym (length-map sh.stack (form_of s)) ∙ ap length r.same ∙ length-map (take height stack) form_in ∙ taken_length

  form_is : (i : ℕ) (d : Expression) → i < height → form_of s (get_or sh.stack i d) ≡ form_in (get_or stack i no_form)
  form_is i d h =
      let z = stack_length in let y = taken_length in
      sym (get_d_of_map (form_of s) sh.stack i d [] (omega arith)) ∙ ap (λ (l : List forms.Form). get_or l i []) r.same
      ∙ get_d_of_map form_in (take height stack) i no_form [] (omega arith) ∙ ap form_in (get_or-take height stack i no_form h)

  -- nothing is refused by 10
  covered : covered_at s sh ≡ true
  unfolding covered_at
  covered =
      rw (← r.shaped) (go sh.stack (λ i h d. let l : i < height = rw stack_length at h in rw (form_is i d l) (r.held i l).covered))
    where
      go : (es : List Expression) → ((i : ℕ) → i < length es → (d : Expression) → covers (form_in own) (form_of s (get_or es i d)) ≡ true)
          → all (λ e. covers (form_in own) (form_of s e)) es ≡ true
      go [] h = refl
      go (e ∷ es) h = all_holds (λ e. covers (form_in own) (form_of s e)) e (e ∷ es) (λ i l. h i l e)

  pub line_rule : (i : ℕ) (ins : Instruction) → shape_rule s n f i ins sh ≡ shape_from s n f i ins sh
  unfolding shape_rule
  line_rule i ins = rw covered

  -- what is covered can be an argument
  pub line_entry : (i : ℕ) → i < height → Entry (get_or stack i no_form)
  line_entry i l =
      let h = r.held i l in
      record {
        right = h.right;
        some = h.some;
        below = covered_below 15 131072 (form_in own) (form_in (get_or stack i no_form)) r.most h.right.wide h.covered;
      }

  -- es stands for the lowest b entries, and e, whose form is x, comes on top of them
  module _ (es : List Expression) (e : Expression) (b : ℕ) (x : Form) (is : form_of s e ≡ form_in x) where
    pushed : b ≤ height → b < 16 → map (form_of s) es ≡ map form_in (take b stack) → Held own x
        → LineRight s f (with_stack sh (push es e)) own (set stack b x) (b + 1)
    pushed h l low k =
        let a = r.long in
        record {
          bound = r.bound;
          most = r.most;
          shaped = r.shaped;
          long = length-set stack b x ∙ r.long;
          high = omega arith;
          held = stored_each no_form (λ _ y. Held own y) stack b x (omega arith) (λ j g. r.held j (omega arith)) k;
          same = map-append (form_of s) es (e ∷ [])
              ∙ ap (λ (l : List forms.Form). l ++ (form_of s e ∷ [])) low
              ∙ ap (λ (y : forms.Form). map form_in (take b stack) ++ (y ∷ [])) is
              ∙ sym (map-append form_in (take b stack) (x ∷ []))
              ∙ ap (map form_in) (sym (take_stored stack (take b stack) b x (omega arith) refl));
        }

    -- what is not covered is refused where it arrives
    uncovered : covers (form_in own) (form_in x) ≡ false → (i : ℕ) (ins : Instruction)
        → shape_rule s n f i ins (with_stack sh (push es e)) ≡ refused (refusal 10 n i)
    unfolding shape_rule covered_at
    uncovered z i ins = rw (← r.shaped, all_last_fails (λ e. covers (form_in own) (form_of s e)) es e (rw is z))

  -- load
  pub load_line : (i k : ℕ) (d : Expression) → k < height → height < 16
      → (shape_from s n f i (Load (suc k)) sh ≡ found ((suc i, with_stack sh (push sh.stack (get_or sh.stack k d))) ∷ []))
      × LineRight s f (with_stack sh (push sh.stack (get_or sh.stack k d))) own (set stack height (get_or stack k no_form)) (height + 1)
  unfolding shape_from
  load_line i k d h l =
      let z = stack_length in (
        rw (element_at d sh.stack k (omega arith)),
        pushed sh.stack (get_or sh.stack k d) height (get_or stack k no_form) (form_is k d
            h) (omega arith) l r.same (r.held k h),
      )

  -- the top m entries
  abbrev pub top : ℕ → List Form
  top m = take (height - (height - m)) (drop (height - m) stack)

  pub top_length : (m : ℕ) → m ≤ height → length (top m) ≡ m
  top_length m h =
      let a = r.long in let b = r.high in
      let d = length-drop (height - m) stack in
      length-take-le (height - (height - m)) (drop (height - m) stack) (omega arith) ∙ omega arith

  pub top_at : (m i : ℕ) → i < m → m ≤ height → get_or (top m) i no_form ≡ get_or stack (height - m + i) no_form
  top_at m i l h =
      get_or-take (height - (height - m)) (drop (height - m) stack) i no_form (omega arith) ∙ get_or-drop (height - m) stack i no_form

  -- the forms of the top m entries, and of those below
  arguments_are : (m : ℕ) → m ≤ height → map (form_of s) (drop (length sh.stack - m) sh.stack) ≡ forms_in (top m)
  arguments_are m h =
      let e : height ≡ height - m + (height - (height - m)) = omega arith in
      map_drop (form_of s) (length sh.stack - m) sh.stack
      ∙ ap (λ (j : ℕ). drop (j - m) (map (form_of s) sh.stack)) stack_length
      ∙ ap (drop (height - m)) r.same
      ∙ sym (map_drop form_in (height - m) (take height stack))
      ∙ ap (λ (j : ℕ). map form_in (drop (height - m) (take j stack))) e
      ∙ ap (map form_in) (drop_take (height - m) (height - (height - m)) stack)

  rest_are : (m : ℕ) → map (form_of s) (take (length sh.stack - m) sh.stack) ≡ map form_in (take (height - m) stack)
  rest_are m =
      map_take (form_of s) (length sh.stack - m) sh.stack
      ∙ ap (λ (j : ℕ). take (j - m) (map (form_of s) sh.stack)) stack_length
      ∙ ap (take (height - m)) r.same
      ∙ sym (map_take form_in (height - m) (take height stack))
      ∙ ap (map form_in) (take-take (height - m) height stack (omega arith))

  split_is : (m : ℕ) → m ≤ height → split m sh.stack
      ≡ Some (take (length sh.stack - m) sh.stack, drop (length sh.stack - m) sh.stack)
  unfolding split
  split_is m h = let z = stack_length in rw (le-leb m (length sh.stack) (omega arith))

  -- a symbol over the top m entries
  abbrev pub entered : ℕ → Symbol → Expression
  entered m symbol = made symbol (drop (length sh.stack - m) sh.stack)

  abbrev pub entered_shape : ℕ → Symbol → Shape
  entered_shape m symbol = with_stack sh (push (take (length sh.stack - m) sh.stack) (entered m symbol))

  -- a build or a call: form is the form of the new entry, x what the code made of it
  module _ (i m : ℕ) (symbol : Symbol) (h : m ≤ height) (form : forms.Form) (is : form_of s (entered m symbol) ≡ form) where
    pub enter_large : 16 < length form → enter s n f i sh m symbol ≡ refused (refusal 9 n i)
    unfolding enter
    enter_large g = rw (split_is m h, is, lt-leb (length form) 16 g)

    module _ (x : Form) (mk : Formed x form) where
      pub enter_goes : enter s n f i sh m symbol ≡ found ((suc i, entered_shape m symbol) ∷ [])
      unfolding enter
      enter_goes =
          let e = form_length x mk.right in
          let g : length form ≤ 16 = let a = ap length mk.same in let b = mk.right.few in omega arith in
          rw (split_is m h, is, le-leb (length form) 16 g)

      pub enter_line : height - m < 16 → covers (form_in own) (form_in x) ≡ true
          → LineRight s f (entered_shape m symbol) own (set stack (height - m) x) (height - m + 1)
      enter_line l c =
          pushed (take (length sh.stack - m) sh.stack) (entered m symbol) (height - m) x (is ∙ sym mk.same) (omega arith) l (rest_are m)
          (record { right = mk.right; some = mk.some; covered = c })

      pub enter_refused : covers (form_in own) (form_in x) ≡ false → (j : ℕ) (ins : Instruction)
          → shape_rule s n f j ins (entered_shape m symbol) ≡ refused (refusal 10 n j)
      enter_refused c j ins =
          uncovered (take (length sh.stack - m) sh.stack) (entered m symbol) (height - m) x (is ∙ sym mk.same) c j ins

  -- the form of a build, and of a call
  pub build_form : (c : ℕ) (k : Constructor) → constructor s c ≡ Some k → length k.arguments ≤ height
      → form_of s (entered (length k.arguments) (built c))
      ≡ substituted (replicate (length k.arguments) 1) k.weight (forms_in (top (length k.arguments)))
  unfolding form_of forms_of built_form
  build_form c k e h =
      rw e (ap (substituted (replicate (length k.arguments) 1) k.weight)
      (forms_list s (drop (length sh.stack - length k.arguments) sh.stack) ∙ arguments_are (length k.arguments) h))

  pub call_form : (g : ℕ) (k : Function) → function s g ≡ Some k → arity k ≤ height
      → form_of s (entered (arity k) (called g)) ≡ into_bound k.bound (forms_in (top (arity k)))
  unfolding form_of forms_of called_form
  call_form g k e h =
      rw e (ap (into_bound k.bound) (forms_list s (drop (length sh.stack - arity k) sh.stack) ∙ arguments_are (arity k) h))
