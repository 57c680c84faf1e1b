-- The second storey of soundness: where sizes are right too, every entry on a frame's stack stands for its value, and no value passes the
-- bound at the arguments that its function was called with.
use Rattle.std.specs.Prelude.{if◌then◌else◌, Option, Some, slice_get}
use mathlib.Core.Path.{◌≡◌, refl, sym, ap, ◌∙◌}
use mathlib.Core.List.{List, [], ◌∷◌, ◌++◌, map}
use mathlib.Core.Bool.{Bool, true, false}
use Prim.Native.Nat.{ℕ, suc, ◌+◌, ◌≤◌}
use lib.ListN.{length, length-append}
use lib.Dec.{eqb}
use borrow.Author.Tests.{eqb-true, eqb-false}
use Rattle.rules.specs.declared.records.Instruction.{Instruction}
use Rattle.rules.specs.declared.records.Instruction.TheVariants.{Load, Build, Call, Branch, Return, Stop}
use Rattle.rules.specs.Base.{found}
use Rattle.rules.specs.Lists.{All, All2, a[], ◌a∷◌}
use Rattle.rules.specs.Program.{Constructor, Function, Program, arity, constructor, function}
use Rattle.rules.specs.Tree.{Trees, node, to_list, from_list, made}
use Rattle.rules.specs.Stacks.{slot, split, push}
use Rattle.rules.specs.Walk.{Arrow}
use Rattle.rules.specs.Expressions.{variable, known, built, called, Expression, variables}
use Rattle.rules.specs.Forms.{Form, form_of, into_bound, covers}
use Rattle.rules.specs.Shapes.{Shape, covered_at, with_stack, split_variable, branch_on, shape_from, shape_rule, start_shape}
use Rattle.rules.specs.Values.{size, sizes, Has, Typed}
use Rattle.rules.specs.Machine.{Value, Frame, onward, frame_at, current, execute}
use Rattle.rules.proofs.ListLaws.{some_inj, all2_length, all2_append, all2_slots, all2_splits, all2_maps, all_one, all_two, all_from}
use Rattle.rules.proofs.ListLaws.{all_last, all_true}
use Rattle.rules.proofs.MachineLaws.{all_top}
use Rattle.rules.proofs.FormLaws.{Under, into_over, covers_under}
use Rattle.rules.proofs.Models.{Light, to_from, Models, models_list, models_trees, models_under, called_under, models_over}
use Rattle.rules.proofs.Models.{models_replaced, models_fresh}
use Rattle.rules.proofs.WalkLaws.{LeadsOn}
use Rattle.rules.proofs.RuleLaws.{shape_covered, shape_load, shape_build, shape_call, shape_branch, branch_variable, branch_known}
use Rattle.rules.proofs.RuleLaws.{branch_built, branch_called}
use Rattle.rules.proofs.Progress.{Done, stays, calls, returns, stops}
use Rattle.rules.proofs.TypedSound.{Stands, TypedFn, FrameTyped, entered_typed, Finds, loads, builds, enters, forks, leaves, ends}
use Rattle.rules.proofs.TypedSound.{finding}

pub record SizedFn (s : Program) (n : ℕ) (f : Function) (sh : ℕ → Option Shape) : Type 0 where
  pub few : arity f ≤ 16
  pub shape_start : sh 1 ≡ Some (start_shape f)
  pub shape_on : Stands sh (shape_rule s n f) f.code
  pub shape_own : (i : ℕ) (x : Shape) → sh i ≡ Some x → x.bound ≡ f.bound

module _ (s : Program) (ty : ℕ → ℕ → Option (List ℕ)) (typed_fn : (n : ℕ) (f : Function) → function s n ≡ Some f → TypedFn s n f (ty n))
    (sh : ℕ → ℕ → Option Shape) (sized_fn : (n : ℕ) (f : Function) → function s n ≡ Some f → SizedFn s n f (sh n)) (light : Light s)
    (Lim : ℕ → Type 0) where
  -- a frame whose function was called with us: its entries, and the parameters' shapes, stand for its values, with values ρ for the
  -- variables
  pub record FrameSized (fr : Frame) (us : List Value) : Type 0 where
    pub f : Function
    pub at_f : function s fr.function ≡ Some f
    pub shape : Shape
    pub shape_at : sh fr.function fr.instruction ≡ Some shape
    pub ρ : List Value
    pub counted : length ρ ≡ shape.count
    pub wide : length ρ ≤ 16
    pub parameters : All2 (Models s ⊥ ρ) us shape.parameters
    pub entries : All2 (Models s (Unit {0}) ρ) fr.stack shape.stack
    pub limited : (n : ℕ) → Under (sizes s us) n f.bound → Lim n

  reshape : {fr : Frame} {us : List Value} (k : FrameSized fr us) (j : ℕ) {stack : List Value} {es : List Expression}
      → sh fr.function j ≡ Some (with_stack k.shape es) → All2 (Models s (Unit {0}) k.ρ) stack es
      → FrameSized (frame_at j fr stack) us
  reshape k j {es = es} e m = record {
    f = k.f;
    at_f = k.at_f;
    shape = with_stack k.shape es;
    shape_at = e;
    ρ = k.ρ;
    counted = k.counted;
    wide = k.wide;
    parameters = k.parameters;
    entries = m;
    limited = k.limited;
  }

  ---- Cover

  -- the own bound at the parameters' shapes
  abbrev own_form : Function → Shape → Form
  own_form f x = into_bound f.bound (map (form_of s) x.parameters)

  covered : (n i : ℕ) (f : Function) → function s n ≡ Some f → (x : Shape) → sh n i ≡ Some x
      → All (λ e. covers (own_form f x) (form_of s e) ≡ true) x.stack
  unfolding covered_at
  covered n i f e x h =
      let r = (sized_fn n f e).shape_on i x h in
      all_true (λ e. covers (own_form f x) (form_of s e)) (λ e w. w) x.stack
      (rw ((sized_fn n f e).shape_own i x h) at (shape_covered s n f i r.0 x r.3).0)

  -- the one argument about covers: where the own bound covers a form, what the form allows at the values of the variables the own bound
  -- allows at the arguments that the function was called with
  pub carries : {fr : Frame} {us : List Value} (k : FrameSized fr us) (form : Form) → covers (own_form k.f k.shape) form ≡ true
      → (n : ℕ) → Under (sizes s k.ρ) n form → Under (sizes s us) n k.f.bound
  carries k form c n u =
      into_over (sizes s k.ρ) k.f.bound n
      (all2_maps (size s) (form_of s) (λ v p h. models_over s light k.ρ k.wide p v h) k.parameters)
      (covers_under (sizes s k.ρ) n (own_form k.f k.shape) form c u)

  pub within : {fr : Frame} {us : List Value} (k : FrameSized fr us) → All (λ v. Under (sizes s us) (size s v) k.f.bound) fr.stack
  within {fr} k =
      all_from (λ v e m c. carries k (form_of s e) c (size s v) (models_under s light (Unit {0}) k.ρ k.wide e v m)) k.entries
      (covered fr.function fr.instruction k.f k.at_f k.shape k.shape_at)

  ---- A function that is called

  pub entered_sized : (g : ℕ) (G : Function) → function s g ≡ Some G → (vs : List Value) → length vs ≡ arity G
      → ((n : ℕ) → Under (sizes s vs) n G.bound → Lim n) → FrameSized (record { function = g; instruction = 1; stack = vs }) vs
  unfolding start_shape
  entered_sized g G e vs len l =
      let A = sized_fn g G e in
      record {
        f = G;
        at_f = e;
        shape = start_shape G;
        shape_at = A.shape_start;
        ρ = vs;
        counted = len;
        wide = rw len A.few;
        parameters = rw len at (models_fresh s {C = ⊥} [] vs);
        entries = rw len at (models_fresh s {C = Unit {0}} [] vs);
        limited = l;
      }

  ---- The instructions, over what they find

  -- a frame that is typed and sized, and a value of the result type within the bound
  abbrev pub GoodSized : Frame → List Value → Type 0
  GoodSized fr us = FrameTyped s ty typed_fn fr × FrameSized fr us

  abbrev pub GivesSized : ℕ → List Value → Value → Type 0
  GivesSized g us v = (G : Function) × (function s g ≡ Some G) × Has s v G.result × Under (sizes s us) (size s v) G.bound

  module _ {fr : Frame} {us : List Value} (k : FrameSized fr us) where
    abbrev i : ℕ
    i = fr.instruction

    abbrev n : ℕ
    n = fr.function

    -- what is known of the shapes at this instruction
    abbrev Shapes : Instruction → Type 0
    Shapes ins = (N : List (Arrow Shape)) × (shape_from s n k.f i ins k.shape ≡ found N) × All (LeadsOn (sh n)) N

    built_models : (c : ℕ) (K : Constructor) → constructor s c ≡ Some K → (args : List Value) → Typed s args K.arguments
        → {es : List Expression} → All2 (Models s (Unit {0}) k.ρ) args es
        → Models s (Unit {0}) k.ρ (made c args) (made (built c) es)
    built_models c K ck args h m = (
      from_list args,
      refl,
      K,
      ck,
      ap length (to_from args) ∙ all2_length h,
      rw (to_from args) (models_trees s m),
    )

    -- a variable with this constructor is split: its parts are values for fresh variables
    split_sized : (c : ℕ) (K : Constructor) → constructor s c ≡ Some K → (x : ℕ) (vs : Trees ℕ) → slice_get k.ρ x ≡ Some (node c vs)
        → Typed s (to_list vs) K.arguments → k.shape.count + length K.arguments ≤ 16 → (rest : List Value) (es : List Expression)
        → All2 (Models s (Unit {0}) k.ρ) rest es
        → sh n (suc i) ≡ Some (split_variable k.shape es x c (length K.arguments)) → FrameSized (onward fr (rest ++ to_list vs)) us
    unfolding split_variable
    split_sized c K ck x vs ax tv few rest es mr se =
        let len : length (to_list vs) ≡ length K.arguments = all2_length tv in
        let total : length (k.ρ ++ to_list vs) ≡ k.shape.count + length K.arguments =
        length-append k.ρ (to_list vs) ∙ rw (k.counted, len) in
        record {
          f = k.f;
          at_f = k.at_f;
          shape = split_variable k.shape es x c (length K.arguments);
          shape_at = se;
          ρ = k.ρ ++ to_list vs;
          counted = total;
          wide = rw total few;
          parameters = models_replaced s ⊥ k.ρ (to_list vs) x (node c vs) ax (made (known c) new) (is ⊥) k.parameters;
          entries =
              all2_append (models_replaced s (Unit {0}) k.ρ (to_list vs) x (node c vs) ax (made (known c) new) (is (Unit {0})) mr)
              (fresh (Unit {0}));
          limited = k.limited;
        }
      where
        new : List Expression
        new = variables k.shape.count (length K.arguments)

        fresh : (C : Type 0) → All2 (Models s C (k.ρ ++ to_list vs)) (to_list vs) (variables k.shape.count (length K.arguments))
        fresh C = rw (k.counted, all2_length tv) at (models_fresh s {C = C} k.ρ (to_list vs))

        is : (C : Type 0) → Models s C (k.ρ ++ to_list vs) (node c vs) (made (known c) (variables k.shape.count (length
            K.arguments)))
        is C = (vs, refl, K, ck, all2_length tv, models_trees s (fresh C))

    -- both sides of a branch, as far as they can be taken
    abbrev Sides : ℕ → ℕ → List Value → ℕ → Trees ℕ → Type 0
    Sides c b rest d vs = (d ≡ c → FrameSized (onward fr (rest ++ to_list vs)) us) × ((d ≡ c → ⊥) → FrameSized (frame_at b fr fr.stack) us)

    branch_sized : (c b : ℕ) (K : Constructor) → constructor s c ≡ Some K → (rest : List Value) (d : ℕ) (vs : Trees ℕ)
        → (d ≡ c → Typed s (to_list vs) K.arguments) → {p₀ p₁ : List Expression} {N : List (Arrow Shape)}
        → All2 (Models s (Unit {0}) k.ρ) rest p₀ → All2 (Models s (Unit {0}) k.ρ) (node d vs ∷ []) p₁
        → branch_on s n k.f i k.shape p₀ c (length K.arguments) b p₁ ≡ found N → All (LeadsOn (sh n)) N → Sides c b rest d vs
    branch_sized c b K ck rest d vs parts {p₀} m₀ (◌a∷◌ {y = node (variable x) ts} m a[]) e ms =
        let r = branch_variable s n k.f i k.shape p₀ c (length K.arguments) b x ts [] e in
        let on = all_two r.1 ms in (
          (λ q. split_sized c K ck x vs (rw q at m) (parts q) r.0 rest p₀ m₀ on.0),
          λ _. reshape k b on.1 k.entries,
        )
    branch_sized c b K ck rest d vs parts {p₀} m₀ (◌a∷◌ {y = node (known j) ts} m a[]) e ms =
        let eq : node d vs ≡ node j m.0 = m.1 in
        let dj : d ≡ j = cc in
        let vv : vs ≡ m.0 = cc in
        two (eqb d c) refl (models_list s ts (to_list m.0) m.5) vv
        (all_one (branch_known s n k.f i k.shape p₀ c (length K.arguments) b j ts [] e ∙ rw dj) ms)
      where
        two : (t : Bool) → eqb d c ≡ t → {ws : Trees ℕ} → All2 (Models s (Unit {0}) k.ρ) (to_list ws) (to_list ts) → vs ≡ ws
            → LeadsOn (sh n) (if t then (suc i, with_stack k.shape (p₀ ++ to_list ts)) else (b, k.shape))
            → (d ≡ c → FrameSized (onward fr (rest ++ to_list vs)) us) × ((d ≡ c → ⊥) → FrameSized (frame_at b fr fr.stack) us)
        two true w mt vv on = ((λ q. reshape k (suc i) on (all2_append m₀ (rw vv mt))), λ q. absurd (q (eqb-true d c w)))
        two false w mt vv on = ((λ q. absurd (eqb-false d c w q)), λ _. reshape k b on k.entries)
    branch_sized c b K ck rest d vs parts {p₀} m₀ (◌a∷◌ {y = node (built j) ts} m a[]) e ms =
        absurd (branch_built s n k.f i k.shape p₀ c (length K.arguments) b j ts [] e)
    branch_sized c b K ck rest d vs parts {p₀} m₀ (◌a∷◌ {y = node (called g) ts} m a[]) e ms =
        absurd (branch_called s n k.f i k.shape p₀ c (length K.arguments) b g ts [] e)

    -- the entry for a call's result, once the call is answered, and the limit for what is called
    call_sized : (g : ℕ) (G : Function) → function s g ≡ Some G → (rest args : List Value)
        → split (length G.parameters) fr.stack ≡ Some (rest, args) → Typed s args G.parameters → Shapes (Call g)
        → FrameSized (record { function = g; instruction = 1; stack = args }) args
        × ((v : Value) → Under (sizes s args) (size s v) G.bound → FrameSized (onward fr (push rest v)) us)
    call_sized g G eg rest args cut h (N, es, ms) =
        let e = shape_call s n k.f i g k.shape es in
        let same : e.0 ≡ G = some_inj (sym e.1 ∙ eg) in
        let p = all2_splits (length G.parameters) k.entries cut (rw same at e.3) in
        let entry : Expression = made (called g) e.2.1 in
        let next = all_one e.4 ms in
        let cover = all_last e.2.0 (covered n (suc i) k.f k.at_f (with_stack k.shape (push e.2.0 entry)) next) in
        let limit : (m : ℕ) → Under (sizes s args) m G.bound → Lim m =
        λ m u. k.limited m (carries k (form_of s entry) cover m
        (called_under s light (Unit {0}) k.ρ k.wide g G eg (from_list e.2.1) args (models_trees s p.1) m u)) in
        let models : (v : Value) → Under (sizes s args) (size s v) G.bound → Models s (Unit {0}) k.ρ v entry =
        λ v u. (args, tt, G, eg, u, models_trees s p.1) in (
          entered_sized g G eg args (all2_length h) limit,
          λ v u. reshape k (suc i) next (all2_append p.0 (models v u a∷ a[])),
        )

    -- a typed frame's instruction, with the shapes there
    does_one : (t : FrameTyped s ty typed_fn fr) (ins : Instruction) → Finds s ty typed_fn fr t.f ins → Shapes ins
        → Done s GoodSized GivesSized ins fr us
    unfolding execute
    does_one t (Load a) (loads v e k') (N, es, ms) =
        let r = shape_load s n k.f i a k.shape es in
        stays (suc i) (push fr.stack v) (λ others. rw e)
        (k', reshape k (suc i) (all_one r.2 ms) (all2_append k.entries (all2_slots a k.entries e r.1 a∷ a[])))
    does_one t (Build c) (builds K rest args ck e h k') (N, es, ms) =
        let r = shape_build s n k.f i c k.shape es in
        let same : r.0 ≡ K = some_inj (sym r.1 ∙ ck) in
        let p = all2_splits (length K.arguments) k.entries e (rw same at r.3) in
        stays (suc i) (push rest (made c args)) (λ others. rw (ck, e))
        (k', reshape k (suc i) (all_one r.4 ms) (all2_append p.0 (built_models c K ck args h p.1 a∷ a[])))
    does_one t (Call g) (enters G rest args eg e h again) shapes =
        let r = call_sized g G eg rest args e h shapes in
        calls g args G rest refl eg e (entered_typed s ty typed_fn g G eg args h, r.0) (λ v w.
        let same : w.0 ≡ G = some_inj (sym w.1 ∙ eg) in
        (again v (rw same at w.2), r.1 v (rw same at w.3)))
    does_one t (Branch c b) (forks K rest d vs ck e parts on off) (N, es, ms) =
        let r = shape_branch s n k.f i c b k.shape es in
        let same : r.0 ≡ K = some_inj (sym r.1 ∙ ck) in
        let p = all2_splits 1 k.entries e r.3 in
        two (eqb d c) refl (branch_sized c b K ck rest d vs parts p.0 p.1 (rw same at r.4) ms)
      where
        two : (x : Bool) → eqb d c ≡ x → Sides c b rest d vs → Done s GoodSized GivesSized (Branch c b) fr us
        two true w q = stays (suc i) (rest ++ to_list vs) (λ others. rw (e, w)) (on (eqb-true d c w), q.0 (eqb-true d c w))
        two false w q = stays b fr.stack (λ others. rw (e, w)) (off, q.1 (eqb-false d c w))
    does_one t Return (leaves v e h) shapes =
        let same : k.f ≡ t.f = some_inj (sym k.at_f ∙ t.at_f) in
        returns v refl e (t.f, t.at_f, h, rw same at (all_top e (within k)))
    does_one t Stop ends shapes = stops refl

  pub does_sized : (fr : Frame) (us : List Value) → GoodSized fr us → (ins : Instruction) × (current s fr ≡ Some ins)
      × Done s GoodSized GivesSized ins fr us
  does_sized fr us (t, k) =
      let d = finding s ty typed_fn t in
      let e = (sized_fn fr.function k.f k.at_f).shape_on fr.instruction k.shape k.shape_at in
      let same_f : t.f ≡ k.f = some_inj (sym t.at_f ∙ k.at_f) in
      let same : e.0 ≡ d.0 = some_inj (sym e.1 ∙ ap (λ (f : Function). slot fr.instruction f.code) (sym same_f) ∙ d.2) in
      let from = (shape_covered s fr.function k.f fr.instruction e.0 k.shape e.3).1 in
      (d.0, d.1, does_one k t d.0 d.3 (e.2, rw same at from, e.4))
