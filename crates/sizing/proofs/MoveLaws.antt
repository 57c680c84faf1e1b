-- One step of the walk: what each way through it says of what is left.
use Rattle.std.specs.Prelude.{Option, Some, None, Ok, Err, IfSome}
use Rattle.std.specs.Option.{option_map}
use mathlib.Core.Path.{◌≡◌, refl, sym, ap, ◌∙◌}
use mathlib.Core.List.{List, [], ◌∷◌, ◌++◌}
use Prim.Native.Nat.{ℕ, suc, ◌+◌, ◌-◌, ◌≤◌, ◌<◌}
use native.Mathlib.Omega.{arith}
use native.Mathlib.Numerals.{add-one}
use lib.ListN.{length, get_or}
use Rattle.rules.specs.declared.answers.Reason.{Reason}
use Rattle.rules.specs.declared.answers.Reason.TheVariants.{TooManyForms}
use Rattle.rules.specs.declared.records.Declaration.{Declaration}
use Rattle.rules.specs.declared.records.Instruction.{Instruction}
use Rattle.rules.specs.declared.records.Instruction.TheVariants.{Load, Branch}
use Rattle.rules.specs.Base.{refusal, found, refused}
use Rattle.rules.specs.Container.{payload}
use Rattle.rules.specs.Program.{Constructor, Function, arity, constructor}
use Rattle.rules.specs.Records.{declaration_at, constructor_offset, program_in, function_in}
use Rattle.rules.specs.Walk.{Arrow, arriving, first}
use Rattle.rules.specs.Shapes.{Shape, shape_from, shape_rule}
use Rattle.rules.specs.Answers.{refusal_of}
use Rattle.rules.proofs.ListLaws.{some_inj}
use Rattle.sizing.specs.declared.paths.Saved.{Saved}
use Rattle.sizing.specs.declared.paths.Branched.{Branched}
use Rattle.sizing.specs.declared.routines.Routine.{Routine}
use Rattle.sizing.specs.States.{stack_in, splits_in, SameSplits}
use Rattle.sizing.specs.Right.{shape_in, SavedRight}
use Rattle.sizing.specs.Steps.{top_of, arrow_to, arrows_of, BranchAsks, SidesSay, Branching}
use Rattle.sizing.specs.Left.{left_from}
use Rattle.sizing.specs.Walking.{LineAsks, LineSays}
use Rattle.sizing.specs.Moves.{Fit, MoveAsks, LineMoveAsks, sent, StepSays}
use Rattle.sizing.proofs.WalkLaws.{outcome_refused, outcome_goes}
use Rattle.sizing.proofs.ChartLaws.{Branches}
use Rattle.sizing.proofs.ReachLaws.{at_low, at_load, at_branch, at_place}
use Rattle.sizing.proofs.FileLaws.{constructor_named, constructor_read}
use Rattle.sizing.proofs.ShapeLaws.{rule_from}
use Rattle.sizing.proofs.StepLaws.{load_saved, under_top, splitting_last}
use Rattle.sizing.proofs.StateLaws.{found_some}
use Rattle.sizing.proofs.StartLaws.{branch_room}
use Rattle.sizing.proofs.ShapeLaws.{splitting_right}

module _ {file : List ℕ} {g i : ℕ} {st : Saved} where
  -- nothing leaves
  said_stay : {on : ℕ} → i < on
      → ((arrows : List (Arrow Shape)) → first (arriving i arrows) ≡ Some (shape_in (function_in file g) st)
      → left_from (program_in file) g (function_in file g) i arrows ≡ left_from (program_in file) g (function_in file g) on arrows)
      → StepSays file g i st (Ok (record { next = None; other = None; on = on }))
  said_stay l h = record { left = h; lands = record { on = l; next = tt; other = tt } }

  said_refused : {why : Reason} → ((arrows : List (Arrow Shape)) → first (arriving i arrows) ≡ Some (shape_in (function_in file g) st)
      → left_from (program_in file) g (function_in file g) i arrows ≡ refused (refusal_of why))
      → StepSays file g i st (Err why)
  said_refused h = record { left = h; lands = tt }

---- A state arrives

module _ {file heads : List ℕ} {g i : ℕ} {st : Saved} {ins : Instruction} (a : MoveAsks file heads g i st ins) where
  rule : shape_rule (program_in file) g (function_in file g) i ins (shape_in (function_in file g) st)
      ≡ shape_from (program_in file) g (function_in file g) i ins (shape_in (function_in file g) st)
  rule =
      let r = a.fit.right in
      rule_from (program_in file) g (function_in file g) (splits_in st) st.count (stack_in st) r.path r.under i ins

  goes : (L : List (Arrow Shape)) → shape_from (program_in file) g (function_in file g) i ins (shape_in (function_in file g) st)
      ≡ found L
      → (arrows : List (Arrow Shape)) → first (arriving i arrows) ≡ Some (shape_in (function_in file g) st)
      → left_from (program_in file) g (function_in file g) i arrows ≡ left_from (program_in file) g (function_in file g) (i + 1)
      (L ++ arrows)
  goes L h arrows q =
      rw (add-one i) (outcome_goes (shape_rule (program_in file) g (function_in file g)) (function_in file g).code i arrows a.is
      (shape_in (function_in file g) st) L q (rule ∙ h))

  -- a return or a stop
  pub said_end : shape_from (program_in file) g (function_in file g) i ins (shape_in (function_in file g) st) ≡ found []
      → StepSays file g i st (Ok (record { next = None; other = None; on = i + 1 }))
  said_end h = said_stay (omega arith) (goes [] h)

---- A load

module _ {file heads : List ℕ} {g i : ℕ} {st : Saved} {v : ℕ} (a : MoveAsks file heads g i st (Load v)) where
  pub move_load_asks : (1 ≤ v) × (v ≤ st.height) × (st.height < 16) × (i + 1 ≤ 256)
  move_load_asks =
      let w = a.function.walking in let t = a.function.there in
      let y = at_load w t a.fit.at v a.is in
      let z = at_low w t y.2 in
      let p = at_place w t y.2 _ refl in
      (y.0, y.1, omega arith, omega (arith, p.2))

  pub said_load : (k : ℕ) → k ≡ v - 1 → (x : Saved) → SameSplits st x → x.height ≡ st.height + 1 → stack_in x ≡ stack_in st
      ++ (get_or (stack_in st) k 0 ∷ [])
      → StepSays file g i st (Ok (record { next = Some x; other = None; on = i + 1 }))
  said_load k e x q h s =
      let w = a.function.walking in let t = a.function.there in
      let y = at_load w t a.fit.at v a.is in
      let b = move_load_asks in
      let is : v ≡ suc k = omega (arith, b.0) in
      let r = load_saved (program_in file) g (function_in file g) st a.fit.right i k x (omega (arith, b.0, b.1)) b.2 q h s in
      record {
        left = goes a ((suc i, shape_in (function_in file g) x) ∷ [])
            (ap (λ (j : ℕ). shape_from (program_in file) g (function_in file g) i (Load j) (shape_in (function_in file g) st)) is ∙ r.0);
        lands = record {
          on = omega arith;
          next = (b.3, record { right = r.1; at = rw (h, add-one i) y.2 });
          other = tt;
        };
      }

---- A first build or call

module _ {file heads : List ℕ} {g : ℕ} {r : Routine} {i : ℕ} {st : Saved} (a : LineMoveAsks file heads g r i st) where
  pub line_move_asks : LineAsks file heads g r i st
  line_move_asks = record {
    walking = a.move.function.walking;
    there = a.move.function.there;
    routine = a.routine;
    at = a.move.fit.at;
    makes = λ ins e. rw (some_inj (sym a.move.is ∙ e)) at a.makes;
    right = a.move.fit.right;
  }

  pub said_line_end : {j : ℕ} → LineSays file g i st (Ok j) → StepSays file g i st (Ok (record { next = None; other = None; on = j }))
  said_line_end says = said_stay says.further says.left

  pub said_line_refused : {why : Reason} → LineSays file g i st (Err why) → StepSays file g i st (Err why)
  said_line_refused says = said_refused says.left

---- A branch

-- the same arrows, as the code has them
same_arrows : (f : Function) (i b : ℕ) (r : Branched) (arrows : List (Arrow Shape))
    → arrows_of f i b r ++ arrows ≡ arrow_to f (suc i) r.next (sent f (option_map (λ x. (b, x)) r.other) arrows)
same_arrows f i b r arrows = go r.next r.other
  where
    go : (v w : Option Saved) → arrow_to f (suc i) v (arrow_to f b w []) ++ arrows
        ≡ arrow_to f (suc i) v (sent f (option_map (λ x. (b, x)) w) arrows)
    go None None = refl
    go None (Some y) = refl
    go (Some x) None = refl
    go (Some x) (Some y) = refl

module _ {file heads : List ℕ} {g i : ℕ} {st : Saved} {c b : ℕ} (a : MoveAsks file heads g i st (Branch c b)) where
  reached : Branches (program_in file) g (function_in file g) i st.height c b
  reached = (at_branch a.function.walking a.function.there a.fit.at c b a.is).1

  pub move_constructor : constructor_offset c + 6 ≤ length (payload file)
  move_constructor =
      let w = a.function.walking in
      omega (arith, (w.records.there.constructor c (constructor_named w c reached.kind reached.known).0).0)

  pub move_short : i + 1 ≤ 256
  move_short = omega (arith, (at_place a.function.walking a.function.there reached.next _ refl).2)

  -- d: what is read of the constructor
  module _ {d : Declaration} (is : d ≡ declaration_at (payload file) (constructor_offset c)) where
    parts_is : d.arity ≡ length reached.kind.arguments
    parts_is =
        ap (λ (y : Declaration). y.arity) is
        ∙ sym (constructor_read a.function.walking c reached.kind reached.known).0

    pub move_branch_asks : BranchAsks st c d.arity
    move_branch_asks =
        let r = a.fit.right in let y = reached in let h = parts_is in
        let z = at_low a.function.walking a.function.there y.next in
        let o = y.some_stack in let u = r.list in let v = r.few in
        record {
          some = o;
          high = r.high;
          fits = omega arith;
          few = r.few;
          room = branch_room (program_in file) (function_in file g) st r (under_top (program_in file) g (function_in file g) st r o);
          long = r.long;
          list = r.list;
          count = r.path.few;
          each = λ p q e.
              let z = found_some (top_of st) (splits_in st) p q in
              let s = splitting_right (program_in file) z r.path.right in
              let l = splitting_last (arity (function_in file g)) st.count z r.path.numbered in
              let same : s.declared_as ≡ y.kind = some_inj (sym s.known ∙ ap (constructor (program_in file)) e ∙ y.known) in
              let n : p.parts ≡ d.arity = sym s.arity ∙ ap (λ (x : Constructor). length x.arguments) same ∙ sym parts_is in
              let m = r.path.few in
              (n, omega arith);
        }

    pub said_branch_large : Branching st c d.arity None
        → StepSays file g i st (Err (TooManyForms (record { function = g; instruction = i })))
    said_branch_large says =
        let h = says (program_in file) g (function_in file g) i b reached.kind a.fit.right reached.known parts_is in
        said_refused (λ arrows f. outcome_refused (shape_rule (program_in file) g (function_in file g)) (function_in file g).code i
        arrows
        a.is (shape_in (function_in file g) st) (refusal 9 g i) f (rule a ∙ h))

    -- r: what leaves it
    module _ {r : Branched} (says : Branching st c d.arity (Some r)) where
      said : SidesSay (program_in file) g (function_in file g) i b c d.arity st r
      said = says (program_in file) g (function_in file g) i b reached.kind a.fit.right reached.known parts_is

      lands_next : (o : Option Saved)
          → IfSome o (λ x. SavedRight (program_in file) (function_in file g) x × (x.height ≡ st.height - 1 + d.arity))
          → IfSome o (λ x. (i + 1 ≤ 256) × Fit file g (i + 1) x)
      lands_next None h = tt
      lands_next (Some x) h = (move_short, record { right = h.0; at = rw (h.1, parts_is, add-one i) reached.next })

      lands_other : (o : Option Saved) → IfSome o (λ x. SavedRight (program_in file) (function_in file g) x × (x.height ≡ st.height))
          → IfSome {T = ℕ × Saved} (option_map (λ x. (b, x)) o) (λ p. (i + 1 < p.0) × (p.0 ≤ 256) × Fit file g p.0 p.1)
      lands_other None h = tt
      lands_other (Some x) h =
          let l = at_place a.function.walking a.function.there reached.other _ refl in
          let u = reached.ahead in
          (omega arith, omega (arith, l.2), record { right = h.0; at = rw h.1 reached.other })

      pub said_branch : StepSays file g i st (Ok (record { next = r.next; other = option_map (λ x. (b, x)) r.other; on = i + 1 }))
      said_branch = record {
        left = λ arrows q. goes a (arrows_of (function_in file g) i b r) said.goes arrows q
            ∙ ap (left_from (program_in file) g (function_in file g) (i + 1)) (same_arrows (function_in file g) i b r arrows);
        lands = record { on = omega arith; next = lands_next r.next said.next; other = lands_other r.other said.other };
      }
