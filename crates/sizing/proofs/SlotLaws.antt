-- The slots of a function's walk: each holds the state that arrives first at its instruction.
use Rattle.std.specs.Prelude.{Option, Some, None, Result, Ok, Err, IfSome}
use mathlib.Core.Path.{◌≡◌, refl, sym, ap, ◌∙◌}
use mathlib.Core.List.{List, [], ◌∷◌, map, map-id}
use mathlib.Core.Bool.{Bool, true, false}
use Prim.Native.Nat.{ℕ, zero, suc, ◌+◌, ◌≤◌, ◌<◌}
use native.Mathlib.Omega.{arith}
use native.Mathlib.Numerals.{add-one}
use native.Mathlib.Nat.{le_trans}
use lib.ListN.{length, get_or, set, take, replicate, length-set, length-replicate, get_or-replicate}
use lib.Seq.{get_or-set_same, get_or-set_other}
use lib.Dec.{eqb}
use borrow.Author.Tests.{eqb-true, eqb-false}
use Rattle.rules.specs.declared.answers.Reason.{Reason}
use Rattle.rules.specs.Base.{refused, passed}
use Rattle.rules.specs.Container.{payload}
use Rattle.rules.specs.Program.{Function, arity}
use Rattle.rules.specs.Records.{head_offset, program_in, function_in}
use Rattle.rules.specs.Walk.{Arrow, arriving, first}
use Rattle.rules.specs.Expressions.{variables}
use Rattle.rules.specs.Shapes.{Shape, shape_rule, start_shape, sizes_of}
use Rattle.rules.specs.Answers.{refusal_of}
use Rattle.sizing.specs.declared.paths.Saved.{Saved}
use Rattle.sizing.specs.declared.routines.Routine.{Routine}
use Rattle.sizing.specs.declared.walk.Moved.{Moved}
use Rattle.sizing.specs.Splits.{variable_e, through}
use Rattle.sizing.specs.Right.{shape_in, AllUnder}
use Rattle.sizing.specs.Left.{left_from}
use Rattle.sizing.specs.Routines.{RoutineIs}
use Rattle.sizing.specs.Moves.{StartIs, Fit, FunctionAsks, StepAsks, standing, sent, leaving, move_left, StepSays}
use Rattle.sizing.proofs.WalkLaws.{first_put, outcome_end, outcome_skipped, walk_judged}
use Rattle.sizing.proofs.ReachLaws.{at_start}
use Rattle.sizing.proofs.FileLaws.{flow_right_lem, few_parameters, arity_is, code_length, code_at, here, parameter_counts, own_bound}
use Rattle.sizing.proofs.FileLaws.{bound_is}
use Rattle.sizing.proofs.ConvertLaws.{rows_fit}
use Rattle.sizing.proofs.StartLaws.{path_start}
use Rattle.rules.proofs.RuleLaws.{shape_among}

module _ (file : List ℕ) (g : ℕ) where
  -- what arrives first at each instruction from i on stands in its slot, and is right
  pub record SlotsStand (saved : List (Option Saved)) (arrows : List (Arrow Shape)) (i : ℕ) : Type 0 where
    pub long : length saved ≡ 258
    pub stands : (k : ℕ) → i ≤ k → k < 258 → first (arriving k arrows) ≡ standing (function_in file g) (get_or saved k None)
    pub fits : (k : ℕ) → i ≤ k → k < 258 → IfSome (get_or saved k None) (Fit file g k)

  -- a state in slot t, and an arrow there
  put_slot : (saved : List (Option Saved)) (arrows : List (Arrow Shape)) (i t : ℕ) (x : Saved) → Fit file g t x → t < 258
      → SlotsStand saved arrows i → SlotsStand (set saved t (Some x)) ((t, shape_in (function_in file g) x) ∷ arrows) i
  put_slot saved arrows i t x fit l s = record {
    long = length-set saved t (Some x) ∙ s.long;
    stands = λ k h b. at k h b (eqb k t) refl;
    fits = λ k h b. right k h b (eqb k t) refl;
  }
    where
      at : (k : ℕ) → i ≤ k → k < 258 → (q : Bool) → eqb k t ≡ q
          → first (arriving k ((t, shape_in (function_in file g) x) ∷ arrows))
          ≡ standing (function_in file g) (get_or (set saved t (Some x)) k None)
      at k h b true q =
          let n = s.long in
          first_put k t (shape_in (function_in file g) x) arrows
          ∙ rw (q, eqb-true k t q, get_or-set_same saved t (Some x) None (omega arith))
      at k h b false q =
          first_put k t (shape_in (function_in file g) x) arrows
          ∙ rw (q, get_or-set_other saved t k (Some x) None (eqb-false k t q)) (s.stands k h b)

      right : (k : ℕ) → i ≤ k → k < 258 → (q : Bool) → eqb k t ≡ q → IfSome (get_or (set saved t (Some x)) k None) (Fit file g k)
      right k h b true q = let n = s.long in rw (eqb-true k t q, get_or-set_same saved t (Some x) None (omega arith)) fit
      right k h b false q = rw (get_or-set_other saved t k (Some x) None (eqb-false k t q)) (s.fits k h b)

  later : (saved : List (Option Saved)) (arrows : List (Arrow Shape)) (i j : ℕ) → i ≤ j → SlotsStand saved arrows i
      → SlotsStand saved arrows j
  later saved arrows i j h s =
      record { long = s.long; stands = λ k l b. s.stands k (le_trans h l) b; fits = λ k l b. s.fits k (le_trans h l) b }

---- The start

numbers_start : (n : ℕ) → n ≤ 4 → map (λ v. variable_e v)
    (take n (0 ∷ 1 ∷ 2 ∷ 3 ∷ 4 ∷ 5 ∷ 6 ∷ 7 ∷ 8 ∷ 9 ∷ 10 ∷ 11 ∷ 12 ∷ 13 ∷ 14 ∷ 15 ∷ []))
    ≡ variables 0 n
unfolding variables
numbers_start zero h = refl
numbers_start (suc zero) h = refl
numbers_start (suc (suc zero)) h = refl
numbers_start (suc (suc (suc zero))) h = refl
numbers_start (suc (suc (suc (suc zero)))) h = refl
numbers_start (suc (suc (suc (suc (suc n))))) h = absurd (omega arith)

numbers_under : (n : ℕ) → n ≤ 4 → AllUnder n (take n (0 ∷ 1 ∷ 2 ∷ 3 ∷ 4 ∷ 5 ∷ 6 ∷ 7 ∷ 8 ∷ 9 ∷ 10 ∷ 11 ∷ 12 ∷ 13 ∷ 14 ∷ 15 ∷ []))
numbers_under zero h = tt
numbers_under (suc zero) h = (omega arith, tt)
numbers_under (suc (suc zero)) h = (omega arith, (omega arith, tt))
numbers_under (suc (suc (suc zero))) h = (omega arith, (omega arith, (omega arith, tt)))
numbers_under (suc (suc (suc (suc zero)))) h = (omega arith, (omega arith, (omega arith, (omega arith, tt))))
numbers_under (suc (suc (suc (suc (suc n))))) h = absurd (omega arith)

-- the code's first state stands for the first shape
start_shape_lem : (f : Function) (x : Saved) → arity f ≤ 4 → StartIs (arity f) x → shape_in f x ≡ start_shape f
unfolding start_shape through
start_shape_lem f x h s =
    let p : map (through []) (variables 0 (arity f)) ≡ variables 0 (arity f) = map-id (variables 0 (arity f)) in
    rw (s.taken, s.count, s.height, s.stack) (λ k. record {
      parameters = p k;
      count = arity f;
      stack = numbers_start
          (arity f) h k;
      bound = f.bound;
    })

module _ {file heads : List ℕ} {g : ℕ} (a : FunctionAsks file heads g) {r : Routine}
    (is : RoutineIs (payload file) (head_offset (payload file) g) r) where
  pub routine_few : r.arity ≤ 4
  routine_few = omega (arith, is.arity, (here a.walking g a.there).arity)

  routine_arity : r.arity ≡ arity (function_in file g)
  routine_arity = is.arity ∙ sym (arity_is a.walking g a.there)

  start_fit : (x : Saved) → StartIs r.arity x → Fit file g 1 x
  start_fit x s =
      let w = a.walking in let t = a.there in
      let e = routine_arity in
      let few = few_parameters w g t in
      let q : StartIs (arity (function_in file g)) x = rw e at s in
      record {
        right = record {
          path = rw (q.taken, q.count)
              (path_start (program_in file) (function_in file g) (le_trans few (omega arith))
              (rows_fit (own_bound w g t r.bound is.bound) (bound_is w g t r.bound is.bound))
              (parameter_counts w g t));
          under = rw (q.count, q.height, q.stack) (numbers_under (arity (function_in file g)) few);
          high = rw q.height (le_trans few (omega arith));
          long = ap length q.stack;
          few = rw q.taken (omega arith);
          list = q.list;
        };
        at = rw q.height (at_start w t);
      }

no_slots : (file : List ℕ) (g : ℕ) → SlotsStand file g (replicate 258 None) [] 1
unfolding arriving
no_slots file g = record {
  long = length-replicate {A = Option Saved} 258 None;
  stands = λ k h b. rw (get_or-replicate {A = Option Saved} 258 k None None b);
  fits = λ k h b. rw (get_or-replicate {A = Option Saved} 258 k None None b) tt;
}

---- The walk

-- what is left of the walk over function g from instruction i on
pub record Slots (file : List ℕ) (g : ℕ) (saved : List (Option Saved)) (i : ℕ) : Type 0 where
  pub arrows : List (Arrow Shape)
  pub whole : sizes_of (program_in file) g (function_in file g) ≡ left_from (program_in file) g (function_in file g) i arrows
  pub some_i : 1 ≤ i
  pub standing_in : SlotsStand file g saved arrows i

module _ {file heads : List ℕ} {g : ℕ} (a : FunctionAsks file heads g) {r : Routine}
    (is : RoutineIs (payload file) (head_offset (payload file) g) r) where
  pub slots_start : (x : Saved) → StartIs r.arity x → Slots file g (set (replicate 258 None) 1 (Some x)) 1
  unfolding sizes_of
  slots_start x s =
      let q : StartIs (arity (function_in file g)) x = rw (routine_arity a is) at s in
      record {
        arrows = (1, shape_in (function_in file g) x) ∷ [];
        whole = rw (start_shape_lem (function_in file g) x (few_parameters a.walking g a.there) q)
            (sym (walk_judged (shape_rule (program_in file) g (function_in file g)) (start_shape (function_in file g))
            (function_in file g).code
            (flow_right_lem a.walking g a.there).tree (shape_among (program_in file) g (function_in file g))));
        some_i = omega arith;
        standing_in = put_slot file g (replicate 258 None) [] 1 1 x (start_fit a is x s) (omega arith) (no_slots file g);
      }

  module _ {saved : List (Option Saved)} {i : ℕ} (s : Slots file g saved i) where
    pub slots_end : r.last < i → sizes_of (program_in file) g (function_in file g) ≡ passed
    slots_end h =
        s.whole ∙ outcome_end (shape_rule (program_in file) g (function_in file g)) (function_in file g).code i s.arrows
        (omega (arith, is.last, code_length a.walking g a.there))

    module _ (l : i ≤ r.last) where
      pub slots_low : i ≤ 256
      slots_low = omega (arith, is.last, (here a.walking g a.there).short_code)

      -- nothing arrives
      pub slots_skip : get_or saved i None ≡ None → Slots file g saved (i + 1)
      slots_skip e =
          let z = slots_low in
          let w = a.walking in let t = a.there in
          let c = code_at w g t i s.some_i (omega (arith, l, is.last, code_length w g t)) in
          record {
            arrows = s.arrows;
            whole = s.whole ∙ rw (add-one i) (outcome_skipped (shape_rule (program_in file) g (function_in file g))
                (function_in file g).code i s.arrows c.0 (s.standing_in.stands i (omega arith) (omega arith) ∙ rw e));
            some_i = omega arith;
            standing_in = later file g saved s.arrows i (i + 1) (omega arith) s.standing_in;
          }

      -- a state arrives
      module _ {st : Saved} (e : get_or saved i None ≡ Some st) where
        pub slots_asks : StepAsks file heads g r i st
        slots_asks = record {
          function = a;
          routine = is;
          some_i = s.some_i;
          fit = let z = slots_low in rw e at (s.standing_in.fits i (omega arith) (omega arith));
        }

        left : {t : Result Moved Reason} → StepSays file g i st t
            → sizes_of (program_in file) g (function_in file g) ≡ move_left file g i t s.arrows
        left says =
            let z = slots_low in
            s.whole ∙ says.left s.arrows (s.standing_in.stands i (omega arith) (omega arith) ∙ rw e)

        pub slots_refused : {why : Reason} → StepSays file g i st (Err why)
            → sizes_of (program_in file) g (function_in file g) ≡ refused (refusal_of why)
        slots_refused says = left says

        module _ {m : Moved} (says : StepSays file g i st (Ok m)) where
          pub slots_on : i < m.on
          slots_on = says.lands.on

          on_slots : {saved' : List (Option Saved)} → SlotsStand file g saved' (leaving (function_in file g) i m s.arrows) i
              → Slots file g saved' m.on
          on_slots {saved'} h =
              let o = slots_on in let p = s.some_i in
              record {
                arrows = leaving (function_in file g) i m s.arrows;
                whole = left says;
                some_i = omega arith;
                standing_in = later file g saved' (leaving (function_in file g) i m s.arrows) i m.on (omega arith) h;
              }

          -- the store for the else target, and then the one for the next instruction
          pub slots_sent : (t : ℕ) (x : Saved) → m.other ≡ Some (t, x)
              → (t < 258) × SlotsStand file g (set saved t (Some x)) (sent (function_in file g) m.other s.arrows) i
          slots_sent t x q =
              let l : (i + 1 < t) × (t ≤ 256) × Fit file g t x = rw q at says.lands.other in
              (omega (arith, l.1), rw q (put_slot file g saved s.arrows i t x l.2 (omega (arith, l.1)) s.standing_in))

          pub slots_none_sent : m.other ≡ None → SlotsStand file g saved (sent (function_in file g) m.other s.arrows) i
          slots_none_sent q = rw q s.standing_in

          module _ {saved' : List (Option Saved)} (h : SlotsStand file g saved' (sent (function_in file g) m.other s.arrows) i) where
            pub slots_next : (x : Saved) → m.next ≡ Some x → (i + 1 < 258) × Slots file g (set saved' (i + 1) (Some x)) m.on
            slots_next x q =
                let l : (i + 1 ≤ 256) × Fit file g (i + 1) x = rw q at says.lands.next in (
                  omega (arith, l.0),
                  on_slots (rw (q, ← add-one i)
                      (put_slot file g saved' (sent (function_in file g) m.other s.arrows) i (i + 1) x l.1 (omega (arith, l.0)) h)),
                )

            pub slots_past : m.next ≡ None → Slots file g saved' m.on
            slots_past q = on_slots (rw q h)
