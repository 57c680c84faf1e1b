-- Laws of the flow pass over a function: what a slot holds of the paths that have arrived.
use Rattle.std.specs.Prelude.{if◌then◌else◌}
use mathlib.Core.Path.{◌≡◌, refl, sym, ap, ◌∙◌, subst}
use mathlib.Core.List.{List, [], ◌∷◌}
use Rattle.std.specs.Prelude.{Option, None, Some}
use mathlib.Core.Bool.{Bool, true, false, ◌&&◌}
use Prim.Native.Nat.{ℕ, zero, suc, ◌+◌, ◌-◌, ◌≤◌, ◌<◌}
use native.Mathlib.Omega.{arith}
use native.Mathlib.Nat.{zero-add, add-zero, not-suc-le-zero}
use native.Mathlib.Numerals.{add-one}
use lib.ListN.{length, take, get_or, set, replicate, length-set, get_or-replicate}
use lib.Seq.{get_or-set_same, get_or-set_other}
use lib.Dec.{eqb}
use borrow.Author.Tests.{ne_eqb, eqb-true, eqb-false}
use Rattle.rules.specs.declared.records.Instruction.{Instruction}
use Rattle.rules.specs.Base.{refused, refusal, Check, passed, require, for_each, found}
use Rattle.rules.specs.Lists.{All, l[], ◌l∷◌}
use Rattle.rules.specs.Records.{or_else, function_of}
use Rattle.rules.specs.Stacks.{slot}
use Rattle.rules.specs.Walk.{targets, hits, sources, first, arriving_from, arrivals, Arrow, arriving, root_at}
use Rattle.rules.specs.FlowRules.{Leads}
use Rattle.rules.specs.Flow.{passing, leaves_right, arrives_right, past_at, flow_rule, flow_of}
use Rattle.program.specs.declared.code.Code.{Code}
use Rattle.flow.specs.declared.Arrivals.{Arrivals}
use Rattle.flow.specs.declared.Arrivals.TheVariants.{Nothing, One}
use Rattle.flow.specs.declared.FlowStep.{FlowStep}
use Rattle.flow.specs.declared.FlowStep.TheVariants.{Ends, Next, Both}
use Rattle.flow.specs.FlowSteps.{Waits, nothing, one, several, join_of, arrows_of, Within, FlowSays}
use Rattle.rules.proofs.ListLaws.{some_inj, false_true, and_left}
use Rattle.rules.proofs.PassLaws.{Passing, pass_first, pass_stop, pass_next, pass_end}
use Rattle.rules.proofs.RuleLaws.{passing_all}
use Rattle.rules.proofs.WalkLaws.{origin_leads, origin_next, origin_before, sources_more}
use Rattle.rules.proofs.WalkingLaws.{so_far, so_far_here, so_far_start, so_far_other, so_far_new}
use Rattle.program.proofs.CodeLaws.{code_at, CodeThere, code_short, code_length, code_slot, code_along}

---- What a slot holds

-- where one has arrived, there is its state
waits_state : {a : Arrivals} {n : ℕ} {o : Option Bool} → Waits a n o → eqb n 1 ≡ true → o ≡ Some (or_else o false)
waits_state nothing e = absurd (false_true e)
waits_state one e = refl
waits_state (several {n} l) e = absurd (omega (arith, eqb-true n 1 e))

-- one path more
waits_more : (past : Bool) {a : Arrivals} {n : ℕ} {o o' : Option Bool} → Waits a n o → (1 ≤ n → o' ≡ o) → (n ≡ 0 → o' ≡ Some past)
    → Waits (join_of a past) (n + 1) o'
waits_more past nothing later new = rw (new refl) one
waits_more past one later new = several {n = 2} (omega arith)
waits_more past (several {n} l) later new = several {n = n + 1} (omega arith)

-- one store for each arrow
abbrev stored : List (Arrow Bool) → List Arrivals → List Arrivals
stored [] w = w
stored (a ∷ more) w = stored more (set w a.0 (join_of (get_or w a.0 Nothing) a.1))

-- a slot behind the stores, from what it held, where these arrows lead to it first if none did
abbrev Stays : List (Arrow Bool) → List Arrivals → ℕ → Type 0
Stays arrows w j =
    (n : ℕ) (o o' : Option Bool) → Waits (get_or w j Nothing) n o → All (λ a. a.0 < length w) arrows → (1 ≤ n → o' ≡ o)
    → ((past : Bool) (more : List Bool) → arriving j arrows ≡ past ∷ more → n ≡ 0 → o' ≡ Some past)
    → (arriving j arrows ≡ [] → o' ≡ o) → Waits (get_or (stored arrows w) j Nothing) (n + length (arriving j arrows)) o'

stays_more : (a : Arrow Bool) (arrows : List (Arrow Bool)) (w : List Arrivals) (j : ℕ)
    → Stays arrows (set w a.0 (join_of (get_or w a.0 Nothing) a.1)) j → Stays (a ∷ arrows) w j
unfolding arriving
stays_more a arrows w j rest n o o' s (h l∷ hs) later new same = go (eqb a.0 j) refl new same
  where
    x : Arrivals
    x = join_of (get_or w a.0 Nothing) a.1

    room : All (λ b. b.0 < length (set w a.0 x)) arrows
    room = rw (length-set w a.0 x) hs

    go : (b : Bool) → eqb a.0 j ≡ b
        → ((past : Bool) (more : List Bool) → (if b then a.1 ∷ arriving j arrows else arriving j arrows) ≡ past ∷ more → n ≡ 0
        → o' ≡ Some past)
        → ((if b then a.1 ∷ arriving j arrows else arriving j arrows) ≡ [] → o' ≡ o)
        → Waits (get_or (stored arrows (set w a.0 x)) j Nothing)
        (n + length (if b then a.1 ∷ arriving j arrows else arriving j arrows)) o'
    go true e new same =
        let z : a.0 ≡ j = eqb-true a.0 j e in
        let here : Waits (get_or (set w a.0 x) j Nothing) (n + 1) o' =
        rw (← z, get_or-set_same w a.0 x Nothing h) (waits_more a.1 (rw (← z) at s) later (new a.1 (arriving j arrows) refl)) in
        let count : n + suc (length (arriving j arrows)) ≡ n + 1 + length (arriving j arrows) = omega arith in
        rw count (rest (n + 1) o' o' here room (λ _. refl) (λ past more _ z. absurd (omega arith)) (λ _. refl))
    go false e new same =
        rest n o o' (rw (get_or-set_other w a.0 j x Nothing (λ p. eqb-false a.0 j e (sym p))) s) room later new same

waits_stored : (arrows : List (Arrow Bool)) (w : List Arrivals) (j : ℕ) → Stays arrows w j
unfolding arriving
waits_stored [] w j = λ n o o' s _ later new same. rw (add-zero n, same refl) s
waits_stored (a ∷ arrows) w j =
    stays_more a arrows w j (waits_stored arrows (set w a.0 (join_of (get_or w a.0 Nothing) a.1)) j)

---- Arrivals

module _ (code : List Instruction) where
  -- how many paths the first k instructions bring to j, where the root is one
  abbrev counted : ℕ → ℕ → ℕ
  counted k j = (if eqb 1 j then 1 else 0) + length (sources j 1 (take k code))

  counted_here : (k : ℕ) → eqb (counted k (suc k)) 1 ≡ arrives_right code (suc k)
  unfolding arrives_right arrivals arriving_from sources
  counted_here zero = refl
  counted_here (suc k) =
      let j = suc (suc k) in
      let z : j - 1 ≡ suc k = omega arith in
      rw (ne_eqb 1 j (λ e. omega arith), ne_eqb j 1 (λ e. omega arith), z, zero-add (length (sources j 1 (take (suc k) code))))

  counted_later : (k j : ℕ) → 1 < j → counted k j ≡ length (sources j 1 (take k code))
  counted_later k j h = rw (ne_eqb 1 j (λ e. omega arith)) (omega arith)

---- One function

module _ (bytes : List ℕ) (at g : ℕ) (c : Code) where
  abbrev code_here : List Instruction
  code_here = (function_of bytes at).code

  -- the rule at instruction k + 1
  abbrev rule_here : ℕ → Check
  rule_here k = flow_rule code_here g (suc k) (code_at bytes c.base k) (past_at code_here (suc k))

  -- the state that the first k bring to j, and that its slot holds what arrived
  abbrev far : ℕ → ℕ → Option Bool
  far k j = so_far passing false code_here k j

  abbrev Waiting : ℕ → List Arrivals → ℕ → Type 0
  Waiting k w j = Waits (get_or w j Nothing) (counted code_here k j) (far k j)

  abbrev whole : Check
  whole = flow_of g (function_of bytes at)

  -- the pass is at instruction k + 1
  pub record FlowOn (k : ℕ) (w : List Arrivals) : Type 0 where
    pub code : CodeThere bytes at c
    pub passes : Passing rule_here c.last k
    pub room : c.last < length w
    pub waits : (j : ℕ) → k < j → j ≤ c.last → Waiting k w j

  pub flow_start : CodeThere bytes at c → FlowOn 0 (set (replicate 257 Nothing) 1 (One false))
  unfolding sources
  flow_start t = record {
    code = t;
    passes = pass_first;
    room = omega (arith, code_short t);
    waits = λ j lo hi. rw (so_far_start passing false code_here j) (go j (omega (arith, code_short t)) (eqb 1 j) refl);
  }
    where
      go : (j : ℕ) → j < 257 → (b : Bool) → eqb 1 j ≡ b
          → Waits (get_or (set (replicate 257 Nothing) 1 (One false)) j Nothing) ((if b then 1 else 0) + 0)
          (if b then Some false else None)
      go j h true e = let q : 1 ≡ j = eqb-true 1 j e in rw (← q) one
      go j h false e =
          rw (
            get_or-set_other {A = Arrivals} (replicate 257 Nothing) 1 j (One false) Nothing (λ q. eqb-false 1 j e (sym q)),
            get_or-replicate {A = Arrivals} 257 j Nothing Nothing h,
          )
          nothing

  flow_whole : CodeThere bytes at c → for_each rule_here 0 c.last ≡ whole
  unfolding flow_of
  flow_whole t = sym (code_along t passing (root_at 1 false) (flow_rule code_here g))

  pub flow_end : {k : ℕ} {w : List Arrivals} → FlowOn k w → c.last ≤ k → passed ≡ whole
  flow_end s h = pass_end s.passes h ∙ flow_whole s.code

  module _ {k : ℕ} {w : List Arrivals} (s : FlowOn k w) (h : k < c.last) {ins : Instruction} (is : ins ≡ code_at bytes c.base k)
      {r : Option FlowStep}
      (says : (n : ℕ) (o : Option Bool) → Waits (get_or w (k + 1) Nothing) n o
      → FlowSays c.last (k + 1) r (eqb n 1 && leaves_right c.last (k + 1) ins (or_else o false)) (passing (k + 1) ins (or_else o false)))
    where
      -- the instruction, the state there, and whether the rule passes
      abbrev it : Instruction
      it = code_at bytes c.base k

      abbrev state : Option Bool
      state = past_at code_here (suc k)

      abbrev right : Bool
      right = arrives_right code_here (suc k) && leaves_right c.last (suc k) it (or_else state false)

      here : Waits (get_or w (suc k) Nothing) (counted code_here k (suc k)) state
      here = rw (so_far_here passing false code_here k (rw (code_length s.code) h)) at (s.waits (suc k) (omega arith) (omega arith))

      step : FlowSays c.last (suc k) r right (passing (suc k) it (or_else state false))
      step = rw (add-one k, is, counted_here code_here k) at (says (counted code_here k (suc k)) state (rw (add-one k) here))

      rule_is : rule_here k ≡ require right (refusal 7 g (suc k))
      unfolding flow_rule
      rule_is = rw (code_length s.code)

      pub flow_wrong : r ≡ None → refused (refusal 7 g (k + 1)) ≡ whole
      flow_wrong e =
          let no : right ≡ false = rw e at step.says in
          ap (λ (i : ℕ). refused (refusal 7 g i)) (add-one k)
          ∙ pass_stop s.passes h (rule_is ∙ ap (λ (b : Bool). require b (refusal 7 g (suc k))) no) ∙ flow_whole s.code

      module _ {l : FlowStep} (e : r ≡ Some l) where
        goes : (right ≡ true) × (passing (suc k) it (or_else state false) ≡ found (arrows_of (suc k) l)) × Within c.last (suc k) l
        goes = rw e at step.says

        pub flow_within : Within c.last (k + 1) l
        flow_within = rw (add-one k) goes.2

        abbrev arrows : List (Arrow Bool)
        arrows = arrows_of (suc k) l

        known : state ≡ Some (or_else state false)
        known = waits_state here (counted_here code_here k ∙ and_left (arrives_right code_here (suc k)) _ goes.0)

        stands : slot (suc k) code_here ≡ Some it
        stands = code_slot s.code k h

        module _ (j : ℕ) (lo : suc k < j) where
          abbrev before : ℕ
          before = length (sources j 1 (take k code_here))

          named : hits j (targets (suc k) it) ≡ length (arriving j arrows)
          named = sym (passing_all (suc k) it (or_else state false) arrows goes.1 j)

          later : 1 ≤ before → far (suc k) j ≡ far k j
          later l = so_far_other passing false code_here k j (origin_before code_here k j (omega arith) l)

          same : arriving j arrows ≡ [] → far (suc k) j ≡ far k j
          same m = so_far_other passing false code_here k j (λ o. not_named (origin_leads code_here j (suc k) o))
            where
              not_named : Leads code_here (suc k) j → ⊥
              not_named l =
                  let z : l.ins ≡ it = some_inj (sym l.stands ∙ stands) in
                  let n : 1 ≤ length (arriving j arrows) = rw (z, named) at l.names in
                  not-suc-le-zero (rw m at n)

          new : (past : Bool) (more : List Bool) → arriving j arrows ≡ past ∷ more → before ≡ 0 → far (suc k) j ≡ Some past
          new past more m z =
              (so_far_new passing false code_here k j (origin_next code_here k j stands lo z (rw (named, m) (omega arith)))).1
              ∙ rw (stands, known, goes.1) (ap first m)

        room : All (λ a. a.0 < length w) arrows
        room = go l goes.2
          where
            go : (l : FlowStep) → Within c.last (suc k) l → All (λ a. a.0 < length w) (arrows_of (suc k) l)
            go Ends t = l[]
            go (Next past) t = omega (arith, s.room) l∷ l[]
            go (Both to) t = omega (arith, s.room) l∷ omega (arith, s.room) l∷ l[]

        next_waits : (j : ℕ) → suc k < j → j ≤ c.last → Waiting (suc k) (stored arrows w) j
        next_waits j lo hi =
            let count : counted code_here (suc k) j ≡ before j lo + length (arriving j arrows) =
            counted_later code_here (suc k) j (omega arith) ∙ sources_more code_here k stands j ∙ omega (arith, named j lo) in
            let start : Waits (get_or w j Nothing) (before j lo) (far k j) =
            rw (counted_later code_here k j (omega arith)) at (s.waits j (omega arith) hi) in
            subst (λ (n : ℕ). Waits (get_or (stored arrows w) j Nothing) n (far (suc k) j)) (sym count)
            (waits_stored arrows w j _ _ _ start room (later j lo) (new j lo) (same j lo))

        stored_length : (arrows : List (Arrow Bool)) (w : List Arrivals) → length (stored arrows w) ≡ length w
        stored_length [] w = refl
        stored_length (a ∷ more) w =
            stored_length more (set w a.0 (join_of (get_or w a.0 Nothing) a.1))
            ∙ length-set w a.0 (join_of (get_or w a.0 Nothing) a.1)

        flow_next : FlowOn (k + 1) (stored (arrows_of (suc k) l) w)
        flow_next = record {
          code = s.code;
          passes = pass_next s.passes h (rule_is ∙ ap (λ (b : Bool). require b (refusal 7 g (suc k))) goes.0);
          room = rw (stored_length arrows w) s.room;
          waits = λ j lo hi. rw (add-one k) (next_waits j (omega arith) hi);
        }

      pub flow_ends : r ≡ Some Ends → FlowOn (k + 1) w
      flow_ends e = flow_next e

      pub flow_one : {past : Bool} → r ≡ Some (Next past) → FlowOn (k + 1) (set w (k + 1 + 1) (join_of (get_or w (k + 1 + 1) Nothing) past))
      flow_one e = let z : k + 1 + 1 ≡ suc (suc k) = omega arith in rw z (flow_next e)

      pub flow_two : {to : ℕ} {x : Arrivals} → r ≡ Some (Both to) → x ≡ join_of (get_or w (k + 1 + 1) Nothing) false
          → FlowOn (k + 1) (set (set w (k + 1 + 1) x) to (join_of (get_or (set w (k + 1 + 1) x) to Nothing) false))
      flow_two e q = let z : k + 1 + 1 ≡ suc (suc k) = omega arith in rw (q, z) (flow_next e)
