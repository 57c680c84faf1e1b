-- The flow pass says of each function just what the relations of specs/FlowRules.antt say.
use Rattle.std.specs.Prelude.{if◌then◌else◌, Some, slice_get}
use mathlib.Core.Path.{◌≡◌, refl, sym, ap, ◌∙◌}
use mathlib.Core.List.{List, [], ◌∷◌, ◌++◌}
use mathlib.Core.Bool.{Bool, true, false, ◌&&◌, ◌||◌}
use mathlib.Core.Logic.{◌↔◌}
use Prim.Native.Nat.{ℕ, zero, suc, ◌+◌, ◌-◌, ◌≤◌, ◌<◌}
use native.Mathlib.Omega.{arith}
use native.Mathlib.Nat.{le_of_eq, add-zero, add-suc, suc-add, not-suc-le-zero, le_trans, le_refl}
use lib.ListN.{length, take, replicate, length-append, length-replicate}
use lib.Dec.{eqb}
use borrow.Author.Tests.{eqb-false, eq-eqb, le-leb, lt-ltb, ltb-true}
use Rattle.rules.specs.declared.records.Instruction.{Instruction}
use Rattle.rules.specs.declared.records.Instruction.TheVariants.{Load, Build, Call, Branch, Return, Stop}
use Rattle.rules.specs.Base.{Refusal, refusal, found, refused, passed, Decides}
use Rattle.rules.specs.Lists.{All, l[], ◌l∷◌}
use Rattle.rules.specs.Program.{Function}
use Rattle.rules.specs.Records.{or_else}
use Rattle.rules.specs.Stacks.{slot}
use Rattle.rules.specs.Walk.{targets, hits, sources, first, arriving_from, arrivals, origin, Arrow, arriving, root_at}
use Rattle.rules.specs.Flow.{passing, leaves_right, arrives_right, past_at, flow_rule, flow_of}
use Rattle.rules.specs.FlowRules.{Makes, Leads, Behind, made, on, OneArrival, GoesOn, Flows, AllFlow, FlowFails}
use Rattle.rules.proofs.ListLaws.{none_some, some_inj, false_true, slot_low}
use Rattle.rules.proofs.TriedLaws.{refused_found, found_inj, require_refused}
use Rattle.rules.proofs.VerdictLaws.{verdict_of_lem, verdict_decides}
use Rattle.rules.proofs.EachLaws.{level, up_to}
use Rattle.rules.proofs.WalkLaws.{count, origin_leads, origin_is, leads_once, some_arrive, origin_there, along_passed, along_stops}
use Rattle.rules.proofs.WalkLaws.{slot_there, at_take, state_start, handed_state, handed_on}
use Rattle.rules.proofs.RuleLaws.{flow_found, branch_leaves, passing_found, passing_all}

---- Arrivals

-- one more
arrive_one : (code : List Instruction) (j : ℕ) → arrivals code j ≡ 1 → OneArrival code j
arrive_one code j e =
    let o = origin_there code j (le_of_eq (sym e)) in
    let l = origin_leads code j o.0 o.1 in
    record {
      from = o.0;
      leads = l;
      once = leads_once code o.0 j l (le_of_eq e);
      alone = λ i m. some_inj (sym (origin_is code i j m (le_of_eq e)) ∙ o.1);
    }

-- the sources of j, where just one of the instructions from k on names it, and once
few_sources : (j k : ℕ) (code : List Instruction) (d : ℕ) → ((e : ℕ) (ins : Instruction) → slice_get code e ≡ Some ins
    → (1 ≤ hits j (targets (k + e) ins) → e ≡ d) × (hits j (targets (k + e) ins) ≤ 1)) → length (sources j k code) ≤ 1
unfolding sources
few_sources j k [] d h = omega arith
few_sources j k (x ∷ code) zero h =
    let now : hits j (targets k x) ≤ 1 = rw (add-zero k) at (h 0 x refl).1 in
    rw (length-append (replicate (hits j (targets k x)) k) (sources j (suc k) code), length-replicate (hits j (targets k x)) k)
    (omega (arith, now, no_sources j (suc k) code (λ e ins c. less (hits j (targets (suc k + e) ins)) (later e ins c))))
  where
    less : (m : ℕ) → (1 ≤ m → ⊥) → m ≡ 0
    less zero h = refl
    less (suc m) h = absurd (h (omega arith))

    later : (e : ℕ) (ins : Instruction) → slice_get code e ≡ Some ins → 1 ≤ hits j (targets (suc k + e) ins) → ⊥
    later e ins c w = omega (arith, (h (suc e) ins c).0 (rw (add-suc k e, ← suc-add k e) w))

    no_sources : (j k : ℕ) (code : List Instruction) → ((e : ℕ) (ins : Instruction) → slice_get code e ≡ Some ins
        → hits j (targets (k + e) ins) ≡ 0) → length (sources j k code) ≡ 0
    no_sources j k [] h = refl
    no_sources j k (x ∷ code) h =
        let now : hits j (targets k x) ≡ 0 = rw (add-zero k) at (h 0 x refl) in
        rw now (no_sources j (suc k) code (λ e ins c. rw (suc-add k e, ← add-suc k e) (h (suc e) ins c)))
few_sources j k (x ∷ code) (suc d) h =
    one (hits j (targets k x)) refl
    (few_sources j (suc k) code d (λ e ins c. rw (suc-add k e, ← add-suc k e) (moved e (h (suc e) ins c))))
  where
    moved : {m : ℕ} (e : ℕ) → (1 ≤ m → suc e ≡ suc d) × (m ≤ 1) → (1 ≤ m → e ≡ d) × (m ≤ 1)
    moved e p = (λ l. omega (arith, p.0 l), p.1)

    one : (m : ℕ) → hits j (targets k x) ≡ m → length (sources j (suc k) code) ≤ 1
        → length (replicate m k ++ sources j (suc k) code) ≤ 1
    one zero e rest = rest
    one (suc m) e rest =
        let z : 0 ≡ suc d = (h 0 x refl).0 (rw (add-zero k, e) (omega arith)) in
        absurd (omega arith)

one_arrives : (code : List Instruction) (j : ℕ) → OneArrival code j → arrivals code j ≡ 1
unfolding arrivals arriving_from
one_arrives code j o = antisym (few o.from o.leads o.once o.alone) (some_arrive code o.from j o.leads)
  where
    antisym : arrivals code j ≤ 1 → 1 ≤ arrivals code j → arrivals code j ≡ 1
    antisym h l = omega arith

    few : (from : ℕ) (l : Leads code from j) → hits j (targets from l.ins) ≤ 1 → ((i : ℕ) → Leads code i j → i ≡ from)
        → length (sources j 1 (take (j - 1) code)) ≤ 1
    few zero l once alone = none_some l.stands
    few (suc d) l once alone = few_sources j 1 (take (j - 1) code) d (λ e ins c. each e ins (at_take (j - 1) code e c))
      where
        leads : (e : ℕ) (ins : Instruction) → (e < j - 1) × (slice_get code e ≡ Some ins) → 1 ≤ hits j (targets (1 + e) ins)
            → Leads code (suc e) j
        leads e ins c w =
            let z : 1 + e ≡ suc e = omega arith in
            record { ins = ins; stands = c.1; names = rw z at w; ahead = omega (arith, c.0) }

        is : (e : ℕ) (ins : Instruction) → (e < j - 1) × (slice_get code e ≡ Some ins) → 1 ≤ hits j (targets (1 + e) ins) → e ≡ d
        is e ins c w = omega (arith, alone (suc e) (leads e ins c w))

        each : (e : ℕ) (ins : Instruction) → (e < j - 1) × (slice_get code e ≡ Some ins)
            → (1 ≤ hits j (targets (1 + e) ins) → e ≡ d) × (hits j (targets (1 + e) ins) ≤ 1)
        each e ins c = (is e ins c, two (hits j (targets (1 + e) ins)) refl)
          where
            two : (m : ℕ) → hits j (targets (1 + e) ins) ≡ m → m ≤ 1
            two zero q = omega arith
            two (suc m) q =
                let same : e ≡ d = is e ins c (rw q (omega arith)) in
                let it : l.ins ≡ ins = some_inj (sym l.stands ∙ rw same at c.1) in
                let z : 1 + e ≡ suc d = omega arith in
                rw (← q, z, ← it) once

---- Whether a build or call has been passed

-- the state behind an instruction
abbrev after_one : Instruction → Bool → Bool
after_one (Load a) p = p
after_one (Build c) p = true
after_one (Call g) p = true
after_one (Branch c b) p = p
after_one Return p = p
after_one Stop p = p

passing_states : (i : ℕ) (ins : Instruction) (p : Bool) {L : List (Arrow Bool)} → passing i ins p ≡ found L
    → All (λ a. a.1 ≡ after_one ins p) L
unfolding passing
passing_states i (Load a) p e = rw (← found_inj e) (◌l∷◌ {x = (suc i, p)} refl l[])
passing_states i (Build c) p e = rw (← found_inj e) (◌l∷◌ {x = (suc i, true)} refl l[])
passing_states i (Call g) p e = rw (← found_inj e) (◌l∷◌ {x = (suc i, true)} refl l[])
passing_states i (Branch c b) p e = rw (← found_inj e) (◌l∷◌ {x = (suc i, p)} refl (◌l∷◌ {x = (b, p)} refl l[]))
passing_states i Return p e = rw (← found_inj e) l[]
passing_states i Stop p e = rw (← found_inj e) l[]

first_state : (j : ℕ) {v : Bool} {L : List (Arrow Bool)} → All (λ a. a.1 ≡ v) L → 1 ≤ count j L → first (arriving j L) ≡ Some v
unfolding arriving
first_state j l[] h = absurd (not-suc-le-zero h)
first_state j {v} (◌l∷◌ {x} {xs} p ps) h = one (λ w. first_state j ps w) (eqb x.0 j) h
  where
    one : (1 ≤ count j xs → first (arriving j xs) ≡ Some v) → (t : Bool)
        → 1 ≤ length (if t then x.1 ∷ arriving j xs else arriving j xs)
        → first (if t then x.1 ∷ arriving j xs else arriving j xs) ≡ Some v
    one ih true h = ap Some p
    one ih false h = ih h

makes_true : (ins : Instruction) (p : Bool) → Makes ins → after_one ins p ≡ true
makes_true (Load _) p m = elim m [ ]
makes_true (Branch _ _) p m = elim m [ ]
makes_true Return p m = elim m [ ]
makes_true Stop p m = elim m [ ]
makes_true (Build c) p m = refl
makes_true (Call g) p m = refl

past_true : (ins : Instruction) {p : Bool} → p ≡ true → after_one ins p ≡ true
past_true (Load a) e = e
past_true (Build c) e = refl
past_true (Call g) e = refl
past_true (Branch c b) e = e
past_true Return e = e
past_true Stop e = e

module _ (code : List Instruction) where
  behind_next : (i j : ℕ) (l : Leads code i j) (ins : Instruction) → l.ins ≡ ins → {p : Bool} → (p ≡ true → Behind code i)
      → after_one ins p ≡ true → Behind code j
  behind_next i j l (Load a) q b t = on (b t) l
  behind_next i j l (Build c) q b t = made l (rw q tt)
  behind_next i j l (Call g) q b t = made l (rw q tt)
  behind_next i j l (Branch c k) q b t = on (b t) l
  behind_next i j l Return q b t = on (b t) l
  behind_next i j l Stop q b t = on (b t) l

  -- what the state at an instruction says, where each up to it has one arrival
  abbrev Told : ℕ → Type 0
  Told i = (p : Bool) × (past_at code i ≡ Some p) × (p ≡ true ↔ Behind code i)

  abbrev OneEach : ℕ → Type 0
  OneEach m = (j : ℕ) → 2 ≤ j → j < m → j ≤ length code → arrivals code j ≡ 1

  told_below : (n i : ℕ) → i < n → 1 ≤ i → i ≤ length code → OneEach (suc i) → Told i
  unfolding passing
  told_below zero i h lo hi one = absurd (not-suc-le-zero h)
  told_below (suc n) zero h lo hi one = absurd (omega arith)
  told_below (suc n) (suc zero) h lo hi one = (
    false,
    state_start passing false code hi,
    (
      (λ e. absurd (false_true e)),
      λ b. absurd
          (nothing b),
    ),
  )
    where
      nowhere : (i : ℕ) → Leads code i 1 → ⊥
      nowhere zero l = none_some l.stands
      nowhere (suc i) l = omega (arith, l.ahead)

      nothing : Behind code 1 → ⊥
      nothing (made {i} l m) = nowhere i l
      nothing (on {i} b l) = nowhere i l
  told_below (suc n) (suc (suc d)) h lo hi one =
      let j = suc (suc d) in
      let once = one j (omega arith) (omega arith) hi in
      let o = origin_there code j (le_of_eq (sym once)) in
      let l = origin_leads code j o.0 o.1 in
      let w = told_below n o.0 (omega (arith, l.ahead)) (slot_low o.0 code l.stands).0 (omega (arith, l.ahead))
      (λ k lo' lt hi'. one k lo' (omega (arith, l.ahead)) hi') in
      let r = passing_found o.0 l.ins w.0 in
      let c : 1 ≤ count j r.0 = rw (passing_all o.0 l.ins w.0 r.0 r.1 j) l.names in
      let is : past_at code j ≡ Some (after_one l.ins w.0) =
      handed_state passing false code o.0 j (omega arith) hi o.1
      ∙ handed_on passing false code o.0 j l.ins w.0 r.0 l.stands w.1 r.1
      ∙ first_state j (passing_states o.0 l.ins w.0 r.1) c in (
        after_one l.ins w.0,
        is,
        (
          behind_next o.0 j l l.ins refl w.2.0,
          told j o.0 l w.0 w.2.1 (le_of_eq once)
              o.1,
        ),
      )
    where
      same_ins : (i k j : ℕ) (l : Leads code i j) (m : Leads code k j) → k ≡ i → m.ins ≡ l.ins
      same_ins i k j l m e = some_inj (sym m.stands ∙ rw (← e) at l.stands)

      told : (j i : ℕ) (l : Leads code i j) (p : Bool) → (Behind code i → p ≡ true) → arrivals code j ≤ 1 → origin code j ≡ Some i
          → Behind code j → after_one l.ins p ≡ true
      told j i l p b once o (made {i = k} m makes) =
          let same : k ≡ i = some_inj (sym (origin_is code k j m once) ∙ o) in
          makes_true l.ins p (rw (same_ins i k j l m same) at makes)
      told j i l p b once o (on {i = k} back m) =
          let same : k ≡ i = some_inj (sym (origin_is code k j m once) ∙ o) in
          past_true l.ins (b (rw same at back))

  pub past_told : (i : ℕ) → 1 ≤ i → i ≤ length code → OneEach (suc i) → Told i
  past_told i lo hi one = told_below (suc i) i (omega arith) lo hi one

  with_one : (i : ℕ) → OneEach i → (2 ≤ i → arrivals code i ≡ 1) → OneEach (suc i)
  with_one i before here j lo lt hi =
      up_to {P = λ j. 2 ≤ j → j ≤ length code → arrivals code j ≡ 1} i (λ j l lo hi. before j lo l hi) (λ lo hi. here lo) j lt lo hi

  module _ (n i : ℕ) (ins : Instruction) (c : slot i code ≡ Some ins) (before : OneEach i) where
    told : (2 ≤ i → arrivals code i ≡ 1) → Told i
    told one = let h = slot_low i code c in past_told i h.0 h.1 (with_one i before one)

    -- the rule passes just where the relation holds
    rule_flows : flow_rule code n i ins (past_at code i) ≡ passed → Flows code i ins
    unfolding leaves_right
    rule_flows e =
        let r = flow_found code n i ins (past_at code i) e in
        let w = told r.0 in
        record { arrival = λ h. arrive_one code i (r.0 h); goes = goes ins w.0 w.2.1 (rw w.1 at r.1) }
      where
        goes : (ins : Instruction) (p : Bool) → (Behind code i → p ≡ true) → leaves_right (length code) i ins p ≡ true → GoesOn code i ins
        goes (Load a) p b e = ltb-true i (length code) e
        goes (Build k) p b e = ltb-true i (length code) e
        goes (Call g) p b e = ltb-true i (length code) e
        goes (Branch k to) p b e =
            let q = branch_leaves (length code) i k to p e in
            (q.0, q.1, λ h. false_true (sym q.2 ∙ b h))
        goes Return p b e = tt
        goes Stop p b e = tt

    flows_rule : Flows code i ins → flow_rule code n i ins (past_at code i) ≡ passed
    unfolding flow_rule arrives_right leaves_right
    flows_rule w =
        let once : 2 ≤ i → arrivals code i ≡ 1 = λ h. one_arrives code i (w.arrival h) in
        let t = told once in
        rw (t.1, arrives (eqb i 1) refl once, leaves ins t.0 t.2.0 w.goes)
      where
        arrives : (b : Bool) → eqb i 1 ≡ b → (2 ≤ i → arrivals code i ≡ 1) → (b || eqb (arrivals code i) 1) ≡ true
        arrives true e once = refl
        arrives false e once = eq-eqb (arrivals code i) 1 (once (more i (slot_low i code c).0 (eqb-false i 1 e)))
          where
            more : (i : ℕ) → 1 ≤ i → (i ≡ 1 → ⊥) → 2 ≤ i
            more zero h d = absurd (omega arith)
            more (suc zero) h d = absurd (d refl)
            more (suc (suc i)) h d = omega arith

        leaves : (ins : Instruction) (p : Bool) → (p ≡ true → Behind code i) → GoesOn code i ins → leaves_right (length code) i ins p ≡ true
        leaves (Load a) p b h = lt-ltb i (length code) h
        leaves (Build k) p b h = lt-ltb i (length code) h
        leaves (Call g) p b h = lt-ltb i (length code) h
        leaves (Branch k to) true b h = absurd (h.2 (b refl))
        leaves (Branch k to) false b h = rw (le-leb (i + 2) to h.0, le-leb to (length code) h.1)
        leaves Return p b h = refl
        leaves Stop p b h = refl

abbrev FlowStops : ℕ → Function → Refusal → Type 0
FlowStops n f r = (i : ℕ) × (r ≡ refusal 7 n i) × FlowFails f.code i

-- 7 is given at just the first instruction at which the relations fail
pub flow_exact : (n : ℕ) (f : Function) → Decides (flow_of n f) (AllFlow f.code) (λ r. (i : ℕ) × (r ≡ refusal 7 n i)
    × FlowFails f.code i)
unfolding flow_of flow_rule
flow_exact n f = verdict_decides (verdict_of_lem (flow_of n f) all stops) (λ r g w. w.2.here (g w.0 w.2.ins w.2.stands)) one
  where
    once_below : (m : ℕ) → ((i : ℕ) (ins : Instruction) → i < m → slot i f.code ≡ Some ins
        → flow_rule f.code n i ins (past_at f.code i) ≡ passed) → OneEach f.code m
    once_below m h j lo lt hi =
        let c = slot_there f.code j (omega arith) hi in
        (flow_found f.code n j c.0 (past_at f.code j) (h j c.0 lt c.1)).0 lo

    all : flow_of n f ≡ passed → AllFlow f.code
    all e i ins c =
        let every = (along_passed passing (root_at 1 false) f.code (flow_rule f.code n)).0 e in
        rule_flows f.code n i ins c (once_below i (λ j k lt d. every j k d)) (every i ins c)

    stops : (r : Refusal) → flow_of n f ≡ refused r → FlowStops n f r
    stops r e =
        let s = (along_stops passing (root_at 1 false) f.code (flow_rule f.code n)).0 e in
        let i = s.0 in
        let before : (m : ℕ) → m ≤ i → OneEach f.code m = λ m h. once_below m (λ j k lt d. s.1.before j k (le_trans lt h) d) in (
          i,
          sym (named i s.1.it s.1.refuses),
          record {
            before = λ j ins lt c. rule_flows f.code n j ins c (before j (omega arith)) (s.1.before j ins lt c);
            ins = s.1.it;
            stands = s.1.there;
            here = λ w. refused_found (sym s.1.refuses ∙ flows_rule f.code n i s.1.it s.1.there (before i (le_refl i)) w);
          },
        )
      where
        named : (i : ℕ) (ins : Instruction) → flow_rule f.code n i ins (past_at f.code i) ≡ refused r → refusal 7 n i ≡ r
        named i ins e = (require_refused (arrives_right f.code i && leaves_right (length f.code) i ins (or_else (past_at
            f.code i) false)) e).1

    one : (r q : Refusal) → FlowStops n f r → FlowStops n f q → r ≡ q
    one r q (i, e, w) (j, e', w') =
        let same : i ≡ j = level i j (λ l. w.here (w'.before i w.ins l w.stands)) (λ l. w'.here (w.before j w'.ins l
        w'.stands))
        in
        e ∙ ap (refusal 7 n) same ∙ sym e'
