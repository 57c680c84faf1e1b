-- The states along the arrows: what stands at an instruction is what its one origin hands on, so the states hold of every instruction at
-- once.
use Rattle.std.specs.Prelude.{if◌then◌else◌, Option, None, Some, slice_get}
use mathlib.Core.Path.{◌≡◌, refl, sym, ap, ◌∙◌}
use mathlib.Core.List.{List, [], ◌∷◌, ◌++◌, append_assoc, append-nil}
use mathlib.Core.Bool.{Bool, true, false}
use mathlib.Core.Logic.{◌↔◌}
use Prim.Native.Nat.{ℕ, zero, suc, ◌+◌, ◌-◌, ◌≤◌, ◌<◌}
use native.Mathlib.Omega.{arith}
use native.Mathlib.Nat.{add-zero, add-suc, suc-add, not-suc-le-zero, le_trans, le_of_eq}
use lib.ListN.{length, take, get_or, replicate, length-append, length-replicate}
use lib.Dec.{eqb, leb}
use borrow.Author.Tests.{eq-eqb, eqb-true, ne_eqb, leb-true, leb-false}
use Rattle.rules.specs.declared.records.Instruction.{Instruction}
use Rattle.rules.specs.Base.{Refusal, Tried, found, refused, Check, passed}
use Rattle.rules.specs.Lists.{All, l[], ◌l∷◌, Any, here, there}
use Rattle.rules.specs.Stacks.{slot, push}
use Rattle.rules.specs.Walk.{targets, hits, sources, first, arriving_from, arrivals, origin, Arrow, arriving, brought_to, root_at}
use Rattle.rules.specs.Walk.{or_root, state_of, handed, from_origin, state_from, states, state_at, along, judge, judged}
use Rattle.rules.specs.FlowRules.{Leads}
use Rattle.rules.proofs.ListLaws.{none_some, some_inj, slot_low, any_append_left, any_append_right}
use Rattle.rules.proofs.TriedLaws.{found_inj, only_found}
use Rattle.rules.proofs.EachLaws.{StopsAt, each_from_1, stops_from_1}

abbrev pub In : {A : Type 0} → A → List A → Type 0
In a l = Any (λ b. b ≡ a) l

all_in : {A : Type 0} {P : A → Type 0} (l : List A) → ((a : A) → In a l → P a) → All P l
all_in [] h = l[]
all_in (x ∷ l) h = h x (here refl) l∷ all_in l (λ a m. h a (there m))

in_all_lem : {A : Type 0} {P : A → Type 0} {l : List A} {a : A} → All P l → In a l → P a
in_all_lem {A = A} {P = P} {a = a} l[] x3 = elim x3 [ ]
in_all_lem (p l∷ ps) (here e) = rw e at p
in_all_lem (p l∷ ps) (there m) = in_all_lem ps m

in_length : {A : Type 0} {x : A} {xs : List A} → In x xs → 1 ≤ length xs
in_length (here e) = omega arith
in_length (there m) = omega arith

first_in : {A : Type 0} (xs : List A) {x : A} → first xs ≡ Some x → In x xs
first_in [] e = none_some e
first_in (y ∷ xs) e = here (some_inj e)

first_one : {A : Type 0} (xs : List A) {x : A} → length xs ≤ 1 → In x xs → first xs ≡ Some x
first_one {A = A} [] h m = elim m [ ]
first_one {A = A} (y ∷ []) h (there x13) = elim x13 [ ]
first_one (y ∷ []) h (here e) = ap Some e
first_one (y ∷ z ∷ xs) h m = absurd (omega arith)

pub slot_there : {A : Type 0} (xs : List A) (i : ℕ) → 1 ≤ i → i ≤ length xs → (x : A) × (slot i xs ≡ Some x)
slot_there xs zero lo hi = absurd (omega arith)
slot_there [] (suc d) lo hi = absurd (omega arith)
slot_there (y ∷ xs) (suc zero) lo hi = (y, refl)
slot_there (y ∷ xs) (suc (suc d)) lo hi = slot_there xs (suc d) (omega arith) (omega arith)

---- Arrows

module _ {S : Type 0} where
  -- how many arrows lead to instruction j
  abbrev pub count : ℕ → List (Arrow S) → ℕ
  count j A = length (arriving j A)

  arrives : (A : List (Arrow S)) (a : Arrow S) → In a A → In a.1 (arriving a.0 A)
  unfolding arriving
  arrives [] a x' = elim x' [ ]
  arrives (b ∷ A) a (here e) = rw (eq-eqb b.0 a.0 (ap (λ (x : Arrow S). x.0) e), arriving) (here (ap (λ (x : Arrow S). x.1) e))
  arrives (b ∷ A) a (there m) = go (eqb b.0 a.0) (arrives A a m)
    where
      go : (t : Bool) → In a.1 (arriving a.0 A) → In a.1 (if t then b.1 ∷ arriving a.0 A else arriving a.0 A)
      go true m = there m
      go false m = m

  -- what arrives comes by an arrow
  pub arriving_in : (j : ℕ) (A : List (Arrow S)) {x : S} → In x (arriving j A) → In (j, x) A
  unfolding arriving
  arriving_in j [] {x = x} m = elim m [ ]
  arriving_in j (a ∷ A) {x} m = one (λ q. arriving_in j A q) (eqb a.0 j) refl m
    where
      pair : (a : Arrow S) → a.0 ≡ j → a.1 ≡ x → a ≡ (j, x)
      pair (i, y) e e' = rw (e, e')

      two : (In x (arriving j A) → In (j, x) A) → a.0 ≡ j → In x (a.1 ∷ arriving j A) → In (j, x) (a ∷ A)
      two ih e (here q) = here (pair a e q)
      two ih e (there q) = there (ih q)

      one : (In x (arriving j A) → In (j, x) A) → (t : Bool) → eqb a.0 j ≡ t
          → In x (if t then a.1 ∷ arriving j A else arriving j A) → In (j, x) (a ∷ A)
      one ih true e q = two ih (eqb-true a.0 j e) q
      one ih false e q = there (ih q)

  pub arrow_count : (A : List (Arrow S)) (a : Arrow S) → In a A → 1 ≤ count a.0 A
  arrow_count A a m = in_length (arrives A a m)

---- Origins

in_replicate : (n i : ℕ) → 1 ≤ n → In i (replicate n i)
in_replicate zero i h = absurd (omega arith)
in_replicate (suc n) i h = here refl

replicate_in : (n i : ℕ) {k : ℕ} → In k (replicate n i) → (k ≡ i) × (1 ≤ n)
replicate_in zero i m = absurd (not-suc-le-zero (in_length m))
replicate_in (suc n) i (here e) = (sym e, omega arith)
replicate_in (suc n) i (there m) = ((replicate_in n i m).0, omega arith)

in_parts : {A C : Type 0} (xs ys : List A) {x : A} → In x (xs ++ ys) → (In x xs → C) → (In x ys → C) → C
in_parts [] ys m f g = g m
in_parts (y ∷ xs) ys (here e) f g = f (here e)
in_parts (y ∷ xs) ys (there m) f g = in_parts xs ys m (λ q. f (there q)) g

-- the d-th from k on is a source of what it names, once for each time
is_source : (j k : ℕ) (code : List Instruction) (d : ℕ) {ins : Instruction} → slice_get code d ≡ Some ins → 1 ≤ hits j (targets (k + d) ins)
    → In (k + d) (sources j k code) × (hits j (targets (k + d) ins) ≤ length (sources j k code))
unfolding sources
is_source j k [] d e h = absurd (none_some e)
is_source j k (x ∷ code) zero {ins} e h =
    let z : x ≡ ins = some_inj e in
    rw (z, add-zero k) (
      any_append_left (sources j (suc k) code) (in_replicate (hits j (targets k ins)) k (rw (add-zero k) at h)),
      rw (length-append (replicate (hits j (targets k ins)) k) (sources j (suc k) code), length-replicate (hits j (targets k ins)) k)
          (omega arith),
    )
is_source j k (x ∷ code) (suc d) {ins} e h =
    let later = is_source j (suc k) code d e (rw (add-suc k d, ← suc-add k d) at h) in
    rw (add-suc k d, ← suc-add k d) (
      any_append_right (replicate (hits j (targets k x)) k) later.0,
      rw (length-append (replicate (hits j (targets k x)) k) (sources j (suc k) code)) (omega (arith, later.1)),
    )

source_is : (j k : ℕ) (code : List Instruction) {i : ℕ} → In i (sources j k code) → (d : ℕ) × (i ≡ k + d) × (ins : Instruction)
    × (slice_get code d ≡ Some ins) × (1 ≤ hits j (targets i ins))
unfolding sources
source_is j k [] m = absurd (not-suc-le-zero (in_length m))
source_is j k (x ∷ code) {i} m =
    in_parts (replicate (hits j (targets k x)) k) (sources j (suc k) code) m
    (λ q. let r = replicate_in (hits j (targets k x)) k q in (0, r.0 ∙ sym (add-zero k), x, refl, rw r.0 r.1))
    (λ q. let r = source_is j (suc k) code q in (suc r.0, r.1 ∙ suc-add k r.0 ∙ sym (add-suc k r.0), r.2, r.3, r.4))

pub at_take : {A : Type 0} (m : ℕ) (xs : List A) (d : ℕ) {x : A} → slice_get (take m xs) d ≡ Some x → (d < m) × (slice_get xs d ≡ Some x)
at_take zero xs d e = absurd (none_some e)
at_take (suc m) [] d e = absurd (none_some e)
at_take (suc m) (y ∷ xs) zero e = (omega arith, e)
at_take (suc m) (y ∷ xs) (suc d) e = let r = at_take m xs d e in (omega (arith, r.0), r.1)

take_at : {A : Type 0} (m : ℕ) (xs : List A) (d : ℕ) {x : A} → d < m → slice_get xs d ≡ Some x → slice_get (take m xs) d ≡ Some x
take_at zero xs d h e = absurd (not-suc-le-zero h)
take_at (suc m) [] d h e = absurd (none_some e)
take_at (suc m) (y ∷ xs) zero h e = e
take_at (suc m) (y ∷ xs) (suc d) h e = take_at m xs d (omega arith) e

-- the sources among the first k are the first of those among more
sources_before : (j i k n : ℕ) (code : List Instruction) → k ≤ n → (more : List ℕ)
    × (sources j i (take n code) ≡ sources j i (take k code) ++ more)
unfolding sources
sources_before j i zero n code h = (sources j i (take n code), refl)
sources_before j i (suc k) zero code h = absurd (not-suc-le-zero h)
sources_before j i (suc k) (suc n) [] h = ([], refl)
sources_before j i (suc k) (suc n) (x ∷ code) h =
    let r = sources_before j (suc i) k n code (omega arith) in
    let xs = replicate (hits j (targets i x)) i in
    (r.0, ap (λ (l : List ℕ). xs ++ l) r.1 ∙ sym (append_assoc xs (sources j (suc i) (take k code)) r.0))

-- one instruction more
sources_next : (j i k : ℕ) (code : List Instruction) {ins : Instruction} → slice_get code k ≡ Some ins
    → sources j i (take (suc k) code) ≡ sources j i (take k code) ++ replicate (hits j (targets (i + k) ins)) (i + k)
unfolding sources
sources_next j i k [] e = absurd (none_some e)
sources_next j i zero (x ∷ code) {ins} e =
    let z : x ≡ ins = some_inj e in
    rw (z, add-zero i) (append-nil (replicate (hits j (targets i ins)) i))
sources_next j i (suc k) (x ∷ code) {ins} e =
    let xs = replicate (hits j (targets i x)) i in
    rw (add-suc i k, ← suc-add i k) (ap (λ (l : List ℕ). xs ++ l) (sources_next j (suc i) k code e)
    ∙ sym (append_assoc xs (sources j (suc i) (take k code)) (replicate (hits j (targets (suc i + k) ins)) (suc i + k))))

module _ (code : List Instruction) (k : ℕ) {ins : Instruction} (stands : slot (suc k) code ≡ Some ins) (j : ℕ) where
  -- where the next instruction names j, it comes behind those of the first k that do
  next_named : sources j 1 (take (suc k) code) ≡ sources j 1 (take k code) ++ replicate (hits j (targets (suc k) ins)) (suc k)
  next_named = let z : 1 + k ≡ suc k = omega arith in rw z at (sources_next j 1 k code stands)

  pub sources_more : length (sources j 1 (take (suc k) code)) ≡ length (sources j 1 (take k code)) + hits j (targets (suc k) ins)
  sources_more =
      let m = hits j (targets (suc k) ins) in
      rw next_named (length-append (sources j 1 (take k code)) (replicate m (suc k)) ∙ rw (length-replicate m (suc k)))

module _ (code : List Instruction) where
  -- an origin stands before what it names
  pub origin_leads : (j i : ℕ) → origin code j ≡ Some i → Leads code i j
  unfolding origin arriving_from
  origin_leads j i e =
      let r = source_is j 1 (take (j - 1) code) (first_in (sources j 1 (take (j - 1) code)) e) in
      let at = at_take (j - 1) code r.0 r.3 in
      record { ins = r.2; stands = standing i r.0 r.1 at.1; names = r.4; ahead = omega (arith, at.0, r.1) }
    where
      standing : (k d : ℕ) {ins : Instruction} → k ≡ 1 + d → slice_get code d ≡ Some ins → slot k code ≡ Some ins
      standing zero d is e = absurd (omega arith)
      standing (suc k) d is e = let z : k ≡ d = omega arith in rw z e

  -- each that leads to j is among its arrivals, once for each time it names j
  leads_among : (i j : ℕ) (l : Leads code i j) → In i (arriving_from code j) × (hits j (targets i l.ins) ≤ arrivals code j)
  unfolding arrivals arriving_from
  leads_among zero j l = absurd (none_some l.stands)
  leads_among (suc d) j l =
      let z : 1 + d ≡ suc d = omega arith in
      let r = is_source j 1 (take (j - 1) code) d (take_at (j - 1) code d (omega (arith, l.ahead)) l.stands) (rw z l.names) in
      (rw z at r.0, rw z at r.1)

  -- an instruction with one arrival has the one that leads to it for its origin
  pub origin_is : (i j : ℕ) → Leads code i j → arrivals code j ≤ 1 → origin code j ≡ Some i
  unfolding origin arrivals
  origin_is i j l o = first_one (arriving_from code j) o (leads_among i j l).0

  pub leads_once : (i j : ℕ) (l : Leads code i j) → arrivals code j ≤ 1 → hits j (targets i l.ins) ≤ 1
  leads_once i j l o = le_trans (leads_among i j l).1 o

  pub some_arrive : (i j : ℕ) → Leads code i j → 1 ≤ arrivals code j
  unfolding arrivals
  some_arrive i j l = in_length (leads_among i j l).0

  -- the origin is the first that names it: the next one where none before it does
  pub origin_next : (k j : ℕ) {ins : Instruction} → slot (suc k) code ≡ Some ins → suc k < j → length (sources j 1 (take k code)) ≡ 0
      → 1 ≤ hits j (targets (suc k) ins) → origin code j ≡ Some (suc k)
  unfolding origin arriving_from
  origin_next k j {ins} c lt none_before named =
      let r = sources_before j 1 (suc k) (j - 1) code (omega arith) in
      rw (r.1, next_named code k c j)
      (one (sources j 1 (take k code)) (hits j (targets (suc k) ins)) r.0 none_before named)
    where
      one : (xs : List ℕ) (m : ℕ) (more : List ℕ) → length xs ≡ 0 → 1 ≤ m → first ((xs ++ replicate m (suc k)) ++ more) ≡ Some (suc k)
      one [] zero more e h = absurd (not-suc-le-zero h)
      one [] (suc m) more e h = refl
      one (x ∷ xs) m more e h = absurd (omega arith)

  -- and one of those before it where one does
  pub origin_before : (k j : ℕ) → k < j → 1 ≤ length (sources j 1 (take k code)) → origin code j ≡ Some (suc k) → ⊥
  unfolding origin arriving_from
  origin_before k j lt some-before o =
      let r = sources_before j 1 k (j - 1) code (omega arith) in
      let q = one (sources j 1 (take k code)) r.0 some-before (rw r.1 at o) in
      let s = source_is j 1 (take k code) q in
      omega (arith, (at_take k code s.0 s.3).0, s.1)
    where
      one : (xs more : List ℕ) → 1 ≤ length xs → first (xs ++ more) ≡ Some (suc k) → In (suc k) xs
      one [] more h e = absurd (not-suc-le-zero h)
      one (x ∷ xs) more h e = here (some_inj e)

  -- where something arrives there is an origin
  pub origin_there : (j : ℕ) → 1 ≤ arrivals code j → (i : ℕ) × (origin code j ≡ Some i)
  unfolding origin arrivals
  origin_there j h = one (arriving_from code j) h
    where
      one : (xs : List ℕ) → 1 ≤ length xs → (i : ℕ) × (first xs ≡ Some i)
      one [] h = absurd (not-suc-le-zero h)
      one (x ∷ xs) h = (x, refl)

---- The states

-- what every arrow brings, by its instruction and by itself
abbrev pub BringsAt : {S : Type 0} → (ℕ → S → Type 0) → Arrow S → Type 0
BringsAt P a = P a.0 a.1

abbrev pub Brings : {S : Type 0} → (S → Type 0) → Arrow S → Type 0
Brings P a = P a.1

push_length : {A : Type 0} (xs : List A) (x : A) → length (push xs x) ≡ suc (length xs)
push_length xs x = length-append xs (x ∷ []) ∙ omega arith

push_old : {A : Type 0} (xs : List A) (x d : A) (k : ℕ) → k < length xs → get_or (push xs x) k d ≡ get_or xs k d
push_old [] x d k h = absurd (not-suc-le-zero h)
push_old (y ∷ xs) x d zero h = refl
push_old (y ∷ xs) x d (suc k) h = push_old xs x d k (omega arith)

push_new : {A : Type 0} (xs : List A) (x d : A) (k : ℕ) → length xs ≡ k → get_or (push xs x) k d ≡ x
push_new [] x d zero h = refl
push_new [] x d (suc k) h = absurd (omega arith)
push_new (y ∷ xs) x d zero h = absurd (omega arith)
push_new (y ∷ xs) x d (suc k) h = push_new xs x d k (omega arith)

past_end : {A : Type 0} (xs : List A) (d : A) (k : ℕ) → length xs ≤ k → get_or xs k d ≡ d
past_end [] d k h = refl
past_end (y ∷ xs) d zero h = absurd (omega arith)
past_end (y ∷ xs) d (suc k) h = past_end xs d k (omega arith)

module _ {S : Type 0} (rule : ℕ → Instruction → S → Tried (List (Arrow S))) (roots : ℕ → Option S) (code : List Instruction) where
  states_length : (n : ℕ) → length (states rule roots code n) ≡ n
  unfolding states
  states_length zero = refl
  states_length (suc n) = push_length (states rule roots code n) _ ∙ ap suc (states_length n)

  -- more states do not change those before
  states_more : (n e i : ℕ) → i ≤ n → state_of (states rule roots code (e + n)) i ≡ state_of (states rule roots code n) i
  unfolding states
  states_more n e zero h = refl
  states_more n zero (suc d) h = let z : 0 + n ≡ n = omega arith in rw z
  states_more n (suc e) (suc d) h =
      let z : suc e + n ≡ suc (e + n) = omega arith in
      rw z (push_old (states rule roots code (e + n)) _ None d (rw (states_length (e + n)) (omega arith)) ∙ states_more n e (suc d) h)

  -- the state at j asks only for those before it
  pub from_same : (held held' : ℕ → Option S) (j : ℕ) → ((i : ℕ) → i < j → held i ≡ held' i)
      → state_from rule roots code held j ≡ state_from rule roots code held' j
  from_same held held' j h = ap (or_root (roots j)) (one (origin code j) refl)
    where
      one : (o : Option ℕ) → origin code j ≡ o → from_origin rule roots code held j o ≡ from_origin rule roots code held' j o
      one None e = refl
      one (Some i) e = ap (handed rule roots code i j (slot i code)) (h i (origin_leads code j i e).ahead)

  -- each state is what the states before it say
  pub state_is : (d : ℕ) → d < length code
      → state_at rule roots code (suc d) ≡ state_from rule roots code (state_at rule roots code) (suc d)
  unfolding state_at states
  state_is d h =
      let L = length code in
      let e : (L - suc d) + suc d ≡ L = omega arith in
      let e' : (L - d) + d ≡ L = omega arith in
      let whole : state_of (states rule roots code L) (suc d) ≡ state_of (states rule roots code (suc d)) (suc d) =
      rw e at (states_more (suc d) (L - suc d) (suc d) (omega arith)) in
      whole ∙ new d ∙ from_same (state_of (states rule roots code d)) (state_of (states rule roots code L)) (suc d)
      (λ i lt. sym (rw e' at (states_more d (L - d) i (omega arith))))
    where
      new : (d : ℕ) → state_of (states rule roots code (suc d)) (suc d)
          ≡ state_from rule roots code (state_of (states rule roots code d)) (suc d)
      new d =
          push_new (states rule roots code d) _ None d (states_length d)
          ∙ ap (λ (k : ℕ). state_from rule roots code (state_of (states rule roots code d)) (suc k)) (states_length d)

  -- a state stands at an instruction
  pub state_stands : (i : ℕ) {x : S} → state_at rule roots code i ≡ Some x → (d : ℕ) × (i ≡ suc d) × (d < length code) × (ins : Instruction)
      × (slot i code ≡ Some ins)
  unfolding state_at
  state_stands zero e = none_some e
  state_stands (suc d) e = one (leb (suc d) (length code)) refl
    where
      one : (t : Bool) → leb (suc d) (length code) ≡ t → (k : ℕ) × (suc d ≡ suc k) × (k < length code) × (ins : Instruction)
          × (slot (suc d) code ≡ Some ins)
      one true h =
          let lt = leb-true (suc d) (length code) h in
          let r = slot_there code (suc d) (omega arith) lt in
          (d, refl, lt, r.0, r.1)
      one false h =
          let n = states_length (length code) in
          none_some (sym (past_end (states rule roots code (length code)) None d (omega (arith, leb-false (suc d) (length code) h))) ∙ e)

  -- it is a root's own, or its origin handed it on
  pub data Came (j : ℕ) (x : S) : Type 0 where
    root : roots j ≡ Some x → Came j x
    on : (i : ℕ) (ins : Instruction) (y : S) (M : List (Arrow S)) → i < j → slot i code ≡ Some ins → state_at rule roots code i ≡ Some y
        → rule i ins y ≡ found M → In (j, x) M → Came j x

  pub came : (j : ℕ) {x : S} → state_at rule roots code j ≡ Some x → Came j x
  came j {x} e =
      let s = state_stands j e in
      let q : state_at rule roots code (suc s.0) ≡ Some x = rw s.1 at e in
      rw s.1 (one (suc s.0) (roots (suc s.0)) refl (sym (state_is s.0 s.2) ∙ q))
    where
      four : (j i : ℕ) (ins : Instruction) (y : S) (t : Tried (List (Arrow S))) → i < j → slot i code ≡ Some ins
          → state_at rule roots code i ≡ Some y → rule i ins y ≡ t → brought_to j t ≡ Some x → Came j x
      four j i ins y (refused r) lt c w q h = none_some h
      four j i ins y (found M) lt c w q h = on i ins y M lt c w q (arriving_in j M (first_in (arriving j M) h))

      three : (j i : ℕ) (o : Option Instruction) (w : Option S) → i < j → slot i code ≡ o → state_at rule roots code i ≡ w
          → handed rule roots code i j o w ≡ Some x → Came j x
      three j i None w lt c v h = none_some h
      three j i (Some ins) None lt c v h = none_some h
      three j i (Some ins) (Some y) lt c v h = four j i ins y (rule i ins y) lt c v refl h

      two : (j : ℕ) (o : Option ℕ) → origin code j ≡ o → from_origin rule roots code (state_at rule roots code) j o ≡ Some x → Came j x
      two j None c h = none_some h
      two j (Some i) c h = three j i (slot i code) (state_at rule roots code i) (origin_leads code j i c).ahead refl refl h

      one : (j : ℕ) (o : Option S) → roots j ≡ o
          → or_root o (from_origin rule roots code (state_at rule roots code) j (origin code j)) ≡ Some x → Came j x
      one j (Some y) c h = root (c ∙ h)
      one j None c h = two j (origin code j) refl h

  -- each instruction is tested with the state there
  pub along_passed : (test : ℕ → Instruction → Option S → Check) → along rule roots code test ≡ passed
      ↔ ((i : ℕ) (ins : Instruction) → slot i code ≡ Some ins → test i ins (state_at rule roots code i) ≡ passed)
  unfolding along state_at
  along_passed test = each_from_1 (λ i ins. test i ins (state_at rule roots code i)) code

  pub along_stops : (test : ℕ → Instruction → Option S → Check) {r : Refusal} → along rule roots code test ≡ refused r
      ↔ (i : ℕ) × StopsAt (λ i. slot i code) (λ i ins. test i ins (state_at rule roots code i)) r i
  unfolding along state_at
  along_stops test = stops_from_1 (λ i ins. test i ins (state_at rule roots code i)) code

  pub judge_found : (i : ℕ) (ins : Instruction) (x : S) {o : Option S} → judge rule roots code i ins o ≡ passed → o ≡ Some x
      → (M : List (Arrow S)) × (rule i ins x ≡ found M)
  judge_found i ins x e h = only_found (rule i ins x) (rw h at e)

  pub judged_found : judged rule roots code ≡ passed → (i : ℕ) (ins : Instruction) → slot i code ≡ Some ins → (x : S)
      → state_at rule roots code i ≡ Some x → (M : List (Arrow S)) × (rule i ins x ≡ found M)
  unfolding judged
  judged_found e i ins c x h = judge_found i ins x ((along_passed (judge rule roots code)).0 e i ins c) h

  -- what the roots have and the rule hands on, every state has
  module _ (P : ℕ → S → Type 0) (at_roots : (j : ℕ) (x : S) → roots j ≡ Some x → P j x)
      (keeps : (i : ℕ) (ins : Instruction) → slot i code ≡ Some ins → (x : S) → state_at rule roots code i ≡ Some x → (M : List (Arrow S))
      → rule i ins x ≡ found M → P i x → All (BringsAt P) M) where
    below_all : (n j : ℕ) → j < n → (x : S) → state_at rule roots code j ≡ Some x → P j x
    below_all zero j h x e = absurd (not-suc-le-zero h)
    below_all (suc n) j h x e = one (came j e) (λ i lt. below_all n i (omega arith))
      where
        one : Came j x → ((i : ℕ) → i < j → (y : S) → state_at rule roots code i ≡ Some y → P i y) → P j x
        one (root c) ih = at_roots j x c
        one (on i ins y M lt c w q m) ih = in_all_lem (keeps i ins c y w M q (ih i lt y w)) m

    pub state_all : (j : ℕ) (x : S) → state_at rule roots code j ≡ Some x → P j x
    state_all j x e = below_all (suc j) j (omega arith) x e

---- Along a tree

-- an arrow leads to what the table has there
abbrev pub LeadsOn : {S : Type 0} → (ℕ → Option S) → Arrow S → Type 0
LeadsOn tab a = tab a.0 ≡ Some a.1

-- targets lie ahead, and each instruction from 2 on has just one arrival
pub record Tree (code : List Instruction) : Type 0 where
  pub some_code : 1 ≤ length code
  pub ahead : (i : ℕ) (ins : Instruction) → slot i code ≡ Some ins → All (λ j. (i < j) × (j ≤ length code)) (targets i ins)
  pub once : (j : ℕ) → 2 ≤ j → j ≤ length code → arrivals code j ≡ 1

pub hits_all : {P : ℕ → Type 0} (j : ℕ) {ts : List ℕ} → All P ts → 1 ≤ hits j ts → P j
hits_all j l[] h = absurd (omega arith)
hits_all {P} j (◌l∷◌ {x} {xs} p ps) h = go (eqb x j) refl (λ w. hits_all j ps w) h
  where
    go : (b : Bool) → eqb x j ≡ b → (1 ≤ hits j xs → P j) → 1 ≤ (if b then 1 else 0) + hits j xs → P j
    go true e ih h = rw (eqb-true x j e) at p
    go false e ih h = ih (omega arith)

module _ {S : Type 0} (rule : ℕ → Instruction → S → Tried (List (Arrow S))) (x₁ : S) (code : List Instruction) where
  abbrev roots : ℕ → Option S
  roots j = root_at 1 x₁ j

  abbrev at : ℕ → Option S
  at i = state_at rule roots code i

  pub root_start : (j : ℕ) (x : S) → root_at 1 x₁ j ≡ Some x → (1 ≡ j) × (x₁ ≡ x)
  root_start j x e = one (eqb 1 j) refl e
    where
      one : (t : Bool) → eqb 1 j ≡ t → ◌≡◌ {A = Option S} (if t then Some x₁ else None) (Some x) → (1 ≡ j) × (x₁ ≡ x)
      one true q h = (eqb-true 1 j q, some_inj h)
      one false q h = none_some h

  pub state_start : 1 ≤ length code → at 1 ≡ Some x₁
  state_start h = state_is rule roots code 0 h

  -- what is handed on is the state of the instruction that it is handed to
  pub handed_state : (i j : ℕ) → 2 ≤ j → j ≤ length code → origin code j ≡ Some i → at j ≡ handed rule roots code i j (slot i code) (at i)
  handed_state i zero lo hi o = absurd (omega arith)
  handed_state i (suc d) lo hi o = state_is rule roots code d hi ∙ rw (ne_eqb 1 (suc d) (λ q. omega arith), o)

  -- what an instruction with a state hands on to j, where its rule passes
  pub handed_on : (i j : ℕ) (ins : Instruction) (x : S) (M : List (Arrow S)) → slot i code ≡ Some ins → at i ≡ Some x
      → rule i ins x ≡ found M → handed rule roots code i j (slot i code) (at i) ≡ first (arriving j M)
  handed_on i j ins x M c e r = rw (c, e, r)

  module _ (tree : Tree code)
      (among : (i : ℕ) (ins : Instruction) (x : S) (M : List (Arrow S)) → rule i ins x ≡ found M → (j : ℕ)
      → count j M ≤ hits j (targets i ins)) where
    -- the rule's arrows lead to what stands there
    pub state_leads : (i : ℕ) (ins : Instruction) → slot i code ≡ Some ins → (x : S) → at i ≡ Some x → (M : List (Arrow S))
        → rule i ins x ≡ found M → All (LeadsOn at) M
    state_leads i ins c x e M r = all_in M (λ a m. lands a m)
      where
        lands : (a : Arrow S) → In a M → at a.0 ≡ Some a.1
        lands a m =
            let some_hits : 1 ≤ hits a.0 (targets i ins) = le_trans (arrow_count M a m) (among i ins x M r a.0) in
            let further = hits_all a.0 (tree.ahead i ins c) some_hits in
            let l : Leads code i a.0 = record { ins = ins; stands = c; names = some_hits; ahead = further.0 } in
            let low = (slot_low i code c).0 in
            let one = le_of_eq (tree.once a.0 (omega (arith, further.0)) further.1) in
            let only_one = le_trans (among i ins x M r a.0) (leads_once code i a.0 l one) in
            handed_state i a.0 (omega (arith, further.0)) further.1 (origin_is code i a.0 l one)
            ∙ rw (c, e, r) (first_one (arriving a.0 M) only_one (arrives M a m))

  -- a table that the rule passes before m has the states there
  module _ (tab : ℕ → Option S) (start : tab 1 ≡ Some x₁) (m : ℕ)
      (obeys : (i : ℕ) (ins : Instruction) → i < m → slot i code ≡ Some ins → (x : S) → tab i ≡ Some x → (M : List (Arrow S))
      × (rule i ins x ≡ found M) × All (LeadsOn tab) M) where
    tab_below : (n j : ℕ) → j < n → j ≤ m → (x : S) → at j ≡ Some x → tab j ≡ Some x
    tab_below zero j h l x e = absurd (not-suc-le-zero h)
    tab_below (suc n) j h l x e = one (came rule roots code j e) (λ i lt. tab_below n i (omega arith) (omega arith))
      where
        one : Came rule roots code j x → ((i : ℕ) → i < j → (y : S) → at i ≡ Some y → tab i ≡ Some y) → tab j ≡ Some x
        one (root c) ih = let r = root_start j x c in rw (← r.0, ← r.1) start
        one (on i ins y M lt c w q p) ih =
            let r = obeys i ins (omega arith) c y (ih i lt y w) in
            let same : r.0 ≡ M = found_inj (sym r.1 ∙ q) in
            in_all_lem (rw same at r.2) p

    pub tab_is : (j : ℕ) → j ≤ m → (x : S) → at j ≡ Some x → tab j ≡ Some x
    tab_is j l x e = tab_below (suc j) j (omega arith) l x e

  -- where the rule takes every target and passes before m, every instruction up to m has a state
  module _ (tree : Tree code)
      (everywhere : (i : ℕ) (ins : Instruction) (x : S) (M : List (Arrow S)) → rule i ins x ≡ found M → (j : ℕ)
      → count j M ≡ hits j (targets i ins))
      (m : ℕ)
      (pass : (i : ℕ) (ins : Instruction) → i < m → slot i code ≡ Some ins → (x : S) → at i ≡ Some x → (M : List (Arrow S))
      × (rule i ins x ≡ found M)) where
    reach_below : (n j : ℕ) → j < n → 1 ≤ j → j ≤ m → j ≤ length code → (x : S) × (at j ≡ Some x)
    reach_below zero j h lo hi l = absurd (not-suc-le-zero h)
    reach_below (suc n) zero h lo hi l = absurd (omega arith)
    reach_below (suc n) (suc zero) h lo hi l = (x₁, state_start l)
    reach_below (suc n) (suc (suc d)) h lo hi l =
        let j = suc (suc d) in
        let o = origin_there code j (omega (arith, tree.once j (omega arith) l)) in
        let from = origin_leads code j o.0 o.1 in
        let low = (slot_low o.0 code from.stands).0 in
        let w = reach_below n o.0 (omega (arith, from.ahead)) low (omega (arith, from.ahead)) (omega (arith, from.ahead)) in
        let r = pass o.0 from.ins (omega (arith, from.ahead)) from.stands w.0 w.1 in
        let c : 1 ≤ count j r.0 = rw (everywhere o.0 from.ins w.0 r.0 r.1 j) from.names in
        one j r.0 c (handed_state o.0 j (omega arith) l o.1
        ∙ handed_on o.0 j from.ins w.0 r.0 from.stands w.1 r.1)
      where
        one : (j : ℕ) (M : List (Arrow S)) → 1 ≤ count j M → at j ≡ first (arriving j M) → (x : S) × (at j ≡ Some x)
        one j M h e = two (arriving j M) h e
          where
            two : (xs : List S) → 1 ≤ length xs → at j ≡ first xs → (x : S) × (at j ≡ Some x)
            two [] h e = absurd (not-suc-le-zero h)
            two (x ∷ xs) h e = (x, e)

    pub state_reached : (j : ℕ) → 1 ≤ j → j ≤ m → j ≤ length code → (x : S) × (at j ≡ Some x)
    state_reached j lo hi l = reach_below (suc j) j (omega arith) lo hi l
