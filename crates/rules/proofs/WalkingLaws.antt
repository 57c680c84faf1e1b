-- The loop of a pass over a function's code: a slot for each instruction holds the state that the instructions before it have handed on to
-- it. One instruction more is two stores, of which slot 0 takes those that are none.
use Rattle.std.specs.Prelude.{if◌then◌else◌, Option, None, Some}
use mathlib.Core.Path.{◌≡◌, refl, sym, ap, ◌∙◌}
use mathlib.Core.List.{List, [], ◌∷◌, ◌++◌}
use mathlib.Core.Bool.{Bool, true, false}
use Prim.Native.Nat.{ℕ, zero, suc, ◌≤◌, ◌<◌}
use native.Mathlib.Omega.{arith}
use native.Mathlib.Nat.{le_of_eq, le_trans}
use lib.ListN.{length, get_or, set, length-set}
use lib.Seq.{get_or-set_same, get_or-set_other}
use lib.Dec.{eqb, leb}
use borrow.Author.Tests.{eqb-true, eqb-false, leb-true, le-leb, lt-leb, ne_eqb, leb-false}
use Rattle.rules.specs.declared.records.Instruction.{Instruction}
use Rattle.rules.specs.Base.{Tried, found, Check, numbered, for_each, each}
use Rattle.rules.specs.Stacks.{slot}
use Rattle.rules.specs.Walk.{targets, hits, origin, first, Arrow, arriving, root_at, or_root, handed, from_origin, state_from, state_at}
use Rattle.rules.specs.Walk.{along, arrow_to}
use Rattle.rules.proofs.ListLaws.{none_some, some_inj}
use Rattle.rules.proofs.WalkLaws.{count, origin_leads, origin_is, from_same, state_is, Tree, root_start}
use Rattle.rules.proofs.NumberedLaws.{each_numbered}

-- a test of each instruction, as a loop over numbers from 0 makes it
pub along_numbered : {S : Type 0} (rule : ℕ → Instruction → S → Tried (List (Arrow S))) (roots : ℕ → Option S) (f : ℕ → Instruction)
    (last : ℕ) {code : List Instruction} → code ≡ numbered f 0 last → (test : ℕ → Instruction → Option S → Check)
    → along rule roots code test ≡ for_each (λ k. test (suc k) (f k) (state_at rule roots code (suc k))) 0 last
unfolding along state_at
along_numbered rule roots f last {code} is test =
    ap (each (λ i ins. test i ins (state_at rule roots code i)) 1) is
    ∙ each_numbered (λ i ins. test i ins (state_at rule roots code i)) f suc (λ k. refl) last 0

-- what two stores bring to an instruction
abbrev arrived : {S : Type 0} → Bool → Bool → S → S → List S
arrived a b y z = if a then y ∷ (if b then z ∷ [] else []) else (if b then z ∷ [] else [])

arriving_two : {S : Type 0} (on to j : ℕ) (y z : S) → 1 ≤ j
    → arriving j (arrow_to on y ++ arrow_to to z) ≡ arrived (eqb on j) (eqb to j) y z
unfolding arriving arrow_to
arriving_two zero zero j y z h = rw (ne_eqb 0 j (λ e. omega arith))
arriving_two zero (suc to) j y z h = rw (ne_eqb 0 j (λ e. omega arith))
arriving_two (suc on) zero j y z h = rw (ne_eqb 0 j (λ e. omega arith))
arriving_two (suc on) (suc to) j y z h = refl

module _ {S : Type 0} (rule : ℕ → Instruction → S → Tried (List (Arrow S))) (x₁ : S) (code : List Instruction) where
  abbrev at : ℕ → Option S
  at i = state_at rule (root_at 1 x₁) code i

  -- the states of the first k instructions
  abbrev held_to : ℕ → ℕ → Option S
  held_to k i = if leb i k then at i else None

  -- what the first k instructions hand on to j, or j's own as a root
  unfoldable pub so_far : ℕ → ℕ → Option S
  so_far k j = state_from rule (root_at 1 x₁) code (held_to k) j

  pub so_far_here : (k : ℕ) → k < length code → so_far k (suc k) ≡ at (suc k)
  unfolding so_far
  so_far_here k h =
      from_same rule (root_at 1 x₁) code (held_to k) at (suc k) (λ i lt. rw (le-leb i k (omega arith)))
      ∙ sym (state_is rule (root_at 1 x₁) code k h)

  pub so_far_start : (j : ℕ) → so_far 0 j ≡ root_at 1 x₁ j
  unfolding so_far
  so_far_start j = two (root_at 1 x₁ j) (origin code j) refl
    where
      one : (i : ℕ) (o : Option Instruction) → slot i code ≡ o → handed rule (root_at 1 x₁) code i j o (held_to 0 i) ≡ None
      one i None e = refl
      one zero (Some ins) e = none_some e
      one (suc i) (Some ins) e = rw (lt-leb (suc i) 0 (omega arith))

      two : (r : Option S) (o : Option ℕ) → origin code j ≡ o → or_root r (from_origin rule (root_at 1 x₁) code (held_to 0) j o) ≡ r
      two (Some x) o e = refl
      two None None e = refl
      two None (Some i) e = one i (slot i code) refl

  -- one instruction more changes nothing where it does not lead
  pub so_far_other : (k j : ℕ) → (origin code j ≡ Some (suc k) → ⊥) → so_far (suc k) j ≡ so_far k j
  unfolding so_far
  so_far_other k j apart = ap (or_root (root_at 1 x₁ j)) (one (origin code j) refl)
    where
      held : (i : ℕ) (a b : Bool) → leb i (suc k) ≡ a → leb i k ≡ b → (i ≡ suc k → ⊥)
          → ◌≡◌ {A = Option S} (if a then at i else None) (if b then at i else None)
      held i true true p q d = refl
      held i false false p q d = refl
      held i true false p q d = absurd (d (omega (arith, leb-true i (suc k) p, leb-false i k q)))
      held i false true p q d = absurd (omega (arith, leb-false i (suc k) p, leb-true i k q))

      one : (o : Option ℕ) → origin code j ≡ o
          → from_origin rule (root_at 1 x₁) code (held_to (suc k)) j o ≡ from_origin rule (root_at 1 x₁) code (held_to k) j o
      one None e = refl
      one (Some i) e =
          ap (handed rule (root_at 1 x₁) code i j (slot i code))
          (held i (leb i (suc k)) (leb i k) refl refl (λ q. apart (e ∙ ap Some q)))

  -- and brings the state where it does, which had none
  pub so_far_new : (k j : ℕ) → origin code j ≡ Some (suc k)
      → (so_far k j ≡ None) × (so_far (suc k) j ≡ handed rule (root_at 1 x₁) code (suc k) j (slot (suc k) code) (at (suc k)))
  unfolding so_far
  so_far_new k j o =
      let l = origin_leads code j (suc k) o in
      let not_root : root_at 1 x₁ j ≡ None = rw (ne_eqb 1 j (λ q. omega (arith, l.ahead))) in (
        rw (not_root, o, lt-leb (suc k) k (omega arith), l.stands),
        rw (not_root, o, le-leb (suc k) (suc k) (omega arith)),
      )

  -- Where each instruction has one arrival: a slot holds the state handed on so far
  module _ {W : Type 0} (R : W → S → Type 0) (d : W) where
    pub record WalkOn (k : ℕ) (w : List W) : Type 0 where
      pub within : k ≤ length code
      pub room : length code < length w
      pub waits : (j : ℕ) (y : S) → k < j → j ≤ length code → so_far k j ≡ Some y → R (get_or w j d) y

    pub walking_start : (w : List W) → length code < length w → R (get_or w 1 d) x₁ → WalkOn 0 w
    walking_start w h r = record {
      within = omega arith;
      room = h;
      waits = λ j y lo hi e. let q = root_start rule x₁ code j y (sym (so_far_start j) ∙ e) in rw (← q.0, ← q.1) r;
    }

    module _ {k : ℕ} {w : List W} (s : WalkOn k w) (h : k < length code) where
      -- the next instruction's slot holds its state
      pub walking_here : (x : S) → at (suc k) ≡ Some x → R (get_or w (suc k) d) x
      walking_here x e = s.waits (suc k) x (omega arith) (omega arith) (so_far_here k h ∙ e)

      pub walking_next : Tree code → (ins : Instruction) → slot (suc k) code ≡ Some ins → (x : S) → at (suc k) ≡ Some x
          → (on to : ℕ) (y z : S) (v u : W) → rule (suc k) ins x ≡ found (arrow_to on y ++ arrow_to to z)
          → ((j : ℕ) → count j (arrow_to on y ++ arrow_to to z) ≤ hits j (targets (suc k) ins)) → on ≤ length code → to ≤ length code
          → R v y → R u z → WalkOn (suc k) (set (set w to u) on v)
      walking_next tree ins c x e on to y z v u r among h₁ h₂ rv ru = record {
        within = omega arith;
        room = rw (length-set (set w to u) on v, length-set w to u) s.room;
        waits = λ j q lo hi sf. stored j q lo hi sf (eqb on j) refl (eqb to j) refl (arriving_two on to j y z (omega arith));
      }
        where
          -- an arrow to j makes this instruction its origin, and brings its state
          brings : (j : ℕ) (q : S) → suc k < j → j ≤ length code → {more : List S} → arriving j (arrow_to on y ++ arrow_to to z) ≡ q ∷ more
              → so_far (suc k) j ≡ Some q
          brings j q lo hi m =
              let named : 1 ≤ hits j (targets (suc k) ins) = le_trans (rw m (omega arith)) (among j) in
              let o = origin_is code (suc k) j (record { ins = ins; stands = c; names = named; ahead = lo })
              (le_of_eq (tree.once j (omega arith) hi)) in
              (so_far_new k j o).1 ∙ rw (c, e, r) (ap first m)

          -- where no arrow leads, the slot is as it was
          keeps : (j : ℕ) (q : S) → so_far (suc k) j ≡ Some q → arriving j (arrow_to on y ++ arrow_to to z) ≡ [] → (o : Option ℕ)
              → origin code j ≡ o → so_far k j ≡ Some q
          keeps j q sf m None o = sym (so_far_other k j (λ p. none_some (sym o ∙ p))) ∙ sf
          keeps j q sf m (Some i) o = one (eqb i (suc k)) refl
            where
              one : (b : Bool) → eqb i (suc k) ≡ b → so_far k j ≡ Some q
              one true p =
                  let is : so_far (suc k) j ≡ None =
                  (so_far_new k j (o ∙ ap Some (eqb-true i (suc k) p))).1 ∙ rw (c, e, r) (ap first m) in
                  none_some (sym is ∙ sf)
              one false p = sym (so_far_other k j (λ n. eqb-false i (suc k) p (some_inj (sym o ∙ n)))) ∙ sf

          stored : (j : ℕ) (q : S) → suc k < j → j ≤ length code → so_far (suc k) j ≡ Some q → (a : Bool) → eqb on j ≡ a → (b : Bool)
              → eqb to j ≡ b → arriving j (arrow_to on y ++ arrow_to to z) ≡ arrived a b y z → R (get_or (set (set w to u) on v) j d) q
          stored j q lo hi sf true p b p' m =
              let is : on ≡ j = eqb-true on j p in
              let same : q ≡ y = some_inj (sym sf ∙ brings j y lo hi m) in
              rw (same, ← is, get_or-set_same (set w to u) on v d (rw (length-set w to u) (omega (arith, s.room)))) rv
          stored j q lo hi sf false p true p' m =
              let is : to ≡ j = eqb-true to j p' in
              let same : q ≡ z = some_inj (sym sf ∙ brings j z lo hi m) in
              rw (
                same,
                get_or-set_other (set w to u) on j v d (λ n. eqb-false on j p (sym n)),
                ← is,
                get_or-set_same w to u d (omega
                    (arith, s.room)),
              )
              ru
          stored j q lo hi sf false p false p' m =
              rw (
                get_or-set_other (set w to u) on j v d (λ n. eqb-false on j p (sym n)),
                get_or-set_other w to j u d
                    (λ n. eqb-false to j p' (sym n)),
              )
              (s.waits j q (omega arith) hi (keeps j q sf m (origin code j) refl))
