-- What is left of a walk, one instruction further.
use Rattle.std.specs.Prelude.{if◌then◌else◌}
use mathlib.Core.Path.{◌≡◌, refl, sym, ap, ◌∙◌}
use mathlib.Core.List.{List, [], ◌∷◌, ◌++◌}
use Rattle.std.specs.Prelude.{Option, None, Some, slice_get}
use mathlib.Core.Bool.{Bool, true, false}
use Prim.Native.Nat.{ℕ, zero, suc, ◌+◌, ◌-◌, ◌≤◌, ◌<◌}
use native.Mathlib.Omega.{arith}
use native.Mathlib.Nat.{le_trans, le_of_eq}
use lib.ListN.{length, drop, drop_of_length-le}
use lib.Dec.{eqb}
use borrow.Author.Tests.{eq-eqb, ne_eqb, eqb-true, eqb-false}
use Rattle.rules.specs.declared.records.Instruction.{Instruction}
use Rattle.rules.specs.Base.{Refusal, Tried, found, refused, ◌>>=◌, Check, passed, only, each}
use Rattle.rules.specs.Stacks.{slot}
use Rattle.rules.specs.Walk.{targets, hits, origin, Arrow, arriving, first, root_at, state_at, along, judge, judged}
use Rattle.rules.proofs.ListLaws.{none_some, some_inj}
use Rattle.rules.proofs.WalkLaws.{count, slot_there, origin_is, Tree}
use Rattle.rules.proofs.WalkingLaws.{so_far, so_far_here, so_far_start, so_far_other, so_far_new}
use Rattle.sizing.specs.Left.{visited, walk, outcome, Alike}

drop_element : {A : Type 0} (xs : List A) (k : ℕ) {x : A} → slice_get xs k ≡ Some x → drop k xs ≡ x ∷ drop (suc k) xs
drop_element [] k e = absurd (none_some e)
drop_element (y ∷ xs) zero e = ap (λ (z : _). z ∷ xs) (some_inj e)
drop_element (y ∷ xs) (suc k) e = drop_element xs k e

module _ {S : Type 0} where
  ---- Arrows

  first_here : (t : ℕ) (x : S) (A : List (Arrow S)) → first (arriving t ((t, x) ∷ A)) ≡ Some x
  unfolding arriving
  first_here t x A = rw (eq-eqb t t refl)

  arriving_else : (j t : ℕ) (x : S) (A : List (Arrow S)) → (j ≡ t → ⊥) → arriving j ((t, x) ∷ A) ≡ arriving j A
  unfolding arriving
  arriving_else j t x A n = rw (ne_eqb t j (λ e. n (sym e)))

  -- an arrow to t on top: what arrives first
  pub first_put : (j t : ℕ) (x : S) (A : List (Arrow S))
      → first (arriving j ((t, x) ∷ A)) ≡ (if eqb j t then Some x else first (arriving j A))
  first_put j t x A = go (eqb j t) refl
    where
      go : (b : Bool) → eqb j t ≡ b → first (arriving j ((t, x) ∷ A)) ≡ (if b then Some x else first (arriving j A))
      go true e = rw (eqb-true j t e) (first_here t x A)
      go false e = ap first (arriving_else j t x A (eqb-false j t e))

  -- an arrow to an earlier instruction does not matter, nor one that brings what arrives anyhow
  pub alike_past : (i t : ℕ) (x : S) (A : List (Arrow S)) → t < i → Alike i ((t, x) ∷ A) A
  alike_past i t x A h j l = ap first (arriving_else j t x A (λ e. omega arith))

  pub alike_here : (i : ℕ) (x : S) (A : List (Arrow S)) → first (arriving i A) ≡ Some x → Alike i A ((i, x) ∷ A)
  alike_here i x A h j l = go (eqb j i) refl ∙ sym (first_put j i x A)
    where
      go : (b : Bool) → eqb j i ≡ b → first (arriving j A) ≡ (if b then Some x else first (arriving j A))
      go true e = rw (eqb-true j i e) h
      go false e = refl

  pub alike_put : (i t : ℕ) (x : S) (A B : List (Arrow S)) → Alike i A B → Alike i ((t, x) ∷ A) ((t, x) ∷ B)
  alike_put i t x A B h j l = first_put j t x A ∙ ap (λ (o : Option S). if eqb j t then Some x else o) (h j l) ∙ sym (first_put j t x B)

  alike_append : (L : List (Arrow S)) (i : ℕ) (A B : List (Arrow S)) → Alike i A B → Alike i (L ++ A) (L ++ B)
  alike_append [] i A B h = h
  alike_append (a ∷ L) i A B h = alike_put i a.0 a.1 (L ++ A) (L ++ B) (alike_append L i A B h)

  module _ (rule : ℕ → Instruction → S → Tried (List (Arrow S))) where
    only_later : (xs : List S) (t : Tried (List (List S))) → only (t >>= λ later. found (xs ∷ later)) ≡ only t
    only_later xs (found a) = refl
    only_later xs (refused r) = refl

    by_first : (i : ℕ) (ins : Instruction) (xs ys : List S) → first xs ≡ first ys → visited rule i ins xs ≡ visited rule i ins ys
    by_first i ins [] [] e = refl
    by_first i ins [] (y ∷ ys) e = absurd (none_some e)
    by_first i ins (x ∷ xs) [] e = absurd (none_some (sym e))
    by_first i ins (x ∷ xs) (y ∷ ys) e = ap (rule i ins) (some_inj e)

    -- the rule's answer at one instruction, and then the rest
    abbrev onward : List Instruction → ℕ → List (Arrow S) → Tried (List (Arrow S)) → Tried (List (List S))
    onward code i A t = t >>= λ leaving. walk (visited rule) (suc i) (leaving ++ A) code >>= λ later. found (arriving i A ∷ later)

    walk_alike : (code : List Instruction) (i : ℕ) (A B : List (Arrow S)) → Alike i A B
        → only (walk (visited rule) i A code) ≡ only (walk (visited rule) i B code)
    unfolding walk
    walk_alike [] i A B h = refl
    walk_alike (ins ∷ code) i A B h =
        ap (λ (t : Tried (List (Arrow S))). only (onward code i A t)) (by_first i ins (arriving i A) (arriving i B) (h i (omega arith)))
        ∙ go (visited rule i ins (arriving i B))
        (λ L. walk_alike code (suc i) (L ++ A) (L ++ B) (alike_append L (suc i) A B (λ j l. h j (omega arith))))
      where
        go : (t : Tried (List (Arrow S))) → ((L : List (Arrow S))
            → only (walk (visited rule) (suc i) (L ++ A) code) ≡ only (walk (visited rule) (suc i) (L ++ B) code))
            → only (onward code i A t) ≡ only (onward code i B t)
        go (found L) ih =
            only_later (arriving i A) (walk (visited rule) (suc i) (L ++ A) code) ∙ ih L
            ∙ sym (only_later (arriving i B) (walk (visited rule) (suc i) (L ++ B) code))
        go (refused r) ih = refl

    module _ (code : List Instruction) where
      pub outcome_alike : (i : ℕ) (A B : List (Arrow S)) → Alike i A B → outcome rule code i A ≡ outcome rule code i B
      unfolding outcome
      outcome_alike i A B h = walk_alike (drop (i - 1) code) i A B h

      -- at the end nothing is refused any more
      pub outcome_end : (i : ℕ) (A : List (Arrow S)) → length code < i → outcome rule code i A ≡ passed
      unfolding outcome walk
      outcome_end i A h = rw (drop_of_length-le code {i = i - 1} (omega arith))

      outcome_suc : (i : ℕ) (A : List (Arrow S)) → outcome rule code (suc i) A ≡ only (walk (visited rule) (suc i) A (drop i code))
      unfolding outcome
      outcome_suc i A = let z : suc i - 1 ≡ i = omega arith in ap (λ (k : ℕ). only (walk (visited rule) (suc i) A (drop k code))) z

      outcome_step : (i : ℕ) (A : List (Arrow S)) {ins : Instruction} → slot i code ≡ Some ins
          → outcome rule code i A ≡ only (onward (drop i code) i A (visited rule i ins (arriving i A)))
      unfolding walk
      outcome_step zero A e = absurd (none_some e)
      outcome_step (suc k) A e =
          outcome_suc k A ∙ ap (λ (l : List Instruction). only (walk (visited rule) (suc k) A l)) (drop_element code k e)

      module _ (i : ℕ) (A : List (Arrow S)) {ins : Instruction} (at : slot i code ≡ Some ins) where
        by_state : {x : S} → first (arriving i A) ≡ Some x → visited rule i ins (arriving i A) ≡ rule i ins x
        by_state {x} e = by_first i ins (arriving i A) (x ∷ []) e

        -- nothing arrives
        pub outcome_skipped : first (arriving i A) ≡ None → outcome rule code i A ≡ outcome rule code (suc i) A
        outcome_skipped e =
            outcome_step i A at ∙ ap (λ (t : Tried (List (Arrow S))). only (onward (drop i code) i A t))
            (by_first i ins (arriving i A) [] e)
            ∙ only_later (arriving i A) (walk (visited rule) (suc i) A (drop i code)) ∙ sym (outcome_suc i A)

        pub outcome_refused : (x : S) (r : Refusal) → first (arriving i A) ≡ Some x → rule i ins x ≡ refused r
            → outcome rule code i A ≡ refused r
        outcome_refused x r e h =
            outcome_step i A at ∙ ap (λ (t : Tried (List (Arrow S))). only (onward (drop i code) i A t)) (by_state e ∙ h)

        pub outcome_goes : (x : S) (L : List (Arrow S)) → first (arriving i A) ≡ Some x → rule i ins x ≡ found L
            → outcome rule code i A ≡ outcome rule code (suc i) (L ++ A)
        outcome_goes x L e h =
            outcome_step i A at ∙ ap (λ (t : Tried (List (Arrow S))). only (onward (drop i code) i A t)) (by_state e ∙ h)
            ∙ only_later (arriving i A) (walk (visited rule) (suc i) (L ++ A) (drop i code)) ∙ sym (outcome_suc i (L ++ A))

---- The bridge: in file order with the arrows so far, or by the states along them, the code is judged alike

arriving_append : {S : Type 0} (j : ℕ) (A B : List (Arrow S)) → arriving j (A ++ B) ≡ arriving j A ++ arriving j B
unfolding arriving
arriving_append j [] B = refl
arriving_append {S} j (a ∷ A) B = one (eqb a.0 j) (arriving_append j A B)
  where
    one : (t : Bool) → arriving j (A ++ B) ≡ arriving j A ++ arriving j B
        → (if t then a.1 ∷ arriving j (A ++ B) else arriving j (A ++ B))
        ≡ (if t then a.1 ∷ arriving j A else arriving j A) ++ arriving j B
    one true e = ap (λ (xs : List S). a.1 ∷ xs) e
    one false e = e

module _ {S : Type 0} (rule : ℕ → Instruction → S → Tried (List (Arrow S))) (x₁ : S) (code : List Instruction) (tree : Tree code)
    (among : (i : ℕ) (ins : Instruction) (x : S) (M : List (Arrow S)) → rule i ins x ≡ found M → (j : ℕ)
    → count j M ≤ hits j (targets i ins)) where
  abbrev at : ℕ → Option S
  at i = state_at rule (root_at 1 x₁) code i

  abbrev test : ℕ → Instruction → Check
  test i ins = judge rule (root_at 1 x₁) code i ins (at i)

  -- the arrows bring what is handed on so far
  abbrev Brought : ℕ → List (Arrow S) → Type 0
  Brought k A = (j : ℕ) → k < j → j ≤ length code → first (arriving j A) ≡ so_far rule x₁ code k j

  -- one instruction more hands on this
  module _ (k : ℕ) (A : List (Arrow S)) (ins : Instruction) (c : slot (suc k) code ≡ Some ins) (b : Brought k A) where
    by_origin : {Z : Type 0} (j : ℕ) → (origin code j ≡ Some (suc k) → Z) → ((origin code j ≡ Some (suc k) → ⊥) → Z) → Z
    by_origin {Z} j from apart = one (origin code j) refl
      where
        one : (o : Option ℕ) → origin code j ≡ o → Z
        one None e = apart (λ q. none_some (sym e ∙ q))
        one (Some i) e = two (eqb i (suc k)) refl
          where
            two : (t : Bool) → eqb i (suc k) ≡ t → Z
            two true q = from (e ∙ ap Some (eqb-true i (suc k) q))
            two false q = apart (λ p. eqb-false i (suc k) q (some_inj (sym e ∙ p)))

    brought_none : at (suc k) ≡ None → Brought (suc k) A
    brought_none e j lo hi =
        b j (omega arith) hi
        ∙ by_origin j (λ o. let n = so_far_new rule x₁ code k j o in n.0 ∙ sym (n.1
        ∙ rw (c, e))) (λ o. sym (so_far_other rule x₁ code k j o))

    brought_more : (x : S) (L : List (Arrow S)) → at (suc k) ≡ Some x → rule (suc k) ins x ≡ found L → Brought (suc k) (L ++ A)
    brought_more x L e r j lo hi = rw (arriving_append j L A) (one (arriving j L) refl)
      where
        one : (xs : List S) → arriving j L ≡ xs → first (xs ++ arriving j A) ≡ so_far rule x₁ code (suc k) j
        one [] q =
            b j (omega arith) hi
            ∙ by_origin j (λ o. let n = so_far_new rule x₁ code k j o in n.0 ∙ sym (n.1 ∙ rw (c, e, r) (ap first q)))
            (λ o. sym (so_far_other rule x₁ code k j o))
        one (y ∷ ys) q =
            let named : 1 ≤ hits j (targets (suc k) ins) = le_trans (rw q (omega arith)) (among (suc k) ins x L r j) in
            let o = origin_is code (suc k) j (record { ins = ins; stands = c; names = named; ahead = lo })
            (le_of_eq (tree.once j (omega arith) hi)) in
            sym ((so_far_new rule x₁ code k j o).1 ∙ rw (c, e, r) (ap first q))

  judged_from : (m k : ℕ) (A : List (Arrow S)) → k + m ≡ length code → Brought k A
      → outcome rule code (suc k) A ≡ each test (suc k) (drop k code)
  unfolding each
  judged_from zero k A l b =
      outcome_end rule code (suc k) A (omega arith) ∙ rw (drop_of_length-le code {i = k} (omega arith))
  judged_from (suc m) k A l b =
      let c = slot_there code (suc k) (omega arith) (omega arith) in
      let here : first (arriving (suc k) A) ≡ at (suc k) = b (suc k) (omega arith) (omega arith)
      ∙ so_far_here rule x₁ code k (omega arith) in
      rw (drop_element code k c.1) (one c.0 c.1 (at (suc k)) refl here (λ B q. judged_from m (suc k) B (omega arith) q))
    where
      two : (ins : Instruction) → slot (suc k) code ≡ Some ins → (x : S) → at (suc k) ≡ Some x → first (arriving (suc k) A) ≡ Some x
          → (t : Tried (List (Arrow S))) → rule (suc k) ins x ≡ t
          → ((B : List (Arrow S)) → Brought (suc k) B → outcome rule code (suc (suc k)) B ≡ each test (suc (suc k)) (drop (suc k) code))
          → outcome rule code (suc k) A ≡ (only t >>= (λ _. each test (suc (suc k)) (drop (suc k) code)))
      two ins c x e h (found L) r ih = outcome_goes rule code (suc k) A c x L h r ∙ ih (L ++ A) (brought_more k A ins c b x L e r)
      two ins c x e h (refused q) r ih = outcome_refused rule code (suc k) A c x q h r

      one : (ins : Instruction) → slot (suc k) code ≡ Some ins → (o : Option S) → at (suc k) ≡ o → first (arriving (suc k) A) ≡ at (suc k)
          → ((B : List (Arrow S)) → Brought (suc k) B → outcome rule code (suc (suc k)) B ≡ each test (suc (suc k)) (drop (suc k) code))
          → outcome rule code (suc k) A ≡ (test (suc k) ins >>= (λ _. each test (suc (suc k)) (drop (suc k) code)))
      one ins c None e h ih = rw e (outcome_skipped rule code (suc k) A c (h ∙ e) ∙ ih A (brought_none k A ins c b e))
      one ins c (Some x) e h ih = rw e (two ins c x e (h ∙ e) (rule (suc k) ins x) refl ih)

  pub walk_judged : outcome rule code 1 ((1, x₁) ∷ []) ≡ judged rule (root_at 1 x₁) code
  unfolding judged along state_at arriving
  walk_judged = judged_from (length code) 0 ((1, x₁) ∷ []) (omega arith) (λ j lo hi. one j ∙ sym (so_far_start rule x₁ code j))
    where
      one : (j : ℕ) → first (arriving j ((1, x₁) ∷ [])) ≡ root_at 1 x₁ j
      one j = two (eqb 1 j)
        where
          two : (t : Bool) → first (if t then x₁ ∷ [] else []) ≡ (if t then Some x₁ else None)
          two true = refl
          two false = refl
