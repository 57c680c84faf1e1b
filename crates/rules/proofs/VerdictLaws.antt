-- What a check decides: what holds where it passes, and what of its refusal where it refuses.
use mathlib.Core.Path.{◌≡◌, refl, sym, ap, ◌∙◌, subst}
use mathlib.Core.List.{List}
use Rattle.std.specs.Prelude.{Some, slice_get}
use mathlib.Core.Bool.{Bool, true, false}
use mathlib.Core.Logic.{◌↔◌}
use Prim.Native.Nat.{ℕ, zero, suc, ◌+◌, ◌≤◌, ◌<◌}
use native.Mathlib.Omega.{arith}
use native.Mathlib.Nat.{zero-add}
use Rattle.rules.specs.Base.{Refusal, found, refused, ◌>>=◌, Check, passed, Decides, require, for_each, each}
use Rattle.rules.proofs.ListLaws.{test_not}
use Rattle.rules.proofs.TriedLaws.{refused_found, refused_inj}
use Rattle.rules.proofs.EachLaws.{each_every, each_passes, each_stops, each_stopped}
use Rattle.rules.proofs.NumberedLaws.{for_each_at, for_each_refused}

-- what holds where a check passes, and of its refusal where it refuses
pub data Verdict (R : Type 0) (F : Refusal → Type 0) : Check → Type 0 where
  pass : R → Verdict R F passed
  refuse : {r : Refusal} → F r → Verdict R F (refused r)

module _ {R : Type 0} {F : Refusal → Type 0} where
  verdict_passed : {t : Check} → t ≡ passed → Verdict R F t → R
  verdict_passed e (pass p) = p
  verdict_passed e (refuse f) = absurd (refused_found e)

  verdict_refused : {t : Check} {r : Refusal} → t ≡ refused r → Verdict R F t → F r
  verdict_refused e (pass p) = absurd (refused_found (sym e))
  verdict_refused e (refuse f) = subst F (refused_inj e) f

  pub verdict_of_lem : (t : Check) → (t ≡ passed → R) → ((r : Refusal) → t ≡ refused r → F r) → Verdict R F t
  verdict_of_lem (found tt) p f = pass (p refl)
  verdict_of_lem (refused r) p f = refuse (f r refl)

  pub verdict_require : (t : Bool) (q : Refusal) → (t ≡ true ↔ R) → (¬ R → F q) → Verdict R F (require t q)
  verdict_require true q test f = pass (test.0 refl)
  verdict_require false q test f = refuse (f (test_not false test refl))

  pub verdict_bind : {Q : Type 0} {t u : Check} → Verdict Q F t → (Q → Verdict R F u) → Verdict R F (t >>= (λ _. u))
  verdict_bind (pass p) h = h p
  verdict_bind (refuse f) h = refuse f

  pub verdict_map : {Q : Type 0} {t : Check} → (Q → R) → Verdict Q F t → Verdict R F t
  verdict_map h (pass p) = pass (h p)
  verdict_map h (refuse f) = refuse f

  -- a check that says something in either case decides it, where the two exclude each other and there is one refusal at most
  pub verdict_decides : {t : Check} → Verdict R F t → ((r : Refusal) → R → F r → ⊥) → ((r q : Refusal) → F r → F q → r ≡ q)
      → Decides t R F
  verdict_decides (pass p) not_both one =
      (((λ e. p), λ h. refl), λ r. ((λ e. absurd (refused_found (sym e))), λ f. absurd (not_both r p f)))
  verdict_decides (refuse {r = q} v) not_both one = (
    ((λ e. absurd (refused_found e)), λ h. absurd (not_both q h v)),
    λ r. ((λ e. subst F (refused_inj e) v), λ f. ap refused (one q r v f)),
  )

-- a test decides what it tests
pub decides_require : {P : Type 0} (t : Bool) (q : Refusal) → (t ≡ true ↔ P) → Decides (require t q) P (λ r. (r ≡ q) × ¬ P)
decides_require t q test =
    verdict_decides (verdict_require t q test (λ n. (refl, n))) (λ r p f. f.1 p) (λ r s f g. f.0 ∙ sym g.0)

-- a rule for each element decides what the rule decides of them, the first refusal counting
-- the rule fails of an element, and holds of those before it
abbrev pub EachFails : {A : Type 0} → List A → (ℕ → A → Type 0) → (ℕ → A → Refusal → Type 0) → Refusal → Type 0
EachFails {A} xs R F r = (i : ℕ) × (x : A) × (slice_get xs i ≡ Some x) × F i x r
    × ((j : ℕ) (y : A) → j < i → slice_get xs j ≡ Some y → R j y)

module _ {A : Type 0} (rule : ℕ → A → Check) (k : ℕ) (xs : List A) (R : ℕ → A → Type 0) (F : ℕ → A → Refusal → Type 0)
    (rules : (i : ℕ) (x : A) → slice_get xs i ≡ Some x → Decides (rule (k + i) x) (R i x) (F i x)) where
  pub each_decides : Decides (each rule k xs) ((i : ℕ) (x : A) → slice_get xs i ≡ Some x → R i x) (EachFails xs R F)
  each_decides = (
    (
      (λ e i x h. (rules i x h).0.0 (each_every rule k xs e i h)),
      λ h. each_passes rule k xs (λ i x e. (rules i x e).0.1 (h i x e)),
    ),
    λ r. (
      (λ e.
          let f = each_stops rule k xs e in (
            f.0,
            f.1.it,
            f.1.there,
            ((rules f.0 f.1.it f.1.there).1 r).0 f.1.refuses,
            λ j y l h. (rules j y h).0.0 (f.1.before j y l h),
          )),
      λ f. each_stopped rule k xs f.0 (record {
        it = f.1;
        there = f.2;
        refuses = ((rules f.0 f.1 f.2).1 r).1 f.3;
        before = λ j y l h. (rules j y h).0.1 (f.4 j y l h);
      }),
    ),
  )

-- what holds before each number, where a check that passes carries it on to the next
pub verdict_for_each : {F : Refusal → Type 0} (rule : ℕ → Check) (P : ℕ → Type 0) (n : ℕ) → P 0
    → ((i : ℕ) → i < n → P i → Verdict (P (suc i)) F (rule i)) → Verdict (P n) F (for_each rule 0 n)
verdict_for_each {F} rule P n p step = go (for_each rule 0 n) refl
  where
    before : (i : ℕ) → i ≤ n → ((j : ℕ) → j < i → rule j ≡ passed) → P i
    before zero l e = p
    before (suc i) l e = verdict_passed (e i (omega arith)) (step i l (before i (omega arith) (λ j l'. e j (omega arith))))

    go : (t : Check) → for_each rule 0 n ≡ t → Verdict (P n) F t
    go (found tt) e = pass (before n (omega arith) (for_each_at rule n e))
    go (refused r) e =
        let f = (for_each_refused rule n 0 r).0 e in
        refuse (verdict_refused (rw (zero-add f.number) at f.refuses)
        (step f.number f.below (before f.number (omega (arith, f.below)) (λ j l. rw (zero-add j) at (f.earlier j l)))))
