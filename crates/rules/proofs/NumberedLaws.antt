-- Lists and checks by number: `numbered`, `for_each`, `each`.
use mathlib.Core.Path.{◌≡◌, refl, sym, ap, ◌∙◌, subst}
use Rattle.std.specs.Prelude.{None, Some, slice_get}
use mathlib.Core.Logic.{◌↔◌}
use Prim.Native.Nat.{ℕ, zero, suc, ◌+◌, ◌-◌, ◌≤◌, ◌<◌}
use native.Mathlib.Omega.{arith}
use native.Mathlib.Numerals.{add-one}
use native.Mathlib.Nat.{zero-add, not-suc-le-zero, add-suc, suc-add, add-zero}
use lib.ListN.{length}
use Rattle.rules.specs.Base.{Refusal, found, refused, ◌>>=◌, Check, passed, numbered, for_each, each}
use Rattle.rules.specs.Lists.{All, l[], ◌l∷◌}
use Rattle.rules.proofs.ListLaws.{at_less, some_inj}
use Rattle.rules.proofs.TriedLaws.{bind_found, refused_found}

module _ {A : Type 0} (f : ℕ → A) where
  pub numbered_length : (n k : ℕ) → length (numbered f k n) ≡ n
  unfolding numbered
  numbered_length zero k = refl
  numbered_length (suc n) k = ap suc (numbered_length n (suc k))

  pub numbered_at : (n k i : ℕ) → i < n → slice_get (numbered f k n) i ≡ Some (f (k + i))
  unfolding numbered
  numbered_at zero k i h = absurd (not-suc-le-zero h)
  numbered_at (suc n) k zero h = rw add-zero
  numbered_at (suc n) k (suc i) h = rw (add-suc, ← suc-add) (numbered_at n (suc k) i (omega arith))

  pub numbered_past : (n k i : ℕ) → n ≤ i → slice_get (numbered f k n) i ≡ None
  unfolding numbered
  numbered_past zero k i h = refl
  numbered_past (suc n) k zero h = absurd (not-suc-le-zero h)
  numbered_past (suc n) k (suc i) h = numbered_past n (suc k) i (omega arith)

  -- an element of a numbered list is that of its number, and back
  pub numbered_is : (n i : ℕ) {x : A} → slice_get (numbered f 0 n) i ≡ Some x → (i < n) × (x ≡ f i)
  numbered_is n i e =
      let h : i < n = subst (λ (m : ℕ). i < m) (numbered_length n 0) (at_less (numbered f 0 n) i e) in
      (h, some_inj (sym e ∙ numbered_at n 0 i h) ∙ ap f (zero-add i))

  pub numbered_there : (n i : ℕ) → i < n → slice_get (numbered f 0 n) i ≡ Some (f i)
  numbered_there n i h = numbered_at n 0 i h ∙ ap (λ (k : ℕ). Some (f k)) (zero-add i)

  pub numbered_all : {P : A → Type 0} (n k : ℕ) → ((i : ℕ) → i < n → P (f (k + i))) → All P (numbered f k n)
  unfolding numbered
  numbered_all zero k h = l[]
  numbered_all {P} (suc n) k h =
      subst (λ (i : ℕ). P (f i)) (add-zero k) (h 0 (omega arith))
      l∷ numbered_all n (suc k) (λ i l. subst (λ (j : ℕ). P (f j)) (add-suc k i ∙ (rw (suc-add k i) refl)) (h (suc i) (omega arith)))

-- a rule over a numbered list is the rule at each number; the rule may count from another number
pub each_numbered : {A : Type 0} (rule : ℕ → A → Check) (f : ℕ → A) (number : ℕ → ℕ) → ((k : ℕ) → number (suc k) ≡ suc (number k))
    → (n k : ℕ) → each rule (number k) (numbered f k n) ≡ for_each (λ i. rule (number i) (f i)) k n
unfolding each numbered for_each
each_numbered rule f number h zero k = refl
each_numbered rule f number h (suc n) k =
    ap (λ (later : Check). rule (number k) (f k) >>= (λ _. later)) (rw (h k) at (each_numbered rule f number h n (suc k)))

module _ (rule : ℕ → Check) where
  -- the check of number k of n and of those behind it
  for_each_step : (n k : ℕ) → k < n → for_each rule k (n - k) ≡ (rule k >>= (λ _. for_each rule (k + 1) (n - (k + 1))))
  unfolding for_each
  for_each_step n k h =
      let e : n - k ≡ suc (n - (k + 1)) = omega arith in
      rw (e, add-one)

  pub for_each_go : (n k : ℕ) → k < n → rule k ≡ passed → for_each rule k (n - k) ≡ for_each rule (k + 1) (n - (k + 1))
  for_each_go n k h e = for_each_step n k h ∙ rw e

  pub for_each_stop : (n k : ℕ) {r : Refusal} → k < n → rule k ≡ refused r → for_each rule k (n - k) ≡ refused r
  for_each_stop n k h e = for_each_step n k h ∙ rw e

  pub for_each_none : (n k : ℕ) → n ≤ k → for_each rule k (n - k) ≡ passed
  unfolding for_each
  for_each_none n k h = let e : n - k ≡ 0 = omega arith in rw e

  for_each_all : (n k : ℕ) {u : Unit {0}} → for_each rule k n ≡ found u → (i : ℕ) → i < n → rule (k + i) ≡ passed
  unfolding for_each
  for_each_all zero k e i h = absurd (not-suc-le-zero h)
  for_each_all (suc n) k e zero h = rw add-zero (bind_found (rule k) _ e).1
  for_each_all (suc n) k e (suc i) h =
      let r : k + suc i ≡ suc k + i = omega arith in
      rw r (for_each_all n (suc k) (bind_found (rule k) _ e).2 i (omega arith))

  -- where all pass, each does
  pub for_each_at : (n : ℕ) {u : Unit {0}} → for_each rule 0 n ≡ found u → (i : ℕ) → i < n → rule i ≡ passed
  for_each_at n e i h = subst (λ (j : ℕ). rule j ≡ passed) (zero-add i) (for_each_all n 0 e i h)

  -- the rule refuses a number, and passes for those before it
  pub record FirstNumber (k n : ℕ) (r : Refusal) : Type 0 where
    pub number : ℕ
    pub below : number < n
    pub refuses : rule (k + number) ≡ refused r
    pub earlier : (j : ℕ) → j < number → rule (k + j) ≡ passed

  first_number : (n k : ℕ) {r : Refusal} → for_each rule k n ≡ refused r → FirstNumber k n r
  unfolding for_each
  first_number zero k e = absurd (refused_found (sym e))
  first_number (suc n) k {r} e = go (rule k) refl e (λ e'. first_number n (suc k) e')
    where
      go : (t : Check) → rule k ≡ t → (t >>= (λ _. for_each rule (suc k) n)) ≡ refused r
          → (for_each rule (suc k) n ≡ refused r → FirstNumber (suc k) n r) → FirstNumber k (suc n) r
      go (found tt) h e ih = record {
        number = suc (ih e).number;
        below = omega (arith, (ih e).below);
        refuses = rw (add-suc k (ih e).number, ← suc-add k (ih e).number) (ih e).refuses;
        earlier = before;
      }
        where
          before : (j : ℕ) → j < suc (ih e).number → rule (k + j) ≡ passed
          before zero l = rw (add-zero k) h
          before (suc j) l = rw (add-suc k j, ← suc-add k j) ((ih e).earlier j (omega arith))
      go (refused q) h e ih = record {
        number = 0;
        below = omega arith;
        refuses = rw (add-zero k) (h ∙ e);
        earlier = λ j l. absurd (not-suc-le-zero l);
      }

  number_first : (n k i : ℕ) {r : Refusal} → i < n → rule (k + i) ≡ refused r → ((j : ℕ) → j < i → rule (k + j) ≡ passed)
      → for_each rule k n ≡ refused r
  unfolding for_each
  number_first zero k i l h p = absurd (not-suc-le-zero l)
  number_first (suc n) k zero {r} l h p =
      let q : rule k ≡ refused r = rw (add-zero k) at h in
      rw q
  number_first (suc n) k (suc i) l h p =
      let q : rule k ≡ passed = rw (add-zero k) at (p 0 (omega arith)) in
      rw q (number_first n (suc k) i (omega arith) (rw (suc-add k i, ← add-suc k i) h) (λ j l'. rw (suc-add k j, ← add-suc k j)
      (p (suc j) (omega arith))))

  -- a rule for each number refuses just as it refuses the first that it refuses
  pub for_each_refused : (n k : ℕ) (r : Refusal) → for_each rule k n ≡ refused r ↔ FirstNumber k n r
  for_each_refused n k r = ((λ e. first_number n k e), λ f. number_first n k f.number f.below f.refuses f.earlier)
