-- A rule for each element of a list: it passes where every one does, and its refusal is the first.
use mathlib.Core.Path.{◌≡◌, refl, sym, ap}
use mathlib.Core.List.{List, [], ◌∷◌}
use Rattle.std.specs.Prelude.{Option, Some, slice_get}
use mathlib.Core.Bool.{Bool, true, false}
use mathlib.Core.Logic.{◌↔◌}
use Prim.Native.Nat.{ℕ, zero, suc, ◌+◌, ◌<◌}
use native.Mathlib.Omega.{arith}
use native.Mathlib.Nat.{add-zero, add-suc, suc-add, zero-add}
use lib.Dec.{eqb}
use borrow.Author.Tests.{eqb-true, eqb-false}
use Rattle.rules.specs.Base.{Refusal, refused, Check, passed, each}
use Rattle.rules.specs.Stacks.{slot}
use Rattle.rules.proofs.ListLaws.{none_some, some_inj}
use Rattle.rules.proofs.TriedLaws.{bind_found, refused_found, Stops, at_once, after, bind_refused}

-- an element is refused, and those before it pass. `look` finds an element by its number
pub record StopsAt {A : Type 0} (look : ℕ → Option A) (rule : ℕ → A → Check) (r : Refusal) (n : ℕ) : Type 0 where
  pub it : A
  pub there : look n ≡ Some it
  pub refuses : rule n it ≡ refused r
  pub before : (m : ℕ) (y : A) → m < n → look m ≡ Some y → rule m y ≡ passed

module _ {A : Type 0} (rule : ℕ → A → Check) where
  pub each_every : (k : ℕ) (xs : List A) → each rule k xs ≡ passed → (d : ℕ) {x : A} → slice_get xs d ≡ Some x → rule (k + d) x ≡ passed
  unfolding each
  each_every k [] e d h = none_some h
  each_every k (y ∷ xs) e zero h = rw (add-zero k, ← some_inj h) (bind_found (rule k y) _ e).1
  each_every k (y ∷ xs) e (suc d) h = rw (add-suc k d, ← suc-add k d) (each_every (suc k) xs (bind_found (rule k y) _ e).2 d h)

  pub each_passes : (k : ℕ) (xs : List A) → ((d : ℕ) (x : A) → slice_get xs d ≡ Some x → rule (k + d) x ≡ passed) → each rule k xs ≡ passed
  unfolding each
  each_passes k [] h = refl
  each_passes k (x ∷ xs) h =
      let e : rule k x ≡ passed = rw (add-zero k) at (h 0 x refl) in
      rw e (each_passes (suc k) xs (λ d y w. rw (suc-add k d, ← add-suc k d) (h (suc d) y w)))

  pub each_stops : (k : ℕ) (xs : List A) {r : Refusal} → each rule k xs ≡ refused r
      → (n : ℕ) × StopsAt (slice_get xs) (λ d. rule (k + d)) r n
  unfolding each
  each_stops k [] e = absurd (refused_found (sym e))
  each_stops k (x ∷ xs) {r} e = one (λ g. each_stops (suc k) xs g) (bind_refused (rule k x) _ e)
    where
      one : (each rule (suc k) xs ≡ refused r → (n : ℕ) × StopsAt (slice_get xs) (λ d. rule (suc k + d)) r n)
          → Stops (rule k x) (λ _. each rule (suc k) xs) r → (n : ℕ) × StopsAt (slice_get (x ∷ xs)) (λ d. rule (k + d)) r n
      one ih (at_once h) = (0, record { it = x; there = refl; refuses = rw (add-zero k) h; before = λ m y l e. absurd (omega arith) })
      one ih (after tt h g) =
          let w = ih g in (
            suc w.0,
            record {
              it = w.1.it;
              there = w.1.there;
              refuses = rw (add-suc k w.0, ← suc-add k w.0) w.1.refuses;
              before = earlier w.0 w.1.before;
            },
          )
        where
          earlier : (n : ℕ) → ((m : ℕ) (y : A) → m < n → slice_get xs m ≡ Some y → rule (suc k + m) y ≡ passed) → (m : ℕ) (y : A)
              → m < suc n → slice_get (x ∷ xs) m ≡ Some y → rule (k + m) y ≡ passed
          earlier n p zero y l e = rw (add-zero k, ← some_inj e) h
          earlier n p (suc m) y l e = rw (add-suc k m, ← suc-add k m) (p m y (omega arith) e)

  pub each_stopped : (k : ℕ) (xs : List A) {r : Refusal} (n : ℕ) → StopsAt (slice_get xs) (λ d. rule (k + d)) r n
      → each rule k xs ≡ refused r
  unfolding each
  each_stopped k [] n s = none_some s.there
  each_stopped k (y ∷ xs) {r} zero s =
      let h : rule k y ≡ refused r = rw (some_inj s.there) (rw (add-zero k) at s.refuses) in
      rw h
  each_stopped k (y ∷ xs) (suc n) s =
      let q : rule k y ≡ passed = rw (add-zero k) at (s.before 0 y (omega arith) refl) in
      rw q (each_stopped (suc k) xs n (record {
        it = s.it;
        there = s.there;
        refuses = rw (suc-add k n, ← add-suc k n) s.refuses;
        before = λ m z l w. rw (suc-add k m, ← add-suc k m) (s.before (suc m) z (omega arith) w);
      }))

---- Numbered from 0, as functions and constructors are, and from 1, as instructions and arguments are

module _ {A : Type 0} (rule : ℕ → A → Check) (xs : List A) where
  pub each_from_0 : each rule 0 xs ≡ passed ↔ ((n : ℕ) (x : A) → slice_get xs n ≡ Some x → rule n x ≡ passed)
  each_from_0 = (
    λ e n x h. rw (zero-add n) at (each_every rule 0 xs e n h),
    λ h. each_passes rule 0 xs (λ d x e. rw (zero-add d)
        (h d x e)),
  )

  pub stops_from_0 : {r : Refusal} → each rule 0 xs ≡ refused r ↔ (n : ℕ) × StopsAt (slice_get xs) rule r n
  stops_from_0 {r} = (
    there_is,
    λ s. each_stopped rule 0 xs s.0 (record {
      it = s.1.it;
      there = s.1.there;
      refuses = rw (zero-add s.0) s.1.refuses;
      before = λ m y l e. rw (zero-add m) (s.1.before m y l e);
    }),
  )
    where
      there_is : each rule 0 xs ≡ refused r → (n : ℕ) × StopsAt (slice_get xs) rule r n
      there_is e =
          let s = each_stops rule 0 xs e in (
            s.0,
            record {
              it = s.1.it;
              there = s.1.there;
              refuses = rw (zero-add s.0) at s.1.refuses;
              before = λ m y l w. rw (zero-add m) at (s.1.before m y l w);
            },
          )

  one_and : (d : ℕ) → 1 + d ≡ suc d
  one_and d = omega arith

  pub each_from_1 : each rule 1 xs ≡ passed ↔ ((i : ℕ) (x : A) → slot i xs ≡ Some x → rule i x ≡ passed)
  each_from_1 = (λ e. one e, λ h. each_passes rule 1 xs (λ d x e. rw (one_and d) (h (suc d) x e)))
    where
      one : each rule 1 xs ≡ passed → (i : ℕ) (x : A) → slot i xs ≡ Some x → rule i x ≡ passed
      one e zero x h = none_some h
      one e (suc d) x h = rw (one_and d) at (each_every rule 1 xs e d h)

  pub stops_from_1 : {r : Refusal} → each rule 1 xs ≡ refused r ↔ (i : ℕ) × StopsAt (λ i. slot i xs) rule r i
  stops_from_1 {r} = (there_is, refuses)
    where
      there_is : each rule 1 xs ≡ refused r → (i : ℕ) × StopsAt (λ i. slot i xs) rule r i
      there_is e =
          let s = each_stops rule 1 xs e in (
            suc s.0,
            record {
              it = s.1.it;
              there = s.1.there;
              refuses = rw (one_and s.0) at s.1.refuses;
              before = earlier s.0 s.1.before;
            },
          )
        where
          earlier : (n : ℕ) → ((m : ℕ) (y : A) → m < n → slice_get xs m ≡ Some y → rule (1 + m) y ≡ passed) → (i : ℕ) (y : A) → i < suc n
              → slot i xs ≡ Some y → rule i y ≡ passed
          earlier n p zero y l w = none_some w
          earlier n p (suc m) y l w = rw (one_and m) at (p m y (omega arith) w)

      refuses : (i : ℕ) × StopsAt (λ i. slot i xs) rule r i → each rule 1 xs ≡ refused r
      refuses (zero, s) = none_some s.there
      refuses (suc d, s) = each_stopped rule 1 xs d (record {
        it = s.it;
        there = s.there;
        refuses = rw (one_and d) s.refuses;
        before = λ m y l w. rw (one_and m) (s.before (suc m) y (omega arith) w);
      })

-- the first number of which something holds is one number
pub level : (n m : ℕ) → (n < m → ⊥) → (m < n → ⊥) → n ≡ m
level zero zero h l = refl
level zero (suc m) h l = absurd (h (omega arith))
level (suc n) zero h l = absurd (l (omega arith))
level (suc n) (suc m) h l = ap suc (level n m (λ w. h (omega arith)) (λ w. l (omega arith)))

-- what holds of the numbers before k and of k holds of all up to k
pub up_to : {P : ℕ → Type 0} (k : ℕ) → ((j : ℕ) → j < k → P j) → P k → (j : ℕ) → j < suc k → P j
up_to {P} k before here j l = one (eqb j k) refl
  where
    less : (j k : ℕ) → j < suc k → (j ≡ k → ⊥) → j < k
    less zero zero h d = absurd (d refl)
    less zero (suc k) h d = omega arith
    less (suc j) zero h d = absurd (omega arith)
    less (suc j) (suc k) h d = omega (arith, less j k (omega arith) (λ q. d (ap suc q)))

    one : (b : Bool) → eqb j k ≡ b → P j
    one true e = rw (eqb-true j k e) here
    one false e = before j (less j k l (eqb-false j k e))
