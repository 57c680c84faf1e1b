-- What a check that passes or refuses says of its parts.
use mathlib.Core.Path.{◌≡◌, refl, sym, ap, ◌∙◌}
use mathlib.Core.List.{List, [], ◌∷◌}
use Rattle.std.specs.Prelude.{Option, None, Some}
use mathlib.Core.Bool.{Bool, true, false}
use mathlib.Core.Logic.{◌⊎◌, inl, inr, ◌↔◌}
use Prim.Native.Nat.{ℕ}
use native.Mathlib.Omega.{arith}
use lib.Dec.{eqb}
use borrow.Author.Tests.{eqb-true}
use Rattle.rules.specs.Base.{Refusal, Tried, found, refused, ◌>>=◌, require, or_refuse, only, passed}
use Rattle.rules.specs.Types.{same}
use Rattle.rules.proofs.ListLaws.{false_true, and_left, and_right}

pub refused_found : {A : Type 0} {r : Refusal} {a : A} → ◌≡◌ {A = Tried A} (refused r) (found a) → ⊥
refused_found e = let z : ◌≡◌ {A = ℕ} 0 1 = cc in omega arith

pub refused_inj : {A : Type 0} {r q : Refusal} → ◌≡◌ {A = Tried A} (refused r) (refused q) → r ≡ q
refused_inj e = cc

pub found_inj : {A : Type 0} {a b : A} → ◌≡◌ {A = Tried A} (found a) (found b) → a ≡ b
found_inj e = cc

-- a bind that finds something: both parts do
pub bind_found : {A B : Type 0} (t : Tried A) (f : A → Tried B) {b : B} → (t >>= f) ≡ found b → (a : A) × (t ≡ found a) × (f a ≡ found b)
bind_found (found a) f e = (a, refl, e)
bind_found (refused r) f e = absurd (refused_found e)

pub found_some : {A : Type 0} (o : Option A) (r : Refusal) {a : A} → or_refuse o r ≡ found a → o ≡ Some a
found_some None r e = absurd (refused_found e)
found_some (Some b) r e = cc

pub required : (t : Bool) (r : Refusal) {u : Unit {0}} → require t r ≡ found u → t ≡ true
required true r e = refl
required false r e = absurd (refused_found e)

-- something found, then more; and something required, then more
pub after_some : {A B : Type 0} (o : Option A) (r : Refusal) (f : A → Tried B) {b : B} → (or_refuse o r >>= f) ≡ found b → (a : A)
    × (o ≡ Some a) × (f a ≡ found b)
after_some None r f e = absurd (refused_found e)
after_some (Some a) r f e = (a, refl, e)

pub after_required : {B : Type 0} (t : Bool) (r : Refusal) (f : Unit {0} → Tried B) {b : B} → (require t r >>= f) ≡ found b → (t ≡ true)
    × (f tt ≡ found b)
after_required true r f e = (refl, e)
after_required false r f e = absurd (refused_found e)

-- what holds of a refusal, if it is one
abbrev pub Refuses : {A : Type 0} → (Refusal → Type 0) → Tried A → Type 0
Refuses P (found a) = Unit {0}
Refuses P (refused r) = P r

module _ (P : Refusal → Type 0) where
  pub refuses_bind : {A B : Type 0} (t : Tried A) (f : A → Tried B) → Refuses P t → ((a : A) → Refuses P (f a)) → Refuses P (t >>= f)
  refuses_bind (found a) f p h = h a
  refuses_bind (refused r) f p h = p

  pub refuses_required : {B : Type 0} (t : Bool) (r : Refusal) (f : Unit {0} → Tried B) → P r → Refuses P (f tt)
      → Refuses P (require t r >>= f)
  refuses_required true r f p h = h
  refuses_required false r f p h = p

  pub refuses_require : (t : Bool) (r : Refusal) → P r → Refuses P (require t r)
  refuses_require true r p = tt
  refuses_require false r p = p

  pub refuses_some : {A B : Type 0} (o : Option A) (r : Refusal) (f : A → Tried B) → P r → ((a : A) → Refuses P (f a))
      → Refuses P (or_refuse o r >>= f)
  refuses_some None r f p h = p
  refuses_some (Some a) r f p h = h a

pub require_refused : (b : Bool) {q r : Refusal} → require b q ≡ refused r → (b ≡ false) × (q ≡ r)
require_refused true e = absurd (refused_found (sym e))
require_refused false e = (refl, refused_inj e)

pub found_required : {A : Type 0} (b : Bool) (q : Refusal) (a : A) {r : Refusal} → (require b q >>= (λ _. found a)) ≡ refused r
    → (b ≡ false) × (q ≡ r)
found_required true q a e = absurd (refused_found (sym e))
found_required false q a e = (refl, refused_inj e)

-- a bind that refuses: its first part does, or it finds something and the rest does
pub data Stops {A B : Type 0} (t : Tried A) (f : A → Tried B) (r : Refusal) : Type 0 where
  at_once : t ≡ refused r → Stops t f r
  after : (a : A) → t ≡ found a → f a ≡ refused r → Stops t f r

pub bind_refused : {A B : Type 0} (t : Tried A) (f : A → Tried B) {r : Refusal} → (t >>= f) ≡ refused r → Stops t f r
bind_refused (found a) f e = after a refl e
bind_refused (refused q) f e = at_once (ap refused (refused_inj e))

-- what refuses does not pass
pub only_found : {A : Type 0} (t : Tried A) → only t ≡ passed → (a : A) × (t ≡ found a)
only_found (found a) e = (a, refl)
only_found (refused r) e = absurd (refused_found e)

pub only_refused : {A : Type 0} (t : Tried A) {r : Refusal} → only t ≡ refused r → t ≡ refused r
only_refused (found a) e = absurd (refused_found (sym e))
only_refused (refused q) e = ap refused (refused_inj e)

-- where F holds of a refusal it is answered, where G holds of a thing it is found, and one of the two always holds: then F and G say just
-- what is answered
module _ {A : Type 0} (t : Tried A) (F : Refusal → Type 0) (G : A → Type 0) where
  pub answers_exactly : ((r : Refusal) → F r → t ≡ refused r) → ((a : A) → G a → t ≡ found a) → ((r : Refusal) × F r) ⊎ ((a : A) × G a)
      → ((r : Refusal) → t ≡ refused r ↔ F r) × ((a : A) → t ≡ found a ↔ G a)
  answers_exactly fails finds (inl (q, w)) = (
    (λ r. ((λ e. let same : q ≡ r = cc (fails q w) in rw same at w), fails r)),
    λ a. ((λ e. absurd (refused_found (sym (fails q w) ∙ e))), finds a),
  )
  answers_exactly fails finds (inr (b, w)) = (
    (λ r. ((λ e. absurd (refused_found (sym e ∙ finds b w))), fails r)),
    λ a. ((λ e. rw (found_inj (sym (finds b w) ∙ e)) at w), finds a),
  )

pub same_true : (xs ys : List ℕ) → same xs ys ≡ true → xs ≡ ys
unfolding same
same_true [] [] e = refl
same_true [] (y ∷ ys) e = absurd (false_true e)
same_true (x ∷ xs) [] e = absurd (false_true e)
same_true (x ∷ xs) (y ∷ ys) e =
    let p : x ≡ y = eqb-true x y (and_left (eqb x y) (same xs ys) e) in
    let q : xs ≡ ys = same_true xs ys (and_right (eqb x y) (same xs ys) e) in
    cc
