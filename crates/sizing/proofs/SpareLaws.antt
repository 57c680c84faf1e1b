-- There are never more splits than variables.
use mathlib.Core.Path.{◌≡◌, refl, ap, ◌∙◌}
use mathlib.Core.List.{List, [], ◌∷◌, ◌++◌}
use mathlib.Core.Bool.{Bool, true, false}
use Prim.Native.Nat.{ℕ, zero, suc, ◌+◌, ◌≤◌, ◌<◌}
use native.Mathlib.Omega.{arith}
use native.Mathlib.Nat.{add-zero, add-suc}
use lib.ListN.{length, length-append}
use lib.Dec.{eqb}
use borrow.Author.Tests.{eq-eqb, ne_eqb, eqb-true, eqb-false}
use Rattle.sizing.specs.declared.splits.Split.{Split}
use Rattle.sizing.specs.Splits.{Whole}
use Rattle.sizing.specs.Spare.{unless, wholeb, one, wholes, Spare}

wholeb_of : (v : ℕ) (ps : List Split) → Whole v ps → wholeb v ps ≡ true
unfolding wholeb
wholeb_of v [] w = refl
wholeb_of v (p ∷ ps) w = rw (ne_eqb v p.variable w.0) (wholeb_of v ps w.1)

snoc_other : (v : ℕ) (ps : List Split) (p : Split) → (v ≡ p.variable → ⊥) → wholeb v (ps ++ (p ∷ [])) ≡ wholeb v ps
unfolding wholeb
snoc_other v [] p n = rw (ne_eqb v p.variable n)
snoc_other v (q ∷ ps) p n = ap (unless (eqb v q.variable)) (snoc_other v ps p n)

snoc_same : (v : ℕ) (ps : List Split) (p : Split) → v ≡ p.variable → wholeb v (ps ++ (p ∷ [])) ≡ false
unfolding wholeb
snoc_same v [] p e = rw (eq-eqb v p.variable e)
snoc_same v (q ∷ ps) p e = ap (unless (eqb v q.variable)) (snoc_same v ps p e) ∙ both (eqb v q.variable)
  where
    both : (t : Bool) → unless t false ≡ false
    both true = refl
    both false = refl

below : (m : ℕ) (ps : List Split) (p : Split) → m ≤ p.variable → wholes (ps ++ (p ∷ [])) m ≡ wholes ps m
unfolding wholes
below zero ps p h = refl
below (suc m) ps p h = let a = below m ps p (omega arith) in let b = snoc_other m ps p (λ e. omega arith) in cc

one_less : (m : ℕ) (ps : List Split) (p : Split) → p.variable < m → Whole p.variable ps → wholes (ps ++ (p ∷ [])) m + 1 ≡ wholes ps m
unfolding wholes
one_less zero ps p h w = absurd (omega arith)
one_less (suc m) ps p h w = go (λ l. one_less m ps p l w) (eqb m p.variable) refl
  where
    go : (p.variable < m → wholes (ps ++ (p ∷ [])) m + 1 ≡ wholes ps m) → (t : Bool) → eqb m p.variable ≡ t
        → wholes (ps ++ (p ∷ [])) m + one (wholeb m (ps ++ (p ∷ []))) + 1 ≡ wholes ps m + one (wholeb m ps)
    go ih true e =
        let v = eqb-true m p.variable e in
        rw (snoc_same m ps p v, below m ps p (omega arith), v, wholeb_of p.variable ps w) (omega arith)
    go ih false e =
        let g = ih (omega (arith, eqb-false m p.variable e)) in
        rw (snoc_other m ps p (eqb-false m p.variable e)) (omega arith)

more_whole : (k m : ℕ) (ps : List Split) → ((v : ℕ) → m ≤ v → Whole v ps) → wholes ps (m + k) ≡ wholes ps m + k
unfolding wholes
more_whole zero m ps h = rw (add-zero m) (omega arith)
more_whole (suc k) m ps h = rw (add-suc m k, wholeb_of (m + k) ps (h (m + k) (omega arith))) (omega (arith, more_whole k m ps h))

some_whole : (m v : ℕ) (ps : List Split) → v < m → Whole v ps → 1 ≤ wholes ps m
unfolding wholes
some_whole zero v ps h w = absurd (omega arith)
some_whole (suc m) v ps h w = go (λ l. some_whole m v ps l w) (eqb m v) refl
  where
    go : (v < m → 1 ≤ wholes ps m) → (t : Bool) → eqb m v ≡ t → 1 ≤ wholes ps m + one (wholeb m ps)
    go ih true e = rw (eqb-true m v e, wholeb_of v ps w) (omega arith)
    go ih false e = omega (arith, ih (omega (arith, eqb-false m v e)))

pub spare_start : (n : ℕ) → Spare [] n
unfolding wholes wholeb
spare_start zero = refl
spare_start (suc n) = let a = spare_start n in omega arith

pub spare_split : (ps : List Split) (count : ℕ) (p : Split) → Spare ps count → p.variable < count → Whole p.variable ps
    → ((v : ℕ) → count ≤ v → Whole v (ps ++ (p ∷ []))) → Spare (ps ++ (p ∷ [])) (count + p.parts)
spare_split ps count p s v w fresh =
    let a = more_whole p.parts count (ps ++ (p ∷ [])) fresh in
    let b = one_less count ps p v w in
    let l = length-append ps (p ∷ []) in
    omega arith

-- so a whole variable leaves room for its split
pub room : (ps : List Split) (count v : ℕ) → Spare ps count → count ≤ 16 → v < count → Whole v ps → length ps < 16
room ps count v s l h w = let a = some_whole count v ps h w in omega arith
