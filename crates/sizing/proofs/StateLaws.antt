-- What the code's saved states stand for: laws for each step.
use mathlib.Core.Path.{◌≡◌, refl, sym, ap, ◌∙◌, subst}
use mathlib.Core.List.{List, [], ◌∷◌, ◌++◌, append_assoc}
use Prim.Native.Nat.{ℕ, zero, suc, ◌+◌, ◌<◌}
use native.Mathlib.Omega.{arith}
use native.Mathlib.Numerals.{add-one}
use native.Mathlib.Nat.{add-zero}
use lib.ListN.{length, set, take}
use lib.Dec.{eqb}
use borrow.Author.Tests.{eqb-true, eqb-false}
use Rattle.std.proofs.Common.{Bool, true, false, cond}
use Rattle.std.specs.Prelude.{Some, None}
use Rattle.rules.proofs.ListLaws.{none_some, some_inj}
use Rattle.sizing.specs.declared.splits.Split.{Split}
use Rattle.sizing.specs.Splits.{Whole}
use Rattle.sizing.specs.States.{up_from, split_of}
use Rattle.sizing.proofs.ListLaws.{take_stored}
use Rattle.sizing.proofs.ShapeLaws.{Splitting, now_split, later_split}

up_more : (k n : ℕ) → up_from k (n + 1) ≡ up_from k n ++ ((k + n) ∷ [])
unfolding up_from
up_more k n = rw (add-one n) (go k n)
  where
    go : (k n : ℕ) → up_from k (suc n) ≡ up_from k n ++ ((k + n) ∷ [])
    go k zero = ap (λ (x : ℕ). x ∷ []) (sym (add-zero k))
    go k (suc n) = ap (λ (l : List ℕ). k ∷ l) (go (suc k) n ∙ ap (λ (x : ℕ). up_from (suc k) n ++ (x ∷ [])) (omega arith))

pub up_none : (k : ℕ) → up_from k 0 ≡ []
unfolding up_from
up_none k = refl

pub parts_next : (x l : List ℕ) (base first i : ℕ) → base + i < length x → take (base + i) x ≡ l ++ up_from first i
    → take (base + (i + 1)) (set x (base + i) (first + i)) ≡ l ++ up_from first (i + 1)
parts_next x l base first i h e =
    let s : base + (i + 1) ≡ base + i + 1 = omega arith in
    rw s (take_stored x (l ++ up_from first i) (base + i) (first + i) h e ∙ append_assoc l (up_from first i) ((first + i) ∷ [])
    ∙ ap (λ (z : List ℕ). l ++ z) (sym (up_more first i)))

-- a variable that is not found is whole, and one that is found is taken apart by that split
module _ (v : ℕ) where
  none_here : (p : Split) (ps : List Split) (b : Bool) → eqb p.variable v ≡ b → cond b (Some p) (split_of v ps) ≡ None
      → (split_of v ps ≡ None → Whole v ps) → Whole v (p ∷ ps)
  none_here p ps true q z ih = none_some (sym z)
  none_here p ps false q z ih = (λ y. eqb-false p.variable v q (sym y), ih z)

  pub found_none : (ps : List Split) → split_of v ps ≡ None → Whole v ps
  found_none [] e = tt
  found_none (p ∷ ps) e = none_here p ps (eqb p.variable v) refl e (found_none ps)

  some_here : (q : Split) (ps : List Split) (p : Split) (b : Bool) → eqb q.variable v ≡ b → cond b (Some q) (split_of v ps) ≡ Some p
      → (split_of v ps ≡ Some p → Splitting v ps p) → Splitting v (q ∷ ps) p
  some_here q ps p true t z ih = subst (λ (x : Split). Splitting v (q ∷ ps) x) (some_inj z) (now_split (eqb-true q.variable v t))
  some_here q ps p false t z ih = later_split (λ y. eqb-false q.variable v t (sym y)) (ih z)

  pub found_some : (ps : List Split) (p : Split) → split_of v ps ≡ Some p → Splitting v ps p
  found_some [] p e = none_some e
  found_some (q ∷ ps) p e = some_here q ps p (eqb q.variable v) refl e (found_some ps p)
