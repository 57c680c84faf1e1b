-- Cover as an order of alternatives; it is kept where an alternative is put for a variable.
use mathlib.Core.Path.{◌≡◌, refl, sym, ◌∙◌}
use mathlib.Core.List.{List, [], ◌∷◌, map}
use mathlib.Core.Bool.{Bool, true, false, ◌||◌}
use Prim.Native.Nat.{ℕ, suc, ◌*◌, ◌≤◌, ◌<◌, zero-le}
use native.Mathlib.Omega.{arith}
use native.Mathlib.Nat.{mul-le-mul_right, mul-le-mul}
use lib.ListN.{get_or}
use lib.Dec.{eqb, leb}
use borrow.Author.Tests.{le-leb, leb-true, eqb-true, eqb-false, eq-eqb}
use Rattle.rules.specs.declared.records.Alternative.{Alternative}
use Rattle.rules.specs.Base.{any}
use Rattle.rules.specs.Lists.{◌l∷◌}
use Rattle.rules.proofs.ListLaws.{false_true, and_left, and_right}
use Rattle.rules.proofs.Measures.{at_most_at}
use Rattle.rules.specs.Forms.{Form, at_most, matches, covers, variable_only}
use Rattle.sizing.specs.Put.{coefficient, cleared, put, Wide, AllWide}
use Rattle.sizing.proofs.ListLaws.{and_both}
use Rattle.sizing.proofs.PutLaws.{put_at, put_constant, cleared_same, cleared_other, variable_same, variable_other}
use Rattle.sizing.proofs.PutLaws.{variable_constant}

-- a is at most b
pub record AtMostEach (a b : Alternative) : Type 0 where
  pub constant : a.constant ≤ b.constant
  pub each : (i : ℕ) → coefficient a i ≤ coefficient b i

at_at_most : (xs ys : List ℕ) → ((i : ℕ) → get_or xs i 0 ≤ get_or ys i 0) → at_most xs ys ≡ true
unfolding at_most
at_at_most [] ys h = refl
at_at_most (x ∷ xs) [] h = and_both (eqb x 0) (at_most xs []) (eq-eqb x 0 (omega (arith, h 0))) (at_at_most xs [] (λ i. h (suc i)))
at_at_most (x ∷ xs) (y ∷ ys) h = and_both (leb x y) (at_most xs ys) (le-leb x y (h 0)) (at_at_most xs ys (λ i. h (suc i)))

pub matches_under : (a b : Alternative) → matches a b ≡ true → AtMostEach a b
unfolding matches
matches_under a b e =
    record {
      constant = leb-true _ _ (and_left (leb a.constant b.constant) (at_most a.coefficients b.coefficients) e);
      each =
          at_most_at a.coefficients b.coefficients
          (and_right (leb a.constant b.constant) (at_most a.coefficients b.coefficients) e);
    }

pub under_matches : (a b : Alternative) → AtMostEach a b → matches a b ≡ true
unfolding matches
under_matches a b u =
    and_both (leb a.constant b.constant) (at_most a.coefficients b.coefficients) (le-leb _ _ u.constant)
    (at_at_most a.coefficients b.coefficients u.each)

module _ (k : ℕ) (m : Alternative) (w : Wide m) where
  cleared_le : (a b : Alternative) → AtMostEach a b → (i : ℕ) → coefficient (cleared k a) i ≤ coefficient (cleared k b) i
  cleared_le a b u i = go (eqb i k) refl
    where
      go : (t : Bool) → eqb i k ≡ t → coefficient (cleared k a) i ≤ coefficient (cleared k b) i
      go true e = rw (eqb-true i k e, cleared_same k a) zero-le
      go false e = rw (cleared_other k a i (eqb-false i k e), cleared_other k b i (eqb-false i k e)) (u.each i)

  under_put : (a b : Alternative) → Wide a → Wide b → AtMostEach a b → AtMostEach (put k m a) (put k m b)
  under_put a b p q u =
      record {
        constant = rw (put_constant k m a, put_constant k m b) (omega (arith, u.constant, mul-le-mul_right m.constant (u.each k)));
        each =
            λ i. rw (put_at k m a i w p, put_at k m b i w q)
            (omega (arith, cleared_le a b u i, mul-le-mul_right (coefficient m i) (u.each k)));
      }

  any_put : (a : Alternative) (bound : Form) → Wide a → AllWide bound → any (matches a) bound ≡ true
      → any (matches (put k m a)) (map (put k m) bound) ≡ true
  any_put a [] p q e = e
  any_put a (b ∷ bound) p (q l∷ qs) e = go (λ g. any_put a bound p qs g) (matches a b) refl (matches (put k m a) (put k m b)) refl e
    where
      go : (any (matches a) bound ≡ true → any (matches (put k m a)) (map (put k m) bound) ≡ true) → (t : Bool) → matches a b ≡ t
          → (r : Bool) → matches (put k m a) (put k m b) ≡ r → (t || any (matches a) bound) ≡ true
          → (r || any (matches (put k m a)) (map (put k m) bound)) ≡ true
      go ih t h true g e = refl
      go ih true h false g e = absurd (false_true (sym g ∙ under_matches (put k m a) (put k m b) (under_put a b p q (matches_under a b h))))
      go ih false h false g e = ih e

  pub covers_put : (bound form : Form) → AllWide bound → AllWide form → covers bound form ≡ true
      → covers (map (put k m) bound) (map (put k m) form) ≡ true
  unfolding covers
  covers_put bound [] q p e = refl
  covers_put bound (a ∷ form) q (p l∷ ps) e =
      and_both (any (matches (put k m a)) (map (put k m) bound)) (covers (map (put k m) bound) (map (put k m) form))
      (any_put a bound p q (and_left (any (matches a) bound) (covers bound form) e))
      (covers_put bound form q ps (and_right (any (matches a) bound) (covers bound form) e))

  -- variable k is covered, so each variable that stands in m is where m is put for k
  any_part : (u : ℕ) (bound : Form) → u < 16 → k < 16 → AllWide bound → 1 ≤ coefficient m u → any (matches (variable_only k)) bound ≡ true
      → any (matches (variable_only u)) (map (put k m) bound) ≡ true
  any_part u [] h hk q one e = e
  any_part u (b ∷ bound) h hk (q l∷ qs) one e =
      go (λ g. any_part u bound h hk qs one g) (matches (variable_only k) b) refl (matches (variable_only u) (put k m b)) refl e
    where
      part : AtMostEach (variable_only k) b → AtMostEach (variable_only u) (put k m b)
      part z =
          let o : 1 ≤ coefficient b k = rw (variable_same k hk) at (z.each k) in
          let t : 1 * 1 ≤ coefficient b k * coefficient m u = mul-le-mul o one in
          record {
            constant = rw (variable_constant u) zero-le;
            each = λ i. at (λ (n : ℕ). n) t i (eqb i u) refl;
          }
        where
          at : (ℕ → ℕ) → 1 * 1 ≤ coefficient b k * coefficient m u → (i : ℕ) (t : Bool) → eqb i u ≡ t
              → coefficient (variable_only u) i ≤ coefficient (put k m b) i
          at f t i true g = rw (eqb-true i u g, variable_same u h, put_at k m b u w q) (omega (arith, t))
          at f t i false g = rw (variable_other u i (eqb-false i u g)) zero-le

      go : (any (matches (variable_only k)) bound ≡ true → any (matches (variable_only u)) (map (put k m) bound) ≡ true) → (t : Bool)
          → matches (variable_only k) b ≡ t → (r : Bool) → matches (variable_only u) (put k m b) ≡ r
          → (t || any (matches (variable_only k)) bound) ≡ true
          → (r || any (matches (variable_only u)) (map (put k m) bound)) ≡ true
      go ih t g true r e = refl
      go ih true g false r e =
          absurd (false_true (sym r ∙ under_matches (variable_only u) (put k m b) (part (matches_under (variable_only k) b g))))
      go ih false g false r e = ih e

  pub covers_part : (u : ℕ) (bound : Form) → u < 16 → k < 16 → AllWide bound → 1 ≤ coefficient m u
      → covers bound (variable_only k ∷ []) ≡ true → covers (map (put k m) bound) (variable_only u ∷ []) ≡ true
  unfolding covers
  covers_part u bound h hk q one e =
      and_both (any (matches (variable_only u)) (map (put k m) bound)) true
      (any_part u bound h hk q one (and_left (any (matches (variable_only k)) bound) true e)) refl
