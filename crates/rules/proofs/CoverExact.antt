-- The cover test says just what `Covered` says.
use mathlib.Core.Path.{◌≡◌, refl}
use mathlib.Core.List.{List, [], ◌∷◌, map}
use mathlib.Core.Bool.{true, false}
use mathlib.Core.Logic.{◌↔◌}
use Prim.Native.Nat.{ℕ, suc, ◌≤◌}
use native.Mathlib.Omega.{arith}
use lib.ListN.{get_or}
use borrow.Author.Tests.{le-leb, eq-eqb}
use Rattle.rules.specs.declared.records.Alternative.{Alternative}
use Rattle.rules.specs.Base.{any}
use Rattle.rules.specs.Lists.{All, Any}
use Rattle.rules.specs.Program.{Program}
use Rattle.rules.specs.Forms.{Form, into_bound, form_of, at_most, matches, covers}
use Rattle.rules.specs.Shapes.{Shape, covered_at}
use Rattle.rules.specs.Judgements.{NoMore, Covered}
use Rattle.rules.proofs.ListLaws.{and_iff, leb_iff, all_iff, any_iff, test_not}
use Rattle.rules.proofs.Measures.{at_most_at}

at_most_holds : (xs ys : List ℕ) → ((k : ℕ) → get_or xs k 0 ≤ get_or ys k 0) → at_most xs ys ≡ true
unfolding at_most
at_most_holds [] ys h = refl
at_most_holds (x ∷ xs) [] h =
    let zero_first_lem : x ≡ 0 = omega (arith, h 0) in
    rw (eq-eqb x 0 zero_first_lem) (at_most_holds xs [] (λ k. h (suc k)))
at_most_holds (x ∷ xs) (y ∷ ys) h = rw (le-leb x y (h 0)) (at_most_holds xs ys (λ k. h (suc k)))

matches_iff : (a b : Alternative) → matches a b ≡ true ↔ NoMore a b
unfolding matches
matches_iff a b =
    and_iff (leb_iff a.constant b.constant)
    (at_most_at a.coefficients b.coefficients, at_most_holds a.coefficients b.coefficients)

pub covers_iff : (bound form : Form) → covers bound form ≡ true ↔ All (λ a. Any (NoMore a) bound) form
unfolding covers
covers_iff bound form = all_iff (λ a. any (matches a) bound) (λ a. any_iff (matches a) (matches_iff a) bound) form

module _ (s : Program) (x : Shape) where
  pub covered_iff : covered_at s x ≡ true ↔ Covered s x
  unfolding covered_at
  covered_iff =
      let own = into_bound x.bound (map (form_of s) x.parameters) in
      all_iff (λ e. covers own (form_of s e)) (λ e. covers_iff own (form_of s e)) x.stack

  pub uncovered : covered_at s x ≡ false → Covered s x → ⊥
  uncovered e = test_not (covered_at s x) covered_iff e
