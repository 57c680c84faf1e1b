-- The start of a function: every parameter is covered, by rule 6. And what a branch asks holds of every right state.
use mathlib.Core.Path.{◌≡◌, refl, sym, ap, ◌∙◌}
use mathlib.Core.List.{List, [], ◌∷◌, map, map-id}
use mathlib.Core.Bool.{Bool, true, false, ◌||◌}
use Prim.Native.Nat.{ℕ, ◌≤◌, ◌<◌, zero-le}
use native.Mathlib.Omega.{arith}
use native.Mathlib.Nat.{zero-add}
use lib.ListN.{length, get_or}
use lib.Seq.{length-take-le}
use lib.Dec.{eqb, ltb}
use borrow.Author.Tests.{eqb-true, eqb-false, ltb-true}
use Rattle.rules.specs.declared.records.Alternative.{Alternative}
use Rattle.rules.specs.Base.{any}
use Rattle.rules.specs.Lists.{All, ◌l∷◌}
use Rattle.rules.proofs.ListLaws.{false_true}
use Rattle.rules.specs.Expressions.{variables}
use Rattle.rules.specs.Forms.{variable_only, into_bound, form_of, matches, covers}
use Rattle.rules.specs.Program.{Function, Program, arity}
use Rattle.sizing.specs.declared.paths.Saved.{Saved}
use Rattle.sizing.specs.Put.{coefficient, widened}
use Rattle.sizing.specs.Splits.{carried, Whole}
use Rattle.sizing.specs.States.{splits_in}
use Rattle.sizing.specs.Right.{Path, own_at, SavedRight}
use Rattle.sizing.specs.Steps.{top_of}
use Rattle.sizing.proofs.PutLaws.{variable_same, variable_other, variable_constant}
use Rattle.sizing.proofs.CoverLaws.{AtMostEach, under_matches}
use Rattle.sizing.proofs.ListLaws.{and_both}
use Rattle.sizing.proofs.OwnLaws.{own_rows, wide_row, RowFits, widened_at}
use Rattle.sizing.proofs.SpareLaws.{spare_start, room}

module _ (s : Program) (n v : ℕ) (h : v < n) (few : n ≤ 16) where
  row_covers : (a : Alternative) → length a.coefficients ≤ n → ltb 0 (get_or a.coefficients v 0) ≡ true
      → AtMostEach (variable_only v) (wide_row a)
  row_covers a w e =
      record { constant = rw (variable_constant v) zero-le; each = λ i. go i (eqb i v) refl }
    where
      at : coefficient (widened 0 a.coefficients a.constant) v ≡ get_or a.coefficients v 0
      at =
          ap (λ (j : ℕ). coefficient (widened 0 a.coefficients a.constant) j) (sym (zero-add v))
          ∙ widened_at 0 a.coefficients a.constant v (omega arith)

      go : (i : ℕ) (t : Bool) → eqb i v ≡ t → coefficient (variable_only v) i ≤ coefficient (widened 0 a.coefficients a.constant) i
      go i true g = rw (eqb-true i v g, variable_same v (omega arith), at) (omega (arith, ltb-true 0 (get_or a.coefficients v 0) e))
      go i false g = rw (variable_other v i (eqb-false i v g)) zero-le

  any_row : (b : List Alternative) → All (RowFits n) b → any (λ a. ltb 0 (get_or a.coefficients v 0)) b ≡ true
      → any (matches (variable_only v)) (map wide_row b) ≡ true
  any_row [] w e = e
  any_row (a ∷ b) (w l∷ ws) e =
      go (λ g. any_row b ws g) (ltb 0 (get_or a.coefficients v 0)) refl (matches (variable_only v) (wide_row a)) refl e
    where
      go : (any (λ a. ltb 0 (get_or a.coefficients v 0)) b ≡ true → any (matches (variable_only v)) (map wide_row b) ≡ true) → (t : Bool)
          → ltb 0 (get_or a.coefficients v 0) ≡ t → (r : Bool) → matches (variable_only v) (wide_row a) ≡ r
          → (t || any (λ a. ltb 0 (get_or a.coefficients v 0)) b) ≡ true → (r || any (matches (variable_only v)) (map wide_row b)) ≡ true
      go ih t g true r e = refl
      go ih true g false r e = absurd (false_true (sym r ∙ under_matches (variable_only v) (wide_row a) (row_covers a w.narrow g)))
      go ih false g false r e = ih e

  start_covered : (b : List Alternative) → All (RowFits n) b → any (λ a. ltb 0 (get_or a.coefficients v 0)) b ≡ true
      → covers (into_bound b (map (form_of s) (variables 0 n))) (variable_only v ∷ []) ≡ true
  unfolding covers
  start_covered b w e = rw (own_rows s n b w) (and_both (any (matches (variable_only v)) (map wide_row b)) true (any_row b w e) refl)

pub path_start : (s : Program) (f : Function) → arity f ≤ 16 → All (RowFits (arity f)) f.bound
    → ((v : ℕ) → v < arity f → any (λ a. ltb 0 (get_or a.coefficients v 0)) f.bound ≡ true) → Path s (own_at s f) (arity f) [] (arity f)
unfolding carried
path_start s f few w mentioned =
    record {
      right = tt;
      numbered = refl;
      few = few;
      spare = spare_start (arity f);
      covered = λ v h. rw (map-id (own_at s f)) (start_covered s (arity f) v h few f.bound w (mentioned v h));
    }

pub branch_room : (s : Program) (f : Function) (st : Saved) → SavedRight s f st → top_of st < st.count → Whole (top_of st) (splits_in st)
    → st.splits.taken < 16
branch_room s f st r h w =
    let a = r.list in let b = r.few in
    let l = length-take-le st.splits.taken st.splits.list (omega arith) in
    let z = room (splits_in st) st.count (top_of st) r.path.spare r.path.few h w in
    omega arith
