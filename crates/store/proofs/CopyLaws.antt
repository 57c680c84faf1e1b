-- Numbers stored one after the other are references put: copied, made zero, or put into a cell.
use Prim.Native.Nat.{ℕ, ◌+◌, ◌*◌, ◌≤◌, ◌<◌}
use mathlib.Core.Path.{◌≡◌, refl, sym, subst, ◌∙◌}
use mathlib.Core.List.{List, [], ◌∷◌, ◌++◌}
use native.Mathlib.Omega.{arith}
use lib.ListN.{length, get_or, set, take, drop, replicate, length-set, length-take, length-drop}
use lib.Seq.{get_or-set_same, get_or-set_other}
use Rattle.rules.specs.Lists.{l[], ◌l∷◌}
use Rattle.store.specs.Cells.{refs, constructor_in, argument_in, arguments_in, RefsPut, CellPut}
use Rattle.store.proofs.RefLaws.{length_refs, refs_end, refs_all, put_part, put_none, put_one, put_more}

pub copied_none : (from : List ℕ) (at to : ℕ) (out : List ℕ) → RefsPut to (refs from at 0) out out
unfolding refs
copied_none from at to out = put_none to out

copied_more : (from : List ℕ) (at to n : ℕ) (out out' : List ℕ) → to + n < length out → RefsPut to (refs from at n) out out'
    → RefsPut to (refs from at (n + 1)) out (set out' (to + n) (get_or from (at + n) 0))
copied_more from at to n out out' room p =
    let len = length_refs from at n in
    rw refs_end (rw len at (put_more to (get_or from (at + n) 0) (refs from at n) out out' p (omega arith)))

-- one to four numbers
module _ (from : List ℕ) (at to : ℕ) (out : List ℕ) where
  abbrev one_copied : List ℕ
  one_copied = set out to (get_or from at 0)

  abbrev two_copied : List ℕ
  two_copied = set one_copied (to + 1) (get_or from (at + 1) 0)

  abbrev three_copied : List ℕ
  three_copied = set two_copied (to + 2) (get_or from (at + 2) 0)

  pub copied_one : to + 1 ≤ length out → RefsPut to (refs from at 1) out one_copied
  unfolding refs
  copied_one h = put_one out to (get_or from at 0) (omega arith)

  pub copied_two : to + 2 ≤ length out → RefsPut to (refs from at 2) out two_copied
  copied_two h = copied_more from at to 1 out one_copied (omega arith) (copied_one (omega arith))

  pub copied_three : to + 3 ≤ length out → RefsPut to (refs from at 3) out three_copied
  copied_three h = copied_more from at to 2 out two_copied (omega arith) (copied_two (omega arith))

  pub copied_four : to + 4 ≤ length out → RefsPut to (refs from at 4) out (set three_copied (to + 3) (get_or from (at + 3) 0))
  copied_four h = copied_more from at to 3 out three_copied (omega arith) (copied_three (omega arith))

copied_again : (at to n : ℕ) (out out' : List ℕ) → at + n < to → to + n < length out → RefsPut to (refs out at n) out out'
    → RefsPut to (refs out at (n + 1)) out (set out' (to + n) (get_or out' (at + n) 0))
copied_again at to n out out' a room p =
    subst (λ (x : ℕ). RefsPut to (refs out at (n + 1)) out (set out' (to + n) x)) (sym (p.low (at + n) a))
    (copied_more out at to n out out' room p)

-- one to four numbers of a slice to a later place of it
module _ (at to : ℕ) (out : List ℕ) where
  abbrev one_again : List ℕ
  one_again = set out to (get_or out at 0)

  abbrev two_again : List ℕ
  two_again = set one_again (to + 1) (get_or one_again (at + 1) 0)

  abbrev three_again : List ℕ
  three_again = set two_again (to + 2) (get_or two_again (at + 2) 0)

  pub again_two : at + 2 ≤ to → to + 2 ≤ length out → RefsPut to (refs out at 2) out two_again
  again_two a h = copied_again at to 1 out one_again (omega arith) (omega arith) (copied_one out at to out (omega arith))

  pub again_three : at + 3 ≤ to → to + 3 ≤ length out → RefsPut to (refs out at 3) out three_again
  again_three a h = copied_again at to 2 out two_again (omega arith) (omega arith) (again_two (omega arith) (omega arith))

  pub again_four : at + 4 ≤ to → to + 4 ≤ length out
      → RefsPut to (refs out at 4) out (set three_again (to + 3) (get_or three_again (at + 3) 0))
  again_four a h = copied_again at to 3 out three_again (omega arith) (omega arith) (again_three (omega arith) (omega arith))

-- four places filled with zeros
pub cleared_four : (at k : ℕ) (out four : List ℕ) → k ≡ 4 → at + 4 ≤ length out → four ≡ replicate (length (take k (drop at out))) 0
    → RefsPut at (0 ∷ 0 ∷ 0 ∷ 0 ∷ []) out (take at out ++ (four ++ drop k (drop at out)))
cleared_four at k out four m h e =
    let n : length (take 4 (drop at out)) ≡ 4 = simp (length-take, length-drop) (omega arith) in
    rw (e, m, n) (put_part at 4 (0 ∷ 0 ∷ 0 ∷ 0 ∷ []) out refl h)

-- each of four zeros put
zero_at : (at : ℕ) (out out' : List ℕ) → RefsPut at (0 ∷ 0 ∷ 0 ∷ 0 ∷ []) out out' → (j : ℕ) → j < 4 → get_or out' (at + j) 0 ≡ 0
zero_at at out out' p j h =
    refs_all {P = λ (x : ℕ). x ≡ 0} out' at 4 (rw p.put (refl l∷ refl l∷ refl l∷ refl l∷ l[])) j h

-- a constructor, zeros, and arguments in their place: a cell
pub placed : (k c : ℕ) (l : List ℕ) (out o₁ o₂ : List ℕ) → 5 * k + 5 ≤ length out → length l ≤ 4
    → RefsPut (5 * k + 1) (0 ∷ 0 ∷ 0 ∷ 0 ∷ []) (set out (5 * k) c) o₁ → RefsPut (5 * k + 1) l o₁ o₂ → CellPut k c l out o₂
unfolding constructor_in argument_in arguments_in
placed k c l out o₁ o₂ room few q p = record {
  len = p.len ∙ q.len ∙ length-set out (5 * k) c;
  constructor = p.low (5 * k) (omega arith) ∙ q.low (5 * k) (omega arith) ∙ get_or-set_same out (5 * k) c 0 (omega arith);
  arguments = p.put;
  rest = λ j h m. p.high (5 * k + 1 + j) (omega arith) ∙ zero_at (5 * k + 1) (set out (5 * k) c) o₁ q j m;
  low = λ i h. p.low i (omega arith) ∙ q.low i (omega arith) ∙ get_or-set_other out (5 * k) i c 0 (λ x. omega arith);
  high = λ i h. p.high i (omega arith) ∙ q.high i (omega arith) ∙ get_or-set_other out (5 * k) i c 0 (λ x. omega arith);
}
