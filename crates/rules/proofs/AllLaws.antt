-- A test of all elements of a list, one after the other: what is left from an index on.
use mathlib.Core.Path.{◌≡◌, ◌∙◌}
use mathlib.Core.List.{List}
use mathlib.Core.Bool.{Bool, true, false, ◌&&◌}
use Prim.Native.Nat.{ℕ, ◌+◌, ◌≤◌, ◌<◌}
use native.Mathlib.Numerals.{add-one}
use lib.ListN.{length, get_or, take, drop, drop_of_length-le}
use lib.Seq.{drop-cons, get_or-take, length-take-le}
use Rattle.rules.specs.Base.{all}

module _ (f : ℕ → Bool) (xs : List ℕ) (k : ℕ) where
  rest_step : k < length xs → all f (drop k xs) ≡ (f (get_or xs k 0) && all f (drop (k + 1) xs))
  rest_step h = rw (drop-cons xs k 0 h, add-one)

  pub rest_stop : k < length xs → f (get_or xs k 0) ≡ false → all f (drop k xs) ≡ false
  rest_stop h e = rest_step h ∙ rw e

  pub rest_go : k < length xs → f (get_or xs k 0) ≡ true → all f (drop k xs) ≡ all f (drop (k + 1) xs)
  rest_go h e = rest_step h ∙ rw e

  pub rest_end : length xs ≤ k → all f (drop k xs) ≡ true
  rest_end h = rw (drop_of_length-le xs {i = k} h)

-- the same of the first m elements
module _ (f : ℕ → Bool) (m : ℕ) (xs : List ℕ) (few : m ≤ length xs) (k : ℕ) where
  pub first_stop : k < m → f (get_or xs k 0) ≡ false → all f (drop k (take m xs)) ≡ false
  first_stop h e = rest_stop f (take m xs) k (rw (length-take-le m xs few) h) (rw (get_or-take m xs k 0 h) e)

  pub first_go : k < m → f (get_or xs k 0) ≡ true → all f (drop k (take m xs)) ≡ all f (drop (k + 1) (take m xs))
  first_go h e = rest_go f (take m xs) k (rw (length-take-le m xs few) h) (rw (get_or-take m xs k 0 h) e)

  pub first_end : m ≤ k → all f (drop k (take m xs)) ≡ true
  first_end h = rest_end f (take m xs) k (rw (length-take-le m xs few) h)
