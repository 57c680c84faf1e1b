-- What the code's saved states stand for.
use Rattle.std.specs.Prelude.{◌≡◌, List, [], ◌∷◌, ◌++◌, ℕ, zero, suc, ◌+◌, length, take}
use Rattle.std.specs.Prelude.{Option, ◌==◌}
use Rattle.std.specs.List.{find}
use Rattle.sizing.specs.declared.splits.Split.{Split}
use Rattle.sizing.specs.declared.paths.Saved.{Saved}

abbrev pub stack_in : Saved → List ℕ
stack_in st = take st.height st.stack

abbrev pub splits_in : Saved → List Split
splits_in st = take st.splits.taken st.splits.list

-- the split of variable v, where it is taken apart
abbrev pub split_of : ℕ → List Split → Option Split
split_of v ps = find (λ p. p.variable == v) ps

-- k, k + 1, .. in number n
unfoldable pub up_from : ℕ → ℕ → List ℕ
up_from k zero = []
up_from k (suc n) = k ∷ up_from (suc k) n

-- r: st with another stack
pub record SameSplits (st r : Saved) : Type 0 where
  pub count : r.count ≡ st.count
  pub splits : r.splits ≡ st.splits
  pub long : length r.stack ≡ 16

-- r: st with the split p
pub record SplitMore (st : Saved) (p : Split) (r : Saved) : Type 0 where
  pub count : r.count ≡ st.count + p.parts
  pub height : r.height ≡ st.height
  pub stack : r.stack ≡ st.stack
  pub taken : r.splits.taken ≡ st.splits.taken + 1
  pub splits : splits_in r ≡ splits_in st ++ (p ∷ [])
  pub long : length r.splits.list ≡ 16
