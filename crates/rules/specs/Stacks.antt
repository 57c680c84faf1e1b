-- Stacks of types, of expressions and of values: lists with the top last.
use Rattle.std.specs.Prelude.{if◌then◌else◌, List, [], ◌∷◌, ◌++◌, ℕ, zero, suc, ◌-◌, length, take, drop, leb, Option, None, Some, slice_get}

module _ {A : Type 0} where
  -- slot k, "1 is the lowest"; an instruction of a function's code is found in the same way, from 1
  abbrev pub slot : ℕ → List A → Option A
  slot zero stack = None
  slot (suc k) stack = slice_get stack k

  -- what is below the top n, and the top n, first deepest
  unfoldable pub split : ℕ → List A → Option (List A × List A)
  split n stack =
      if leb n (length stack)
      then Some (take (length stack - n) stack, drop (length stack - n) stack)
      else None

  abbrev pub push : List A → A → List A
  push stack a = stack ++ (a ∷ [])
