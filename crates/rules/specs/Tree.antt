-- Trees with a label at each node: values, and the expressions of the shape walk.
use Rattle.std.specs.Prelude.{List, [], ◌∷◌}

mutual
  pub data Tree (A : Type 0) : Type 0 where
    node : A → Trees A → Tree A

  pub data Trees (A : Type 0) : Type 0 where
    nil : Trees A
    cons : Tree A → Trees A → Trees A

module _ {A : Type 0} where
  abbrev pub to_list : Trees A → List (Tree A)
  to_list nil = []
  to_list (cons t ts) = t ∷ to_list ts

  abbrev pub from_list : List (Tree A) → Trees A
  from_list [] = nil
  from_list (t ∷ ts) = cons t (from_list ts)

  -- a label over a list of trees
  abbrev pub made : A → List (Tree A) → Tree A
  made a ts = node a (from_list ts)

  abbrev pub label : Tree A → A
  label (node a ts) = a

  abbrev pub arguments : Tree A → List (Tree A)
  arguments (node a ts) = to_list ts
