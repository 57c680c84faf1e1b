-- When the code's states stand for a shape.
use Rattle.std.specs.Prelude.{◌≡◌, List, [], ◌∷◌, map, true, ℕ, ◌≤◌, ◌<◌, length, take, get_or}
use Rattle.rules.specs.Program.{Function, Program, arity}
use Rattle.rules.specs.Forms as forms
use Rattle.rules.specs.Expressions.{variables}
use Rattle.rules.specs.Forms.{variable_only, into_bound, form_of, covers}
use Rattle.rules.specs.Shapes.{Shape}
use Rattle.sizing.specs.declared.splits.Split.{Split}
use Rattle.sizing.specs.declared.paths.Saved.{Saved}
use Rattle.sizing.specs.declared.forms.Form.{Form}
use Rattle.sizing.specs.Put.{AllBounded}
use Rattle.sizing.specs.Splits.{carried, SplitsRight, Numbered, shape_of}
use Rattle.sizing.specs.Spare.{Spare}
use Rattle.sizing.specs.States.{stack_in, splits_in}
use Rattle.sizing.specs.Forms.{form_in, FormRight, no_form}

-- the own bound at the parameters
abbrev pub own_at : Program → Function → forms.Form
own_at s f = into_bound f.bound (map (form_of s) (variables 0 (arity f)))

-- a path's splits; own: the function's bound at the parameters, before the splits
pub record Path (s : Program) (own : forms.Form) (n : ℕ) (ps : List Split) (count : ℕ) : Type 0 where
  pub right : SplitsRight s ps
  pub numbered : Numbered n ps count
  pub few : count ≤ 16
  pub spare : Spare ps count
  pub covered : (v : ℕ) → v < count → covers (map (carried s ps) own) (carried s ps (variable_only v) ∷ []) ≡ true

abbrev pub AllUnder : ℕ → List ℕ → Type 0
AllUnder count [] = Unit {0}
AllUnder count (v ∷ vs) = (v < count) × AllUnder count vs

abbrev pub shape_in : Function → Saved → Shape
shape_in f st = shape_of f (splits_in st) st.count (stack_in st)

pub record SavedRight (s : Program) (f : Function) (st : Saved) : Type 0 where
  pub path : Path s (own_at s f) (arity f) (splits_in st) st.count
  pub under : AllUnder st.count (stack_in st)
  pub high : st.height ≤ 16
  pub long : length st.stack ≡ 16
  pub few : st.splits.taken ≤ 16
  pub list : length st.splits.list ≡ 16

-- a form on the stack, which the own bound covers
pub record Held (own x : Form) : Type 0 where
  pub right : FormRight x
  pub some : 0 < x.count
  pub covered : covers (form_in own) (form_in x) ≡ true

-- after the first build or call: the forms of a shape's stack, and the own bound at its parameters
pub record LineRight (s : Program) (f : Function) (sh : Shape) (own : Form) (stack : List Form) (height : ℕ) : Type 0 where
  pub bound : FormRight own
  pub most : AllBounded 15 131072 (form_in own)
  pub shaped : form_in own ≡ into_bound sh.bound (map (form_of s) sh.parameters)
  pub long : length stack ≡ 16
  pub high : height ≤ 16
  pub held : (i : ℕ) → i < height → Held own (get_or stack i no_form)
  pub same : map (form_of s) sh.stack ≡ map form_in (take height stack)
