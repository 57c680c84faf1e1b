-- What the code's steps say, by the definitions.
use Rattle.std.specs.Prelude.{◌≡◌, List, [], ◌∷◌, ℕ, suc, ◌+◌, ◌-◌, ◌≤◌, ◌<◌, length, take, get_or}
use Rattle.std.specs.Prelude.{Option, None, Some, IfSome}
use Rattle.rules.specs.declared.records.Instruction.TheVariants.{Branch}
use Rattle.rules.specs.Base.{found, refused, refusal, numbered}
use Rattle.rules.specs.Container.{payload}
use Rattle.rules.specs.Records.{program_in}
use Rattle.rules.specs.Program.{constructor, Constructor, Function, Program}
use Rattle.rules.specs.Walk.{Arrow}
use Rattle.rules.specs.Forms.{variable_only}
use Rattle.rules.specs.Shapes.{Shape, shape_from}
use Rattle.sizing.specs.declared.paths.Saved.{Saved}
use Rattle.sizing.specs.declared.paths.Branched.{Branched}
use Rattle.rules.specs.declared.records.Alternative.{Alternative}
use Rattle.rules.specs.declared.records.AlternativeRecord.{AlternativeRecord}
use Rattle.sizing.specs.declared.splits.Split.{Split}
use Rattle.sizing.specs.declared.forms.Form.{Form}
use Rattle.sizing.specs.declared.bounds.Bound.{Bound}
use Rattle.sizing.specs.declared.splits.Splits.{Splits}
use Rattle.sizing.specs.Put.{widened}
use Rattle.sizing.specs.Forms.{form_in, FormRight, Single, no_form}
use Rattle.sizing.specs.Bounds.{rows_in, row_in, BoundRight}
use Rattle.sizing.specs.Splits.{Whole, Carrying, carried}
use Rattle.sizing.specs.States.{splits_in, split_of}
use Rattle.sizing.specs.Right.{shape_in, SavedRight}

abbrev pub top_of : Saved → ℕ
top_of st = get_or st.stack (st.height - 1) 0

pub record BranchAsks (st : Saved) (c parts : ℕ) : Type 0 where
  pub some : 0 < st.height
  pub high : st.height ≤ 16
  pub fits : st.height + parts ≤ 17
  pub few : st.splits.taken ≤ 16
  pub room : Whole (top_of st) (splits_in st) → st.splits.taken < 16
  pub long : length st.stack ≡ 16
  pub list : length st.splits.list ≡ 16
  pub count : st.count ≤ 16
  pub each : (p : Split) → split_of (top_of st) (splits_in st) ≡ Some p → p.constructor ≡ c → (p.parts ≡ parts) × (p.first + parts ≤ 16)

-- an arrow to t, where there is a state
abbrev pub arrow_to : Function → ℕ → Option Saved → List (Arrow Shape) → List (Arrow Shape)
arrow_to f t None arrows = arrows
arrow_to f t (Some x) arrows = (t, shape_in f x) ∷ arrows

abbrev pub arrows_of : Function → ℕ → ℕ → Branched → List (Arrow Shape)
arrows_of f i b r = arrow_to f (suc i) r.next (arrow_to f b r.other [])

pub record SidesSay (s : Program) (n : ℕ) (f : Function) (i b c parts : ℕ) (st : Saved) (r : Branched) : Type 0 where
  pub goes : shape_from s n f i (Branch c b) (shape_in f st) ≡ found (arrows_of f i b r)
  pub next : IfSome r.next (λ x. SavedRight s f x × (x.height ≡ st.height - 1 + parts))
  pub other : IfSome r.other (λ x. SavedRight s f x × (x.height ≡ st.height))

abbrev pub BranchSays : Program → ℕ → Function → ℕ → ℕ → ℕ → ℕ → Saved → Option Branched → Type 0
BranchSays s n f i b c parts st None = shape_from s n f i (Branch c b) (shape_in f st) ≡ refused (refusal 9 n i)
BranchSays s n f i b c parts st (Some r) = SidesSay s n f i b c parts st r

-- for every program that the state stands for
abbrev pub Branching : Saved → ℕ → ℕ → Option Branched → Type 0
Branching st c parts r =
    (s : Program) (n : ℕ) (f : Function) (i b : ℕ) (k : Constructor) → SavedRight s f st → constructor s c ≡ Some k
    → parts ≡ length k.arguments → BranchSays s n f i b c parts st r

-- the variable at place i of the stack can be taken through the splits
pub record EntryAsks (file : List ℕ) (st : Saved) (i : ℕ) : Type 0 where
  pub place : i < 16
  pub small : get_or st.stack i 0 < 16
  pub carrying : Carrying file (variable_only (get_or st.stack i 0)) st.splits.taken st.splits.list

-- its form after the splits
abbrev pub EntryIs : List ℕ → Saved → ℕ → Form → Type 0
EntryIs file st i x = Single x (carried (program_in file) (splits_in st) (variable_only (get_or st.stack i 0)))

-- the forms of the lowest n variables
pub record FormsAre (file : List ℕ) (st : Saved) (n : ℕ) (r : List Form) : Type 0 where
  pub long : length r ≡ 16
  pub each : (i : ℕ) → i < n → EntryIs file st i (get_or r i no_form)

-- a row of a bound at the parameters, before the splits
abbrev pub own_row : AlternativeRecord → Alternative
own_row row = widened 0 row.coefficients row.constant

-- and row k after them
abbrev pub own_after : List ℕ → Bound → Splits → ℕ → Alternative
own_after file b s k = carried (program_in file) (take s.taken s.list) (own_row (row_in (payload file) b k))

pub record OwnAsks (file : List ℕ) (b : Bound) (s : Splits) : Type 0 where
  pub bound : BoundRight (payload file) b
  pub carrying : (k : ℕ) → k < rows_in b → Carrying file (own_row (row_in (payload file) b k)) s.taken s.list

pub record OwnIs (file : List ℕ) (b : Bound) (s : Splits) (x : Form) : Type 0 where
  pub right : FormRight x
  pub count : x.count ≡ rows_in b
  pub same : form_in x ≡ numbered (own_after file b s) 0 (rows_in b)
