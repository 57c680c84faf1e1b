-- What the flow pass keeps of the paths that arrive at an instruction, and what its answers say.
use Rattle.std.specs.Prelude.{◌≡◌, List, [], ◌∷◌, Bool, true, false, ℕ, suc, ◌+◌, ◌≤◌}
use Rattle.std.specs.Prelude.{Option, Some}
use Rattle.std.specs.Option.{MatchOption}
use Rattle.rules.specs.Base.{Tried, found}
use Rattle.rules.specs.Walk.{Arrow}
use Rattle.flow.specs.declared.Arrivals.{Arrivals}
use Rattle.flow.specs.declared.Arrivals.TheVariants as arrivals
use Rattle.flow.specs.declared.FlowStep.{FlowStep}
use Rattle.flow.specs.declared.FlowStep.TheVariants.{Ends, Next, Both}

-- what a slot holds where so many paths have arrived, and the first of them brought this state
pub data Waits : Arrivals → ℕ → Option Bool → Type 0 where
  nothing : {o : Option Bool} → Waits arrivals.Nothing 0 o
  one : {past : Bool} → Waits (arrivals.One past) 1 (Some past)
  several : {n : ℕ} {o : Option Bool} → 2 ≤ n → Waits arrivals.Several n o

-- one path more
abbrev pub join_of : Arrivals → Bool → Arrivals
join_of arrivals.Nothing past = arrivals.One past
join_of (arrivals.One before) past = arrivals.Several
join_of arrivals.Several past = arrivals.Several

-- the arrows that leave instruction i
abbrev pub arrows_of : ℕ → FlowStep → List (Arrow Bool)
arrows_of i Ends = []
arrows_of i (Next past) = (suc i, past) ∷ []
arrows_of i (Both to) = (suc i, false) ∷ (to, false) ∷ []

-- they lead to instructions behind it, none of which is past the last
abbrev pub Within : ℕ → ℕ → FlowStep → Type 0
Within last i Ends = Unit {0}
Within last i (Next past) = suc i ≤ last
Within last i (Both to) = (i + 2 ≤ to) × (to ≤ last)

-- an answer says whether an instruction is right, and what leaves it if it is
pub record FlowSays (last i : ℕ) (r : Option FlowStep) (right : Bool) (leaves : Tried (List (Arrow Bool))) : Type 0 where
  pub says : MatchOption r (right ≡ false) (λ l. (right ≡ true) × (leaves ≡ found (arrows_of i l)) × Within last i l)
