-- How many variables of a path are whole: this is why there are never more than 16 splits.
use Rattle.std.specs.Prelude.{◌≡◌, List, [], ◌∷◌, Bool, true, false, ℕ, zero, suc, ◌+◌, length, eqb}
use Rattle.sizing.specs.declared.splits.Split.{Split}

abbrev pub unless : Bool → Bool → Bool
unless true b = false
unless false b = b

unfoldable pub wholeb : ℕ → List Split → Bool
wholeb v [] = true
wholeb v (p ∷ ps) = unless (eqb v p.variable) (wholeb v ps)

abbrev pub one : Bool → ℕ
one true = 1
one false = 0

unfoldable pub wholes : List Split → ℕ → ℕ
wholes ps zero = 0
wholes ps (suc m) = wholes ps m + one (wholeb m ps)

abbrev pub Spare : List Split → ℕ → Type 0
Spare ps count = length ps + wholes ps count ≡ count
