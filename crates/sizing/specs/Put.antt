-- The connecting definitions: an alternative for a variable, along the splits of a path.
use Rattle.std.specs.Prelude.{◌≡◌, ℕ, zero, suc, ◌≤◌, List, [], ◌∷◌, length, get_or, set}
use Rattle.rules.specs.declared.records.Alternative.{Alternative}
use Rattle.rules.specs.Lists.{All}
use Rattle.rules.specs.Forms.{constant_only, variable_only, added, Form}

abbrev pub coefficient : Alternative → ℕ → ℕ
coefficient a k = get_or a.coefficients k 0

abbrev pub no_alternative : Alternative
no_alternative = record { coefficients = []; constant = 0 }

-- a without its variable k
abbrev pub cleared : ℕ → Alternative → Alternative
cleared k a = record { coefficients = set a.coefficients k 0; constant = a.constant }

-- m for variable k in the alternative a
unfoldable pub put : ℕ → Alternative → Alternative → Alternative
put k m a = added (coefficient a k) m (cleared k a)

abbrev pub Wide : Alternative → Type 0
Wide a = length a.coefficients ≡ 16

abbrev pub AllWide : Form → Type 0
AllWide form = All Wide form

-- no coefficient passes m, and the constant does not carry k
abbrev pub Bounded : ℕ → ℕ → Alternative → Type 0
Bounded m k a = Wide a × ((i : ℕ) → coefficient a i ≤ m) × (a.constant ≤ k)

abbrev pub AllBounded : ℕ → ℕ → Form → Type 0
AllBounded m k form = All (Bounded m k) form

-- these coefficients for the variables from k on, and a constant
unfoldable pub widened : ℕ → List ℕ → ℕ → Alternative
widened k [] w = constant_only w
widened k (zero ∷ cs) w = widened (suc k) cs w
widened k (suc c ∷ cs) w = added (suc c) (variable_only k) (widened (suc k) cs w)
