-- Size bounds as the payload has them.
use Rattle.std.specs.Prelude.{List, [], ◌∷◌, ℕ, ◌+◌, ◌≤◌, ◌<◌, length}
use Rattle.rules.specs.declared.records.Alternative.{Alternative}
use Rattle.rules.specs.declared.records.AlternativeRecord.{AlternativeRecord}
use Rattle.rules.specs.Base.{numbered}
use Rattle.rules.specs.Records.{alternative_at, alternative_of, alternative_offset}
use Rattle.sizing.specs.declared.bounds.Bound.{Bound}
use Rattle.sizing.specs.declared.bounds.Bound.TheVariants.{Built, Declared}
use Rattle.sizing.specs.Forms.{RowRight}

-- how many rows a bound has
abbrev pub rows_in : Bound → ℕ
rows_in (Built weight) = 1
rows_in (Declared head count) = count

-- row k: "A build is the single alternative of coefficients 1 and its weight", and a function's rows are its alternatives
unfoldable pub row_in : List ℕ → Bound → ℕ → AlternativeRecord
row_in bytes (Built weight) k = record { coefficients = 1 ∷ 1 ∷ 1 ∷ 1 ∷ []; constant = weight }
row_in bytes (Declared head count) k = alternative_at bytes (alternative_offset head k)

-- the bound of a function with n parameters
abbrev pub bound_in : List ℕ → ℕ → Bound → List Alternative
bound_in bytes n b = numbered (λ k. alternative_of n (row_in bytes b k)) 0 (rows_in b)

-- row k stands in the payload, or is a build's
abbrev pub RowThere : List ℕ → Bound → ℕ → Type 0
RowThere bytes (Built weight) k = Unit {0}
RowThere bytes (Declared head count) k = alternative_offset head k + 6 ≤ length bytes

pub record BoundRight (bytes : List ℕ) (b : Bound) : Type 0 where
  pub some : 0 < rows_in b
  pub few : rows_in b ≤ 4
  pub there : (k : ℕ) → k < rows_in b → RowThere bytes b k
  pub each : (k : ℕ) → k < rows_in b → RowRight (row_in bytes b k)
