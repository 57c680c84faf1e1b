-- How the index is filled.
use Rattle.std.specs.Prelude.{◌≡◌, List, ℕ, ◌<◌, length}
use Rattle.rules.specs.Container.{payload}
use Rattle.fetch.specs.declared.index.Index.{Index}
use Rattle.fetch.specs.Indexed.{FunctionIndexed}

-- so many functions are indexed
pub record Functioned (file : List ℕ) (functions : ℕ) (index : Index) : Type 0 where
  pub arities : length index.arities ≡ 32
  pub codes : length index.codes ≡ 32
  pub function : (f : ℕ) → f < functions → FunctionIndexed (payload file) index f
