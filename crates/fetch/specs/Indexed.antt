-- What a run reads of a program's declarations: arities, which stand in the blocks, and the index, which has the places of each function.
use Rattle.std.specs.Prelude.{◌≡◌, List, ℕ, ◌+◌, ◌<◌, get_or}
use Rattle.rules.specs.Base.{byte_at}
use Rattle.rules.specs.Container.{payload, place_of}
use Rattle.rules.specs.Records.{constructor_offset, code_offset, head_offset}
use Rattle.rules.specs.Established.{Parsed}
use Rattle.fetch.specs.declared.index.Index.{Index}

-- the arity of constructor c
abbrev pub constructor_arity : List ℕ → ℕ → ℕ
constructor_arity file c = byte_at (payload file) (constructor_offset c + 1)

-- the arity of function f
abbrev pub function_arity : List ℕ → ℕ → ℕ
function_arity file f = byte_at (payload file) (head_offset (payload file) f + 1)

-- by the index: the place in the file of that arity, and of the function's first instruction
abbrev pub arity_at : Index → ℕ → ℕ
arity_at index f = get_or index.arities f 0

abbrev pub code_at : Index → ℕ → ℕ
code_at index f = get_or index.codes f 0

pub record FunctionIndexed (bytes : List ℕ) (index : Index) (f : ℕ) : Type 0 where
  pub arity : arity_at index f ≡ place_of (head_offset bytes f + 1)
  pub code : code_at index f ≡ place_of (code_offset bytes (head_offset bytes f))

pub record Indexed (file : List ℕ) (index : Index) : Type 0 where
  pub parsed : Parsed file
  pub function : (f : ℕ) → f < byte_at (payload file) 3 → FunctionIndexed (payload file) index f
