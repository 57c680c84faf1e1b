-- The result: its bytes in prefix order, read from the cells with the arities in the lent blocks.
use Rattle.std.specs.Prelude.{◌≡◌, List, ℕ, ◌≤◌, ◌<◌}
use Rattle.rules.specs.Base.{byte_at}
use Rattle.rules.specs.Container.{payload}
use Rattle.rules.specs.Established.{Parsed}
use Rattle.rules.specs.Heap.{NamesEarlier, value_of}
use Rattle.rules.specs.Prefix.{written}
use Rattle.store.specs.Cells.{constructor_in, CellRoom, heap_in, cells_to, arity_in}
use Rattle.fetch.specs.Indexed.{constructor_arity}

-- the bytes of the value of a reference
unfoldable pub bytes_of : List ℕ → List ℕ → ℕ → List ℕ
bytes_of file cells k = written (value_of (heap_in (constructor_arity file) cells (cells_to k)) k)

-- the cells up to a reference are whole, are of constructors of the program in the blocks and name numbers below their own
pub record Readable (file cells : List ℕ) (k : ℕ) : Type 0 where
  pub parsed : Parsed file
  pub room : CellRoom cells (cells_to k)
  pub small : k < 65536
  pub known : (i : ℕ) → i < cells_to k → constructor_in cells i < byte_at (payload file) 2
  pub earlier : NamesEarlier (heap_in (constructor_arity file) cells (cells_to k))

-- where a walk over a result's cells stands: before argument j of the n arguments of a reference
pub record VisitAt (file cells : List ℕ) (here n j : ℕ) : Type 0 where
  pub readable : Readable file cells here
  pub arity : n ≡ arity_in (constructor_arity file) cells here
  pub inside : j ≤ n
