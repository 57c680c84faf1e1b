-- How references and cells stand in the lent tables, five numbers to a cell. The crates above use laws of these definitions.
use Rattle.std.specs.Prelude.{if◌then◌else◌, ◌≡◌, List, [], ◌∷◌, ◌++◌, ℕ, zero, suc, ◌+◌, ◌-◌, ◌*◌, ◌≤◌, ◌<◌, length, get_or}
use Rattle.rules.specs.Heap.{Heap, cell, is_constant}

-- the n references of a table from place a on
unfoldable pub refs : List ℕ → ℕ → ℕ → List ℕ
refs l a zero = []
refs l a (suc n) = get_or l a 0 ∷ refs l (suc a) n

---- "each cell five 16-bit numbers: constructor and four arguments"

unfoldable pub constructor_in : List ℕ → ℕ → ℕ
constructor_in cells k = get_or cells (5 * k) 0

-- argument j of cell k, counted from 0
unfoldable pub argument_in : List ℕ → ℕ → ℕ → ℕ
argument_in cells k j = get_or cells (5 * k + 1 + j) 0

-- its first n arguments
unfoldable pub arguments_in : List ℕ → ℕ → ℕ → List ℕ
arguments_in cells k n = refs cells (5 * k + 1) n

-- there are n cells
unfoldable pub CellRoom : List ℕ → ℕ → Type 0
CellRoom cells n = 5 * n ≤ length cells

-- the heap of the first cells, where constructor c has n c arguments
unfoldable pub heap_in : (ℕ → ℕ) → List ℕ → ℕ → Heap
heap_in n cells zero = []
heap_in n cells (suc k) = heap_in n cells k ++ (cell (constructor_in cells k) (arguments_in cells k (n (constructor_in cells k))) ∷ [])

---- "A constructor of arity 0 becomes the number of its constructor, 0 to 63; cells count from 64": what a reference stands for

-- its cell, where it is no constant
unfoldable pub cell_of : ℕ → ℕ
cell_of k = k - 64

-- how many cells there are up to it
unfoldable pub cells_to : ℕ → ℕ
cells_to k = k + 1 - 64

-- its constructor
unfoldable pub label_in : List ℕ → ℕ → ℕ
label_in cells k = if is_constant k then k else constructor_in cells (cell_of k)

-- how many arguments it has, where constructor c has n c
unfoldable pub arity_in : (ℕ → ℕ) → List ℕ → ℕ → ℕ
arity_in n cells k = if is_constant k then 0 else n (constructor_in cells (cell_of k))

---- What stores do

-- references put at a place of a table
pub record RefsPut (to : ℕ) (l : List ℕ) (out out' : List ℕ) : Type 0 where
  pub len : length out' ≡ length out
  pub put : refs out' to (length l) ≡ l
  pub low : (i : ℕ) → i < to → get_or out' i 0 ≡ get_or out i 0
  pub high : (i : ℕ) → to + length l ≤ i → get_or out' i 0 ≡ get_or out i 0

-- cell k made of a constructor and references, with zeros for the arguments that it does not have
pub record CellPut (k c : ℕ) (l : List ℕ) (cells cells' : List ℕ) : Type 0 where
  pub len : length cells' ≡ length cells
  pub constructor : constructor_in cells' k ≡ c
  pub arguments : arguments_in cells' k (length l) ≡ l
  pub rest : (j : ℕ) → length l ≤ j → j < 4 → argument_in cells' k j ≡ 0
  pub low : (i : ℕ) → i < 5 * k → get_or cells' i 0 ≡ get_or cells i 0
  pub high : (i : ℕ) → 5 * k + 5 ≤ i → get_or cells' i 0 ≡ get_or cells i 0

-- entries that are not usable are kept
pub record KeptFrom (n : ℕ) (l l' : List ℕ) : Type 0 where
  pub len : length l' ≡ length l
  pub high : (i : ℕ) → n ≤ i → get_or l' i 0 ≡ get_or l i 0

unfoldable pub CellsKept : ℕ → List ℕ → List ℕ → Type 0
CellsKept n cells cells' = KeptFrom (5 * n) cells cells'
