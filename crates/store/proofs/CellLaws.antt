-- Laws of the heap that stands in the lent cells, and of a cell made.
use Prim.Native.Nat.{ℕ, zero, suc, ◌+◌, ◌-◌, ◌*◌, ◌≤◌, ◌<◌}
use mathlib.Core.Path.{◌≡◌, refl, ap, ap₂, ◌∙◌}
use mathlib.Core.List.{List, [], ◌∷◌, ◌++◌}
use mathlib.Core.Bool.{Bool, true, false}
use mathlib.Core.Logic.{⊎_elim}
use native.Mathlib.Omega.{arith}
use native.Mathlib.Nat.{eq-or-lt_of_le}
use lib.ListN.{length, get_or, length-append, get_or-append}
use lib.Seq.{get_or-append-add}
use borrow.Author.Tests.{ltb-false}
use Rattle.rules.specs.Heap.{Cell, Heap, cell, is_constant, number_of, cell_at}
use Rattle.rules.specs.Lists.{All}
use Rattle.rules.proofs.HeapLaws.{constant_at, cell_at_lem}
use Rattle.store.specs.Cells.{refs, constructor_in, argument_in, arguments_in, CellRoom, heap_in, cell_of, cells_to, label_in, arity_in}
use Rattle.store.specs.Cells.{CellPut, CellsKept}
use Rattle.store.proofs.RefLaws.{length_refs, refs_same, refs_end, refs_all, kept_refl, kept_trans, kept_later}

pub arguments_length : (cells : List ℕ) (k n : ℕ) → length (arguments_in cells k n) ≡ n
unfolding arguments_in
arguments_length cells k n = length_refs cells (5 * k + 1) n

pub arguments_all : {P : ℕ → Type 0} (cells : List ℕ) (k n : ℕ) → All P (arguments_in cells k n) → (j : ℕ) → j < n
    → P (argument_in cells k j)
unfolding arguments_in argument_in
arguments_all cells k n q = refs_all cells (5 * k + 1) n q

pub arguments_next : (cells : List ℕ) (k n : ℕ) → arguments_in cells k (n + 1) ≡ arguments_in cells k n ++ (argument_in cells k n ∷ [])
unfolding arguments_in argument_in
arguments_next cells k n = refs_end cells (5 * k + 1) n

---- The heap

-- cell i, where constructor c has n c arguments
abbrev cell_in : (ℕ → ℕ) → List ℕ → ℕ → Cell
cell_in n cells i = cell (constructor_in cells i) (arguments_in cells i (n (constructor_in cells i)))

pub heap_length : (n : ℕ → ℕ) (cells : List ℕ) (k : ℕ) → length (heap_in n cells k) ≡ k
unfolding heap_in
heap_length n cells zero = refl
heap_length n cells (suc k) =
    let ih = heap_length n cells k in
    length-append (heap_in n cells k) (cell_in n cells k ∷ []) ∙ omega arith

-- the last of a heap, and the ones before it
at_last : (heap : Heap) (x : Cell) (k : ℕ) → length heap ≡ k → get_or (heap ++ (x ∷ [])) k (cell 0 []) ≡ x
at_last heap x k e =
    let d : length heap + 0 ≡ k = omega arith in
    rw d at (get_or-append-add heap (x ∷ []) 0 (cell 0 []))

before_last : (heap : Heap) (x : Cell) (i : ℕ) → i < length heap → get_or (heap ++ (x ∷ [])) i (cell 0 []) ≡ get_or heap i (cell 0 [])
before_last heap x i h = get_or-append heap (x ∷ []) (cell 0 []) i h

heap_cell : (n : ℕ → ℕ) (cells : List ℕ) (k i : ℕ) → i < k → get_or (heap_in n cells k) i (cell 0 []) ≡ cell_in n cells i
unfolding heap_in
heap_cell n cells zero i h = absurd (omega arith)
heap_cell n cells (suc k) i h =
    let len = heap_length n cells k in
    let ih = heap_cell n cells k i in
    let b : i ≤ k = omega arith in
    ⊎_elim
    (λ e. rw e (at_last (heap_in n cells k) (cell_in n cells k) k len))
    (λ l. before_last (heap_in n cells k) (cell_in n cells k) i (omega arith) ∙ ih l)
    (eq-or-lt_of_le b)

pub heap_same : (n n' : ℕ → ℕ) (cells : List ℕ) (k : ℕ) → ((i : ℕ) → i < k → n (constructor_in cells i) ≡ n' (constructor_in cells i))
    → heap_in n cells k ≡ heap_in n' cells k
unfolding heap_in
heap_same n n' cells zero same = refl
heap_same n n' cells (suc k) same =
    let ih = heap_same n n' cells k (λ i h. same i (omega arith)) in
    ap₂ (λ (heap : Heap) (a : ℕ). heap ++ (cell (constructor_in cells k) (arguments_in cells k a) ∷ [])) ih (same k (omega arith))

---- A reference

module _ (k : ℕ) where
  pub cell_inside : is_constant k ≡ false → (used : ℕ) → k < number_of used → cell_of k < used
  unfolding cell_of
  cell_inside e used h = omega (arith, ltb-false k 64 e)

  pub cells_inside : (used : ℕ) → k < number_of used → cells_to k ≤ used
  unfolding cells_to
  cells_inside used h = omega arith

  pub reference_below : (used : ℕ) → used ≤ 65471 → k < number_of used → k < 65536
  reference_below used few h = omega arith

  pub cell_last_of : is_constant k ≡ false → cell_of k < cells_to k
  unfolding cell_of cells_to
  cell_last_of e = omega (arith, ltb-false k 64 e)

  pub up_to : k < number_of (cells_to k)
  unfolding cells_to
  up_to = omega arith

pub cells_to_less : (j k : ℕ) → j ≤ k → cells_to j ≤ cells_to k
unfolding cells_to
cells_to_less j k h = omega arith

module _ (cells : List ℕ) (k : ℕ) where
  pub constant_label : is_constant k ≡ true → label_in cells k ≡ k
  unfolding label_in
  constant_label e = rw e

  pub cell_label : is_constant k ≡ false → label_in cells k ≡ constructor_in cells (cell_of k)
  unfolding label_in
  cell_label e = rw e

  module _ (n : ℕ → ℕ) where
    pub constant_arity : is_constant k ≡ true → arity_in n cells k ≡ 0
    unfolding arity_in
    constant_arity e = rw e

    pub cell_arity : is_constant k ≡ false → arity_in n cells k ≡ n (label_in cells k)
    unfolding arity_in label_in
    cell_arity e = rw e

    -- what it stands for in the heap of the first cells
    pub heap_reference : (used : ℕ) → k < number_of used
        → cell_at (heap_in n cells used) k ≡ cell (label_in cells k) (arguments_in cells (cell_of k) (arity_in n cells k))
    unfolding arity_in label_in arguments_in refs cell_of
    heap_reference used h = one (is_constant k) refl
      where
        one : (t : Bool) → is_constant k ≡ t
            → cell_at (heap_in n cells used) k ≡ cell (label_in cells k) (arguments_in cells (cell_of k) (arity_in n cells k))
        one true e = constant_at (heap_in n cells used) k e ∙ rw e
        one false e = rw e (cell_at_lem (heap_in n cells used) k e ∙ heap_cell n cells used (k - 64) (omega (arith, h, ltb-false k 64 e)))

-- the cells before a place are those of another table that agrees before it
module _ (n : ℕ → ℕ) (cells cells' : List ℕ) where
  cell_low : (k : ℕ) → ((i : ℕ) → i < 5 * k + 5 → get_or cells' i 0 ≡ get_or cells i 0) → n (constructor_in cells k) ≤ 4
      → cell_in n cells' k ≡ cell_in n cells k
  unfolding constructor_in arguments_in
  cell_low k same few =
      let c : constructor_in cells' k ≡ constructor_in cells k = same (5 * k) (omega arith) in
      let m = n (constructor_in cells k) in
      ap (λ (x : ℕ). cell x (arguments_in cells' k (n x))) c
      ∙ ap (cell (constructor_in cells k)) (refs_same cells' cells (5 * k + 1) (5 * k + 1) m (λ j h. same (5 * k + 1 + j) (omega arith)))

  heap_low : (k : ℕ) → ((i : ℕ) → i < 5 * k → get_or cells' i 0 ≡ get_or cells i 0) → ((i : ℕ) → i < k → n (constructor_in cells i) ≤ 4)
      → heap_in n cells' k ≡ heap_in n cells k
  unfolding heap_in
  heap_low zero same few = refl
  heap_low (suc k) same few =
      let ih = heap_low k (λ i h. same i (omega arith)) (λ i h. few i (omega arith)) in
      ap₂ (λ (heap : Heap) (x : Cell). heap ++ (x ∷ [])) ih (cell_low k (λ i h. same i (omega arith)) (few k (omega arith)))

---- A cell made

module _ (k c : ℕ) (l cells cells' : List ℕ) (p : CellPut k c l cells cells') where
  pub constructor_kept : (i : ℕ) → i < k → constructor_in cells' i ≡ constructor_in cells i
  unfolding constructor_in
  constructor_kept i h = p.low (5 * i) (omega arith)

  pub cell_put_kept : (n : ℕ) → k < n → CellsKept n cells cells'
  unfolding CellsKept
  cell_put_kept n h = record { len = p.len; high = λ i m. p.high i (omega arith) }

pub heap_put : (n : ℕ → ℕ) (k c : ℕ) (l cells cells' : List ℕ) → CellPut k c l cells cells' → length l ≡ n c
    → ((i : ℕ) → i < k → n (constructor_in cells i) ≤ 4) → heap_in n cells' (suc k) ≡ heap_in n cells k ++ (cell c l ∷ [])
unfolding heap_in
heap_put n k c l cells cells' p e few =
    let made : cell_in n cells' k ≡ cell c l =
    ap (λ (x : ℕ). cell x (arguments_in cells' k (n x))) p.constructor ∙ ap (cell c) (rw e at p.arguments) in
    ap₂ (λ (heap : Heap) (x : Cell). heap ++ (x ∷ [])) (heap_low n cells cells' k p.low few) made

---- What is kept, and room

pub cells_kept_refl : (n : ℕ) (l : List ℕ) → CellsKept n l l
unfolding CellsKept
cells_kept_refl n l = kept_refl (5 * n) l

pub cells_kept_trans : (n : ℕ) (a b c : List ℕ) → CellsKept n a b → CellsKept n b c → CellsKept n a c
unfolding CellsKept
cells_kept_trans n a b c p q = kept_trans (5 * n) a b c p q

pub cells_kept_length : (n : ℕ) (a b : List ℕ) → CellsKept n a b → length b ≡ length a
unfolding CellsKept
cells_kept_length n a b p = p.len

pub room_less : (cells : List ℕ) (n k : ℕ) → CellRoom cells n → k ≤ n → CellRoom cells k
unfolding CellRoom
room_less cells n k r h = omega arith

pub room_kept : (cells cells' : List ℕ) (n : ℕ) → length cells' ≡ length cells → CellRoom cells n → CellRoom cells' n
unfolding CellRoom
room_kept cells cells' n e r = omega arith

pub cells_kept_later : (a b : ℕ) (l l' : List ℕ) → a ≤ b → CellsKept a l l' → CellsKept b l l'
unfolding CellsKept
cells_kept_later a b l l' h k = kept_later (omega arith) k
