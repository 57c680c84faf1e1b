-- Laws of the values of references: a value is the same in a longer heap, and its bytes are its constructor and its arguments' bytes.
use Prim.Native.Nat.{ℕ, zero, suc, ◌+◌, ◌≤◌, ◌<◌}
use mathlib.Core.Path.{◌≡◌, refl, sym, ap, ap₂, ◌∙◌, subst}
use mathlib.Core.List.{List, [], ◌∷◌, ◌++◌, map}
use mathlib.Core.Bool.{Bool, true, false}
use mathlib.Core.Logic.{⊎_elim}
use native.Mathlib.Omega.{arith}
use native.Mathlib.Nat.{eq-or-lt_of_le}
use native.Mathlib.Numerals.{add-one}
use lib.ListN.{length, get_or, drop, get_or-append, drop_of_length-le}
use lib.Seq.{get_or-append-add, drop-cons}
use borrow.Author.Tests.{ltb-true}
use Rattle.rules.specs.Base.{byte_at}
use Rattle.rules.specs.Container.{payload}
use Rattle.rules.specs.Established.{Parsed}
use Rattle.rules.specs.Heap.{Cell, Heap, cell, is_constant, number_of, NamesEarlier, cell_at, constructor_of, value_in, value_of}
use Rattle.rules.specs.Lists.{All, l[], ◌l∷◌}
use Rattle.rules.specs.Machine.{Value}
use Rattle.rules.specs.Prefix.{written, written_all}
use Rattle.rules.specs.Tree.{from_list, made}
use Rattle.rules.proofs.HeapLaws.{value_fuel}
use Rattle.rules.proofs.MapLaws.{map_alike}
use Rattle.store.specs.Cells.{constructor_in, argument_in, arguments_in, CellRoom, heap_in, cell_of, cells_to, label_in, arity_in}
use Rattle.store.proofs.CellLaws.{arguments_length, arguments_all, arguments_next, heap_length, room_less}
use Rattle.store.proofs.CellLaws.{cells_inside, reference_below, cell_last_of, up_to, cells_to_less}
use Rattle.store.proofs.CellLaws.{constant_label, cell_label, constant_arity, cell_arity, heap_reference}
use Rattle.fetch.specs.Indexed.{constructor_arity}
use Rattle.fetch.proofs.IndexLaws.{constructor_small}
use Rattle.result.specs.Result.{bytes_of, Readable}

---- A longer heap

module _ (n : ℕ → ℕ) (cells : List ℕ) (a b : ℕ) (longer : a ≤ b) where
  cell_same : (k : ℕ) → k < number_of a → cell_at (heap_in n cells b) k ≡ cell_at (heap_in n cells a) k
  cell_same k h = heap_reference cells k n b (omega arith) ∙ sym (heap_reference cells k n a h)

  earlier_less : NamesEarlier (heap_in n cells b) → NamesEarlier (heap_in n cells a)
  earlier_less earlier k h =
      subst (λ (x : Cell). All (λ j. j < k) x.arguments) (cell_same k (omega (arith, heap_length n cells a)))
      (earlier k (omega (arith, heap_length n cells a, heap_length n cells b)))

  value_same : NamesEarlier (heap_in n cells a) → (f k : ℕ) → k < number_of a
      → value_in (heap_in n cells b) f k ≡ value_in (heap_in n cells a) f k
  unfolding value_in
  value_same earlier zero k h = refl
  value_same earlier (suc f) k h =
      let there : k < number_of (length (heap_in n cells a)) = omega (arith, heap_length n cells a) in
      ap (λ (x : Cell). made x.constructor (map (value_in (heap_in n cells b) f) x.arguments)) (cell_same k h)
      ∙ ap (made (constructor_of (heap_in n cells a) k))
      (map_alike (value_in (heap_in n cells b) f) (value_in (heap_in n cells a) f) (λ j l. value_same earlier f j (omega arith))
      (earlier k there))

-- the bytes of a reference into the heap of the first cells
pub bytes_in : (file cells : List ℕ) (used k : ℕ) → k < number_of used → NamesEarlier (heap_in (constructor_arity file) cells used)
    → bytes_of file cells k ≡ written (value_of (heap_in (constructor_arity file) cells used) k)
unfolding bytes_of
bytes_in file cells used k h earlier =
    let longer = cells_inside k used h in
    ap written (sym (value_same (constructor_arity file) cells (cells_to k) used longer
    (earlier_less (constructor_arity file) cells (cells_to k) used longer earlier) (suc k) k (up_to k)))

-- a reference into the first cells
pub readable : (file cells : List ℕ) (used k : ℕ) → Parsed file → k < number_of used → used ≤ 65471 → CellRoom cells used
    → ((i : ℕ) → i < used → constructor_in cells i < byte_at (payload file) 2)
    → NamesEarlier (heap_in (constructor_arity file) cells used) → Readable file cells k
readable file cells used k parsed h most room known earlier =
    let longer = cells_inside k used h in
    record {
      parsed = parsed;
      room = room_less cells used (cells_to k) room longer;
      small = reference_below k used most h;
      known = λ i l. known i (omega arith);
      earlier = earlier_less (constructor_arity file) cells (cells_to k) used longer earlier;
    }

---- The arguments

-- argument j of the first n
arguments_at : (cells : List ℕ) (k n j : ℕ) → j < n → get_or (arguments_in cells k n) j 0 ≡ argument_in cells k j
arguments_at cells k zero j h = absurd (omega arith)
arguments_at cells k (suc n) j h =
    let xs : List ℕ = arguments_in cells k n in
    let len : length xs + 0 ≡ n = omega (arith, arguments_length cells k n) in
    let parts : arguments_in cells k (suc n) ≡ xs ++ (argument_in cells k n ∷ []) = rw add-one at (arguments_next cells k n) in
    let b : j ≤ n = omega arith in
    ap (λ (l : List ℕ). get_or l j 0) parts
    ∙ ⊎_elim
    (λ e. rw e (rw len at (get_or-append-add xs (argument_in cells k n ∷ []) 0 0)))
    (λ l. get_or-append xs (argument_in cells k n ∷ []) 0 j (omega (arith, len)) ∙ arguments_at cells k n j l)
    (eq-or-lt_of_le b)

-- the bytes of references, one after the other
bytes_all : List ℕ → List ℕ → List ℕ → List ℕ
bytes_all file cells [] = []
bytes_all file cells (r ∷ rs) = bytes_of file cells r ++ bytes_all file cells rs

written_all_lem : (file cells : List ℕ) (f : ℕ → Value) {P : ℕ → Type 0} → ((r : ℕ) → P r → written (f r) ≡ bytes_of file cells r)
    → {rs : List ℕ} → All P rs → written_all (from_list (map f rs)) ≡ bytes_all file cells rs
unfolding written bytes_all
written_all_lem file cells f e l[] = refl
written_all_lem file cells f e (◌l∷◌ {x} p ps) = ap₂ ◌++◌ (e x p) (written_all_lem file cells f e ps)

-- the bytes of the arguments of a reference from the j-th on
pub rest : List ℕ → List ℕ → ℕ → ℕ → List ℕ
rest file cells k j = bytes_all file cells (drop j (arguments_in cells (cell_of k) (arity_in (constructor_arity file) cells k)))

module _ (file cells : List ℕ) (k : ℕ) where
  abbrev arity : ℕ
  arity = arity_in (constructor_arity file) cells k

  abbrev refs_of : List ℕ
  refs_of = arguments_in cells (cell_of k) arity

  pub rest_none : (j : ℕ) → arity_in (constructor_arity file) cells k ≤ j → rest file cells k j ≡ []
  unfolding rest bytes_all
  rest_none j h = rw (drop_of_length-le refs_of {i = j} (omega (arith, arguments_length cells (cell_of k) arity)))

  pub rest_more : (j r : ℕ) → j < arity_in (constructor_arity file) cells k → r ≡ argument_in cells (cell_of k) j
      → rest file cells k j ≡ bytes_of file cells r ++ rest file cells k (j + 1)
  unfolding rest bytes_all
  rest_more j r h q =
      let e : drop j refs_of ≡ get_or refs_of j 0 ∷ drop (j + 1) refs_of =
      rw add-one (drop-cons refs_of j 0 (omega (arith, arguments_length cells (cell_of k) arity))) in
      rw (e, arguments_at cells (cell_of k) arity j h, q)

  module _ (ok : Readable file cells k) where
    abbrev heap : Heap
    heap = heap_in (constructor_arity file) cells (cells_to k)

    refers : k < number_of (length heap)
    refers = omega (arith, up_to k, heap_length (constructor_arity file) cells (cells_to k))

    cell_is : cell_at heap k ≡ cell (label_in cells k) refs_of
    cell_is = heap_reference cells k (constructor_arity file) (cells_to k) (up_to k)

    named_all : All (λ j. j < k) refs_of
    named_all = subst (λ (x : Cell). All (λ j. j < k) x.arguments) cell_is (ok.earlier k refers)

    -- an argument's number is below the reference
    pub before : (j : ℕ) → j < arity_in (constructor_arity file) cells k → argument_in cells (cell_of k) j < k
    before j h = arguments_all {P = λ i. i < k} cells (cell_of k) _ named_all j h

    -- "in prefix order"
    pub bytes_all_lem : bytes_of file cells k ≡ label_in cells k ∷ rest file cells k 0
    unfolding bytes_of written value_in rest
    bytes_all_lem =
        ap (λ (x : Cell). x.constructor ∷ written_all (from_list (map (value_in heap k) x.arguments))) cell_is
        ∙ ap (λ (l : List ℕ). label_in cells k ∷ l)
        (written_all_lem file cells (value_in heap k)
        (λ r l. ap written (value_fuel heap ok.earlier k (suc r) r (omega (arith, refers)) l (omega arith))
        ∙ sym (bytes_in file cells (cells_to k) r (omega (arith, up_to k)) ok.earlier)) named_all)

    -- a constant is its own byte
    pub constant_bytes : is_constant k ≡ true → bytes_of file cells k ≡ k ∷ []
    constant_bytes e =
        bytes_all_lem ∙ ap₂ (λ (c : ℕ) (l : List ℕ). c ∷ l) (constant_label cells k e)
        (rest_none 0 (omega (arith, constant_arity cells k (constructor_arity file) e)))

    -- the constructor of a cell is one of the program
    pub cell_known : is_constant k ≡ false → Parsed file × (label_in cells k < byte_at (payload file) 2)
    cell_known e = (ok.parsed, omega (arith, cell_label cells k e, ok.known (cell_of k) (cell_last_of k e)))

    -- so it is below 64, as a constant is
    pub label_few : label_in cells k < 64
    label_few = one (is_constant k) refl
      where
        one : (t : Bool) → is_constant k ≡ t → label_in cells k < 64
        one true e = omega (arith, constant_label cells k e, ltb-true k 64 e)
        one false e = (constructor_small ok.parsed (label_in cells k) (cell_known e).1).0

    pub arity_few : arity_in (constructor_arity file) cells k ≤ 4
    arity_few = one (is_constant k) refl
      where
        one : (t : Bool) → is_constant k ≡ t → arity_in (constructor_arity file) cells k ≤ 4
        one true e = omega (arith, constant_arity cells k (constructor_arity file) e)
        one false e =
            let small = constructor_small ok.parsed (label_in cells k) (cell_known e).1 in
            omega (arith, cell_arity cells k (constructor_arity file) e, small.1)

    -- a reference below it
    pub readable_at : (r : ℕ) → r < k → Readable file cells r
    readable_at r h =
        let less : cells_to r ≤ cells_to k = cells_to_less r k (omega arith) in
        record {
          parsed = ok.parsed;
          room = room_less cells (cells_to k) (cells_to r) ok.room less;
          small = omega (arith, ok.small);
          known = λ i l. ok.known i (omega arith);
          earlier = earlier_less (constructor_arity file) cells (cells_to r) (cells_to k) less ok.earlier;
        }
