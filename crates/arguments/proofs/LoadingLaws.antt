-- Laws of the arguments' cells: as many references as types are still to be read, and each byte makes a constant or one cell.
use Prim.Native.Nat.{ℕ, zero, suc, ◌+◌, ◌-◌, ◌≤◌, ◌<◌}
use mathlib.Core.Path.{◌≡◌, refl, sym, ap, ap₂, ◌∙◌, subst}
use mathlib.Core.List.{List, [], ◌∷◌, ◌++◌}
use Rattle.std.specs.Prelude.{Some}
use mathlib.Core.Logic.{⊎_elim}
use native.Mathlib.Omega.{arith}
use native.Mathlib.Nat.{add-zero, zero-add, eq-or-lt_of_le}
use native.Mathlib.Numerals.{add-one}
use lib.ListN.{length, get_or, set, take, drop, length-append, drop_of_length-le}
use lib.Seq.{take-append_seam, drop-append_seam, drop-cons, get_or-set_same}
use Rattle.rules.specs.Base.{byte_at, passed}
use Rattle.rules.specs.Container.{payload}
use Rattle.rules.specs.Established.{Parsed}
use Rattle.rules.specs.Heap.{Heap, cell, allocated_for, allocated, number_of}
use Rattle.rules.specs.Prefix.{arity, read_bytes}
use Rattle.rules.specs.Program.{Constructor, Program, constructor}
use Rattle.rules.specs.Records.{program_in}
use Rattle.rules.specs.Run.{cells_loaded, cells_loaded_by, one_unless_constant}
use Rattle.rules.proofs.ListLaws.{at_less}
use Rattle.rules.proofs.PrefixLaws.{read_cons, arity_is}
use Rattle.rules.proofs.HeapRun.{references_length}
use Rattle.rules.proofs.HeapLaws.{allocated_cell, allocated_constant}
use Rattle.store.specs.Cells.{refs, constructor_in, heap_in, CellPut}
use Rattle.store.proofs.RefLaws.{length_refs, refs_same, refs_append, put_one}
use Rattle.store.proofs.CellLaws.{heap_length, heap_put, constructor_kept, cell_put_kept, cells_kept_refl, cells_kept_trans}
use Rattle.fetch.specs.Indexed.{constructor_arity}
use Rattle.fetch.proofs.IndexLaws.{constructor_read}
use Rattle.arguments.specs.Loading.{Loading, MadeFrom, MadeFor}

---- The bytes

-- what is left of the check from byte i on
suffix : (s : Program) (i o : ℕ) (bytes pending : List ℕ) → read_bytes s o bytes pending ≡ passed → length pending ≤ 256 → i ≤ length bytes
    → (p : List ℕ) × (read_bytes s (o + i) (drop i bytes) p ≡ passed) × (length p ≤ 256)
suffix s zero o bytes pending e h l = (pending, rw add-zero e, h)
suffix s (suc i) o [] pending e h l = absurd (omega arith)
suffix s (suc i) o (c ∷ bytes) pending e h l =
    let (t, ps, k, p, q, few, rest) = read_cons s o c bytes pending e in
    let (x, y, z) = suffix s i (suc o) bytes (k.arguments ++ ps) rest few (omega arith) in
    let d : o + suc i ≡ suc o + i = omega arith in
    (x, rw d y, z)

-- fewer bytes take no more cells
loaded_less : (s : Program) (i : ℕ) (bytes : List ℕ) → cells_loaded s (drop i bytes) ≤ cells_loaded s bytes
unfolding cells_loaded_by
loaded_less s zero bytes = omega arith
loaded_less s (suc i) [] = omega arith
loaded_less s (suc i) (c ∷ bytes) = omega (arith, loaded_less s i bytes)

-- and a byte one at most
pub loaded_few : (s : Program) (bytes : List ℕ) → cells_loaded s bytes ≤ length bytes
unfolding cells_loaded_by
loaded_few s [] = omega arith
loaded_few s (c ∷ bytes) = one (loaded_few s bytes) (arity s c)
  where
    one : cells_loaded s bytes ≤ length bytes → (k : ℕ) → one_unless_constant k + cells_loaded s bytes ≤ suc (length bytes)
    one ih zero = omega (arith, ih)
    one ih (suc k) = omega (arith, ih)

one_cell : (n : ℕ) → 0 < n → one_unless_constant n ≡ 1
one_cell zero h = absurd (omega arith)
one_cell (suc n) h = refl

---- One byte

module _ {file bytes : List ℕ} (a : Loading file bytes) (i : ℕ) (inside : i < length bytes) where
  abbrev s : Program
  s = program_in file

  abbrev c : ℕ
  c = get_or bytes i 0

  abbrev n : ℕ
  n = arity s c

  abbrev later : Heap × List ℕ
  later = allocated_for s (drop (i + 1) bytes)

  next : drop i bytes ≡ c ∷ drop (i + 1) bytes
  next = rw (add-one, drop-cons bytes i 0)

  here : (t : ℕ) × (ps : List ℕ) × (k : Constructor) × (length ps < 256) × (constructor s c ≡ Some k)
      × (read_bytes s (suc i) (drop (i + 1) bytes) (k.arguments ++ ps) ≡ passed)
  here =
      let (p, q, h) = suffix s i 0 bytes a.pending a.right a.few (omega arith) in
      let q' : read_bytes s i (c ∷ drop (i + 1) bytes) p ≡ passed = rw (zero-add, next) at q in
      let (t, ps, k, f, g, few', rest) = read_cons s i c (drop (i + 1) bytes) p q' in
      (t, ps, k, omega (arith, ap length f), g, rest)

  -- the cells that the bytes from here on take
  counted_here : cells_loaded s (drop i bytes) ≡ one_unless_constant n + cells_loaded s (drop (i + 1) bytes)
  unfolding cells_loaded_by
  counted_here = ap (cells_loaded s) next

  argument_known : c < length s.constructors
  argument_known = at_less s.constructors c here.4

  -- the arguments are among the references, and with the new one they fit
  references : (n ≤ length later.1) × (length later.1 < n + 256)
  references =
      let l = references_length s (suc i) (drop (i + 1) bytes) (here.2.arguments ++ here.1) here.5 in
      let q = arity_is s c here.4 in
      let m = length-append here.2.arguments here.1 in
      (omega (arith, l, q, m), omega (arith, l, q, m, here.3))

  module _ {used : ℕ} {cells cells' numbers : List ℕ} {at : ℕ} (x : MadeFrom s bytes (i + 1) used cells cells' numbers at) where
    argument_room : (at + n ≤ 256) × (0 < at + n)
    argument_room =
        let len = length_refs numbers at (256 - at) in
        let e = ap length x.values in
        (omega (arith, len, e, references, x.low), omega (arith, len, e, references, x.low))

    abbrev behind : List ℕ
    behind = refs numbers (at + n) (256 - (at + n))

    parts : later.1 ≡ refs numbers at n ++ behind
    parts =
        let w : 256 - at ≡ n + (256 - (at + n)) = omega (arith, argument_room) in
        sym x.values ∙ ap (refs numbers at) w ∙ refs_append numbers at n (256 - (at + n))

    taken : take n later.1 ≡ refs numbers at n
    taken =
        ap (take n) parts ∙ ap (λ (z : ℕ). take z (refs numbers at n ++ behind)) (sym (length_refs numbers at n))
        ∙ take-append_seam (refs numbers at n) behind

    left : drop n later.1 ≡ behind
    left =
        ap (drop n) parts ∙ ap (λ (z : ℕ). drop z (refs numbers at n ++ behind)) (sym (length_refs numbers at n))
        ∙ drop-append_seam (refs numbers at n) behind

    module _ (long : length numbers ≡ 256) (number : ℕ) where
      abbrev numbers' : List ℕ
      numbers' = set numbers (at + n - 1) number

      values_more : refs numbers' (at + n - 1) (256 - (at + n - 1)) ≡ number ∷ behind
      unfolding refs
      values_more =
          let f : 256 - (at + n - 1) ≡ suc (256 - (at + n)) = omega (arith, argument_room) in
          let g : suc (at + n - 1) ≡ at + n = omega (arith, argument_room) in
          let p = put_one numbers (at + n - 1) number (omega (arith, argument_room)) in
          ap (refs numbers' (at + n - 1)) f
          ∙ ap₂ ◌∷◌ (get_or-set_same numbers (at + n - 1) number 0 (omega (arith, argument_room)))
          (ap (λ (z : ℕ). refs numbers' z (256 - (at + n))) g
          ∙ refs_same numbers' numbers (at + n) (at + n) (256 - (at + n)) (λ j h. p.high (at + n + j) (omega (arith, argument_room))))

      -- what is allocated for the byte and those behind it
      allocated_next : {heap : Heap} → allocated later.0 c (refs numbers at n) ≡ (heap, number)
          → (heap ≡ (allocated_for s (drop i bytes)).0)
          × (refs numbers' (at + n - 1) (256 - (at + n - 1)) ≡ (allocated_for s (drop i bytes)).1)
      unfolding allocated_for
      allocated_next e =
          let f : allocated later.0 c (take n later.1) ≡ allocated later.0 c (refs numbers at n) =
          ap (allocated later.0 c) taken in
          let g = f ∙ e in
          (sym (ap (λ (x : Heap × ℕ). x.0) g) ∙ rw next, values_more ∙ ap₂ ◌∷◌ (sym (ap (λ (x : Heap × ℕ). x.1) g)) (sym left) ∙ rw next)

    -- a constant makes no cell
    constant_more : length numbers ≡ 256 → n ≡ 0 → MadeFrom s bytes i used cells cells' (set numbers (at + n - 1) c) (at + n - 1)
    constant_more long None =
        let e = allocated_next long c (allocated_constant later.0 c (refs numbers at n) (length_refs numbers at n ∙ None)) in record {
          taken = omega (arith, x.taken, counted_here, ap one_unless_constant None);
          heap = x.heap ∙ e.0;
          values = e.1;
          low = omega (arith, argument_room);
          kept = x.kept;
          known = x.known;
        }

    -- any other constructor makes one
    module _ (long : length numbers ≡ 256) (any : 0 < n) (cells'' : List ℕ)
        (p : CellPut used c (refs numbers at n) cells' cells'') where
      taken_more : suc used ≡ cells_loaded s (drop i bytes)
      taken_more = omega (arith, x.taken, counted_here, one_cell n any)

      heap_more : heap_in (arity s) cells'' (suc used) ≡ later.0 ++ (cell c (refs numbers at n) ∷ [])
      heap_more =
          heap_put (arity s) used c (refs numbers at n) cells' cells'' p (length_refs numbers at n)
          (λ k h. (constructor_read a.parsed (constructor_in cells' k) (x.known k h)).2)
          ∙ ap (λ (heap : Heap). heap ++ (cell c (refs numbers at n) ∷ [])) x.heap

      known_more : (k : ℕ) → k < suc used → constructor_in cells'' k < length s.constructors
      known_more k h =
          let b : k ≤ used = omega arith in
          ⊎_elim
          (λ e. let q : constructor_in cells'' k ≡ c = rw e p.constructor in omega (arith, q, argument_known))
          (λ l. omega (arith, constructor_kept used c (refs numbers at n) cells' cells'' p k l, x.known k l))
          (eq-or-lt_of_le b)

      -- there was room for it
      cell_room : used < cells_loaded s bytes
      cell_room = omega (arith, taken_more, loaded_less s i bytes)

      cell_more : MadeFrom s bytes i (suc used) cells cells'' (set numbers (at + n - 1) (number_of used)) (at + n - 1)
      cell_more =
          let m : used ≡ length later.0 = sym (heap_length (arity s) cells' used) ∙ ap length x.heap in
          let made = allocated_cell later.0 c (refs numbers at n) (omega (arith, length_refs numbers at n)) in
          let e = allocated_next long (number_of used)
          (made ∙ ap (λ (k : ℕ). (later.0 ++ (cell c (refs numbers at n) ∷ []), number_of k)) (sym m)) in
          record {
            taken = taken_more;
            heap = heap_more ∙ e.0;
            values = e.1;
            low = omega (arith, argument_room);
            kept =
                cells_kept_trans (cells_loaded s bytes) cells cells' cells'' x.kept
                (cell_put_kept used c (refs numbers at n) cells' cells'' p (cells_loaded s bytes) cell_room);
            known = known_more;
          }

---- In the code's words

pub made_none : {s : Program} {bytes cells numbers : List ℕ} → MadeFrom s bytes (length bytes) 0 cells cells numbers 256
unfolding refs allocated_for heap_in cells_loaded_by
made_none {s} {bytes} {cells} {numbers} =
    let none = drop_of_length-le bytes {i = length bytes} (omega arith) in record {
      taken = rw none;
      heap = rw none;
      values = rw none;
      low = omega arith;
      kept = cells_kept_refl (cells_loaded s bytes) cells;
      known = λ k h. absurd (omega arith);
    }

pub made_all : {s : Program} {bytes : List ℕ} {i used : ℕ} {cells cells' numbers : List ℕ} {at : ℕ} → i ≡ 0
    → MadeFrom s bytes i used cells cells' numbers at → MadeFor s bytes cells cells' numbers at used
made_all {s} {bytes} {i} {used} {cells} {cells'} {numbers} {at} e x =
    let y = subst (λ (j : ℕ). MadeFrom s bytes j used cells cells' numbers at) e x in
    record { taken = y.taken; heap = y.heap; values = y.values; low = y.low; kept = y.kept; known = y.known }

module _ {file bytes : List ℕ} (a : Loading file bytes) (i : ℕ) (inside : i < length bytes) {c' : ℕ} (ec : c' ≡ get_or bytes i 0) where
  byte_read : (c' < byte_at (payload file) 2) × (constructor_arity file c' ≡ arity (program_in file) c') × (arity (program_in file) c' ≤ 4)
  byte_read = constructor_read a.parsed c' (omega (arith, ec, argument_known a i inside))

  -- what reading the byte's arity asks
  pub byte_known : Parsed file × (c' < byte_at (payload file) 2)
  byte_known = (a.parsed, byte_read.0)

  module _ {n' : ℕ} (en : n' ≡ constructor_arity file c') where
    arity_read : n' ≡ arity (program_in file) (get_or bytes i 0)
    arity_read = en ∙ byte_read.1 ∙ ap (arity (program_in file)) ec

    pub byte_few : n' ≤ 4
    byte_few = omega (arith, en, byte_read.1, byte_read.2)

    -- the cells that the bytes from here on take
    counted_byte : cells_loaded (program_in file) (drop i bytes)
        ≡ one_unless_constant n' + cells_loaded (program_in file) (drop (i + 1) bytes)
    counted_byte = rw arity_read (counted_here a i inside)

    pub counted_constant : n' ≡ 0 → cells_loaded (program_in file) (drop i bytes) ≡ cells_loaded (program_in file) (drop (i + 1) bytes)
    counted_constant None = omega (arith, counted_byte, ap one_unless_constant None)

    pub counted_cell : (n' ≡ 0 → ⊥)
        → cells_loaded (program_in file) (drop i bytes) ≡ 1 + cells_loaded (program_in file) (drop (i + 1) bytes)
    counted_cell any = omega (arith, counted_byte, one_cell n' (omega (arith, any)))

    -- from the cells of the bytes behind it
    module _ {j used : ℕ} (ej : j ≡ i + 1) {cells cells' numbers : List ℕ} {at : ℕ}
        (y : MadeFrom (program_in file) bytes j used cells cells' numbers at) where
      x : MadeFrom (program_in file) bytes (i + 1) used cells cells' numbers at
      x = subst (λ (k : ℕ). MadeFrom (program_in file) bytes k used cells cells' numbers at) ej y

      pub byte_room : (at + n' ≤ 256) × (0 < at + n')
      byte_room = rw arity_read (argument_room a i inside x)

      -- a cell for it is among those that the bytes take
      pub byte_fits : (n' ≡ 0 → ⊥) → used < cells_loaded (program_in file) bytes
      byte_fits any = omega (arith, counted_cell any, x.taken, loaded_less (program_in file) i bytes)

      pub byte_constant : length numbers ≡ 256 → n' ≡ 0 → {d : ℕ} → d ≡ get_or bytes i 0
          → MadeFrom (program_in file) bytes i used cells cells' (set numbers (at + n' - 1) d) (at + n' - 1)
      byte_constant long None ed = rw (arity_read, ed) (constant_more a i inside x long (sym arity_read ∙ None))

      pub byte_cell : length numbers ≡ 256 → (n' ≡ 0 → ⊥) → {d : ℕ} → d ≡ get_or bytes i 0 → {cells'' : List ℕ}
          → CellPut used d (refs numbers at n') cells' cells''
          → MadeFrom (program_in file) bytes i (used + 1) cells cells'' (set numbers (at + n' - 1) (number_of used)) (at + n' - 1)
      byte_cell long any ed {cells''} p =
          rw (arity_read, add-one)
          (cell_more a i inside x long (omega (arith, arity_read, any)) cells'' (rw (ed, arity_read) at p))
