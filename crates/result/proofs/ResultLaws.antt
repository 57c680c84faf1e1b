-- Laws of the walk over a result's cells: what is counted or written, and the bytes still to come, are together the value's bytes.
use Prim.Native.Nat.{ℕ, suc, ◌+◌, ◌≤◌, ◌<◌}
use mathlib.Core.Path.{◌≡◌, refl, sym, ap, ap₂, ◌∙◌}
use mathlib.Core.Bool.{Bool, true, false}
use mathlib.Core.List.{List, ◌∷◌, ◌++◌, append-nil}
use native.Mathlib.Omega.{arith}
use native.Mathlib.Numerals.{add-one}
use lib.ListN.{length, set, length-append}
use lib.Seq.{sets, sets-eq}
use Rattle.rules.proofs.ListLaws.{sets_append}
use Rattle.rules.specs.Heap.{is_constant}
use Rattle.rules.specs.Memory.{front_written}
use Rattle.store.specs.Cells.{argument_in, cell_of, label_in, arity_in}
use Rattle.store.proofs.CellLaws.{constant_arity}
use Rattle.fetch.specs.Indexed.{constructor_arity}
use Rattle.result.specs.Result.{bytes_of, Readable, VisitAt}
use Rattle.result.proofs.ValueLaws.{rest, rest_none, rest_more, before, bytes_all_lem, constant_bytes, arity_few, readable_at}

module _ (file cells : List ℕ) (k : ℕ) (ok : Readable file cells k) where
  pub length_all : length (bytes_of file cells k) ≡ suc (length (rest file cells k 0))
  length_all = ap length (bytes_all_lem file cells k ok)

  pub sets_all : (o : List ℕ) (at : ℕ)
      → sets o at (bytes_of file cells k) ≡ sets (set o at (label_in cells k)) (at + 1) (rest file cells k 0)
  sets_all o at =
      ap (sets o at) (bytes_all_lem file cells k ok)
      ∙ ap (λ (i : ℕ). sets (set o at (label_in cells k)) i (rest file cells k 0)) (sym (add-one at))

---- A walk over the cells: constants at once, of the other arguments all but the last by a call and the last by going round

-- a reference with an argument is no constant
pub visit_cell : {file cells : List ℕ} {here n j : ℕ} → VisitAt file cells here n j → j < n → is_constant here ≡ false
visit_cell {file} {cells} {here} at more = one (is_constant here) refl
  where
    one : (t : Bool) → is_constant here ≡ t → is_constant here ≡ false
    one true e = absurd (omega (arith, at.arity, constant_arity cells here (constructor_arity file) e, more))
    one false e = e

module _ {file cells : List ℕ} {here n j : ℕ} (at : VisitAt file cells here n j) (more : j < n) {r : ℕ}
    (named : r ≡ argument_in cells (cell_of here) j) where
  visit_less : j < arity_in (constructor_arity file) cells here
  visit_less = omega (arith, at.arity, more)

  -- the argument visited has a lower number
  pub visit_earlier : r < here
  visit_earlier = omega (arith, named, before file cells here at.readable j visit_less)

  pub visit_readable : Readable file cells r
  visit_readable = readable_at file cells here at.readable r visit_earlier

  pub visit_few : {n' : ℕ} → n' ≡ arity_in (constructor_arity file) cells r → n' ≤ 4
  visit_few e = omega (arith, e, arity_few file cells r visit_readable)

  -- the bytes still to come are the argument's and those behind it
  visit_bytes : rest file cells here j ≡ bytes_of file cells r ++ rest file cells here (j + 1)
  visit_bytes = rest_more file cells here j r visit_less named

  -- at the last one they are the argument's constructor and what comes behind that
  visit_last_bytes : n ≤ j + 1 → rest file cells here j ≡ label_in cells r ∷ rest file cells r 0
  visit_last_bytes last =
      let none = rest_none file cells here (j + 1) (omega (arith, at.arity, last)) in
      visit_bytes ∙ ap₂ ◌++◌ (bytes_all_lem file cells r visit_readable) none ∙ append-nil (label_in cells r ∷ rest file cells r 0)

-- from a number on the bytes are counted; those still to come are counted from here on
pub record Counting (file cells : List ℕ) (k from here n total j : ℕ) : Type 0 where
  pub at : VisitAt file cells here n j
  pub low : here ≤ k
  pub sum : total + length (rest file cells here j) ≡ from + length (bytes_of file cells k)

pub counting_start : (file cells : List ℕ) (k from : ℕ) → Readable file cells k → {n : ℕ}
    → n ≡ arity_in (constructor_arity file) cells k → Counting file cells k from k n (from + 1) 0
counting_start file cells k from ok e = record {
  at = record { readable = ok; arity = e; inside = omega arith };
  low = omega arith;
  sum = omega (arith, length_all file cells k ok);
}

module _ {file cells : List ℕ} {k from here n total j : ℕ} (so_far : Counting file cells k from here n total j) where
  pub counting_few : n ≤ 4
  counting_few = omega (arith, so_far.at.arity, arity_few file cells here so_far.at.readable)

  pub counting_end : n ≤ j → total ≡ from + length (bytes_of file cells k)
  counting_end h =
      omega (arith, so_far.sum, ap length (rest_none file cells here j (omega (arith, so_far.at.arity, h))))

  module _ (more : j < n) {r : ℕ} (named : r ≡ argument_in cells (cell_of here) j) where
    -- the argument's bytes, one at least, are among those still to come
    pub counting_whole : (total + length (bytes_of file cells r) + length (rest file cells here (j + 1))
        ≡ from + length (bytes_of file cells k)) × (1 ≤ length (bytes_of file cells r))
    counting_whole =
        let e : length (rest file cells here j) ≡ length (bytes_of file cells r) + length (rest file cells here (j + 1)) =
        ap length (visit_bytes so_far.at more named) ∙ simp length-append in
        (omega (arith, so_far.sum, e), omega (arith, length_all file cells r (visit_readable so_far.at more named)))

    pub counting_next : Counting file cells k from here n (total + length (bytes_of file cells r)) (j + 1)
    counting_next = record {
      at = record { readable = so_far.at.readable; arity = so_far.at.arity; inside = omega arith };
      low = so_far.low;
      sum = counting_whole.0;
    }

    -- a constant is one byte
    pub counting_constant : is_constant r ≡ true → Counting file cells k from here n (total + 1) (j + 1)
    counting_constant e =
        let one = ap length (constant_bytes file cells r (visit_readable so_far.at more named) e) in
        rw one at counting_next

    pub counting_last : n ≤ j + 1 → {n' : ℕ} → n' ≡ arity_in (constructor_arity file) cells r
        → Counting file cells k from r n' (total + 1) 0
    counting_last last e = record {
      at = record { readable = visit_readable so_far.at more named; arity = e; inside = omega arith };
      low = omega (arith, so_far.low, visit_earlier so_far.at more named);
      sum = omega (arith, so_far.sum, ap length (visit_last_bytes so_far.at more named last));
    }

-- behind the constructor at a place the bytes are written; those still to come go to the next place
pub record Writing (file cells : List ℕ) (k at : ℕ) (first out : List ℕ) (here n next j : ℕ) : Type 0 where
  pub count : Counting file cells k at here n next j
  pub long : length out ≡ length first
  pub bytes : sets out next (rest file cells here j) ≡ sets first (at + 1) (rest file cells k 0)

pub writing_start : (file cells : List ℕ) (k at : ℕ) (first : List ℕ) → Readable file cells k → {n : ℕ}
    → n ≡ arity_in (constructor_arity file) cells k → Writing file cells k at first first k n (at + 1) 0
writing_start file cells k at first ok e = record { count = counting_start file cells k at ok e; long = refl; bytes = refl }

module _ {file cells : List ℕ} {k at : ℕ} {first out : List ℕ} {here n next j : ℕ}
    (so_far : Writing file cells k at first out here n next j) where
  pub writing_end : n ≤ j → (next ≡ at + length (bytes_of file cells k)) × (out ≡ sets first (at + 1) (rest file cells k 0))
  writing_end h =
      let none = rest_none file cells here j (omega (arith, so_far.count.at.arity, h)) in
      (counting_end so_far.count h, sym (ap (sets out next) none) ∙ so_far.bytes)

  module _ (more : j < n) {r : ℕ} (named : r ≡ argument_in cells (cell_of here) j) {out' : List ℕ} (long : length out' ≡ length out) where
    pub writing_next : {next' : ℕ} → next' ≡ next + length (bytes_of file cells r) → out' ≡ sets out next (bytes_of file cells r)
        → Writing file cells k at first out' here n next' (j + 1)
    writing_next e put = rw e (record {
      count = counting_next so_far.count more named;
      long = long ∙ so_far.long;
      bytes =
          ap (λ (o : List ℕ). sets o (next + length (bytes_of file cells r)) (rest file cells here (j + 1))) put
          ∙ sym (sets_append out next (bytes_of file cells r) (rest file cells here (j + 1)))
          ∙ sym (ap (sets out next) (visit_bytes so_far.count.at more named)) ∙ so_far.bytes;
    })

    -- a constant is its own byte
    pub writing_constant : is_constant r ≡ true → out' ≡ set out next r → Writing file cells k at first out' here n (next + 1) (j + 1)
    writing_constant e put =
        let bytes = constant_bytes file cells r (visit_readable so_far.count.at more named) e in
        writing_next (ap (λ (l : List ℕ). next + length l) (sym bytes)) (put ∙ ap (sets out next) (sym bytes))

    pub writing_last : n ≤ j + 1 → {n' : ℕ} → n' ≡ arity_in (constructor_arity file) cells r → out' ≡ set out next (label_in cells r)
        → Writing file cells k at first out' r n' (next + 1) 0
    writing_last last e put = record {
      count = counting_last so_far.count more named last e;
      long = long ∙ so_far.long;
      bytes =
          ap₂ (λ (o : List ℕ) (i : ℕ). sets o i (rest file cells r 0)) put (add-one next)
          ∙ sym (ap (sets out next) (visit_last_bytes so_far.count.at more named last)) ∙ so_far.bytes;
    }

-- bytes put at the front
pub sets_front : (bytes out : List ℕ) → length bytes ≤ length out → sets out 0 bytes ≡ front_written bytes out
sets_front bytes out h = let e : 0 + length bytes ≡ length bytes = omega arith in sets-eq bytes out 0 (omega arith) ∙ rw e
