-- The table: its entries one by one, and their marks.
use mathlib.Core.Path.{◌≡◌, refl, sym, ◌∙◌}
use mathlib.Core.List.{List, [], ◌∷◌}
use mathlib.Core.Bool.{Bool, true, false, ◌&&◌}
use Prim.Native.Nat.{ℕ, zero, suc, ◌+◌, ◌*◌, ◌/◌, ◌%◌, ◌≤◌, ◌<◌}
use native.Mathlib.Omega.{arith}
use lib.ListN.{length, take, drop, length-take, length-drop}
use lib.Seq.{drop-drop}
use Rattle.rules.specs.Base.{is_zero, all}
use Rattle.rules.specs.Lines.{letters_right, entries_of, entries, table_right}
use Rattle.rules.proofs.ListLaws.{and_left, and_right, eqb_iff}
use Rattle.lines.proofs.LetterLaws.{front_letters}

---- Entries

pub no_entries : (table : List ℕ) → length table < 4 → entries table ≡ []
unfolding entries entries_of
no_entries table h = let e : length table / 4 ≡ 0 = omega arith in rw e

pub entries_next : (table : List ℕ) → 4 ≤ length table → entries table ≡ take 4 table ∷ entries (drop 4 table)
unfolding entries entries_of
entries_next table h =
    let e : length table / 4 ≡ suc (length (drop 4 table) / 4) = rw (length-drop 4 table) (omega arith) in
    rw e

pub entries_end : (table : List ℕ) (at : ℕ) → length table ≤ at → entries (drop at table) ≡ []
entries_end table at h = no_entries (drop at table) (rw (length-drop at table) (omega arith))

-- those from a place on
pub entries_at : (table : List ℕ) (at : ℕ) → at + 4 ≤ length table
    → entries (drop at table) ≡ take 4 (drop at table) ∷ entries (drop (at + 4) table)
entries_at table at h =
    rw (← drop-drop 4 at table) (entries_next (drop at table) (rw (length-drop at table) (omega arith)))

---- The rule

pub table_uneven : (table : List ℕ) → (length table % 4 ≡ 0 → ⊥) → table_right table ≡ false
unfolding table_right
table_uneven table h = one (is_zero (length table % 4)) refl
  where
    one : (t : Bool) → is_zero (length table % 4) ≡ t → (t && all letters_right (entries table)) ≡ false
    one true w = absurd (h ((eqb_iff (length table % 4) 0).0 w))
    one false w = refl

pub table_even : (table : List ℕ) → length table % 4 ≡ 0 → table_right table ≡ all letters_right (entries table)
unfolding table_right
table_even table h = rw ((eqb_iff (length table % 4) 0).1 h)

module _ (table : List ℕ) (at : ℕ) (there : at + 4 ≤ length table) where
  pub letters_wrong : letters_right (drop at table) ≡ false → all letters_right (entries (drop at table)) ≡ false
  letters_wrong h = rw (entries_at table at there, front_letters (drop at table), h)

  pub letters_next : letters_right (drop at table) ≡ true
      → all letters_right (entries (drop at table)) ≡ all letters_right (entries (drop (at + 4) table))
  letters_next h = rw (entries_at table at there, front_letters (drop at table), h)

  -- of a table that is right from a place on, the entry there is
  pub letters_here : all letters_right (entries (drop at table)) ≡ true → letters_right (drop at table) ≡ true
  letters_here h =
      let rest = all letters_right (entries (drop (at + 4) table)) in
      sym (front_letters (drop at table)) ∙ and_left (letters_right (take 4 (drop at table))) rest (rw (entries_at table at there) at h)

---- A right table

module _ (table : List ℕ) (right : table_right table ≡ true) where
  pub right_even : length table % 4 ≡ 0
  unfolding table_right
  right_even = (eqb_iff (length table % 4) 0).0 (and_left (is_zero (length table % 4)) (all letters_right (entries table)) right)

  from_entry : (k : ℕ) → 4 * k ≤ length table → all letters_right (entries (drop (4 * k) table)) ≡ true
  unfolding table_right
  from_entry zero h = and_right (is_zero (length table % 4)) (all letters_right (entries table)) right
  from_entry (suc k) h =
      let there : 4 * k + 4 ≤ length table = omega arith in
      let before = from_entry k (omega arith) in
      let e : 4 * suc k ≡ 4 * k + 4 = omega arith in
      rw e (sym (letters_next table (4 * k) there (letters_here table (4 * k) there before)) ∙ before)

  -- every entry begins with three capitals
  entry_letters : (at : ℕ) → at % 4 ≡ 0 → at + 4 ≤ length table → letters_right (drop at table) ≡ true
  entry_letters at whole h =
      let e : 4 * (at / 4) ≡ at = omega (arith, whole) in
      letters_here table at h (rw e at (from_entry (at / 4) (omega arith)))

  -- and so do its w bytes
  pub entry_there : (at w : ℕ) → w ≡ 4 → at % 4 ≡ 0 → at + 4 ≤ length table
      → (3 ≤ length (take w (drop at table))) × (letters_right (take w (drop at table)) ≡ true)
  entry_there at w four whole h =
      rw four (simp (length-take, length-drop) (omega arith), front_letters (drop at table) ∙ entry_letters at whole h)
