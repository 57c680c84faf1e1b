-- The marks of a table's entries, made from the last entry to the first.
use Rattle.std.proofs.Common.{◌≡◌, ◌+◌, ◌≤◌, ◌<◌, ◌∙◌, ℕ, Bool, true, false, List, [], ◌∷◌, length, take, drop, get_or, refl, sym}
use Rattle.std.proofs.lemmas.List.{get_or-replicate}
use Rattle.std.specs.Prelude.{if◌then◌else◌, Option, None, Some}
use lib.ListN.{set, replicate, length-set, length-replicate}
use lib.Seq.{get_or-set_same, get_or-set_other}
use Rattle.rules.specs.Base.{byte_at}
use Rattle.rules.specs.Lines.{letters_right, entries, same_letters, lookup}
use Rattle.rules.proofs.ListLaws.{false_true}
use Rattle.lines.specs.Marks.{number, Marked}
use Rattle.lines.proofs.LetterLaws.{number_less, same_letters_lem, letters_same, same_number, number_same}
use Rattle.lines.proofs.TableLaws.{entries_at}

-- no entries, no marks
pub marked_none : Marked [] (replicate 17576 None)
unfolding lookup
marked_none =
    record {
      wide = length-replicate {A = Option ℕ} 17576 None;
      each = λ line h. get_or-replicate 17576 (number line) None None (number_less line h);
    }

-- an entry more in front of the others: its letters are marked anew, all others as they were
module _ (e : List ℕ) (es : List (List ℕ)) (marks : List (Option ℕ)) (letters : letters_right e ≡ true) (m : Marked es marks) where
  abbrev after : List (Option ℕ)
  after = set marks (number e) (Some (byte_at e 3))

  there : number e < length marks
  there = rw m.wide (number_less e letters)

  each_of : (line : List ℕ) → letters_right line ≡ true → get_or after (number line) None ≡ lookup (e ∷ es) line
  unfolding lookup
  each_of line h = one (same_letters e line) refl
    where
      one : (t : Bool) → same_letters e line ≡ t → get_or after (number line) None ≡ (if t then Some (byte_at e 3) else lookup es line)
      one true w = rw (← same_number e line (same_letters_lem e line w)) (get_or-set_same marks (number e) (Some (byte_at e 3)) None there)
      one false w =
          get_or-set_other marks (number e) (number line) (Some (byte_at e 3)) None
          (λ n. false_true (sym w ∙ letters_same e line (number_same e line letters h (sym n))))
          ∙ m.each line h

  pub marked_next : Marked (e ∷ es) after
  marked_next = record { wide = length-set marks (number e) (Some (byte_at e 3)) ∙ m.wide; each = each_of }

-- the entry at a place, of w bytes, in front of those behind it
pub marked_entry : (table : List ℕ) (at w : ℕ) (marks : List (Option ℕ)) {r : ℕ} → w ≡ 4 → at + 4 ≤ length table
    → letters_right (take w (drop at table)) ≡ true → r ≡ number (take w (drop at table)) → Marked (entries (drop (at + 4) table)) marks
    → Marked (entries (drop at table)) (set marks r (Some (byte_at (take w (drop at table)) 3)))
marked_entry table at w marks four there letters place m =
    rw (entries_at table at there, place, four)
    (marked_next (take 4 (drop at table)) (entries (drop (at + 4) table)) marks (rw four at letters) m)
