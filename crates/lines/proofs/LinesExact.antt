-- The survey lines are turned into a list, or refused, as the rules of 19, 20 and 13 in the words of ticket 1 say.
use Rattle.std.specs.Prelude.{if◌then◌else◌}
use mathlib.Core.Path.{◌≡◌, refl, sym, ap, ◌∙◌}
use mathlib.Core.List.{List, [], ◌∷◌, ◌++◌, append-nil}
use Rattle.std.specs.Prelude.{Option, None, Some}
use mathlib.Core.Bool.{Bool, true, false, ◌&&◌}
use mathlib.Core.Logic.{◌⊎◌, inl, inr, ⊎_elim, ◌↔◌}
use Prim.Native.Nat.{ℕ, zero, suc, ◌+◌, ◌*◌, ◌%◌, ◌≤◌, ◌<◌}
use native.Mathlib.Omega.{arith}
use native.Mathlib.Nat.{zero-add}
use native.Mathlib.Numerals.{add-one}
use lib.ListN.{length, take}
use lib.Dec.{leb, eqb}
use borrow.Author.Tests.{eqb-true, eqb-false, leb-true, leb-false, le-leb, lt-leb}
use Rattle.rules.specs.Base.{Refusal, refusal, found, refused, all}
use Rattle.rules.specs.Lines.{capital, letters_right, entries, table_right, same_letters, lookup, text_lines, code, codes}
use Rattle.rules.specs.Lines.{list_of, in_room, lines_of}
use Rattle.rules.specs.Lists.{l[], All, ◌l∷◌, a[], ◌a∷◌}
use Rattle.rules.proofs.ListLaws.{none_some, some_inj, false_true, and_iff, all_iff, all2_length}
use Rattle.rules.proofs.TriedLaws.{answers_exactly}
use Rattle.rules.proofs.BlocksExact.{within_iff}
use Rattle.lines.specs.LineRules.{Letters, Capital, Capitals, Entry, table_of, TableHolds, Means, here, later, line_of, text_of}
use Rattle.lines.specs.LineRules.{Coded, NoLine, TableFits, LinesFail, bad_table, bad_line, short_output, LinesHold, LinesExact}
use Rattle.lines.proofs.LetterLaws.{same_letters_lem, letters_same}
use Rattle.lines.proofs.TableLaws.{no_entries, entries_next, table_even, right_even}
use Rattle.lines.proofs.TextLaws.{Line, is_false, coded_line, code_is, codes_wrong, codes_right}
use Rattle.lines.proofs.WrittenLaws.{list_length, lines_alike, lines_table, lines_refused, lines_found}

-- the test of three letters, and what it tests
letters_iff : (a b c : ℕ) → (capital a && capital b && capital c) ≡ true ↔ (Capital a × Capital b × Capital c)
letters_iff a b c =
    let i = and_iff (and_iff (within_iff 65 90 a) (within_iff 65 90 b)) (within_iff 65 90 c) in
    ((λ e. let h = i.0 e in (h.0.0, h.0.1, h.1)), λ h. i.1 ((h.0, h.1), h.2))

---- The table

-- the four bytes of an entry
abbrev bytes_of : Entry → List ℕ
bytes_of e = e.letters.first ∷ e.letters.second ∷ e.letters.third ∷ e.constructor ∷ []

-- so the entries of a table are the bytes of its entries, one by one
entries_more : (e : Entry) (es : List Entry) → entries (table_of (e ∷ es)) ≡ bytes_of e ∷ entries (table_of es)
entries_more e es = entries_next (table_of (e ∷ es)) (omega arith)

-- four bytes at a time, any bytes are entries, if none are left over
cut : (table : List ℕ) → length table % 4 ≡ 0 → (es : List Entry) × (table ≡ table_of es)
cut [] h = ([], refl)
cut (a ∷ []) h = absurd (omega arith)
cut (a ∷ b ∷ []) h = absurd (omega arith)
cut (a ∷ b ∷ c ∷ []) h = absurd (omega arith)
cut (a ∷ b ∷ c ∷ d ∷ table) h =
    let (es, e) = cut table (omega arith) in
    (record { letters = record { first = a; second = b; third = c }; constructor = d } ∷ es, (cc))

even : (es : List Entry) → length (table_of es) % 4 ≡ 0
even [] = refl
even (e ∷ es) = let h = even es in omega arith

table_letters : (es : List Entry) → all letters_right (entries (table_of es)) ≡ all (λ e. letters_right (bytes_of e)) es
table_letters [] = rw (no_entries [] (omega arith))
table_letters (e ∷ es) = rw (entries_more e es, table_letters es)

-- the table's test passes just where it is a table of entries with capitals
table_iff : (table : List ℕ) → table_right table ≡ true ↔ ((es : List Entry) × TableHolds table es)
table_iff table = (made, λ (es, (e, k)). rw e (table_even (table_of es) (even es) ∙ table_letters es ∙ (capitals_iff es).1 k))
  where
    capitals_iff : (es : List Entry) → all (λ e. letters_right (bytes_of e)) es ≡ true ↔ All (λ e. Capitals e.letters) es
    capitals_iff es =
        all_iff (λ e. letters_right (bytes_of e)) (λ e. letters_iff e.letters.first e.letters.second e.letters.third) es

    made : table_right table ≡ true → (es : List Entry) × TableHolds table es
    made h =
        let even = right_even table h in
        let (es, e) = cut table even in
        (es, (e, (capitals_iff es).0 (sym (table_letters es) ∙ (rw e at (sym (table_even table even) ∙ h)))))

---- What letters mean

-- the letters of an entry and of a line are the same as bytes just where they are the same
same_iff : (e : Entry) (l : Letters) → same_letters (bytes_of e) (line_of l) ≡ true ↔ (e.letters ≡ l)
same_iff e l = (is, λ q. letters_same (bytes_of e) (line_of l) (rw q (record { first = refl; second = refl; third = refl })))
  where
    is : same_letters (bytes_of e) (line_of l) ≡ true → e.letters ≡ l
    is h = let s = same_letters_lem (bytes_of e) (line_of l) h in λ i. record { first = s.first i; second = s.second i; third = s.third i }

-- letters mean a constructor just where they are found with it
means_found : {es : List Entry} {l : Letters} {c : ℕ} → Means es l c → lookup (entries (table_of es)) (line_of l) ≡ Some c
unfolding lookup
means_found (here {e} {es}) = rw (entries_more e es, (same_iff e e.letters).1 refl)
means_found (later {e} {es} {l} ne m) =
    rw (entries_more e es, is_false (same_letters (bytes_of e) (line_of l)) (λ w. ne ((same_iff e l).0 w))) (means_found m)

found_means : (es : List Entry) (l : Letters) {c : ℕ} → lookup (entries (table_of es)) (line_of l) ≡ Some c → Means es l c
unfolding lookup
found_means [] l e = none_some (rw (no_entries [] (omega arith)) at e)
found_means (x ∷ es) l {c} e = one (same_letters (bytes_of x) (line_of l)) refl (rw (entries_more x es) at e) (found_means es l)
  where
    others : Option ℕ
    others = lookup (entries (table_of es)) (line_of l)

    one : (t : Bool) → same_letters (bytes_of x) (line_of l) ≡ t → (if t then Some x.constructor else others) ≡ Some c
        → (others ≡ Some c → Means es l c) → Means (x ∷ es) l c
    one true w q ih = rw (← (same_iff x l).0 w, ← some_inj q) here
    one false w q ih = later (λ s. false_true (sym w ∙ (same_iff x l).1 s)) (ih q)

-- only letters of the table mean something, so they are capitals
means_capitals : {es : List Entry} {l : Letters} {c : ℕ} → All (λ e. Capitals e.letters) es → Means es l c → Capitals l
means_capitals l[] m = elim m [ ]
means_capitals (k l∷ ks) here = k
means_capitals (k l∷ ks) (later ne m) = means_capitals ks m

---- A line at the front of a text

some_left : (bytes : List ℕ) → (bytes ≡ [] → ⊥) → 0 < length bytes
some_left [] h = absurd (h refl)
some_left (b ∷ bytes) h = omega arith

module _ (es : List Entry) (capitals : All (λ e. Capitals e.letters) es) where
  abbrev table : List (List ℕ)
  table = entries (table_of es)

  -- what letters mean is the code of their line
  means_code : {l : Letters} {c : ℕ} → Means es l c → code table (line_of l) ≡ Some c
  means_code {l} m =
      let right = (letters_iff l.first l.second l.third).1 (means_capitals capitals m) in
      code_is table (line_of l) (record { four = refl; letters = right; end = refl }) ∙ means_found m

  -- and bytes with a code are the line of such letters
  record Front (text : List ℕ) (c : ℕ) : Type 0 where
    letters : Letters
    more : List ℕ
    is : text ≡ line_of letters ++ more
    means : Means es letters c

  code_means : (text : List ℕ) {c : ℕ} → code table (take 4 text) ≡ Some c → Front text c
  code_means text {c} e = front text (coded_line table (take 4 text) e) e
    where
      front : (text : List ℕ) → Line (take 4 text) → code table (take 4 text) ≡ Some c → Front text c
      front [] l e = absurd (omega arith)
      front (a ∷ []) l e = absurd (omega arith)
      front (a ∷ b ∷ []) l e = absurd (omega arith)
      front (a ∷ b ∷ d ∷ []) l e = absurd (omega arith)
      front (a ∷ b ∷ d ∷ last ∷ more) l e =
          let letters : Letters = record { first = a; second = b; third = d } in
          let ten : last ≡ 10 = l.end in
          record { letters = letters; more = more; is = (cc); means = found_means es letters (rw ten at (sym (code_is table _ l) ∙ e)) }

  -- so bytes begin no line just where the first four have no code
  none_begins : (text : List ℕ) → code table (take 4 text) ≡ None → NoLine es text
  none_begins text e l c more is m = none_some (sym (rw is at e) ∙ means_code m)

  begins_none : (text : List ℕ) → NoLine es text → code table (take 4 text) ≡ None
  begins_none text h = one (code table (take 4 text)) refl
    where
      one : (o : Option ℕ) → code table (take 4 text) ≡ o → o ≡ None
      one None w = refl
      one (Some c) w = let f = code_means text w in absurd (h f.letters c f.more f.is f.means)

  ---- All lines of a text

  codes_found : (n : ℕ) {ls : List Letters} {cs : List ℕ} → Coded es ls cs → codes table n (text_lines (text_of ls)) ≡ found cs
  unfolding codes text_lines
  codes_found n a[] = refl
  codes_found n (◌a∷◌ {x = l} {xs = ls} m k) = codes_right table n (line_of l ++ text_of ls) (means_code m) ∙ rw (codes_found (suc n) k)

  codes_stop : (n : ℕ) {ls : List Letters} {cs rest : List ℕ} → Coded es ls cs → (rest ≡ [] → ⊥) → NoLine es rest
      → codes table n (text_lines (text_of ls ++ rest)) ≡ refused (refusal 20 (length ls + n) 0)
  codes_stop n {rest = rest} a[] some_bytes wrong =
      rw zero-add (codes_wrong table n rest (some_left rest some_bytes) (begins_none rest wrong))
  codes_stop n {rest = rest} (◌a∷◌ {x = l} {xs = ls} m k) some_bytes wrong =
      let e : length ls + suc n ≡ suc (length ls) + n = omega arith in
      codes_right table n (line_of l ++ (text_of ls ++ rest)) (means_code m) ∙ rw (codes_stop (suc n) k some_bytes wrong, e)

  -- every text is lines with codes, as many as there are, then bytes that begin none
  record Read (text : List ℕ) : Type 0 where
    finds : List Letters
    constructors : List ℕ
    rest : List ℕ
    is : text ≡ text_of finds ++ rest
    coded : Coded es finds constructors
    stops : NoLine es rest

  read : (n : ℕ) (text : List ℕ) → length text < n → Read text
  read zero text h = absurd (omega arith)
  read (suc n) text h = one (code table (take 4 text)) refl (read n)
    where
      one : (o : Option ℕ) → code table (take 4 text) ≡ o → ((more : List ℕ) → length more < n → Read more) → Read text
      one None w ih = record { finds = []; constructors = []; rest = text; is = refl; coded = a[]; stops = none_begins text w }
      one (Some c) w ih =
          let f = code_means text w in
          let r = ih f.more (omega (arith, ap length f.is)) in
          record {
            finds = f.letters ∷ r.finds;
            constructors = c ∷ r.constructors;
            rest = r.rest;
            is = f.is ∙ ap (λ more. line_of f.letters ++ more) r.is;
            coded = f.means a∷ r.coded;
            stops = r.stops;
          }

---- The answer

module _ (text table : List ℕ) (cons nil room : ℕ) where
  -- the table and the two numbers are right, or 19 is answered
  abbrev Fitting : Type 0
  Fitting = TableFits table cons nil ⊎ ((TableFits table cons nil → ⊥) × (lines_of text table cons nil room ≡ refused (refusal 19 0 0)))

  fitting : Fitting
  fitting = one (table_right table) refl (eqb cons nil) refl
    where
      one : (a : Bool) → table_right table ≡ a → (b : Bool) → eqb cons nil ≡ b → Fitting
      one false w b e =
          inr ((λ t. false_true (sym w ∙ (table_iff table).1 (t.entries, t.holds))), lines_table text table cons nil room w)
      one true w true e = let same = eqb-true cons nil e in inr ((λ t. t.apart same), lines_alike text table cons nil room same)
      one true w false e = let (es, h) = (table_iff table).0 w in inl (record { entries = es; holds = h; apart = eqb-false cons nil e })

  module _ (t : TableFits table cons nil) where
    right : table_right table ≡ true
    right = (table_iff table).1 (t.entries, t.holds)

    -- where all lines have codes, the room decides
    module _ {ls : List Letters} {cs : List ℕ} (is : text ≡ text_of ls) (k : Coded t.entries ls cs) where
      listed : lines_of text table cons nil room ≡ in_room (list_of cons nil cs) room
      listed =
          lines_found text table cons nil room right t.apart (rw (t.holds.0, is) (codes_found t.entries t.holds.1 1 k))

      needed : length (list_of cons nil cs) ≡ 2 * length ls + 1
      needed = rw (all2_length k) (list_length cons nil cs)

      too_long : room < 2 * length ls + 1 → lines_of text table cons nil room ≡ refused (refusal 13 (2 * length ls + 1) 0)
      unfolding in_room
      too_long h = listed ∙ rw (needed, lt-leb (2 * length ls + 1) room h)

      short_enough : 2 * length ls + 1 ≤ room → lines_of text table cons nil room ≡ found (list_of cons nil cs)
      unfolding in_room
      short_enough h = listed ∙ rw (needed, le-leb (2 * length ls + 1) room h)

  lines_fail : (r : Refusal) → LinesFail text table cons nil room r → lines_of text table cons nil room ≡ refused r
  lines_fail r (bad_table h) = ⊎_elim (λ t. absurd (h t)) (λ n. n.1) fitting
  lines_fail r (bad_line t ls cs rest is k some_bytes wrong) =
      lines_refused text table cons nil room (right t) t.apart
      (rw (t.holds.0, is) (rw add-one at (codes_stop t.entries t.holds.1 1 k some_bytes wrong)))
  lines_fail r (short_output t ls cs is k short) = too_long t is k short

  lines_hold : (bytes : List ℕ) → LinesHold text table cons nil room bytes → lines_of text table cons nil room ≡ found bytes
  lines_hold bytes h = short_enough h.fits h.is_text h.coded h.has_room ∙ ap found (sym h.is_list)

  -- it fails, or it holds
  abbrev Answer : Type 0
  Answer = ((r : Refusal) × LinesFail text table cons nil room r) ⊎ ((bytes : List ℕ) × LinesHold text table cons nil room bytes)

  module _ (t : TableFits table cons nil) where
    in_room_lem : (ls : List Letters) (cs : List ℕ) → text ≡ text_of ls → Coded t.entries ls cs → Answer
    in_room_lem ls cs is k = one (leb (2 * length ls + 1) room) refl
      where
        one : (b : Bool) → leb (2 * length ls + 1) room ≡ b → Answer
        one false e = inl (refusal 13 (2 * length ls + 1) 0, short_output t ls cs is k (leb-false _ _ e))
        one true e = inr (
          list_of cons nil cs,
          record { fits = t; finds = ls; codes = cs; is_text = is; coded = k; has_room = leb-true _ _ e; is_list = refl },
        )

    after_lines : (ls : List Letters) (cs rest : List ℕ) → text ≡ text_of ls ++ rest → Coded t.entries ls cs → NoLine t.entries rest
        → Answer
    after_lines ls cs [] is k stops = in_room_lem ls cs (is ∙ append-nil (text_of ls)) k
    after_lines ls cs (b ∷ rest) is k stops =
        inl (refusal 20 (suc (length ls)) 0, bad_line t ls cs (b ∷ rest) is k (λ e. omega (arith, ap length e)) stops)

    fitted : Answer
    fitted =
        let r = read t.entries t.holds.1 (suc (length text)) text (omega arith) in
        after_lines r.finds r.constructors r.rest r.is r.coded r.stops

  answer : Answer
  answer = ⊎_elim fitted (λ n. inl (refusal 19 0 0, bad_table n.0)) fitting

pub lines_exact : LinesExact
lines_exact text table cons nil room =
    answers_exactly (lines_of text table cons nil room) (LinesFail text table cons nil room) (LinesHold text table cons nil room)
    (lines_fail text table cons nil room) (lines_hold text table cons nil room) (answer text table cons nil room)
