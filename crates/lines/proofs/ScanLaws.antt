-- The text looked through: the code at a place, the first line without a code, and what is known where every line has one.
use Rattle.std.proofs.Common.{◌≡◌, ◌+◌, ◌*◌, ◌/◌, ◌≤◌, ◌<◌, ◌∙◌, ℕ, zero, suc, Bool, true, false, not, List, [], ◌∷◌, length, take, drop}
use Rattle.std.proofs.Common.{get_or}
use Rattle.std.proofs.Common.{arith, refl, sym, ap}
use Rattle.std.specs.Prelude.{Option, None, Some, IsSome, is_some}
use lib.ListN.{length-take, length-drop, drop_of_length-le}
use lib.Seq.{get_or-take, drop-drop}
use Rattle.rules.specs.Base.{refusal, found, refused, passed, only, byte_at}
use Rattle.rules.specs.Lines.{letters_right, text_lines, code, codes}
use Rattle.rules.proofs.ListLaws.{false_true}
use Rattle.rules.proofs.TriedLaws.{only_found}
use Rattle.lines.specs.Marks.{number, Marked}
use Rattle.lines.proofs.LetterLaws.{front_letters, front_number}
use Rattle.lines.proofs.TextLaws.{Line, coded_line, code_none, code_is, codes_wrong, codes_right, only_more, next, text_long}

pub none_of : (o : Option ℕ) {t : Bool} → is_some o ≡ not t → t ≡ true → o ≡ None
none_of None e h = refl
none_of (Some c) e h = absurd (false_true (sym (rw h at e)))

pub some_of : (o : Option ℕ) → IsSome o → (c : ℕ) × (o ≡ Some c)
some_of None e = absurd (false_true e)
some_of (Some c) e = (c, refl)

---- The code of the line that a text begins with

module _ (es : List (List ℕ)) (text : List ℕ) where
  pub code_short : length text < 4 → None ≡ code es (take 4 text)
  code_short h = sym (code_none es (take 4 text) (λ l. let e = rw (length-take 4 text) at l.four in omega (arith, e)))

  pub code_letters : letters_right text ≡ false → None ≡ code es (take 4 text)
  code_letters h = sym (code_none es (take 4 text) (λ l. false_true (sym h ∙ sym (front_letters text) ∙ l.letters)))

  -- the line's last byte
  last : byte_at (take 4 text) 3 ≡ byte_at text 3
  last = get_or-take 4 text 3 0 (omega arith)

  pub code_end : (byte_at text 3 ≡ 10 → ⊥) → None ≡ code es (take 4 text)
  code_end h = sym (code_none es (take 4 text) (λ l. h (sym last ∙ l.end)))

  module _ {marks : List (Option ℕ)} (m : Marked es marks) where
    looked : (l : Line (take 4 text)) → get_or marks (number text) None ≡ code es (take 4 text)
    looked l =
        ap (λ (i : ℕ). get_or marks i None) (sym (front_number text)) ∙ m.each (take 4 text) l.letters
        ∙ sym (code_is es (take 4 text) l)

    pub code_there : {i : ℕ} → 4 ≤ length text → letters_right text ≡ true → byte_at text 3 ≡ 10 → i ≡ number text
        → get_or marks i None ≡ code es (take 4 text)
    code_there there letters end place =
        rw place (looked (record {
          four = rw (length-take 4 text) (omega arith);
          letters = front_letters text ∙ letters;
          end = last ∙ end;
        }))

    -- where there is one
    pub code_line : IsSome (code es (take 4 text)) → (3 ≤ length text) × (letters_right text ≡ true)
    code_line h =
        let l = coded_line es (take 4 text) (some_of (code es (take 4 text)) h).1 in
        let e = rw (length-take 4 text) at l.four in
        (omega (arith, e), sym (front_letters text) ∙ l.letters)

    pub code_marked : {i : ℕ} → IsSome (code es (take 4 text)) → i ≡ number text → get_or marks i None ≡ code es (take 4 text)
    code_marked h place = rw place (looked (coded_line es (take 4 text) (some_of (code es (take 4 text)) h).1))

---- The first line without a code

-- i lines have codes, so the rest decides
abbrev pub Passed : List (List ℕ) → List ℕ → ℕ → Type 0
Passed es text i = only (codes es 1 (text_lines text)) ≡ only (codes es (i + 1) (text_lines (drop (4 * i) text)))

module _ (es : List (List ℕ)) (text : List ℕ) (i : ℕ) (p : Passed es text i) where
  pub passed_wrong : 4 * i < length text → code es (take 4 (drop (4 * i) text)) ≡ None
      → refused (refusal 20 (i + 1) 0) ≡ only (codes es 1 (text_lines text))
  passed_wrong h e = sym (p ∙ ap only (codes_wrong es (i + 1) (drop (4 * i) text) (rw (length-drop (4 * i) text) (omega arith)) e))

  pub passed_next : {c : ℕ} → code es (take 4 (drop (4 * i) text)) ≡ Some c → Passed es text (i + 1)
  passed_next {c} e =
      let at : 4 * (i + 1) ≡ 4 * i + 4 = omega arith in
      let n : i + 1 + 1 ≡ suc (i + 1) = omega arith in
      rw (at, n, ← drop-drop 4 (4 * i) text)
      (p ∙ ap only (codes_right es (i + 1) (drop (4 * i) text) e)
      ∙ only_more c (codes es (suc (i + 1)) (text_lines (drop 4 (drop (4 * i) text)))))

  pub passed_end : length text ≤ 4 * i → passed ≡ only (codes es 1 (text_lines text))
  unfolding text_lines codes
  passed_end h = sym (p ∙ rw (drop_of_length-le text {i = 4 * i} h))

---- All lines have codes

pub record Scanned (es : List (List ℕ)) (text cs : List ℕ) : Type 0 where
  pub long : length text ≡ 4 * length cs
  pub coded : (i : ℕ) → i < length cs → code es (take 4 (drop (4 * i) text)) ≡ Some (get_or cs i 0)

module _ (es : List (List ℕ)) where
  coded_of : (n : ℕ) (text cs : List ℕ) → codes es n (text_lines text) ≡ found cs → (i : ℕ) → i < length cs
      → code es (take 4 (drop (4 * i) text)) ≡ Some (get_or cs i 0)
  coded_of n text [] e i h = absurd (omega arith)
  coded_of n text (c ∷ cs) e zero h = (next es n text c cs e).coded
  coded_of n text (c ∷ cs) e (suc i) h =
      let at : 4 * suc i ≡ 4 + 4 * i = omega arith in
      rw (at, ← drop-drop (4 * i) 4 text) (coded_of (suc n) (drop 4 text) cs (next es n text c cs e).others i (omega arith))

  pub scanned : (text : List ℕ) {cs : List ℕ} → codes es 1 (text_lines text) ≡ found cs → Scanned es text cs
  scanned text {cs} e = record { long = text_long es 1 text cs e; coded = coded_of 1 text cs e }

  -- a text that is passed has codes, and is known
  pub all_scanned : (text : List ℕ) → only (codes es 1 (text_lines text)) ≡ passed
      → (cs : List ℕ) × (codes es 1 (text_lines text) ≡ found cs) × Scanned es text cs
  all_scanned text e = let f = only_found (codes es 1 (text_lines text)) e in (f.0, f.1, scanned text f.1)

  -- so each of its lines has one
  pub line_coded : (text : List ℕ) → only (codes es 1 (text_lines text)) ≡ passed → (i : ℕ) → i < length text / 4
      → IsSome (code es (take 4 (drop (4 * i) text)))
  line_coded text e i h =
      let s = (all_scanned text e).2 in
      rw (s.coded i (omega (arith, s.long)))
