-- The rules of 19, 20 and 13 as ticket 1 of document 02 words them: which tables and texts are right, what they give, and where a wrong
-- text first goes wrong. `lines_exact` of proofs/LinesExact.antt shows that `lines_of` answers just so.
use Rattle.std.specs.Prelude.{◌≡◌, List, [], ◌∷◌, ◌++◌, ◌↔◌, ℕ, suc, ◌+◌, ◌*◌, ◌≤◌, ◌<◌, length}
use Rattle.rules.specs.Base.{Refusal, refusal, found, refused}
use Rattle.rules.specs.Lines.{list_of, lines_of}
use Rattle.rules.specs.Lists.{All, All2}

---- Letters

pub record Letters : Type 0 where
  pub first : ℕ
  pub second : ℕ
  pub third : ℕ

-- A to Z
abbrev pub Capital : ℕ → Type 0
Capital b = (65 ≤ b) × (b ≤ 90)

-- "three capital letters"
abbrev pub Capitals : Letters → Type 0
Capitals l = Capital l.first × Capital l.second × Capital l.third

---- "a table of four-byte entries (three letters, constructor)"

pub record Entry : Type 0 where
  pub letters : Letters
  pub constructor : ℕ

abbrev pub table_of : List Entry → List ℕ
table_of [] = []
table_of (e ∷ es) = e.letters.first ∷ e.letters.second ∷ e.letters.third ∷ e.constructor ∷ table_of es

-- a table of these entries, whose letters are all capitals
abbrev pub TableHolds : List ℕ → List Entry → Type 0
TableHolds table es = (table ≡ table_of es) × All (λ e. Capitals e.letters) es

-- the constructor for letters: "If letters stand twice, the earlier entry counts"
pub data Means : List Entry → Letters → ℕ → Type 0 where
  here : {e : Entry} {es : List Entry} → Means (e ∷ es) e.letters e.constructor
  later : {e : Entry} {es : List Entry} {l : Letters} {c : ℕ} → (e.letters ≡ l → ⊥) → Means es l c → Means (e ∷ es) l c

---- "one find a line: three capital letters, then byte 10"

abbrev pub line_of : Letters → List ℕ
line_of l = l.first ∷ l.second ∷ l.third ∷ 10 ∷ []

abbrev pub text_of : List Letters → List ℕ
text_of [] = []
text_of (l ∷ ls) = line_of l ++ text_of ls

-- lines that are in the table, with their codes, one for one
abbrev pub Coded : List Entry → List Letters → List ℕ → Type 0
Coded es ls cs = All2 (Means es) ls cs

-- bytes that no line in the table begins
abbrev pub NoLine : List Entry → List ℕ → Type 0
NoLine es rest = (l : Letters) (c : ℕ) (more : List ℕ) → rest ≡ line_of l ++ more → Means es l c → ⊥

---- "19, 20, then 13"

-- what holds of the table and of the numbers of cons and nil where 19 is not given
pub record TableFits (table : List ℕ) (cons nil : ℕ) : Type 0 where
  pub entries : List Entry
  pub holds : TableHolds table entries
  pub apart : cons ≡ nil → ⊥

pub data LinesFail (text table : List ℕ) (cons nil room : ℕ) : Refusal → Type 0 where
  -- "19 table length not a multiple of 4, a non-capital among its letters, or cons equal to nil, (0, 0)"
  bad_table : (TableFits table cons nil → ⊥) → LinesFail text table cons nil room (refusal 19 0 0)
  -- "20 the first line malformed or its letters not in the table, place (line from 1, 0)": lines before it, then bytes that begin no line
  bad_line : (t : TableFits table cons nil) (ls : List Letters) (cs rest : List ℕ) → text ≡ text_of ls ++ rest → Coded t.entries ls cs
      → (rest ≡ [] → ⊥) → NoLine t.entries rest → LinesFail text table cons nil room (refusal 20 (suc (length ls)) 0)
  -- "13: output shorter than needed. (bytes needed, 0)": two bytes a line, and nil
  short_output : (t : TableFits table cons nil) (ls : List Letters) (cs : List ℕ) → text ≡ text_of ls → Coded t.entries ls cs
      → room < 2 * length ls + 1 → LinesFail text table cons nil room (refusal 13 (2 * length ls + 1) 0)

-- "Turn such text into a list argument, first line first"
pub record LinesHold (text table : List ℕ) (cons nil room : ℕ) (bytes : List ℕ) : Type 0 where
  pub fits : TableFits table cons nil
  pub finds : List Letters
  pub codes : List ℕ
  pub is_text : text ≡ text_of finds
  pub coded : Coded fits.entries finds codes
  pub has_room : 2 * length finds + 1 ≤ room
  pub is_list : bytes ≡ list_of cons nil codes

abbrev pub LinesExact : Type 0
LinesExact =
    (text table : List ℕ) (cons nil room : ℕ)
    → ((r : Refusal) → lines_of text table cons nil room ≡ refused r ↔ LinesFail text table cons nil room r)
    × ((bytes : List ℕ) → lines_of text table cons nil room ≡ found bytes ↔ LinesHold text table cons nil room bytes)
