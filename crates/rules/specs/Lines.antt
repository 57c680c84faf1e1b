-- Survey lines: the logger's text as a list argument. Document 02, ticket 1.
use Rattle.std.specs.Prelude.{if◌then◌else◌, List, [], ◌∷◌, Bool, not, ◌&&◌, ℕ, zero, suc, ◌/◌, ◌%◌, length, take, drop, leb, eqb}
use Rattle.std.specs.Prelude.{Option, None, Some}
use Rattle.rules.specs.Base.{refusal, Tried, found, ◌>>=◌, require, or_refuse, within, is_zero, all, byte_at}

---- "The panel lends a table of four-byte entries (three letters, constructor)"

-- a capital letter, A to Z
abbrev pub capital : ℕ → Bool
capital b = within 65 90 b

-- the three letters that an entry or a line begins with are capitals
abbrev pub letters_right : List ℕ → Bool
letters_right bytes = capital (byte_at bytes 0) && capital (byte_at bytes 1) && capital (byte_at bytes 2)

-- the first n entries of a table
unfoldable pub entries_of : ℕ → List ℕ → List (List ℕ)
entries_of zero table = []
entries_of (suc n) table = take 4 table ∷ entries_of n (drop 4 table)

unfoldable pub entries : List ℕ → List (List ℕ)
entries table = entries_of (length table / 4) table

-- not "table length not a multiple of 4, a non-capital among its letters"
unfoldable pub table_right : List ℕ → Bool
table_right table = is_zero (length table % 4) && all letters_right (entries table)

abbrev pub same_letters : List ℕ → List ℕ → Bool
same_letters a b = eqb (byte_at a 0) (byte_at b 0) && eqb (byte_at a 1) (byte_at b 1) && eqb (byte_at a 2) (byte_at b 2)

-- the constructor of a line's letters: "If letters stand twice, the earlier entry counts"
unfoldable pub lookup : List (List ℕ) → List ℕ → Option ℕ
lookup [] line = None
lookup (entry ∷ more) line = if same_letters entry line then Some (byte_at entry 3) else lookup more line

---- "one find a line: three capital letters, then byte 10"

-- a byte in front of the first of some lines
abbrev pub leading : ℕ → List (List ℕ) → List (List ℕ)
leading b [] = (b ∷ []) ∷ []
leading b (line ∷ more) = (b ∷ line) ∷ more

-- a text is cut behind each byte 10, so its last line may lack it
unfoldable pub text_lines : List ℕ → List (List ℕ)
text_lines [] = []
text_lines (b ∷ text) = if eqb b 10 then (b ∷ []) ∷ text_lines text else leading b (text_lines text)

unfoldable pub line_right : List ℕ → Bool
line_right line = eqb (length line) 4 && letters_right line && eqb (byte_at line 3) 10

-- a line's code: none if it is "malformed or its letters not in the table"
unfoldable pub code : List (List ℕ) → List ℕ → Option ℕ
code table line = if line_right line then lookup table line else None

-- the codes of lines, the first of them being line n: 20 at "the first line malformed or its letters not in the table"
unfoldable pub codes : List (List ℕ) → ℕ → List (List ℕ) → Tried (List ℕ)
codes table n [] = found []
codes table n (line ∷ more) = do
  c ← or_refuse (code table line) (refusal 20 n 0)
  cs ← codes table (suc n) more
  found (c ∷ cs)

---- "Turn such text into a list argument, first line first"

-- "Empty text gives nil"; else cons, the first code, the list of the others
unfoldable pub list_of : ℕ → ℕ → List ℕ → List ℕ
list_of cons nil [] = nil ∷ []
list_of cons nil (c ∷ cs) = cons ∷ c ∷ list_of cons nil cs

-- bytes for an output of so much room: 13 where it is less than is needed
unfoldable pub in_room : List ℕ → ℕ → Tried (List ℕ)
in_room bytes room = do
  _ ← require (leb (length bytes) room) (refusal 13 (length bytes) 0)
  found bytes

-- "19, 20, then 13": 19 for a wrong table "or cons equal to nil", 20 at "line from 1"
unfoldable pub lines_of : List ℕ → List ℕ → ℕ → ℕ → ℕ → Tried (List ℕ)
lines_of text table cons nil room = do
  _ ← require (table_right table && not (eqb cons nil)) (refusal 19 0 0)
  cs ← codes (entries table) 1 (text_lines text)
  in_room (list_of cons nil cs) room
