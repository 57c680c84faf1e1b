-- What is written of a survey is a list argument. This file only states it; `lines_argument`, `empty_text` and `lines_words_small` of
-- proofs/Argument.antt prove it.
use Rattle.std.specs.Prelude.{◌≡◌, List, [], ◌∷◌, true, ℕ, ◌+◌, ◌*◌, ◌≤◌, ◌<◌, length, leb}
use Rattle.std.specs.Prelude.{Some}
use Rattle.rules.specs.Answers.{length_of, length_words}
use Rattle.rules.specs.Base.{refusal, found, require, byte_at}
use Rattle.rules.specs.Lines.{entries, table_right, lookup, text_lines, lines_of}
use Rattle.rules.specs.Lists.{All, All2}
use Rattle.rules.specs.Machine.{Value}
use Rattle.rules.specs.Prefix.{arguments_right, values}
use Rattle.rules.specs.Program.{Constructor, Function, Program, constructor}
use Rattle.rules.specs.Tree.{made}
use Rattle.rules.specs.WordRules.{Words}

---- "Turn such text into a list argument, first line first"

-- a constructor of a program that takes these types and gives that one
abbrev pub Declared : Program → ℕ → List ℕ → ℕ → Type 0
Declared s c ts t = (k : Constructor) × (constructor s c ≡ Some k) × (k.arguments ≡ ts) × (k.result ≡ t)

-- a program with lists of codes: cons takes a code and a list, nil takes nothing, and the table's constructors are constants
pub record HasLists (s : Program) (table : List ℕ) (cons nil code list : ℕ) : Type 0 where
  pub of_cons : Declared s cons (code ∷ list ∷ []) list
  pub of_nil : Declared s nil [] list
  pub of_table : All (λ entry. Declared s (byte_at entry 3) [] code) (entries table)

-- the list of codes as a value
abbrev pub list_value : ℕ → ℕ → List ℕ → Value
list_value cons nil [] = made nil []
list_value cons nil (c ∷ cs) = made cons (made c [] ∷ list_value cons nil cs ∷ [])

-- the bytes pass the argument check of a function, unless they are over 65,535, and stand for the list of the lines' codes, first line
-- first. So the other limit of that check, 256 values still to be read, is never met
pub record IsList (s : Program) (f : Function) (text table : List ℕ) (cons nil : ℕ) (bytes : List ℕ) : Type 0 where
  pub codes : List ℕ
  pub of_lines : All2 (λ line c. lookup (entries table) line ≡ Some c) (text_lines text) codes
  pub long : length bytes ≡ 2 * length codes + 1
  pub right : arguments_right s f bytes ≡ require (leb (length bytes) 65535) (refusal 12 65535 0)
  pub value : values s bytes ≡ list_value cons nil codes ∷ []

-- of a function that takes one list
abbrev pub LinesArgument : Type 0
LinesArgument =
    (s : Program) (f : Function) (text table bytes : List ℕ) (cons nil code list room : ℕ)
    → HasLists s table cons nil code list → f.parameters ≡ list ∷ [] → lines_of text table cons nil room ≡ found bytes
    → IsList s f text table cons nil bytes

-- "Empty text gives nil"
abbrev pub EmptyText : Type 0
EmptyText =
    (table : List ℕ) (cons nil room : ℕ) → table_right table ≡ true → (cons ≡ nil → ⊥) → 1 ≤ room
    → lines_of [] table cons nil room ≡ found (nil ∷ [])

---- The answer in words of 32 bits, for programs in other languages: a text of less than 4,294,967,296 bytes has fewer lines and its list
---- fewer bytes than that

abbrev pub LinesWordsSmall : Type 0
LinesWordsSmall =
    (text : List ℕ) → length text < 4294967296 → (table : List ℕ) (cons nil room : ℕ)
    → Words (length_words (length_of (lines_of text table cons nil room)))
