-- What the code keeps of a table, and what it makes of a text.
use Rattle.std.specs.Prelude.{◌≡◌, List, true, ℕ, ◌+◌, ◌*◌, ◌-◌, length, get_or}
use Rattle.std.specs.Prelude.{Option, None}
use Rattle.rules.specs.Base.{Tried, ◌>>=◌, byte_at}
use Rattle.rules.specs.Lines.{letters_right, lookup, text_lines, codes, list_of, in_room}

-- three capital letters as a number below 17,576
abbrev pub number : List ℕ → ℕ
number bytes = 676 * (byte_at bytes 0 - 65) + 26 * (byte_at bytes 1 - 65) + (byte_at bytes 2 - 65)

-- for each three capital letters the constructor of the first of these entries that has them
pub record Marked (es : List (List ℕ)) (marks : List (Option ℕ)) : Type 0 where
  pub wide : length marks ≡ 17576
  pub each : (line : List ℕ) → letters_right line ≡ true → get_or marks (number line) None ≡ lookup es line

-- the list of a text's codes, in an output with so much room
abbrev pub listed : List (List ℕ) → List ℕ → ℕ → ℕ → ℕ → Tried (List ℕ)
listed es text cons nil room = codes es 1 (text_lines text) >>= (λ cs. in_room (list_of cons nil cs) room)
