-- What run, pack, unpack and lines leave in the memory lent to them. Document 01, the last lines of "Numbers".
use Rattle.std.specs.Prelude.{List, ◌++◌, Bool, true, false, ℕ, ◌+◌, ◌*◌, length, take, drop, replicate}
use Rattle.rules.specs.Base.{Tried, found, refused, ◌>>=◌}
use Rattle.rules.specs.Container.{pack, unpack}
use Rattle.rules.specs.Lines.{lines_of}
use Rattle.rules.specs.Check.{checked}
use Rattle.rules.specs.Run.{Lent, usable, Ending, finished, aborted, refused_with, loaded, run}

---- The output: "Success writes the output's front and keeps its rest"; "Refusals and "gave up" leave the output"

abbrev pub front_written : List ℕ → List ℕ → List ℕ
front_written bytes out = bytes ++ drop (length bytes) out

-- a list with these bytes from a place on
abbrev pub overwritten : List ℕ → ℕ → List ℕ → List ℕ
overwritten out at bytes = take at out ++ bytes ++ drop (at + length bytes) out

unfoldable pub copied_into : List ℕ → Tried (List ℕ) → List ℕ
copied_into out (found bytes) = front_written bytes out
copied_into out (refused r) = out

-- what pack of a payload, and unpack of a file, leave in an output
abbrev pub pack_leaves : List ℕ → List ℕ → List ℕ
pack_leaves bytes out = copied_into out (pack bytes (length out))

abbrev pub unpack_leaves : List ℕ → List ℕ → List ℕ
unpack_leaves file out = copied_into out (unpack file (length out))

-- what lines of a text leaves in it
abbrev pub lines_leave : List ℕ → List ℕ → ℕ → ℕ → List ℕ → List ℕ
lines_leave text table cons nil out = copied_into out (lines_of text table cons nil (length out))

unfoldable pub result_into : List ℕ → Ending (List ℕ) → List ℕ
result_into out (finished bytes) = front_written bytes out
result_into out aborted = out
result_into out (refused_with r) = out

---- The tables: "untouched before the start; after any begun run all usable entries are zeroed, any beyond kept"

abbrev pub is_found : {A : Type 0} → Tried A → Bool
is_found (found a) = true
is_found (refused r) = false

-- has the run begun?
unfoldable pub begun : List ℕ → ℕ → List ℕ → Lent → Bool
begun file entry bytes lent = is_found (checked file >>= (λ s. loaded s (usable lent) entry bytes))

-- a table of which so many entries are usable, with what a cleared entry is
unfoldable pub table_after : {A : Type 0} → Bool → A → ℕ → List A → List A
table_after true blank n table = replicate n blank ++ drop n table
table_after false blank n table = table

-- a run of a file from an entry function, with arguments and a budget
module _ (file : List ℕ) (entry : ℕ) (bytes : List ℕ) (budget : ℕ) (lent : Lent) where
  abbrev pub output_after : List ℕ → List ℕ
  output_after out = result_into out (run file entry bytes budget lent).ending

  -- "five to a cell"
  abbrev pub cells_after : List ℕ → List ℕ
  cells_after cells = table_after (begun file entry bytes lent) 0 (5 * (usable lent).cells) cells

  abbrev pub stack_after : List ℕ → List ℕ
  stack_after stack = table_after (begun file entry bytes lent) 0 (usable lent).stack stack

  -- of records, with what a cleared one is
  abbrev pub frames_after : {A : Type 0} → A → List A → List A
  frames_after blank frames = table_after (begun file entry bytes lent) blank (usable lent).frames frames
