-- What the entry for survey lines answers and writes.
use Rattle.std.specs.Prelude.{◌≡◌, List, ℕ, length}
use Rattle.rules.specs.Answers.{length_words, length_of, code_of, words_into}
use Rattle.rules.specs.Lines.{lines_of}
use Rattle.rules.specs.Memory.{lines_leave}

-- what is returned, what the output holds at exit and what is told, of a text and a table with the numbers of cons and nil
pub record ReadsLines (text table : List ℕ) (cons nil : ℕ) (out answer out' answer' : List ℕ) (r : ℕ) : Type 0 where
  pub returned : r ≡ code_of (length_words (length_of (lines_of text table cons nil (length out))))
  pub of_output : out' ≡ lines_leave text table cons nil out
  pub of_answer : answer' ≡ words_into (length_words (length_of (lines_of text table cons nil (length out)))) answer
