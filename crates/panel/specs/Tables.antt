-- A run in the tables that the entries have of their own.
use Rattle.std.specs.Prelude.{◌≡◌, List, ℕ, ◌*◌, min, length}
use Rattle.rules.specs.Answers.{run_words, measured, code_of, words_into}
use Rattle.rules.specs.Memory.{output_after}
use Rattle.rules.specs.Run.{Lent, run}

-- of 4,096 cells of five numbers, 2,048 stack places and 256 frames the first so many, or all, beside an output
abbrev pub panel_tables : ℕ → ℕ → ℕ → ℕ → Lent
panel_tables cells stack frames output =
    record { cells = 5 * min 4096 cells; stack = min 2048 stack; frames = min 256 frames; output = output }

-- what is returned, what the output holds at exit and what is told, of a run in tables beside an output
pub record RunsWithin (file : List ℕ) (entry : ℕ) (arguments : List ℕ) (budget : ℕ) (tables : ℕ → Lent)
    (out answer out' answer' : List ℕ) (r : ℕ) : Type 0 where
  pub returned : r ≡ code_of (run_words (measured (run file entry arguments budget (tables (length out)))))
  pub of_output : out' ≡ output_after file entry arguments budget (tables (length out)) out
  pub of_answer : answer' ≡ words_into (run_words (measured (run file entry arguments budget (tables (length out))))) answer
