-- Every word of an answer in words fits 32 bits, so that the bytes written of it say the answer itself.
-- proofs/WordsSmall.antt proves the four.
use Rattle.std.specs.Prelude.{List, ℕ, ◌<◌}
use Rattle.rules.specs.Lists.{All, Bytes}
use Rattle.rules.specs.Container.{pack, unpack}
use Rattle.rules.specs.Check.{verdict_of}
use Rattle.rules.specs.Run.{Lent, run}
use Rattle.rules.specs.Answers.{length_of, measured, check_words, length_words, run_words}

-- numbers that fit 32 bits
abbrev pub Words : List ℕ → Type 0
Words l = All (λ w. w < 4294967296) l

-- check, of any numbers as a file
abbrev pub CheckWordsSmall : Type 0
CheckWordsSmall = (file : List ℕ) → Words (check_words (verdict_of file))

-- pack and unpack, with any room: a payload has at most 32,256 bytes and a file at most 32,768
abbrev pub PackWordsSmall : Type 0
PackWordsSmall = (payload : List ℕ) (room : ℕ) → Words (length_words (length_of (pack payload room)))

abbrev pub UnpackWordsSmall : Type 0
UnpackWordsSmall = (file : List ℕ) (room : ℕ) → Words (length_words (length_of (unpack file room)))

-- run: the entry is a place of 11 and the budget limits the steps, so these two are to fit; the file's bytes limit the result
abbrev pub RunWordsSmall : Type 0
RunWordsSmall =
    (file : List ℕ) → Bytes file → (entry : ℕ) → entry < 4294967296 → (arguments : List ℕ) (budget : ℕ) → budget < 4294967296
    → (lent : Lent) → Words (run_words (measured (run file entry arguments budget lent)))
