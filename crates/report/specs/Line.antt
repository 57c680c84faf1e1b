-- The line that tells a verdict: a word, three numbers, the line's end, in ASCII.
use Rattle.std.specs.Prelude.{List, [], ◌∷◌, ◌++◌, cond, ℕ, zero, suc, ◌+◌, ◌/◌, ◌%◌, ltb}
use Rattle.rules.specs.declared.answers.Counts.{Counts}
use Rattle.rules.specs.Base.{Tried, found, refused}

-- a number of at most so many digits in decimal, with no zero in front
unfoldable pub decimal_within : ℕ → ℕ → List ℕ
decimal_within zero n = []
decimal_within (suc places) n = cond (ltb n 10) ((48 + n) ∷ []) (decimal_within places (n / 10) ++ (48 + n % 10) ∷ [])

-- 64 bits take at most 20 digits
abbrev pub decimal : ℕ → List ℕ
decimal n = decimal_within 20 n

-- a space and a number
abbrev pub spaced : ℕ → List ℕ
spaced n = 32 ∷ decimal n

abbrev pub line : List ℕ → ℕ → ℕ → ℕ → List ℕ
line word first second third = word ++ spaced first ++ spaced second ++ spaced third ++ 10 ∷ []

-- "accepted"
abbrev pub accepted_word : List ℕ
accepted_word = 97 ∷ 99 ∷ 99 ∷ 101 ∷ 112 ∷ 116 ∷ 101 ∷ 100 ∷ []

-- "refused"
abbrev pub refused_word : List ℕ
refused_word = 114 ∷ 101 ∷ 102 ∷ 117 ∷ 115 ∷ 101 ∷ 100 ∷ []

abbrev pub verdict_line : Tried Counts → List ℕ
verdict_line (found c) = line accepted_word c.types c.constructors c.functions
verdict_line (refused r) = line refused_word r.number r.first r.second
