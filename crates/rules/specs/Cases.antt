-- K1 to K14 of document 01 as one table, and one theorem: the definitions give each of them.
use Rattle.std.specs.Prelude.{◌≡◌, refl, List, [], ◌∷◌, map, ℕ, ◌*◌}
use Rattle.rules.specs.declared.answers.Counts.{Counts}
use Rattle.rules.specs.Base.{Refusal, refusal, Tried, found, refused, long_at}
use Rattle.rules.specs.Container.{packed, pack}
use Rattle.rules.specs.Check.{verdict_of}
use Rattle.rules.specs.Run.{Lent, finished, aborted, refused_with, Outcome, answer, run}
use Rattle.rules.specs.Roots.{roots, uncounted, doubled, misdirected, stopping}
use Rattle.rules.specs.Computed.{computed}

-- what is done with a payload. A run: of function 0, with what is lent, a budget and argument bytes
pub data Input : Type 0 where
  packing checking : List ℕ → Input
  running : List ℕ → Lent → ℕ → List ℕ → Input

-- the checksum of a packed block; the counts of an accepted program; the number and places of a refusal; the outcome of a run
pub data Output : Type 0 where
  checksum_is : ℕ → Output
  accepts : ℕ → ℕ → ℕ → Output
  refuses : Refusal → Output
  ran : Outcome → Output

abbrev pack_output : Tried (List ℕ) → Output
pack_output (found block) = checksum_is (long_at block 508)
pack_output (refused r) = refuses r

abbrev check_output : Tried Counts → Output
check_output (found c) = accepts c.types c.constructors c.functions
check_output (refused r) = refuses r

unfoldable pub output : Input → Output
output (packing bytes) = pack_output (pack bytes 512)
output (checking bytes) = check_output (verdict_of (packed bytes))
output (running bytes lent budget arguments) = ran (run (packed bytes) 0 arguments budget lent)

-- the panel's tables, "4,096 cells, 2,048 stack places and 256 frames", and room for a result of 16 bytes; with other cells and stack
abbrev lending : ℕ → ℕ → Lent
lending cells stack = record { cells = 5 * cells; stack = stack; frames = 256; output = 16 }

abbrev panel : Lent
panel = lending 4096 2048

abbrev Case : Type 0
Case = Input × Output

abbrev pub cases : List Case
cases =
    (packing (7 ∷ []), checksum_is 38) ∷  -- K1
    (checking roots, accepts 3 6 1) ∷  -- K2
    (checking uncounted, refuses (refusal 6 0 1)) ∷  -- K3
    (checking doubled, refuses (refusal 10 0 8)) ∷  -- K4
    (checking misdirected, refuses (refusal 7 0 2)) ∷  -- K5
    (running roots panel 1000 (3 ∷ 1 ∷ 2 ∷ []), ran (answer (finished (5 ∷ 4 ∷ [])) 10)) ∷  -- K6
    (running roots panel 1000 (2 ∷ []), ran (answer (finished (4 ∷ [])) 3)) ∷  -- K7
    (running roots (lending 0 2048) 1000 (2 ∷ []), ran (answer (finished (4 ∷ [])) 3)) ∷  -- K7, without a cell
    (running roots panel 1000 (3 ∷ 0 ∷ 2 ∷ []), ran (answer (finished (4 ∷ [])) 10)) ∷  -- K8
    (running roots panel 9 (3 ∷ 1 ∷ 2 ∷ []), ran (answer (refused_with (refusal 14 0 6)) 9)) ∷  -- K9
    (running roots panel 10 (3 ∷ 1 ∷ 2 ∷ []), ran (answer (finished (5 ∷ 4 ∷ [])) 10)) ∷  -- K9
    (running roots panel 1000 (3 ∷ 1 ∷ []), ran (answer (refused_with (refusal 12 2 0)) 0)) ∷  -- K10
    (running roots panel 1000 (4 ∷ []), ran (answer (refused_with (refusal 12 0 0)) 0)) ∷  -- K11
    (running roots (lending 4096 5) 1000 (3 ∷ 1 ∷ 2 ∷ []), ran (answer (refused_with (refusal 16 0 11)) 7)) ∷  -- K12
    (running roots (lending 4096 6) 1000 (3 ∷ 1 ∷ 2 ∷ []), ran (answer (finished (5 ∷ 4 ∷ [])) 10)) ∷  -- K12
    (running roots (lending 1 2048) 1000 (3 ∷ 1 ∷ 2 ∷ []), ran (answer (refused_with (refusal 15 0 6)) 9)) ∷  -- K13
    (running roots (lending 2 2048) 1000 (3 ∷ 1 ∷ 2 ∷ []), ran (answer (finished (5 ∷ 4 ∷ [])) 10)) ∷  -- K13
    (running stopping panel 1 [], ran (answer aborted 1)) ∷  -- K14
    []

pub cases_hold : map (λ (c : Case). output c.0) cases ≡ map (λ (c : Case). c.1) cases
unfolding computed output
cases_hold = refl
