-- What the code's answers say, in the numbers and places of documents 01 and 02: `refusal_of` is the one definition of them.
use Rattle.std.specs.Prelude.{if◌then◌else◌, List, [], ◌∷◌, ◌++◌, ℕ, length, get_or, leb, Result, Ok, Err}
use Rattle.rules.specs.declared.answers.Place.{Place}
use Rattle.rules.specs.declared.answers.Reason.{Reason}
use Rattle.rules.specs.declared.answers.Reason.TheVariants as reason
use Rattle.rules.specs.declared.answers.Counts.{Counts}
use Rattle.rules.specs.declared.answers.Ending as ending
use Rattle.rules.specs.declared.answers.Ending.TheVariants as ends
use Rattle.rules.specs.declared.answers.Answer as answers
use Rattle.rules.specs.Base.{Refusal, refusal, Tried, found, refused}
use Rattle.rules.specs.Container.{bytes4}
use Rattle.rules.specs.Memory.{front_written}
use Rattle.rules.specs.Run.{Ending, finished, aborted, refused_with, Answer, answer}

-- a number at an instruction of a function
abbrev pub at_place : ℕ → Place → Refusal
at_place number p = refusal number p.function p.instruction

abbrev pub refusal_of : Reason → Refusal
refusal_of reason.BadLength = refusal 1 0 0
refusal_of (reason.BadChecksum block) = refusal 2 block 0
refusal_of (reason.BadBlock block) = refusal 3 block 0
refusal_of (reason.BadRecord offset) = refusal 4 offset 0
refusal_of (reason.BadConstructor c) = refusal 5 0 c
refusal_of (reason.BadSignature f) = refusal 5 1 f
refusal_of (reason.UnboundedArgument f argument) = refusal 6 f argument
refusal_of (reason.BadFlow p) = at_place 7 p
refusal_of (reason.BadTypes p) = at_place 8 p
refusal_of (reason.TooManyForms p) = at_place 9 p
refusal_of (reason.NotCovered p) = at_place 10 p
refusal_of (reason.NoEntry entry) = refusal 11 entry 0
refusal_of reason.ArgumentsTooLong = refusal 12 65535 0
refusal_of (reason.BadArgument offset) = refusal 12 offset 0
refusal_of (reason.OutputTooShort needed) = refusal 13 needed 0
refusal_of reason.BadPayload = refusal 18 0 0
refusal_of (reason.BudgetSpent p) = at_place 14 p
refusal_of (reason.OutOfCells p) = at_place 15 p
refusal_of (reason.OutOfStack p) = at_place 16 p
refusal_of (reason.OutOfFrames p) = at_place 17 p
refusal_of reason.BadTable = refusal 19 0 0
refusal_of (reason.BadLine line) = refusal 20 line 0

-- check, verify, pack, unpack, lines, and each pass of the check: `told r ≡ verdict_of (now file.entry)`
abbrev pub told : {A : Type 0} → Result A Reason → Tried A
told (Ok x) = found x
told (Err r) = refused (refusal_of r)

-- what pack, unpack and lines write, by its length: `told r ≡ length_of (pack (now payload.entry) (length (now out.entry)))`
abbrev pub length_of : Tried (List ℕ) → Tried ℕ
length_of (found bytes) = found (length bytes)
length_of (refused r) = refused r

-- run: `told_run r ≡ measured (run ..)`, "the answer gives the figure's length"
abbrev pub told_ending : ending.Ending → Ending ℕ
told_ending (ends.Result n) = finished n
told_ending ends.Aborted = aborted
told_ending (ends.Refused r) = refused_with (refusal_of r)

abbrev pub told_run : answers.Answer → Answer ℕ
told_run r = answer (told_ending r.ending) r.steps

abbrev pub measured_ending : Ending (List ℕ) → Ending ℕ
measured_ending (finished bytes) = finished (length bytes)
measured_ending aborted = aborted
measured_ending (refused_with r) = refused_with r

abbrev pub measured : Answer (List ℕ) → Answer ℕ
measured a = answer (measured_ending a.ending) a.steps

---- Answers as words of 32 bits, for programs in other languages

-- check: the number, then types, constructors and functions, or the two places and 0
abbrev pub check_words : Tried Counts → List ℕ
check_words (found c) = 0 ∷ c.types ∷ c.constructors ∷ c.functions ∷ []
check_words (refused r) = r.number ∷ r.first ∷ r.second ∷ 0 ∷ []

-- pack, unpack and lines: the number, the two places, the length
abbrev pub length_words : Tried ℕ → List ℕ
length_words (found n) = 0 ∷ 0 ∷ 0 ∷ n ∷ []
length_words (refused r) = r.number ∷ r.first ∷ r.second ∷ 0 ∷ []

-- run: the number, 100 where the program gave up, the two places, the steps, the result's length
abbrev pub end_words : Ending ℕ → ℕ → List ℕ
end_words (finished n) steps = 0 ∷ 0 ∷ 0 ∷ steps ∷ n ∷ []
end_words aborted steps = 100 ∷ 0 ∷ 0 ∷ steps ∷ 0 ∷ []
end_words (refused_with r) steps = r.number ∷ r.first ∷ r.second ∷ steps ∷ 0 ∷ []

abbrev pub run_words : Answer ℕ → List ℕ
run_words a = end_words a.ending a.steps

-- what an entry returns
abbrev pub code_of : List ℕ → ℕ
code_of words = get_or words 0 0

-- words in bytes, the low byte first
unfoldable pub word_bytes : List ℕ → List ℕ
word_bytes [] = []
word_bytes (w ∷ ws) = bytes4 w ++ word_bytes ws

-- at the front of a buffer; one that is too short is kept
unfoldable pub words_into : List ℕ → List ℕ → List ℕ
words_into words buffer =
    if leb (length (word_bytes words)) (length buffer) then front_written (word_bytes words) buffer else buffer
