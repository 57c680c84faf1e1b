-- Demand 2 for the code: what check answers is decided by the rules of document 01 and 001 alone, accepted and refused alike.
use Rattle.std.specs.Prelude.{◌≡◌, List, ◌↔◌, ℕ}
use Rattle.std.specs.Prelude.{Result, Ok}
use Rattle.rules.specs.declared.answers.Counts.{Counts}
use Rattle.rules.specs.declared.answers.Reason.{Reason}
use Rattle.rules.specs.Base.{Refusal, refused}
use Rattle.rules.specs.Program.{Program}
use Rattle.rules.specs.Check.{counts_of, verdict_of}
use Rattle.rules.specs.Answers.{told}
use Rattle.rules.specs.Refusals.{Obeys, Fails}

-- of everything that meets check's contract: it is accepted with these counts just where some program with them obeys every rule, and it is
-- refused with this number and these places just where a rule fails there
pub record JudgedExactly (file : List ℕ) (r : Result Counts Reason) : Type 0 where
  pub accepted : (counts : Counts) → r ≡ Ok counts ↔ ((s : Program) × Obeys file s × (counts_of s ≡ counts))
  pub refused : (q : Refusal) → told r ≡ refused q ↔ Fails file q

abbrev pub CheckExactly : Type 0
CheckExactly = (file : List ℕ) (r : Result Counts Reason) → told r ≡ verdict_of file → JudgedExactly file r
