-- What the check says of a file.
use Rattle.std.specs.Prelude.{◌≡◌, List, ℕ}
use Rattle.std.specs.Prelude.{Result, IfOk, IfErr}
use Rattle.std.specs.Result.{result_map_both}
use Rattle.rules.specs.declared.answers.Reason.{Reason}
use Rattle.rules.specs.declared.answers.Counts.{Counts}
use Rattle.rules.specs.declared.records.Header.{Header}
use Rattle.rules.specs.Base.{refused}
use Rattle.rules.specs.Check.{checked, verdict_of}
use Rattle.rules.specs.Established.{Accepted, LaidOut}
use Rattle.rules.specs.Answers.{refusal_of, told}
use Rattle.program.specs.declared.Layout.{Layout}

-- the counts that a header gives
abbrev pub counts_in : Header → Counts
counts_in h = record { types = h.types; constructors = h.constructors; functions = h.functions }

-- the whole check, with the layout of a file that is accepted
pub record ExaminedRight (file : List ℕ) (r : Result Layout Reason) : Type 0 where
  pub says : told (result_map_both (λ layout. counts_in layout.header) (λ reason. reason) r) ≡ verdict_of file
  pub refuses : IfErr r (λ reason. checked file ≡ refused (refusal_of reason))
  pub accepted : IfOk r (λ layout. Accepted file × LaidOut file layout.header layout.heads)
