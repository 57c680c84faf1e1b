-- The check answers the verdict of the rules, and the counts are its own.
use Rattle.std.proofs.Common.{◌≡◌, ap, refl, ◌∙◌, Result, Ok, Err}
use Rattle.std.specs.Result.{result_unwrap_or}
use Rattle.rules.specs.declared.answers.Counts.{Counts}
use Rattle.rules.specs.declared.answers.Reason.{Reason}
use Rattle.rules.specs.Answers.{told}
use Rattle.opened.specs.Opened.{counts_from, counts_in}
use Rattle.opened.proofs.open.Goals as goal

counted : (r : Result Counts Reason) → result_unwrap_or r (record { types = 0; constructors = 0; functions = 0 }) ≡ counts_from (told r)
counted (Ok c) = refl
counted (Err e) = refl

pub returns : goal.returns
unfolding counts_in
returns c =
    let e = c.unwrap_or-counts.ensures ∙ counted c.check.result ∙ ap counts_from c.check.ensures in
    record {
      lent = refl;
      types = ap (λ (n : Counts). n.types) e;
      constructors = ap (λ (n : Counts). n.constructors) e;
      functions = ap (λ (n : Counts). n.functions) e;
    }
