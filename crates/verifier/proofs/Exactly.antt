-- The contract of check joined with the rules as relations.
use mathlib.Core.Path.{◌≡◌, refl, sym, ap, ◌∙◌}
use Rattle.rules.specs.declared.answers.Counts.{Counts}
use Rattle.rules.specs.declared.answers.Reason.{Reason}
use Rattle.std.specs.Prelude.{Result, Ok, Err}
use Rattle.rules.specs.Base.{Refusal, Tried, found, refused}
use Rattle.rules.specs.Program.{Program}
use Rattle.rules.specs.Check.{checked, counts_of, verdict_of}
use Rattle.rules.specs.Answers.{told}
use Rattle.rules.specs.Refusals.{Obeys, Fails}
use Rattle.rules.proofs.TriedLaws.{found_inj, refused_found, refused_inj}
use Rattle.rules.proofs.CheckLaws.{verdict_refused, verdict_accepted}
use Rattle.rules.proofs.CheckExact.{check_exact, refusal_exact}
use Rattle.verifier.specs.Exactly.{CheckExactly}

pub check_exactly : CheckExactly
check_exactly file r e = record { accepted = λ counts. (obeys counts, accepts counts); refused = λ q. (fails q, refuses q) }
  where
    -- what the check finds of the file
    by_check : {Z : Type 0} → ((s : Program) → checked file ≡ found s → Z) → ((q : Refusal) → checked file ≡ refused q → Z) → Z
    by_check {Z} f g = one (checked file) refl
      where
        one : (t : Tried Program) → checked file ≡ t → Z
        one (found s) w = f s w
        one (refused q) w = g q w

    accepted_is : (counts counts' : Counts) (r : Result Counts Reason) → told r ≡ found counts' → counts' ≡ counts → r ≡ Ok counts
    accepted_is counts counts' (Ok c) w q = ap Ok (found_inj w ∙ q)
    accepted_is counts counts' (Err why) w q = absurd (refused_found w)

    obeys : (counts : Counts) → r ≡ Ok counts → (s : Program) × Obeys file s × (counts_of s ≡ counts)
    obeys counts is =
        let says : found counts ≡ verdict_of file = ap told (sym is) ∙ e in
        by_check (λ s w. (s, (check_exact file s).0 w, found_inj (sym (verdict_accepted file w) ∙ sym says)))
        (λ q w. absurd (refused_found (sym (verdict_refused file w) ∙ sym says)))

    accepts : (counts : Counts) → (s : Program) × Obeys file s × (counts_of s ≡ counts) → r ≡ Ok counts
    accepts counts (s, o, q) = accepted_is counts (counts_of s) r (e ∙ verdict_accepted file ((check_exact file s).1 o)) q

    fails : (q : Refusal) → told r ≡ refused q → Fails file q
    fails q w =
        by_check (λ s c. absurd (refused_found (sym w ∙ e ∙ verdict_accepted file c)))
        (λ p c. (refusal_exact file q).0 (c ∙ ap refused (refused_inj (sym (verdict_refused file c) ∙ sym e ∙ w))))

    refuses : (q : Refusal) → Fails file q → told r ≡ refused q
    refuses q f = e ∙ verdict_refused file ((refusal_exact file q).1 f)
