-- The words of a refusal.
use Rattle.std.specs.Prelude.{◌≡◌, List, [], ◌∷◌, ℕ, ◌<◌}
use Rattle.rules.specs.declared.answers.Reason.{Reason}
use Rattle.rules.specs.Answers.{refusal_of}

-- number, places, steps, and no length
pub record RefusedWords (reason : Reason) (steps : ℕ) (w : List ℕ) : Type 0 where
  pub words : w ≡ (refusal_of reason).number ∷ (refusal_of reason).first ∷ (refusal_of reason).second ∷ steps ∷ 0 ∷ []
  pub small : (refusal_of reason).number < 256
