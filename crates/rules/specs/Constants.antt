-- "A run that gave anything but 15 before gives the same answer, unless it now needs over 65,471 cells." Document 02, "Constants take no
-- cell". Before and now are one definition by two rules. This file only states it; `constants_fact` of proofs/Constants.antt proves it.
use Rattle.std.specs.Prelude.{◌≡◌, List, ℕ, ◌+◌, ◌≤◌, ◌<◌}
use Rattle.rules.specs.Base.{Refusal, Tried, found, refused, ◌>>=◌}
use Rattle.rules.specs.Check.{checked}
use Rattle.rules.specs.Run.{Lent, every_one, with_arguments, usable_by, cells_loaded_by, Outcome, refused_with, loaded_by, run_by}
use Rattle.rules.specs.Memory.{result_into}
use Rattle.rules.specs.Promise.{builds_by}

abbrev or_none : Tried ℕ → ℕ
or_none (found n) = n
or_none (refused r) = 0

-- the cells that a run "now needs", if before it took so many steps: those of its arguments and those of its builds. A run that was refused
-- before the start needs none
abbrev pub now_needs : List ℕ → ℕ → List ℕ → Lent → ℕ → ℕ
now_needs file entry bytes lent steps =
    or_none (checked file
    >>= (λ s. loaded_by every_one s (usable_by every_one lent) entry bytes
    >>= (λ st. found (cells_loaded_by with_arguments s bytes + builds_by with_arguments s steps st))))

abbrev pub Gives15 : Outcome → Type 0
Gives15 a = (r : Refusal) × (a.ending ≡ refused_with r) × (r.number ≡ 15)

module _ (file : List ℕ) (entry : ℕ) (arguments : List ℕ) (budget : ℕ) (lent : Lent) where
  abbrev pub before : Outcome
  before = run_by every_one file entry arguments budget lent

  abbrev pub now : Outcome
  now = run_by with_arguments file entry arguments budget lent

  -- the same ending with its places, the same steps, and the same output
  pub record SameAnswer : Type 0 where
    pub answer : now ≡ before
    pub output : (out : List ℕ) → result_into out now.ending ≡ result_into out before.ending

-- and a run that needs more gives 15
abbrev pub ConstantsFact : Type 0
ConstantsFact =
    (file : List ℕ) (entry : ℕ) (arguments : List ℕ) (budget : ℕ) (lent : Lent) → (Gives15 (before file entry arguments budget lent) → ⊥)
    → (now_needs file entry arguments lent (before file entry arguments budget lent).steps ≤ 65471
    → SameAnswer file entry arguments budget lent)
    × (65471 < now_needs file entry arguments lent (before file entry arguments budget lent).steps
    → Gives15 (now file entry arguments budget lent))
