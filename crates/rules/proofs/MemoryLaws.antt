-- What is left in lent memory, one law for each case.
use mathlib.Core.Path.{◌≡◌}
use mathlib.Core.List.{List}
use mathlib.Core.Bool.{true, false}
use Prim.Native.Nat.{ℕ}
use Rattle.rules.specs.Base.{Refusal, found, refused}
use Rattle.rules.specs.Program.{Program}
use Rattle.rules.specs.Machine.{State}
use Rattle.rules.specs.Check.{checked}
use Rattle.rules.specs.Run.{Lent, usable, loaded}
use Rattle.rules.specs.Memory.{begun}

module _ (file : List ℕ) (entry : ℕ) (bytes : List ℕ) (lent : Lent) where
  pub begun_not_checked : {r : Refusal} → checked file ≡ refused r → begun file entry bytes lent ≡ false
  unfolding begun
  begun_not_checked e = rw e

  pub begun_not_loaded : {s : Program} {r : Refusal} → checked file ≡ found s → loaded s (usable lent) entry bytes ≡ refused r
      → begun file entry bytes lent ≡ false
  unfolding begun
  begun_not_loaded e w = rw (e, w)

  pub begun_loaded : {s : Program} {st : State} → checked file ≡ found s → loaded s (usable lent) entry bytes ≡ found st
      → begun file entry bytes lent ≡ true
  unfolding begun
  begun_loaded e w = rw (e, w)
