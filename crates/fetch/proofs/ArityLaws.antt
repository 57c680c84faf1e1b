-- Arities of constructors and functions that are there.
use Prim.Native.Nat.{ℕ, zero, suc, ◌<◌}
use mathlib.Core.Path.{◌≡◌, refl}
use mathlib.Core.List.{List, [], ◌∷◌}
use Rattle.std.specs.Prelude.{Some, slice_get}
use native.Mathlib.Nat.{not-suc-le-zero, le_of_suc-le-suc}
use lib.ListN.{length}
use Rattle.rules.specs.Program.{Function, Program, function}
use Rattle.fetch.specs.Arities.{inputs, inputs_of}

pub get_some : {A : Type 0} (l : List A) (i : ℕ) → i < length l → (x : A) × (slice_get l i ≡ Some x)
get_some [] i h = absurd (not-suc-le-zero h)
get_some (x ∷ xs) zero h = (x, refl)
get_some (x ∷ xs) (suc i) h = get_some xs i (le_of_suc-le-suc h)

pub inputs_is : (s : Program) (f : ℕ) {k : Function} → function s f ≡ Some k → inputs s f ≡ length k.parameters
unfolding inputs_of
inputs_is s f e = rw e
