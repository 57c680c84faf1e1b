-- What 7 and 8 have established of an instruction, before sizes are looked at.
use Rattle.std.specs.Prelude.{◌≡◌, List, Bool, ℕ, length}
use Rattle.std.specs.Prelude.{Some}
use Rattle.rules.specs.Program.{Function, Program}
use Rattle.rules.specs.Flow.{past_at}
use Rattle.rules.specs.Types.{types_at}

-- instruction i of function g is reached, with a stack of this height, and a build or call has been passed or not
pub record ReachedAt (s : Program) (g : ℕ) (f : Function) (i height : ℕ) (past : Bool) : Type 0 where
  pub stack : List ℕ
  pub types : types_at s g f i ≡ Some stack
  pub high : length stack ≡ height
  pub flow : past_at f.code i ≡ Some past
