-- The check: 1 to 10 in the order of document 01.
use Rattle.std.specs.Prelude.{List, ℕ, length}
use Rattle.rules.specs.declared.answers.Counts.{Counts}
use Rattle.rules.specs.Base.{Tried, found, ◌>>=◌}
use Rattle.rules.specs.Container.{verify, payload}
use Rattle.rules.specs.Program.{Program}
use Rattle.rules.specs.Records.{decode}
use Rattle.rules.specs.Declarations.{declarations_right, bounds_right}
use Rattle.rules.specs.Flow.{flow_right}
use Rattle.rules.specs.Types.{types_right}
use Rattle.rules.specs.Shapes.{sizes_right}

-- the program that a file holds, or the first refusal: "1; block by block 2 then 3; then 4 to 8, each over the whole sheet in file order;
-- then one walk .. for 10 and 9"
unfoldable pub checked : List ℕ → Tried Program
checked file = do
  _ ← verify file
  s ← decode (payload file)
  _ ← declarations_right s
  _ ← bounds_right s
  _ ← flow_right s
  _ ← types_right s
  _ ← sizes_right s
  found s

abbrev pub counts_of : Program → Counts
counts_of s = record { types = s.types; constructors = length s.constructors; functions = length s.functions }

-- what check answers: `told r ≡ verdict_of (now file.entry)`
unfoldable pub verdict_of : List ℕ → Tried Counts
verdict_of file = do
  s ← checked file
  found (counts_of s)
