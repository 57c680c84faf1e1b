-- What is counted and the cells of the bytes that follow are the cells of all bytes.
use Prim.Native.Nat.{◌+◌}
use mathlib.Core.Path.{◌≡◌}
use lib.ListN.{drop}
use Rattle.rules.specs.Records.{program_in}
use Rattle.rules.specs.Run.{cells_loaded}
use Rattle.arguments.proofs.loading.cells_needed.Given as goal

abbrev pub invariant-loop-c : goal.invariant-loop-c
invariant-loop-c l =
    l.needed + cells_loaded (program_in l.file) (drop l.c-index l.bytes) ≡ cells_loaded (program_in l.file) l.bytes
