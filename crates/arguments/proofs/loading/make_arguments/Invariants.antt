-- The cells and references made are those of the bytes that follow. A constant makes no cell.
use mathlib.Core.Path.{◌≡◌}
use lib.ListN.{length}
use Rattle.rules.specs.Records.{program_in}
use Rattle.arguments.specs.Loading.{MadeFrom}
use Rattle.arguments.proofs.loading.make_arguments.Given as goal

abbrev pub invariant-loop-i : goal.invariant-loop-i
invariant-loop-i l = record {
  made : MadeFrom (program_in l.file) l.bytes l.i l.used l.initial.cells l.cells l.numbers l.at;
  long : length l.numbers ≡ 256;
}
