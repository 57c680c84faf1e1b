-- A byte takes one cell at most, so as many cells as bytes are enough. Fewer are compared with what is counted.
use Prim.Native.Nat.{ℕ}
use mathlib.Core.Path.{ap, sym, ◌∙◌}
use native.Mathlib.Omega.{arith}
use lib.Dec.{leb}
use lib.ListN.{length}
use borrow.Author.Tests.{le-leb}
use Rattle.rules.specs.Program.{Program}
use Rattle.rules.specs.Records.{program_in}
use Rattle.rules.specs.Run.{cells_loaded}
use Rattle.arguments.proofs.LoadingLaws.{loaded_few}
use Rattle.arguments.proofs.loading.enough.Goals as goal

pub returns-then-bytes-cells : goal.returns-then-bytes-cells
returns-then-bytes-cells c =
    let x = c.args in
    let s : Program = program_in x.file.now in
    let few = loaded_few s x.bytes.now in
    le-leb (length x.bytes.now) x.cells (omega arith) ∙ sym (le-leb (cells_loaded s x.bytes.now) x.cells (omega arith))

pub returns-else-bytes-cells : goal.returns-else-bytes-cells
returns-else-bytes-cells c = ap (λ (n : ℕ). leb n c.args.cells) c.cells_needed.ensures
