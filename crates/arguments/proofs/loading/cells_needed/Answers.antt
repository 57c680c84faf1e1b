-- What is counted and the cells of the bytes that follow are the cells of all bytes. A byte takes one at most.
use native.Mathlib.Omega.{arith}
use lib.ListN.{drop_of_length-le}
use Rattle.rules.specs.Records.{program_in}
use Rattle.rules.specs.Run.{cells_loaded_by}
use Rattle.arguments.proofs.LoadingLaws.{byte_known, counted_cell, counted_constant, loaded_few}
use Rattle.arguments.proofs.loading.cells_needed.Goals.{then-constructor_arity-ne0, else-constructor_arity-ne0}
use Rattle.arguments.proofs.loading.cells_needed.Goals as goal

pub constructor_arity-requires : goal.constructor_arity-requires
constructor_arity-requires c = byte_known c.requires c.loop-c.c-index (omega arith) c.from.ensures

pub overflow_add-needed : goal.overflow_add-needed
overflow_add-needed c =
    let a = c.args in
    omega (
      arith,
      c.loop-c.invariant,
      counted_cell c.requires c.loop-c.c-index (omega arith) c.from.ensures c.constructor_arity.ensures c.if-constructor_arity-ne0.true,
      loaded_few (program_in a.file.now) a.bytes.now,
    )

pub loop-c-preserved : goal.loop-c-preserved
loop-c-preserved c =
    let l = c.loop-c in
    let e = c.constructor_arity.ensures in
    elim c.if-constructor_arity-ne0.branch [
      | then-constructor_arity-ne0 w ↦ omega (
        arith,
        l.invariant,
        w.needed-is,
        counted_cell c.requires l.c-index (omega arith) c.from.ensures e w.if-constructor_arity-ne0.true,
      )
      | else-constructor_arity-ne0 w ↦ omega (
        arith,
        l.invariant,
        w.needed-is,
        counted_constant c.requires l.c-index (omega arith) c.from.ensures e w.if-constructor_arity-ne0.false,
      )
    ]

pub returns : goal.returns
unfolding cells_loaded_by
returns c =
    let none = drop_of_length-le c.args.bytes.now {i = c.loop-c.c-index} (omega arith) in
    omega (arith, rw none at c.loop-c.invariant)
