-- `begin_called` meets its contract: frames, stack and cells are tested in this order; then the start fits and the arguments are loaded.
use mathlib.Core.Path.{sym, ◌∙◌}
use native.Mathlib.Omega.{arith}
use borrow.Author.Tests.{leb-false, leb-true}
use Rattle.rules.specs.Records.{program_in}
use Rattle.rules.specs.Run.{cells_loaded}
use Rattle.start.proofs.BeginLaws.{bytes_all_lem}
use Rattle.start.proofs.CallLaws.{few_functions, entry_there, inputs_are, out_of_frames, out_of_stack, out_of_cells, fitting}
use Rattle.start.proofs.LoadLaws.{callable_loading, loading}
use Rattle.start.proofs.PrepareLaws.{fits_some}
use Rattle.start.proofs.accepted.begin_called.Goals as goal

pub function_arity-arity-requires : goal.function_arity-arity-requires
function_arity-arity-requires c = let k = c.requires.0 in (k.indexed, entry_there k)

pub returns-then-m-eq0 : goal.returns-then-m-eq0
returns-then-m-eq0 c =
    let k = c.requires.0 in
    (λ frames out l. out_of_frames k _ _ _ frames out
    (omega (arith, l, c.usable-m.ensures.2, c.if-m-eq0.true)))

pub returns-then-m-arity : goal.returns-then-m-arity
returns-then-m-arity c =
    let k = c.requires.0 in
    (λ frames out l. out_of_stack k _ _ _ frames out
    (omega (arith, l, c.usable-m.ensures.2, c.if-m-eq0.false))
    (omega (
      arith,
      c.usable-m.ensures.1,
      c.if-m-arity.true,
      inputs_are k c.function_arity-arity.ensures,
    )))

pub enough-requires : goal.enough-requires
enough-requires c =
    callable_loading c.requires.0

pub returns-then-not-enough : goal.returns-then-not-enough
returns-then-not-enough c =
    let k = c.requires.0 in
    let short = leb-false (cells_loaded (program_in c.args.file.now) c.args.arguments.now)
    c.usable-m.result.cells (sym c.enough.ensures ∙ c.if-not-enough.true) in
    (λ frames out l. out_of_cells k _ _ _ frames out
    (omega (arith, l, c.usable-m.ensures.2, c.if-m-eq0.false))
    (omega (
      arith,
      c.usable-m.ensures.1,
      c.if-m-arity.false,
      inputs_are k c.function_arity-arity.ensures,
    ))
    (omega (arith, c.usable-m.ensures.0, short)))

pub load-start-requires : goal.load-start-requires
load-start-requires c =
    let k = c.requires.0 in
    let room = leb-true _ _ (sym c.enough.ensures ∙ c.if-not-enough.false) in
    let fits = fitting k _ _ _ _ c.requires.1 c.usable-m.ensures c.function_arity-arity.ensures
    (omega (arith, c.if-m-eq0.false)) (omega (arith, c.if-m-arity.false)) room in
    record { loading = loading (fits_some fits); bound = few_functions k }

pub returns : goal.returns
returns c =
    let k = c.requires.0 in
    let room = leb-true _ _ (sym c.enough.ensures ∙ c.if-not-enough.false) in
    let fits = fitting k _ _ _ _ c.requires.1 c.usable-m.ensures c.function_arity-arity.ensures
    (omega (arith, c.if-m-eq0.false)) (omega (arith, c.if-m-arity.false)) room in
    let small = bytes_all_lem c.args.file.now (λ i. omega (arith, c.type_inv.file i)) in
    record { arity = _; small = small; fitting = fits; loaded = c.load-start.ensures.loaded; at_first = c.load-start.ensures.value }
