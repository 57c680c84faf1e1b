-- A constant has no arguments. The constructor of a cell is one of the program in the blocks, and they hold its arity.
use mathlib.Core.Path.{sym, ap, ◌∙◌}
use Rattle.store.proofs.CellLaws.{constant_arity, cell_arity}
use Rattle.fetch.specs.Indexed.{constructor_arity}
use Rattle.result.proofs.ValueLaws.{cell_known}
use Rattle.result.proofs.arity_of.Goals as goal

pub returns-then-is_constant : goal.returns-then-is_constant
returns-then-is_constant c =
    let x = c.args in
    let constant = sym c.is_constant.ensures ∙ c.if-is_constant.true in
    sym (constant_arity x.cells.now x.k (constructor_arity x.file.now.now) constant)

pub constructor_arity-requires : goal.constructor_arity-requires
constructor_arity-requires c =
    let no_constant = sym c.is_constant.ensures ∙ c.if-is_constant.false in
    rw c.constructor_at.ensures.0 (cell_known _ _ _ c.requires no_constant)

pub returns : goal.returns
returns c =
    let x = c.args in
    let n = constructor_arity x.file.now.now in
    let no_constant = sym c.is_constant.ensures ∙ c.if-is_constant.false in
    c.constructor_arity.ensures ∙ ap n c.constructor_at.ensures.0 ∙ sym (cell_arity x.cells.now x.k n no_constant)
