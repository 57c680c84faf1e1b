-- The usable entries of each table are cleared.
use Rattle.store.specs.Cells.{CellRoom}
use Rattle.store.proofs.LimitLaws.{filled}
use Rattle.store.proofs.limits.wipe.Goals as goal

pub returns : goal.returns
unfolding CellRoom
returns c = record {
  of_cells = filled 0 _ _ _ c.requires.0 (c.fill.ensures.after (λ y e. e));
  of_stack = filled 0 _ _ _ c.requires.2 (c.fill-2.ensures.after (λ y e. e));
}
