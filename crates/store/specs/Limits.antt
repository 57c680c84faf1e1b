-- What is usable of the lent tables.
use Rattle.std.specs.Prelude.{◌≡◌, List, true, ℕ, ◌*◌, ◌≤◌, length}
use Rattle.rules.specs.Memory.{table_after}
use Rattle.rules.specs.Run.{Tables}
use Rattle.store.specs.Cells.{CellRoom}
use Rattle.store.specs.Frames.{FrameRoom}
use Rattle.store.specs.declared.frames.Frame.{Frame}
use Rattle.store.specs.declared.limits.Limits.{Limits}

abbrev pub tables : Limits → Tables
tables m = record { cells = m.cells; stack = m.stack; frames = m.frames }

-- the limits are of these tables
pub record LimitsOf (m : Limits) (cells stack : List ℕ) (frames : List Frame) : Type 0 where
  pub cell_room : CellRoom cells m.cells
  pub few_cells : m.cells ≤ 65471
  pub stack_room : m.stack ≤ length stack
  pub few_places : m.stack ≤ 65535
  pub frame_room : FrameRoom frames m.frames
  pub few_frames : m.frames ≤ 65535

-- the usable entries of cells and stack are zero, any beyond are kept
pub record Wiped (m : Limits) (cells stack cells' stack' : List ℕ) : Type 0 where
  pub of_cells : cells' ≡ table_after true 0 (5 * m.cells) cells
  pub of_stack : stack' ≡ table_after true 0 m.stack stack
