-- The records that are lent are the front of the table, as many blank ones as are asked.
use native.Mathlib.Omega.{arith}
use Rattle.std.proofs.lemmas.List.{take-replicate}
use Rattle.store.specs.Frames.{no_frame}
use Rattle.store.proofs.FrameLaws.{of_zeros}
use Rattle.lending.proofs.run_on.Goals as goal

pub whole_as_front-run : goal.whole_as_front-run
whole_as_front-run g c = omega arith

pub returns : goal.returns
returns g c =
    let e = c.default-table.ensures in record {
      frames = c.run.new.frames;
      runs = rw (of_zeros e.0 e.1.0 e.1.1, take-replicate c.args.n g.row.N no_frame c.requires.0) at c.run.ensures;
    }
