-- `place_behind` meets its contract: in the same block places are as far apart as offsets, and each block between adds eight.
use native.Mathlib.Omega.{arith}
use Rattle.fetch.proofs.PlaceLaws.{behind_near, behind_far}
use Rattle.fetch.proofs.places.place_behind.Goals as goal

pub returns-then-inside-lt508 : goal.returns-then-inside-lt508
returns-then-inside-lt508 c =
    (behind_near c.args.from c.args.n c.requires.0 (omega arith), omega arith)

pub returns : goal.returns
returns c =
    (behind_far c.args.from c.args.n c.requires.0, omega arith)
