-- `fetch` meets its contract: up to place 504 a record lies in its block.
use Prim.Native.Nat.{◌+◌}
use native.Mathlib.Omega.{arith}
use Rattle.fetch.proofs.PlaceLaws.{place_small, behind_near, behind_over}
use Rattle.fetch.proofs.WordLaws.{block_room, block_word}
use Rattle.fetch.proofs.fetching.fetch.Goals as goal

pub offset_at-requires : goal.offset_at-requires
offset_at-requires c =
    (c.requires.1, omega (arith, place_small c.args.at (omega (arith, c.requires.2, c.requires.0.small))))

pub overflow_add-result : goal.overflow_add-result
overflow_add-result c =
    omega (arith, place_small c.args.at (omega (arith, c.requires.2, c.requires.0.small)))

pub returns-then-at-gt504 : goal.returns-then-at-gt504
returns-then-at-gt504 c = (
  rw c.offset_at.ensures at c.apart.ensures,
  behind_over c.args.at (omega (arith, c.if-at-gt504.true)),
  omega (arith, place_small c.args.at (omega (arith, c.requires.2, c.requires.0.small))),
)

pub bounds-file-at : goal.bounds-file-at
bounds-file-at c = omega (arith, block_room c.requires.0 c.args.at c.requires.1 c.requires.2 c.if-at-gt504.false)

pub bounds-file-at-2 : goal.bounds-file-at-2
bounds-file-at-2 c = omega (arith, block_room c.requires.0 c.args.at c.requires.1 c.requires.2 c.if-at-gt504.false)

pub bounds-file-at-3 : goal.bounds-file-at-3
bounds-file-at-3 c = omega (arith, block_room c.requires.0 c.args.at c.requires.1 c.requires.2 c.if-at-gt504.false)

pub bounds-file-at-4 : goal.bounds-file-at-4
bounds-file-at-4 c = omega (arith, block_room c.requires.0 c.args.at c.requires.1 c.requires.2 c.if-at-gt504.false)

pub returns : goal.returns
returns c = (
  block_word c.requires.0 c.args.at c.requires.1 c.requires.2 c.if-at-gt504.false (omega (arith, c.type_inv.file c.args.at))
      (omega (arith, c.type_inv.file (c.args.at + 1)))
      c.from_le_bytes.ensures,
  behind_near c.args.at 1 c.requires.1 (omega (arith, c.if-at-gt504.false)),
  omega (arith, place_small c.args.at (omega (arith, c.requires.2, c.requires.0.small))),
)
