-- The record where it ends in its block, and where it goes on behind it.
use Rattle.std.proofs.Common.{◌∙◌, arith}
use Rattle.rules.specs.Container.{payload}
use Rattle.fields.proofs.SpotLaws.{Spot, near_reaches, near_same, far_reaches, far_same, payload_spot}
use Rattle.readers.proofs.read.Given.{Over}
use Rattle.readers.proofs.read.Goals.{After-left_in_block-left}
use Rattle.readers.proofs.read.Goals as goal

spot : (g : Over) (c : After-left_in_block-left g) → let a = c.args in
    Spot a.file.now (payload a.file.now) a.at g.R.Record.SIZE c.place_of-place.result c.left_in_block-left.result
spot g c =
    payload_spot c.requires g.met.R.Record.some g.met.R.Record.short c.place_of-place.ensures c.left_in_block-left.ensures

pub read-requires : goal.read-requires
read-requires g c =
    near_reaches (spot g (goal.at.read-requires g c).After-left_in_block-left) (omega arith) c.SIZE-then-left-SIZE.ensures

pub returns-then-left-SIZE : goal.returns-then-left-SIZE
returns-then-left-SIZE g c =
    let s = near_same (spot g (goal.at.returns-then-left-SIZE g c).After-left_in_block-left) (omega arith) c.SIZE-then-left-SIZE.ensures in
    c.read.ensures ∙ g.met.R.Record.same _ _ _ _ s.at

pub read-requires-2 : goal.read-requires-2
read-requires-2 g c = far_reaches (spot g (goal.at.read-requires-2 g c).After-left_in_block-left)

pub returns : goal.returns
returns g c =
    c.read-2.ensures ∙ g.met.R.Record.same _ _ _ _ (far_same (spot g (goal.at.returns g c).After-left_in_block-left)).at
