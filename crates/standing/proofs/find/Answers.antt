-- Found whole, and read from its place on.
use Rattle.std.proofs.Common.{◌∙◌, ◌+◌, ◌≡◌, ℕ, arith}
use Rattle.fields.proofs.SpotLaws.{Spot, far_reaches, far_same}
use Rattle.standing.specs.Found.{standing, Inside}
use Rattle.standing.proofs.StandingLaws.{found_spot, found_read}
use Rattle.standing.proofs.find.Given.{Over}
use Rattle.standing.proofs.find.Goals.{After-left_in_block}
use Rattle.standing.proofs.find.Goals as goal

pub place_of-requires : goal.place_of-requires
place_of-requires g c = let i = c.is_there.ensures.inside c.if-not-is_there.false in omega arith

spot : (g : Over) (c : After-left_in_block g) {s : ℕ} → Inside c.args.file.now (c.args.at + s) → s ≡ g.R.Record.SIZE → let a = c.args in
    Spot a.file.now (standing a.file.now) a.at g.R.Record.SIZE c.place_of.result c.left_in_block.result
spot g c there sized = found_spot there sized g.met.R.Record.some g.met.R.Record.short c.place_of.ensures c.left_in_block.ensures

pub read-requires : goal.read-requires
read-requires g c = far_reaches (spot g c (c.is_there.ensures.inside c.if-not-is_there.false) c.SIZE.ensures)

pub returns : goal.returns
returns g c =
    let there = c.is_there.ensures.inside c.if-not-is_there.false in
    let same = far_same (spot g (goal.at.returns g c).After-left_in_block there c.SIZE.ensures) in
    found_read c.args.file.now g.R.Record.record_at c.SIZE.ensures c.is_there.ensures.there c.if-not-is_there.false
    (c.read.ensures ∙ g.met.R.Record.same _ _ _ _ same.at)
