-- At each turn the functions below `f` are indexed.
use native.Mathlib.Omega.{arith}
use Rattle.fetch.proofs.IndexingLaws.{functioned_first, functioned_on, head_there, indexed}
use borrow.Author.Rules.{rules}
use Rattle.fetch.proofs.index.index_of.Goals as goal

pub loop-f-init : goal.loop-f-init
loop-f-init c = functioned_first _ (search rules) (search rules)

pub bounds-layout-f : goal.bounds-layout-f
bounds-layout-f c = omega (arith, head_there c.requires c.loop-f.f (omega arith))

pub head-requires : goal.head-requires
head-requires c = (c.requires.headed.parsed.verified, omega (arith, head_there c.requires c.loop-f.f (omega arith)))

pub overflow_add-at : goal.overflow_add-at
overflow_add-at c = omega (arith, head_there c.requires c.loop-f.f (omega arith))

pub place_of-requires : goal.place_of-requires
place_of-requires c = omega (arith, head_there c.requires c.loop-f.f (omega arith))

pub overflow_cast-index : goal.overflow_cast-index
overflow_cast-index c = omega (arith, head_there c.requires c.loop-f.f (omega arith))

pub bounds-index-f : goal.bounds-index-f
bounds-index-f c = omega (arith, head_there c.requires c.loop-f.f (omega arith))

pub alternative_offset-requires : goal.alternative_offset-requires
alternative_offset-requires c = omega (arith, head_there c.requires c.loop-f.f (omega arith))

pub place_of-requires-in-loop-f : goal.place_of-requires-in-loop-f
place_of-requires-in-loop-f c = omega (arith, head_there c.requires c.loop-f.f (omega arith))

pub overflow_cast-index-in-loop-f : goal.overflow_cast-index-in-loop-f
overflow_cast-index-in-loop-f c = omega (arith, head_there c.requires c.loop-f.f (omega arith))

pub bounds-index-f-in-loop-f : goal.bounds-index-f-in-loop-f
bounds-index-f-in-loop-f c = omega (arith, head_there c.requires c.loop-f.f (omega arith))

pub loop-f-preserved : goal.loop-f-preserved
loop-f-preserved c =
    functioned_on c.requires c.loop-f.invariant (omega arith) c.place_of.ensures c.head.ensures
    c.from-alternatives.ensures c.alternative_offset.ensures c.place_of-in-loop-f.ensures

pub returns : goal.returns
returns c = indexed c.requires c.loop-f.invariant (omega arith)
