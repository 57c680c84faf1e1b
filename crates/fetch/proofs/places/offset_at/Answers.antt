-- `offset_at` meets its contract: behind the marks nothing is taken from too little.
use borrow.Author.Rules.{rules}
use native.Mathlib.Omega.{arith}
use Rattle.fetch.specs.Places.{offset_at, Inside}
use Rattle.fetch.proofs.places.offset_at.Goals as goal

pub overflow_sub-result : goal.overflow_sub-result
unfolding Inside
overflow_sub-result c = omega arith

pub returns : goal.returns
unfolding offset_at
returns c = search rules
