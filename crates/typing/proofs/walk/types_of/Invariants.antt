-- The loop keeps that each slot holds the types handed on so far, and that what is left of the pass is the instructions from k + 1 on.
use Rattle.rules.specs.Container.{payload}
use Rattle.typing.proofs.TypeWalk.{Typing}
use Rattle.typing.proofs.walk.types_of.Given as goal

abbrev pub invariant-loop-k : goal.invariant-loop-k
invariant-loop-k l = Typing (payload l.file) l.at l.g l.code l.k l.waiting
