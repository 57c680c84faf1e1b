-- At each turn the functions below `f` are indexed.
use Rattle.fetch.specs.Indexing.{Functioned}
use Rattle.fetch.proofs.index.index_of.Given as goal

abbrev pub invariant-loop-f : goal.invariant-loop-f
invariant-loop-f l = Functioned l.file l.f l.index
