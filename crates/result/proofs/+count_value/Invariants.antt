-- What is counted and the bytes still to come are together the value's bytes.
use Rattle.std.proofs.Common.{◌+◌, ◌-◌, ◌*◌}
use Rattle.result.proofs.ResultLaws.{Counting}
use Rattle.result.proofs.+count_value.Given as goal

-- the number falls
abbrev pub decreases-count_value : goal.decreases-count_value
decreases-count_value l = l.k

abbrev pub invariant-loop-j : goal.invariant-loop-j
invariant-loop-j l = Counting l.file.now l.cells l.k 0 l.here l.n l.total l.j

abbrev pub decreases-loop-j : goal.decreases-loop-j
decreases-loop-j l = 5 * l.here + (l.n - l.j)
