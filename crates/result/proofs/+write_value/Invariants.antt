-- What is written and the bytes still to come are together the value's bytes.
use Rattle.std.proofs.Common.{◌+◌, ◌-◌, ◌*◌}
use Rattle.result.proofs.ResultLaws.{Writing}
use Rattle.result.proofs.+write_value.Given as goal

-- the number falls
abbrev pub decreases-write_value : goal.decreases-write_value
decreases-write_value l = l.k

abbrev pub invariant-loop-j : goal.invariant-loop-j
invariant-loop-j l = Writing l.file.now l.cells l.k l.at l.initial.out l.out l.here l.n l.next l.j

abbrev pub decreases-loop-j : goal.decreases-loop-j
decreases-loop-j l = 5 * l.here + (l.n - l.j)
