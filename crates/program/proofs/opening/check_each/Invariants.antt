-- `check_each` meets its contract: at each turn what is left to check is the records from `k` on.
use Rattle.std.proofs.Common.{Bool, ◌≡◌}
use Rattle.rules.specs.Container.{payload}
use Rattle.rules.proofs.PassLaws.{Passing}
use Rattle.program.specs.Nth.{nth_right}
use Rattle.program.proofs.opening.check_each.Given as goal

abbrev pub invariant-loop-k : goal.invariant-loop-k
invariant-loop-k g l =
    (test : g.row.R.Denot → Bool) → ((r : g.row.R.Denot) (t : Bool) → g.F.Fn.post l.right (r, tt) t → t ≡ test r)
    → Passing (nth_right g.R.Record.SIZE g.R.Record.record_at test (payload l.file) l.first) l.count l.k
