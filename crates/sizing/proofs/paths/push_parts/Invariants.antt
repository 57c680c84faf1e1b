-- The first i parts are pushed.
use Rattle.std.proofs.Common.{◌≡◌, ◌++◌, ◌+◌, take}
use Rattle.sizing.specs.States.{up_from, SameSplits}
use Rattle.sizing.proofs.paths.push_parts.Given as goal

abbrev pub invariant-loop-i : goal.invariant-loop-i
invariant-loop-i l = record {
  same : SameSplits l.initial.r l.r;
  pushed : take (l.base + l.i) l.r.stack ≡ take l.base l.initial.r.stack ++ up_from l.first l.i;
}
