-- The first i rows are done.
use Rattle.std.proofs.Common.{◌≡◌, length, take}
use Rattle.rules.specs.Base.{numbered}
use Rattle.sizing.specs.Steps.{own_after}
use Rattle.sizing.proofs.line.own_form.Given as goal

abbrev pub invariant-loop-i : goal.invariant-loop-i
invariant-loop-i l = record {
  long : length l.x.alternatives ≡ 16;
  same : take l.i l.x.alternatives ≡ numbered (own_after l.file l.bound l.s) 0 l.i;
}
