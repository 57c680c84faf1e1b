-- What is left of the parts to add; or the variable is not there, and nothing changes.
use mathlib.Core.Path.{◌≡◌}
use Prim.Native.Nat.{ℕ, ◌≤◌, ◌+◌, ◌-◌}
use Rattle.rules.specs.Forms.{added}
use Rattle.sizing.specs.Put.{coefficient, cleared, Wide}
use Rattle.sizing.specs.Splits.{spanned}
use Rattle.sizing.proofs.splits.add_split.Given as goal

abbrev pub invariant-loop-j : goal.invariant-loop-j
invariant-loop-j l = record {
  wide : Wide l.r;
  constant : l.r.constant ≡ l.a.constant;
  left : added l.c (spanned l.fn.p.first l.fn.p.parts l.w) (cleared l.fn.p.variable l.a)
      ≡ added l.c (spanned (l.fn.p.first + l.j) (l.fn.p.parts - l.j) l.w) l.r;
  low : (i : ℕ) → l.fn.p.first + l.j ≤ i → coefficient l.r i ≤ 15;
}
