-- What is left of the splits.
use mathlib.Core.Path.{◌≡◌}
use Prim.Native.Nat.{ℕ, ◌+◌, ◌*◌}
use lib.ListN.{take, drop}
use Rattle.rules.specs.Records.{program_in}
use Rattle.sizing.specs.Splits.{carried, Loose, Numbered, Carrying}
use Rattle.sizing.proofs.splits.carry.Given as goal

abbrev pub invariant-loop-i : goal.invariant-loop-i
invariant-loop-i l = record {
  left : carried (program_in l.file) (take l.s.taken l.s.list) l.initial.r
      ≡ carried (program_in l.file) (drop l.i (take l.s.taken l.s.list)) l.r;
  here : (p : Carrying l.file l.initial.r l.s.taken l.s.list) → (m : ℕ) × Loose m (65535 + 3825 * l.i) l.r
      × Numbered m (drop l.i (take l.s.taken l.s.list)) p.count;
}
