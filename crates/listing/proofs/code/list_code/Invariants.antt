use Rattle.std.proofs.Common.{◌≡◌, length}
use Rattle.listing.proofs.code.list_code.Given as goal

abbrev pub invariant-loop-i : goal.invariant-loop-i
invariant-loop-i g l = length l.waiting ≡ 257
