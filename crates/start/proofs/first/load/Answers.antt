-- `load` meets its contract: the pending references that are left have one value for each parameter.
use native.Mathlib.Omega.{arith}
use Rattle.start.proofs.LoadLaws.{loading_arguments, pending_end, loaded}
use Rattle.start.proofs.first.load.Goals as goal

pub make_arguments-pending-requires : goal.make_arguments-pending-requires
make_arguments-pending-requires c = loading_arguments c.requires.loading

pub copy-requires : goal.copy-requires
copy-requires c =
    let l = c.requires.loading in
    let e = pending_end l c.make_arguments-pending.ensures in
    (omega arith, omega (arith, l.slots), l.few)

pub returns : goal.returns
returns c =
    let made = c.make_arguments-pending.ensures in
    let l = c.requires.loading in
    record { value = rw (c.code_at-code.ensures, made.taken); loaded = loaded l made c.copy.ensures }
