-- What is left of the splits.
use mathlib.Core.Path.{◌≡◌, refl, sym, ap, ◌∙◌}
use Prim.Native.Nat.{◌+◌, ◌<◌}
use native.Mathlib.Omega.{arith}
use lib.ListN.{length, take, drop}
use lib.Seq.{length-take-le}
use Rattle.rules.specs.Records.{program_in}
use Rattle.sizing.specs.Splits.{carried}
use Rattle.sizing.proofs.CodeLaws.{carried_end, carrying_asks, carrying_next, carrying_left}
use Rattle.sizing.proofs.splits.carry.Goals as goal

pub loop-i-init : goal.loop-i-init
loop-i-init c = record { left = refl; here = λ p. (p.start, p.loose, p.numbered) }

pub add_split-r-requires : goal.add_split-r-requires
add_split-r-requires c =
    let h : c.loop-i.i < c.args.s.now.taken = omega arith in
    let q = c.loop-i.invariant.here c.requires.1 in
    (c.requires.0, carrying_asks c.requires.1 h q.1 q.2)

pub loop-i-preserved : goal.loop-i-preserved
loop-i-preserved c =
    let l = c.loop-i in
    let h : l.i < c.args.s.now.taken = omega arith in
    let q = l.invariant.here c.requires.1 in
    let e = c.add_split-r.ensures in
    let left = carried (program_in c.args.file.now) (drop (l.i + 1) (take c.args.s.now.taken c.args.s.now.list)) in
    record {
      left = l.invariant.left ∙ carrying_left c.requires.1 h q.1 q.2 ∙ ap left (sym e);
      here = λ p. let z = l.invariant.here p in rw e (carrying_next p h z.1 z.2);
    }

pub returns : goal.returns
returns c =
    let l = c.loop-i in
    let a = c.requires.1.long in
    let b = c.requires.1.few in
    let splits = take c.args.s.now.taken c.args.s.now.list in
    let e : length splits ≡ c.args.s.now.taken = length-take-le c.args.s.now.taken c.args.s.now.list (omega arith) in
    sym (l.invariant.left ∙ carried_end (program_in c.args.file.now) splits l.i l.r (omega arith))
