-- `blocks::verifying::weighed` meets its contract: the loop's sum is that of the bytes passed. Assumes nothing.
use Rattle.std.proofs.Common.{◌+◌, refl, ◌≡◌, length, arith}
use lib.Seq.{take_all}
use Rattle.rules.specs.Container.{weighed}
use Rattle.rules.proofs.ContainerLaws.{check_next}
use Rattle.rules.proofs.SumLaws.{term_bound}
use Rattle.blocks.proofs.verifying.weighed.Goals as goal

pub loop-i-init : goal.loop-i-init
unfolding weighed
loop-i-init c = record { few = omega arith; same = refl }

pub overflow_mul-sum : goal.overflow_mul-sum
overflow_mul-sum c = let t = term_bound c.from.result (c.loop-i.i + 1) (omega (arith, c.type_inv.b c.loop-i.i)) (omega arith) in omega arith

pub overflow_add-sum-in-loop-i : goal.overflow_add-sum-in-loop-i
overflow_add-sum-in-loop-i c =
    let t = term_bound c.from.result (c.loop-i.i + 1) (omega (arith, c.type_inv.b c.loop-i.i)) (omega arith) in omega arith

pub loop-i-preserved : goal.loop-i-preserved
loop-i-preserved c =
    let i = c.loop-i.i in
    let b = c.args.b.now in
    let t = term_bound c.from.result (i + 1) (omega (arith, c.type_inv.b i)) (omega arith) in record {
      few = omega arith;
      same = rw (c.from.ensures, check_next b i (omega arith), c.loop-i.invariant.same);
    }

pub returns : goal.returns
returns c =
    let e : c.loop-i.i ≡ length c.args.b.now = omega arith in
    rw (e, take_all (length c.args.b.now) c.args.b.now (omega arith)) at c.loop-i.invariant.same
