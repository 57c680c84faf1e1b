-- The first i parts are pushed.
use Rattle.std.proofs.Common.{◌≡◌, ◌+◌, ◌-◌, take, refl, sym, ◌∙◌, append-nil, arith, length-set}
use Rattle.std.proofs.Math.Nat.{add-zero}
use Rattle.sizing.proofs.StateLaws.{parts_next, up_none}
use Rattle.sizing.proofs.paths.push_parts.Goals as goal

pub loop-i-init : goal.loop-i-init
loop-i-init c = record {
  same = record { count = refl; splits = refl; long = c.requires.3 };
  pushed = rw (add-zero (c.args.st.now.height - 1), up_none c.args.first)
      (sym (append-nil (take (c.args.st.now.height - 1) c.args.st.now.stack)));
}

pub loop-i-preserved : goal.loop-i-preserved
loop-i-preserved c =
    let l = c.loop-i in
    let q = l.invariant.same in
    let base = c.args.st.now.height - 1 in
    let z = q.long in
    record {
      same = record {
        count = q.count;
        splits = q.splits;
        long = length-set l.r.stack (base + c.from.result) (c.args.first + l.i)
            ∙ q.long;
      };
      pushed = rw c.from.ensures (parts_next l.r.stack (take base c.args.st.now.stack) base c.args.first l.i
          (omega arith) l.invariant.pushed);
    }

pub returns : goal.returns
returns c =
    let l = c.loop-i in
    let q = l.invariant.same in
    let e : l.i ≡ c.args.parts = omega arith in (
      record { count = q.count; splits = q.splits; long = q.long },
      rw c.from-2.ensures refl,
      rw c.from-2.ensures
          (rw e at l.invariant.pushed),
    )
