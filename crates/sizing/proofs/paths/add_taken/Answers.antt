-- The split stands behind those before it.
use Rattle.std.proofs.Common.{ℕ, ◌+◌, refl, ap, arith, length-set, ◌∙◌}
use Rattle.sizing.specs.States.{splits_in}
use Rattle.sizing.proofs.ListLaws.{take_stored}
use Rattle.sizing.proofs.paths.add_taken.Goals as goal

pub returns : goal.returns
returns c =
    let s = c.args.st.now.splits in
    let l = c.requires.1 in
    record {
      count = ap (λ (k : ℕ). c.args.st.now.count + k) c.from.ensures;
      height = refl;
      stack = refl;
      taken = refl;
      splits = take_stored s.list (splits_in c.args.st.now) s.taken c.args.p (omega arith) refl;
      long = length-set s.list s.taken c.args.p ∙ l;
    }
