-- `report::line::put_number` meets its contract: a space, and behind it what the kit spells, which is the number in decimal. Assumes
-- nothing.
use native.Mathlib.Omega.{arith}
use Rattle.report.proofs.LineLaws.{few_digits, number_long, number_put}
use Rattle.report.proofs.line.put_number.Goals as goal

pub returns : goal.returns
returns c =
    let spelt = c.decimal-count in
    let first = c.put-behind in
    let second = c.put in
    let few = few_digits _ _ spelt.ensures.len (omega (arith, c.ranges.n)) in
    let e = number_put _ c.args.at c.args.n spelt.result spelt.ensures.len few spelt.ensures.digits c.requires
    first.ensures.value first.ensures.line_after second.ensures.line_after in record {
      value = number_long c.args.at c.args.n spelt.result spelt.ensures.len few spelt.ensures.in_bounds.1 spelt.ensures.digits
          first.ensures.value second.ensures.value;
      line_after = e;
    }
