-- `all` looks at each field past the arity.
use Rattle.std.proofs.Common.{rules, tests, take, drop, arith, take_all, ◌≡◌, ◌-◌, length-drop}
use Rattle.std.proofs.lemmas.Iterator.{YieldsList-from_slice}
use Rattle.std.proofs.lemmas.Iterator.Search.{all_from_yields_List}
use Rattle.rules.specs.Base.{is_zero}
use borrow.Author.Tests.{le-leb}
use Rattle.ranges.proofs.past_zero.Goals as goal

pub returns-then-n-le4 : goal.returns-then-n-le4
returns-then-n-le4 c =
    let past = drop c.from.result c.args.four in
    let whole : take (4 - c.from.result) past ≡ past = take_all _ _ (simp length-drop (omega (arith, c.well_formed))) in
    rw (le-leb c.args.n 4 c.if-n-le4.true)
    (all_from_yields_List is_zero _ _ c.all.result c.all.ensures.ran (YieldsList-from_slice (drop c.args.n c.args.four) cc)
    (λ x b q k. search (rules, tests)))
