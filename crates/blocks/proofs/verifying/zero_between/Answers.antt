-- `blocks::verifying::zero_between` meets its contract: `all` looks at each byte of the part. Assumes nothing.
use Rattle.std.proofs.Common.{rules, tests, arith, ◌≡◌, ◌≤◌, ◌+◌, ◌-◌, ℕ, List, drop, take, ◌∙◌}
use Rattle.std.proofs.lemmas.Iterator.{YieldsList-from_slice}
use Rattle.std.proofs.lemmas.Iterator.Search.{all_from_yields_List}
use Rattle.std.proofs.lemmas.List.{drop-take}
use Rattle.rules.specs.Base.{is_zero}
use Rattle.blocks.proofs.verifying.zero_between.Goals as goal

-- a range of a list, counted from its start and from the list's
part : (a z : ℕ) (b : List ℕ) → a ≤ z → take (z - a) (drop a b) ≡ drop a (take z b)
part a z b h = let e : a + (z - a) ≡ z = omega arith in rw (← drop-take a (z - a) b, e)

pub returns : goal.returns
returns c =
    let same = c.iter.ensures.rest ∙ part c.args.from c.args.to c.args.b.now c.requires.0 in
    all_from_yields_List is_zero _ _ c.all.result c.all.ensures.ran (YieldsList-from_slice _ same) (λ x b q k. search (rules, tests))
