-- By the invariant that the words so far stand at the front.
use Rattle.std.proofs.Common.{arith, ◌≡◌}
use Rattle.words.proofs.WordLaws.{fronted_none, fronted_next, all_fronted, none_fronted}
use Rattle.words.proofs.put_words.Goals as goal

pub returns-then-answer-n : goal.returns-then-answer-n
returns-then-answer-n c = none_fronted _ _ c.args.n (omega (arith, c.requires, c.well_formed)) c.if-answer-n.true

pub loop-i-init : goal.loop-i-init
loop-i-init c = fronted_none c.args.words _

pub loop-i-preserved : goal.loop-i-preserved
loop-i-preserved c = fronted_next _ _ c.loop-i.invariant (omega (arith, c.well_formed, c.requires)) c.put_word.ensures

pub returns : goal.returns
returns c =
    let e : c.loop-i.i ≡ c.args.n = omega arith in
    all_fronted _ _ c.args.n (rw e at c.loop-i.invariant) (omega (arith, c.well_formed, c.requires)) c.if-answer-n.false
