-- What is left of the check reads the bytes that follow, for the types still to be read.
use native.Mathlib.Omega.{arith}
use Rattle.arguments.proofs.ReadingLaws.{head_arity, parameters_put, reading_next, reading_stop, reading_short, reading_whole}
use Rattle.arguments.proofs.ReadingLaws.{arguments_long}
use Rattle.arguments.proofs.ReadingLaws.{arguments_read}
use borrow.Author.Rules.{rules}
use Rattle.arguments.proofs.checking.check_arguments.Goals as goal

pub returns-then-bytes-gt65535 : goal.returns-then-bytes-gt65535
returns-then-bytes-gt65535 c = arguments_long _ _ _ _ c.if-bytes-gt65535.true

pub loop-i-init : goal.loop-i-init
loop-i-init c =
    let p = c.arguments_of-parameters.ensures in
    let few = (head_arity _ c.args.head c.requires.head_there _ c.declaration-d.ensures).1 in
    parameters_put _ c.args.head c.requires.head_there _ c.declaration-d.ensures _ _ _
    (search rules) p.types c.copy_from_slice.ensures.after
    _ _ (omega (arith, p.count, few)) (omega (arith, p.count, few))

pub returns-in_default : goal.returns-in_default
returns-in_default c =
    let l = c.loop-i in
    arguments_read _ _ c.args.head _ c.if-bytes-gt65535.false
    (reading_stop _ _ _ l.i l.types l.at l.invariant (omega arith) _ _ c.from.ensures c.in_default.ensures)

pub loop-i-preserved : goal.loop-i-preserved
loop-i-preserved c =
    let l = c.loop-i in
    reading_next _ _ _ l.i l.types l.at l.invariant (omega arith) _ _ c.from.ensures c.in-Some.ensures c.read_byte.array_long

pub returns-then-at-lt256 : goal.returns-then-at-lt256
returns-then-at-lt256 c =
    let l = c.loop-i in
    arguments_read _ _ c.args.head _ c.if-bytes-gt65535.false
    (reading_short _ _ _ l.i l.types l.at l.invariant (omega arith) c.if-at-lt256.true)

pub returns : goal.returns
returns c =
    let l = c.loop-i in
    arguments_read _ _ c.args.head _ c.if-bytes-gt65535.false
    (reading_whole _ _ _ l.i l.types l.at l.invariant (omega arith) c.if-at-lt256.false)
