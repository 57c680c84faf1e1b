-- `lines::text::write` meets its contract: so many lines are written, whatever their codes are. Assumes nothing.
use Rattle.std.proofs.Common.{◌≡◌, ◌/◌, length, arith}
use Rattle.std.proofs.lemmas.List.{take_rest}
use Rattle.rules.specs.Lines.{entries}
use Rattle.lines.proofs.ScanLaws.{line_coded}
use Rattle.lines.proofs.WrittenLaws.{writing_start, writing_next, writing_end}
use Rattle.lines.proofs.text.write.Goals as goal

pub loop-i-init : goal.loop-i-init
loop-i-init c = writing_start (entries c.args.index.now.table.now) c.args.text.now c.args.cons c.args.nil c.args.out.now c.requires.1

pub known_code-requires : goal.known_code-requires
known_code-requires c = rw take_rest (line_coded
    (entries c.args.index.now.table.now) c.args.text.now c.requires.0 c.loop-i.i c.loop-i-test.true)

pub loop-i-preserved : goal.loop-i-preserved
loop-i-preserved c =
    let a = c.args in
    writing_next (entries a.index.now.table.now) a.text.now a.cons a.nil a.out.now c.loop-i.invariant c.loop-i-test.true
    (rw take_rest at c.known_code.ensures)

pub returns : goal.returns
returns c =
    let a = c.args in
    let e : c.loop-i.i ≡ length a.text.now / 4 = omega arith in
    rw (← e) (writing_end (entries a.index.now.table.now) a.text.now a.cons a.nil a.out.now c.loop-i.invariant e)
