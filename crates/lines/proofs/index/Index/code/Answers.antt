-- `lines::index::Index::code` meets its contract, in each of its four cases. Assumes nothing.
use Rattle.std.proofs.Common.{◌∙◌, sym}
use Rattle.rules.specs.Lines.{entries}
use Rattle.lines.proofs.ScanLaws.{code_short, code_letters, code_end, code_there}
use Rattle.lines.proofs.index.Index.code.Goals.{then-text-lt4-via-then-text-lt4, then-text-lt4-via-else-text-lt4+then-not-letters}
use Rattle.lines.proofs.index.Index.code.Goals.{then-text-lt4-via-else-text-lt4+else-not-letters+then-text-ne10}
use Rattle.lines.proofs.index.Index.code.Goals as goal

pub returns-then-text-lt4 : goal.returns-then-text-lt4
returns-then-text-lt4 c =
    let es = entries c.args.self.now.table.now in
    let text = c.args.text.now in
    elim c.then-text-lt4.branch [
      | then-text-lt4-via-then-text-lt4 w ↦ code_short es text w.if-text-lt4.true
      | then-text-lt4-via-else-text-lt4+then-not-letters w ↦ code_letters es text (sym w.letters.ensures ∙ w.if-not-letters.true)
      | then-text-lt4-via-else-text-lt4+else-not-letters+then-text-ne10 w ↦ code_end es text w.if-text-ne10.true
    ]

pub returns : goal.returns
returns c =
    let index = c.args.self.now in
    code_there (entries index.table.now) c.args.text.now index.marked c.if-text-lt4.false (sym c.letters.ensures ∙ c.if-not-letters.false)
    c.if-text-ne10.false c.number.ensures.0
