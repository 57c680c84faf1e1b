-- `lines::index::Index::known_code` meets its contract: what has a code is marked with it. Assumes nothing.
use Rattle.std.proofs.Common.{◌∙◌, take}
use Rattle.rules.specs.Lines.{entries, code}
use Rattle.lines.proofs.ScanLaws.{code_line, code_marked, some_of}
use Rattle.lines.proofs.index.Index.known_code.Goals as goal

pub number-requires : goal.number-requires
number-requires c =
    let index = c.args.self.now in
    code_line (entries index.table.now) c.args.text.now index.marked c.requires

pub returns : goal.returns
returns c =
    let index = c.args.self.now in
    let es = entries index.table.now in
    let text = c.args.text.now in
    let (v, is) = some_of (code es (take 4 text)) c.requires in
    let e = rw (code_marked es text index.marked c.requires c.number.ensures.0 ∙ is) at c.unwrap_or.ensures in
    rw e is
