-- `lines::lines` meets its contract: a wrong table, the first wrong line, then the room. Assumes nothing.
use Rattle.std.proofs.Common.{◌≡◌, ◌∙◌, length, sym}
use Rattle.std.proofs.lemmas.Result.{err_from_is_err_and}
use Rattle.rules.specs.Base.{refused, refusal}
use Rattle.rules.specs.Lines.{entries, text_lines, codes, lines_of}
use Rattle.rules.specs.Memory.{copied_into}
use Rattle.rules.proofs.TriedLaws.{only_refused}
use Rattle.lines.proofs.WrittenLaws.{lines_alike, lines_table, lines_refused, lines_listed}
use Rattle.lines.proofs.lines.Goals.{then-cons-nil-via-then-cons-nil, then-cons-nil-via-else-cons-nil+then-not-right}
use Rattle.lines.proofs.lines.Goals as goal

pub returns-then-cons-nil : goal.returns-then-cons-nil
unfolding copied_into
returns-then-cons-nil c =
    let a = c.args in
    let room = length a.out.now in
    let e : lines_of a.text.now a.table.now a.cons a.nil room ≡ refused (refusal 19 0 0) = elim c.then-cons-nil.branch [
      | then-cons-nil-via-then-cons-nil w ↦ lines_alike a.text.now a.table.now a.cons a.nil room w.if-cons-nil.true
      | then-cons-nil-via-else-cons-nil+then-not-right w ↦
          lines_table a.text.now a.table.now a.cons a.nil room (sym w.right.ensures ∙ w.if-not-right.true)
    ] in
    (rw e, rw e)

pub deliver-requires : goal.deliver-requires
deliver-requires c = sym c.in_ok-scan.ensures

pub returns-in_err-scan : goal.returns-in_err-scan
unfolding copied_into
returns-in_err-scan c =
    let a = c.args in
    let stops = rw c.new-index.ensures at c.in_err-scan.ensures in
    let right = sym c.right.ensures ∙ c.if-not-right.false in
    let e = lines_refused a.text.now a.table.now a.cons a.nil (length a.out.now) right c.if-cons-nil.false
    (only_refused (codes (entries a.table.now) 1 (text_lines a.text.now)) (sym stops)) in
    let p = err_from_is_err_and c.from_residual.result c.from_residual.ensures.1 in
    (rw (p.1, p.2, e), rw e)

pub returns : goal.returns
returns c =
    let a = c.args in
    let right = sym c.right.ensures ∙ c.if-not-right.false in
    let e = lines_listed a.text.now a.table.now a.cons a.nil (length a.out.now) right c.if-cons-nil.false in
    rw (e, ← c.new-index.ensures) c.deliver.ensures
