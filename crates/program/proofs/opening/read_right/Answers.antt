-- `read_right` meets its contract: the record where it is cut short, where it is not right, and where it is.
use Rattle.std.proofs.Common.{ℕ, ap, sym, arith, refl, ◌∙◌}
use Rattle.rules.specs.Container.{payload}
use Rattle.program.proofs.OpenLaws.{record_cut, record_bad, record_good}
use Rattle.program.proofs.opening.read_right.Goals as goal

pub returns-then-n-at-clause-says : goal.returns-then-n-at-clause-says
returns-then-n-at-clause-says g c = λ test says.
    let right = λ (x : ℕ). test (g.R.Record.record_at (payload c.args.file.now) x) in
    sym (record_cut c.requires.measured g.R.Record.SIZE right refl (omega arith))

pub returns-then-not-right-clause-says : goal.returns-then-not-right-clause-says
returns-then-not-right-clause-says g c = λ test says.
    let right = λ (x : ℕ). test (g.R.Record.record_at (payload c.args.file.now) x) in
    sym (record_bad c.requires.measured g.R.Record.SIZE right refl (omega arith)
    (says c.read-record.result c.right.result c.right.ensures ∙ ap test c.read-record.ensures) c.if-not-right.true)

pub returns : goal.returns
returns g c =
    record {
      says = λ test says. sym (record_good c.requires.measured g.R.Record.SIZE (λ x. test (g.R.Record.record_at
          (payload c.args.file.now) x)) refl (omega arith)
          (says c.read-record.result c.right.result c.right.ensures ∙ ap test c.read-record.ensures) c.if-not-right.false);
      read = (c.read-record.ensures, omega arith);
    }
