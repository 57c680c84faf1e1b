-- `open` meets its contract: the header, the constructors, the functions one after the other, and then the end of the payload.
use Rattle.std.proofs.Common.{arith, rules, tests, refl}
use Rattle.std.proofs.lemmas.Result.{err_from_is_err_and}
use Rattle.rules.specs.Records.{header_right, constructor_right}
use Rattle.program.proofs.OpenLaws.{scan_stop, scan_next}
use Rattle.program.proofs.OpenLaws.{open_header, open_few, open_constructors, open_first, open_functions, open_end, open_right, open_laid}
use Rattle.program.proofs.opening.open.Goals as goal

pub returns-in_err-header-clause-says : goal.returns-in_err-header-clause-says
returns-in_err-header-clause-says c =
    let p = err_from_is_err_and c.from_residual.result c.from_residual.ensures.1 in
    rw (p.1, p.2) (open_header c.requires (c.in_err-header.ensures.says header_right (λ r t k. search (rules, tests))))

pub returns-in_err-check_each-clause-says : goal.returns-in_err-check_each-clause-says
returns-in_err-check_each-clause-says c =
    let r = c.from_residual-in_err-check_each in
    let p = err_from_is_err_and r.result r.ensures.1 in
    rw (p.1, p.2) (open_constructors c.requires (c.in_ok-header.ensures.says header_right (λ r t k. search
    (rules, tests))) c.in_ok-header.ensures.read.0
    c.from.ensures c.constructor_offset-first.ensures
    (c.in_err-check_each.ensures constructor_right (λ r t k. search (rules, tests))))

pub loop-g-init : goal.loop-g-init
loop-g-init c =
    open_first c.requires (c.in_ok-header.ensures.says header_right (λ r t k. search (rules, tests))) c.in_ok-header.ensures.read.0
    c.from-2.ensures c.constructor_offset-at.ensures (omega arith) refl

pub bounds-heads-g : goal.bounds-heads-g
bounds-heads-g c =
    let few = open_few c.requires (c.in_ok-header.ensures.says header_right (λ r t k. search
    (rules, tests))) c.in_ok-header.ensures.read.0 in
    omega arith

pub returns-in_err-at-clause-says : goal.returns-in_err-at-clause-says
returns-in_err-at-clause-says c =
    let r = c.from_residual-in_err-at in
    let p = err_from_is_err_and r.result r.ensures.1 in
    rw (p.1, p.2) (open_functions c.requires (c.in_ok-header.ensures.says header_right (λ r t k. search
    (rules, tests))) c.in_ok-header.ensures.read.0
    c.from.ensures c.constructor_offset-first.ensures
    (c.in_ok-check_each.ensures constructor_right (λ r t k. search (rules, tests)))
    (scan_stop c.loop-g.invariant (omega arith) c.in_err-at.ensures.says))

pub loop-g-preserved : goal.loop-g-preserved
loop-g-preserved c =
    let few = open_few c.requires (c.in_ok-header.ensures.says header_right (λ r t k. search
    (rules, tests))) c.in_ok-header.ensures.read.0 in
    scan_next c.loop-g.invariant (omega arith) c.in_ok-at.ensures.says c.in_ok-at.ensures.behind few

pub returns-then-at-n-clause-says : goal.returns-then-at-n-clause-says
returns-then-at-n-clause-says c =
    open_end c.requires (c.in_ok-header.ensures.says header_right (λ r t k. search (rules, tests))) c.in_ok-header.ensures.read.0
    c.from.ensures c.constructor_offset-first.ensures
    (c.in_ok-check_each.ensures constructor_right (λ r t k. search (rules, tests)))
    c.loop-g.invariant (omega arith) c.if-at-n.true

pub returns : goal.returns
returns c = record {
  says = open_right c.requires (c.in_ok-header.ensures.says header_right (λ r t k. search (rules, tests))) c.in_ok-header.ensures.read.0
      c.from.ensures c.constructor_offset-first.ensures
      (c.in_ok-check_each.ensures constructor_right (λ r t k. search (rules, tests)))
      c.loop-g.invariant (omega arith) c.if-at-n.false;
  program = open_laid c.requires (c.in_ok-header.ensures.says header_right (λ r t k. search (rules, tests))) c.in_ok-header.ensures.read.0
      c.from.ensures c.constructor_offset-first.ensures
      (c.in_ok-check_each.ensures constructor_right (λ r t k. search (rules, tests)))
      c.loop-g.invariant (omega arith) c.if-at-n.false;
}
