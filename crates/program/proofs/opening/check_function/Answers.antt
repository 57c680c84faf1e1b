-- `check_function` meets its contract: head, alternatives and code one after the other, each answer by what was checked before it.
use Rattle.std.proofs.Common.{arith, rules, tests}
use Rattle.std.proofs.lemmas.Result.{err_from_is_err_and}
use Rattle.rules.specs.declared.records.InstructionRecord.{InstructionRecord}
use Rattle.rules.specs.Container.{payload}
use Rattle.rules.specs.Records.{head_right, alternative_right, operation, is_some}
use Rattle.program.proofs.OpenLaws.{placed_head, placed_alternatives, placed_code}
use Rattle.program.proofs.opening.check_function.Goals as goal

pub returns-in_err-h-clause-says : goal.returns-in_err-h-clause-says
returns-in_err-h-clause-says c =
    let p = err_from_is_err_and c.from_residual.result c.from_residual.ensures.1 in
    rw (p.1, p.2) (placed_head (payload c.args.file.now) c.args.at
    (c.in_err-h.ensures.says head_right (λ r t k. search (rules, tests))))

pub returns-in_err-check_each-clause-says : goal.returns-in_err-check_each-clause-says
returns-in_err-check_each-clause-says c =
    let r = c.from_residual-in_err-check_each in
    let p = err_from_is_err_and r.result r.ensures.1 in
    rw (p.1, p.2) (placed_alternatives (payload c.args.file.now) c.args.at (c.in_ok-h.ensures.says head_right (λ r t k. search
    (rules, tests))) c.in_ok-h.ensures.read.0
    c.from.ensures (omega arith)
    (c.in_err-check_each.ensures (alternative_right c.in_ok-h.h.declaration.arity) (λ r t k. search (rules, tests))))

pub returns-in_err-check_each-2-clause-says : goal.returns-in_err-check_each-2-clause-says
returns-in_err-check_each-2-clause-says c =
    let r = c.from_residual-in_err-check_each-2 in
    let p = err_from_is_err_and r.result r.ensures.1 in
    rw (p.1, p.2) (placed_code (payload c.args.file.now) c.args.at (c.in_ok-h.ensures.says head_right (λ r t k. search
    (rules, tests))) c.in_ok-h.ensures.read.0
    c.from.ensures (omega arith)
    (c.in_ok-check_each.ensures (alternative_right c.in_ok-h.h.declaration.arity) (λ r t k. search (rules, tests)))
    c.from-2.ensures c.alternative_offset-base.ensures
    (c.in_err-check_each-2.ensures (λ (r : InstructionRecord). is_some (operation r)) (λ r t k. search (rules, tests))))

pub returns-clause-says : goal.returns-clause-says
returns-clause-says c =
    placed_code (payload c.args.file.now) c.args.at (c.in_ok-h.ensures.says head_right (λ r t k. search
    (rules, tests))) c.in_ok-h.ensures.read.0
    c.from.ensures (omega arith)
    (c.in_ok-check_each.ensures (alternative_right c.in_ok-h.h.declaration.arity) (λ r t k. search (rules, tests)))
    c.from-2.ensures c.alternative_offset-base.ensures
    (c.in_ok-check_each-2.ensures (λ (r : InstructionRecord). is_some (operation r)) (λ r t k. search (rules, tests)))
