-- The first pass that refuses gives the refusal, and where none does the program is accepted.
use Rattle.std.proofs.Common.{refl, sym}
use Rattle.rules.proofs.CheckLaws.{refused_records, refused_declarations, refused_bounds, refused_flow, refused_types, refused_sizes}
use Rattle.blocks.proofs.VerifyLaws.{verified_measured, verified_refused}
use Rattle.verifier.proofs.ExamineLaws.{not_verified, declared_passed, flow_passed, types_passed, sizes_passed}
use Rattle.verifier.proofs.ExamineLaws.{refused_examined, accepted_examined}
use Rattle.verifier.proofs.examine.Goals as goal

pub returns-in_err-n : goal.returns-in_err-n
returns-in_err-n c =
    refused_examined c.in_err-n.field-0.0 c.from_residual.ensures.1
    (not_verified c.args.file.now (verified_refused c.args.file.now c.in_err-n.ensures refl))

pub open-requires : goal.open-requires
open-requires c = verified_measured c.args.file.now c.in_ok-n.ensures refl

pub returns-in_err-layout : goal.returns-in_err-layout
returns-in_err-layout c =
    let o = verified_measured c.args.file.now c.in_ok-n.ensures refl in
    refused_examined c.in_err-layout.field-0.0 c.from_residual-in_err-layout.ensures.1
    (refused_records o.verified (sym c.in_err-layout.ensures.says))

pub returns-in_err-declared : goal.returns-in_err-declared
returns-in_err-declared c =
    let l = c.in_ok-layout.ensures.program in
    refused_examined c.in_err-declared.field-0.0 c.from_residual-in_err-declared.ensures.1
    (refused_declarations l.headed.parsed (sym c.in_err-declared.ensures))

pub returns-in_err-bounded : goal.returns-in_err-bounded
returns-in_err-bounded c =
    let l = c.in_ok-layout.ensures.program in
    refused_examined c.in_err-bounded.field-0.0 c.from_residual-in_err-bounded.ensures.1
    (refused_bounds l.headed.parsed (sym c.in_ok-declared.ensures) (sym c.in_err-bounded.ensures))

pub returns-in_err-flows : goal.returns-in_err-flows
returns-in_err-flows c =
    let d = declared_passed c.in_ok-layout.ensures.program c.in_ok-declared.ensures c.in_ok-bounded.ensures in
    refused_examined c.in_err-flows.field-0.0 c.from_residual-in_err-flows.ensures.1
    (refused_flow d (sym c.in_err-flows.ensures))

pub types-requires : goal.types-requires
types-requires c = (
  flow_passed c.in_ok-layout.ensures.program c.in_ok-declared.ensures c.in_ok-bounded.ensures c.in_ok-flows.ensures,
  c.in_ok-layout.ensures.program,
)

pub returns-in_err-types : goal.returns-in_err-types
returns-in_err-types c =
    let f = flow_passed c.in_ok-layout.ensures.program c.in_ok-declared.ensures c.in_ok-bounded.ensures c.in_ok-flows.ensures in
    refused_examined c.in_err-types.field-0.0 c.from_residual-in_err-types.ensures.1
    (refused_types f (sym c.in_err-types.ensures))

pub sizes-requires : goal.sizes-requires
sizes-requires c = (
  types_passed c.in_ok-layout.ensures.program c.in_ok-declared.ensures c.in_ok-bounded.ensures c.in_ok-flows.ensures
      c.in_ok-types.ensures,
  c.in_ok-layout.ensures.program,
)

pub returns-in_err-sizes : goal.returns-in_err-sizes
returns-in_err-sizes c =
    let t = types_passed c.in_ok-layout.ensures.program c.in_ok-declared.ensures c.in_ok-bounded.ensures c.in_ok-flows.ensures
    c.in_ok-types.ensures in
    refused_examined c.in_err-sizes.field-0.0 c.from_residual-in_err-sizes.ensures.1
    (refused_sizes t (sym c.in_err-sizes.ensures))

pub returns : goal.returns
returns c =
    let l = c.in_ok-layout.ensures.program in
    accepted_examined l (sizes_passed l c.in_ok-declared.ensures c.in_ok-bounded.ensures c.in_ok-flows.ensures
    c.in_ok-types.ensures c.in_ok-sizes.ensures)
