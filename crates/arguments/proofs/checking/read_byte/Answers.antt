-- Each test is one of the rule for a byte.
use mathlib.Core.Logic.{⊎_elim}
use native.Mathlib.Omega.{arith}
use mathlib.Core.Path.{refl}
use Rattle.arguments.proofs.ReadingLaws.{read_end, read_unknown, read_type, read_many, byte_unknown, declaration_there}
use Rattle.arguments.proofs.ReadingLaws.{declared_arity, declared, byte_right}
use Rattle.arguments.proofs.checking.read_byte.Goals.{then-d-types-via-then-d-types, then-d-types-via-else-d-types+then-arguments-at}
use Rattle.arguments.proofs.checking.read_byte.Goals as goal

pub returns-then-at-ge256 : goal.returns-then-at-ge256
returns-then-at-ge256 c = ⊎_elim
    (λ h. read_end _ _ _ _ (omega arith))
    (λ h. read_unknown _ _ _ _ c.told-types h.0 (byte_unknown c.requires.parsed c.args.c c.args.known c.requires.at_bound.1 h.1))
    c.then-at-ge256.either

pub constructor_declaration-d-requires : goal.constructor_declaration-d-requires
constructor_declaration-d-requires c =
    declaration_there c.requires.parsed c.args.c c.args.known c.requires.at_bound.1 c.if-c-known.false

pub arguments_of-arguments-requires : goal.arguments_of-arguments-requires
arguments_of-arguments-requires c =
    let d = c.constructor_declaration-d in
    (declared_arity c.requires.parsed c.args.c c.args.known c.requires.at_bound.1 c.if-c-known.false d.result d.ensures).1

pub returns-then-d-types : goal.returns-then-d-types
returns-then-d-types c =
    let d = c.constructor_declaration-d in
    let r = declared c.requires.parsed c.args.c c.args.known c.requires.at_bound.1 c.if-c-known.false d.result d.ensures in
    let l = c.if-at-ge256.false in
    elim c.then-d-types.branch [
      | then-d-types-via-then-d-types w ↦ read_type _ _ _ _ c.told-types l _ r w.if-d-types.true
      | then-d-types-via-else-d-types+then-arguments-at w ↦ read_many _ _ _ _ c.told-types l _ r w.if-d-types.false
          (rw c.arguments_of-arguments.ensures.types at w.if-arguments-at.true)
    ]

pub returns : goal.returns
returns c =
    let d = c.constructor_declaration-d in
    let p = c.arguments_of-arguments.ensures in
    rw c.put_few.ensures
    (byte_right c.requires.parsed c.args.c c.args.known c.requires.at_bound.1 c.if-c-known.false d.result d.ensures
    c.args.at c.args.types.now c.told-types c.if-at-ge256.false c.if-d-types.false p.types refl
    _ _ (omega arith) refl)
