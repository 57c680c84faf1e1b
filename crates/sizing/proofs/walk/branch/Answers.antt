-- What `branch_variable` says of the state, for the constructor that is read.
use Rattle.std.proofs.Common.{◌≡◌, None, ap, ◌∙◌, arith}
use Rattle.rules.specs.Container.{payload}
use Rattle.rules.specs.Records.{declaration_at, constructor_offset}
use Rattle.std.specs.Prelude.{Option, Some, MatchOption, IsSomeAnd}
use Rattle.std.specs.Option.{option_map}
use Rattle.std.proofs.Common.{rules}
use Rattle.sizing.specs.declared.paths.Saved.{Saved}
use Rattle.sizing.proofs.MoveLaws.{move_constructor, move_short, move_branch_asks, said_branch_large, said_branch}
use Rattle.sizing.proofs.walk.branch.Goals.{After-constructor_declaration-d}
use Rattle.sizing.proofs.walk.branch.Goals as goal

option_mapped : {A B : Type 0} (h : A → B) (o : Option A) {r : Option B} (P : A → B → Type 0) → ((x : A) (y : B) → P x y → y ≡ h x)
    → MatchOption o (r ≡ None) (λ x. IsSomeAnd r (P x)) → r ≡ option_map h o
option_mapped h None P e m = m
option_mapped h (Some x) {r = None} P e m = absurd m
option_mapped h (Some x) {r = Some y} P e m = ap Some (e x y m)

pub constructor_declaration-d-requires : goal.constructor_declaration-d-requires
constructor_declaration-d-requires c =
    let p = c.requires.1 in
    (p.function.walking.records.verified, rw c.from.ensures (move_constructor p))

-- what is read of the constructor
is : (c : After-constructor_declaration-d) → let a = c.args in
    c.constructor_declaration-d.result ≡ declaration_at (payload a.file.now) (constructor_offset a.c)
is c =
    c.constructor_declaration-d.ensures
    ∙ ap (λ k. declaration_at (payload c.args.file.now) (constructor_offset k)) c.from.ensures

pub branch_variable-requires : goal.branch_variable-requires
branch_variable-requires c = move_branch_asks c.requires.1 (is c)

pub returns-in_default : goal.returns-in_default
returns-in_default c =
    said_branch_large c.requires.1 (is (goal.at.returns-in_default c).After-constructor_declaration-d) c.in_default.ensures

pub overflow_add-result : goal.overflow_add-result
overflow_add-result c = omega (arith, move_short c.requires.1)

pub returns : goal.returns
returns c =
    rw (option_mapped (λ (x : Saved). (c.args.b, x)) c.in-Some.r.other _ (λ x y k. search rules) c.map.ensures.cases)
    (said_branch c.requires.1 (is (goal.at.returns c).After-constructor_declaration-d) c.in-Some.ensures)
