use native.Mathlib.Omega.{arith}
use Rattle.steps.proofs.OneLaws.{fetch_there, load_ready, load_stepped, build_ready, build_stepped, branch_ready}
use Rattle.steps.proofs.OneLaws.{branch_ready_same, branch_ready_other, branch_stepped, call_stepped, return_stepped, stop_stepped}
use Rattle.steps.proofs.steps.one.Goals as goal

pub fetch-f-requires : goal.fetch-f-requires
fetch-f-requires c =
    let ready = c.requires.0 in
    fetch_there _ ready.parsed _ _ _ _ _ _ ready.standing

pub load-requires : goal.load-requires
load-requires c =
    let word = c.fetch-f.ensures in
    let x = load_ready _ _ _ _ _ c.requires.0 c.requires.1 word.0 c.in-1.is in
    let lent = c.requires.0.lent in
    let laid = c.requires.0.standing.laid in
    (x.0, x.1, laid.places, lent.stack_room, lent.few_places)

pub build-requires : goal.build-requires
build-requires c =
    let word = c.fetch-f.ensures in
    let x = build_ready _ _ _ _ _ c.requires.0 c.requires.1 word.0 c.in-2.is in
    ((c.requires.0.parsed, x.0), c.requires.0.lent, x.1, c.requires.0.standing.laid.places)

pub branch-file-requires : goal.branch-file-requires
branch-file-requires c =
    let word = c.fetch-f.ensures in
    let key = c.in-4.is in
    let x = branch_ready _ _ _ _ _ c.requires.0 c.requires.1 word.0 key in
    record {
      lent = (c.requires.0.lent, x.0, c.requires.0.standing.laid.places, x.1);
      parsed = branch_ready_same _ _ _ _ _ c.requires.0 c.requires.1 word.0 key;
      b_nonzero = branch_ready_other _ _ _ _ _ c.requires.0 c.requires.1 word.0 key;
    }

pub returns-in-1 : goal.returns-in-1
returns-in-1 c =
    let word = c.fetch-f.ensures in
    load_stepped _ _ _ _ _ c.requires.0 c.requires.1 word.0 c.in-1.is _ word.1 word.2
    c.load.ensures

pub returns-in-2 : goal.returns-in-2
returns-in-2 c =
    let word = c.fetch-f.ensures in
    build_stepped _ _ _ _ _ c.requires.0 c.requires.1 word.0 c.in-2.is
    _ word.1 word.2 c.build.ensures

pub returns-in-3 : goal.returns-in-3
returns-in-3 c =
    let word = c.fetch-f.ensures in
    call_stepped _ _ _ _ _ c.requires.0 c.requires.1 word.0 c.in-3.is

pub returns-in-4 : goal.returns-in-4
returns-in-4 c =
    let word = c.fetch-f.ensures in
    branch_stepped _ _ _ _ _ c.requires.0 c.requires.1 word.0 c.in-4.is _ word.1
    word.2 c.branch-file.ensures

pub returns-in-5 : goal.returns-in-5
returns-in-5 c =
    let word = c.fetch-f.ensures in
    return_stepped _ _ _ _ _ c.requires.0 c.requires.1 word.0 c.in-5.is

pub returns-in_default : goal.returns-in_default
returns-in_default c =
    let word = c.fetch-f.ensures in
    stop_stepped _ _ _ _ _ c.requires.0 c.requires.1 word.0
    (λ e. omega arith) (λ e. omega arith) (λ e. omega arith) (λ e. omega arith) (λ e. omega arith)
