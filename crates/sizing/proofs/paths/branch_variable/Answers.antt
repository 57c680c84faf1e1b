-- One law for each way out.
use Rattle.std.proofs.Common.{ℕ, ◌+◌, ◌-◌, refl, sym, ap, ◌∙◌, arith}
use Rattle.sizing.specs.Steps.{top_of}
use Rattle.sizing.specs.States.{splits_in}
use Rattle.sizing.proofs.StateLaws.{found_none}
use Rattle.sizing.proofs.StepLaws.{branch_taken, branch_other, branch_over, branch_split}
use Rattle.sizing.proofs.paths.branch_variable.Goals as goal

pub push_parts-requires : goal.push_parts-requires
push_parts-requires c =
    let q = c.requires.each c.in-Some.p (sym c.in-Some.ensures) c.if-p-c.true in
    (c.requires.some, c.requires.fits, q.1, c.requires.long)

pub returns-then-p-c : goal.returns-then-p-c
returns-then-p-c c =
    let st = c.args.st.now in
    let pre = c.requires in
    let p = c.in-Some.p in
    let fd = sym c.in-Some.ensures in
    let e = c.push_parts.ensures in
    let q = pre.each p fd c.if-p-c.true in
    λ s n f i b k r known pn.
    let fits = pre.fits in
    let some = pre.some in
    let hi = e.1 in
    let x = branch_taken s n f st r some i b c.args.c k known p fd c.push_parts.result c.if-p-c.true e.0 (omega arith) (rw q.0 e.2) in
    record { goes = x.0; next = (x.1, e.1); other = tt }

pub returns-in-Some : goal.returns-in-Some
returns-in-Some c =
    let pre = c.requires in
    λ s n f i b k r known pn.
    record {
      goes = branch_other s n f c.args.st.now r pre.some i b c.args.c k known c.in-Some.p (sym c.in-Some.ensures) c.if-p-c.false;
      next = tt;
      other = (r, refl);
    }

pub returns-then-st-from-gt16 : goal.returns-then-st-from-gt16
returns-then-st-from-gt16 c =
    let pre = c.requires in
    let o = c.if-st-from-gt16.true in
    let w = c.from.ensures in
    λ s n f i b k r known pn.
    branch_over s n f c.args.st.now r pre.some i b c.args.c k known (sym c.in_default.ensures) (omega arith)

pub add_taken-more-requires : goal.add_taken-more-requires
add_taken-more-requires c =
    let w = c.from.ensures in
    let o = c.if-st-from-gt16.false in
    (c.requires.room (found_none (top_of c.args.st.now) (splits_in c.args.st.now) (sym c.in_default.ensures)), c.requires.list, omega arith)

pub returns : goal.returns
returns c =
    let st = c.args.st.now in
    let pre = c.requires in
    let e = c.push_parts-2.ensures in
    let a = c.add_taken-more.ensures in
    let hi = e.1 in
    let ah = a.height in
    let o = c.if-st-from-gt16.false in
    let w = c.from.ensures in
    λ s n f i b k r known pn.
    let fits = pre.fits in
    let some = pre.some in
    let fd = sym c.in_default.ensures in
    let room = pre.room (found_none (top_of st) (splits_in st) fd) in
    let x = branch_split s n f st r some i b c.args.c k known fd
    (record {
      variable = top_of st;
      constructor = c.args.c;
      first = st.count;
      parts = c.args.parts;
    })
    c.add_taken-more.result c.push_parts-2.result refl refl refl pn (omega arith) room a e.0 (omega arith)
    (rw (a.height, a.stack) at e.2) in
    record {
      goes = x.0;
      next = (x.1, e.1 ∙ ap (λ (h : ℕ). h - 1 + c.args.parts) a.height);
      other = (r, refl);
    }
