-- The alternatives of y take the places behind those of x.
use Rattle.std.proofs.Common.{◌≡◌, ◌+◌, ◌-◌, ◌++◌, length, refl, ap, ◌∙◌, arith}
use Rattle.std.proofs.lemmas.Slice.{take-put_mid}
use borrow.Rule.Slice.PartMut.{same_len_mid}
use Rattle.rules.proofs.ListLaws.{all_append}
use Rattle.sizing.specs.Forms.{form_in}
use Rattle.sizing.proofs.RightLaws.{form_length}
use Rattle.sizing.proofs.forms.append.Goals as goal

pub returns : goal.returns
returns c =
    let x = c.args.x.now in
    let y = c.args.y.now in
    let rx = c.requires.0 in
    let ry = c.requires.1 in
    let part = c.copy_from_slice.new.self in
    let copied : part ≡ form_in y = c.copy_from_slice.ensures.after in
    let n = form_length y ry in
    let lx = rx.long in
    let long = same_len_mid x.count (x.count + y.count - x.count) x.alternatives part c.copy_from_slice.ensures.len ∙ rx.long in
    let some : x.count + y.count ≡ x.count + length part = rw copied (omega arith) in
    let same = take-put_mid x.count (x.count + y.count - x.count) x.alternatives part (x.count + y.count) some
    (let f = c.requires.2 in omega arith)
    ∙ ap (λ z. form_in x ++ z) copied in
    (record { few = c.requires.2; long = long; wide = rw same (all_append rx.wide ry.wide) }, refl, same)
