-- The first i rows are done.
use mathlib.Core.Path.{◌≡◌, refl, sym, ap, ◌∙◌}
use mathlib.Core.List.{List, [], ◌∷◌, ◌++◌}
use Prim.Native.Nat.{ℕ, ◌+◌, ◌<◌}
use native.Mathlib.Omega.{arith}
use lib.ListN.{take, length-set}
use Rattle.rules.specs.declared.records.Alternative.{Alternative}
use Rattle.rules.specs.declared.records.AlternativeRecord.{AlternativeRecord}
use Rattle.rules.specs.Base.{numbered}
use Rattle.rules.specs.Container.{payload}
use Rattle.rules.specs.Records.{program_in}
use Rattle.rules.proofs.NumberedLaws.{numbered_all}
use Rattle.sizing.specs.declared.bounds.Bound.{Bound}
use Rattle.sizing.specs.declared.splits.Splits.{Splits}
use Rattle.sizing.specs.Put.{Wide, AllWide}
use Rattle.sizing.specs.Splits.{carried}
use Rattle.sizing.specs.Bounds.{rows_in, row_in}
use Rattle.sizing.specs.Steps.{own_row, own_after}
use Rattle.sizing.proofs.ListLaws.{take_stored, numbered_next}
use Rattle.sizing.proofs.SplitLaws.{carried_wide}
use Rattle.sizing.proofs.OwnLaws.{widened_wide}
use Rattle.sizing.proofs.line.own_form.Goals as goal

own_wide : (file : List ℕ) (b : Bound) (s : Splits) (n : ℕ) → AllWide (numbered (own_after file b s) 0 n)
own_wide file b s n = numbered_all (own_after file b s) n 0 (λ i l. wide (row_in (payload file) b (0 + i)))
  where
    wide : (row : AlternativeRecord) → Wide (carried (program_in file) (take s.taken s.list) (own_row row))
    wide row = carried_wide (program_in file) (take s.taken s.list) (own_row row) (widened_wide 0 row.coefficients row.constant)

pub loop-i-init : goal.loop-i-init
unfolding numbered
loop-i-init c = record { long = c.no_form-x.ensures.0.long; same = refl }

pub row_of-row-requires : goal.row_of-row-requires
row_of-row-requires c =
    let r = c.rows-n.ensures in
    (c.requires.0, c.requires.1.bound.there c.loop-i.i (omega (arith, c.loop-i-test.true)))

pub widen-requires : goal.widen-requires
widen-requires c =
    let r = c.rows-n.ensures in
    rw c.row_of-row.ensures (c.requires.1.bound.each c.loop-i.i (omega (arith, c.loop-i-test.true)))

pub carry-requires : goal.carry-requires
carry-requires c =
    let r = c.rows-n.ensures in
    let carrying = c.requires.1.carrying c.loop-i.i (omega (arith, c.loop-i-test.true)) in
    (c.requires.0, rw (c.widen.ensures, c.row_of-row.ensures) carrying)

pub bounds-x-i : goal.bounds-x-i
bounds-x-i c = let r = c.rows-n.ensures in let f = c.requires.1.bound.few in omega (arith, c.loop-i-test.true)

pub loop-i-preserved : goal.loop-i-preserved
loop-i-preserved c =
    let x = c.loop-i.x in
    let i = c.loop-i.i in
    let r = c.rows-n.ensures in
    let h : i < c.rows-n.result = c.loop-i-test.true in
    let f = c.requires.1.bound.few in
    let long = c.loop-i.invariant.long in
    let after = own_after c.args.file.now c.args.bound c.args.s.now in
    let is : c.carry.result ≡ after i = rw (c.widen.ensures, c.row_of-row.ensures) at c.carry.ensures in
    record {
      long = length-set x.alternatives i c.carry.result ∙ long;
      same = take_stored x.alternatives (numbered after 0 i) i c.carry.result (omega arith) c.loop-i.invariant.same
          ∙ ap (λ (y : Alternative). numbered after 0 i ++ (y ∷ [])) is ∙ sym (numbered_next after i);
    }

pub returns : goal.returns
returns c =
    let r = c.rows-n.ensures in
    let e : c.loop-i.i ≡ rows_in c.args.bound = omega arith in
    let same = rw (e) at c.loop-i.invariant.same in
    let f = c.requires.1.bound.few in
    rw r (record {
      right = record {
        few = omega arith;
        long = c.loop-i.invariant.long;
        wide = rw same (own_wide c.args.file.now c.args.bound c.args.s.now (rows_in c.args.bound));
      };
      count = refl;
      same = same;
    })
