-- What is lent of each table is its front, and the rest is what the run and its words say.
use Prim.Native.Nat.{◌*◌}
use mathlib.Core.Path.{ap, sym, ◌∙◌}
use native.Mathlib.Omega.{arith}
use Rattle.rules.specs.Answers.{run_words, measured}
use Rattle.rules.specs.Memory.{output_after}
use Rattle.rules.specs.Run.{Lent, run}
use Rattle.words.proofs.WordLaws.{told_words}
use Rattle.panel.proofs.TableLaws.{front_long, tables_lent}
use Rattle.panel.proofs.bedrafoly_run_within.Goals as goal

pub slice_bounds-run_on-end : goal.slice_bounds-run_on-end
slice_bounds-run_on-end c =
    let a = c.min-numbers in
    sym (front_long (5 * a.result) 20480 (omega (arith, a.ensures)))

pub slice_bounds-run_on-end-2 : goal.slice_bounds-run_on-end-2
slice_bounds-run_on-end-2 c =
    let a = c.min-places in
    sym (front_long a.result 2048 (omega (arith, a.ensures)))

pub returns : goal.returns
returns c =
    let a = c.args in
    let ran = c.run_on-ran.ensures.runs in
    let lent = tables_lent _ _ _ c.min-numbers.ensures c.min-places.ensures c.min-records.ensures a.out.now in
    let says = ap (λ (l : Lent). run_words (measured (run a.file.now a.entry a.arguments.now a.budget l))) lent in
    let t = told_words c.run_words.result _ 5 (omega arith) (c.run_words.ensures.0 ∙ ap run_words ran.says ∙ says)
    c.tell.ensures in record {
      returned = t.0;
      of_output = ran.of_output ∙ ap (λ (l : Lent). output_after a.file.now a.entry a.arguments.now a.budget l a.out.now) lent;
      of_answer = t.1;
    }
