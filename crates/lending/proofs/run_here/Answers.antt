-- `run_here` meets its contract: the records that are usable are as many as the run has, with any of the tables. Assumes nothing.
use mathlib.Core.Path.{◌≡◌, subst}
use mathlib.Core.List.{List}
use Prim.Native.Nat.{ℕ}
use Rattle.rules.specs.declared.answers.Answer.{Answer}
use Rattle.lending.specs.Here.{RunsHere}
use borrow.Author.Rules.{rules}
use Rattle.lending.proofs.run_here.Goals as goal

module _ {file arguments cells stack out cells' stack' out' : List ℕ} {entry budget : ℕ} {r : Answer} where
  counted : {k n : ℕ} → k ≡ n → RunsHere file entry arguments budget cells stack k out cells' stack' out' r
      → RunsHere file entry arguments budget cells stack n out cells' stack' out' r
  counted e h = subst (λ (k : ℕ). RunsHere file entry arguments budget cells stack k out cells' stack' out' r) e h

pub returns-then-m-le256 : goal.returns-then-m-le256
returns-then-m-le256 c =
    counted (search rules) c.run_on.ensures

pub returns-then-m-le4096 : goal.returns-then-m-le4096
returns-then-m-le4096 c =
    counted (search rules) c.run_on-then-m-le4096.ensures

pub returns : goal.returns
returns c =
    counted (search rules) c.run_on-2.ensures
