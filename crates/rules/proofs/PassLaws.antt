-- A loop that makes one check for each number: what is left from a number on. And what a test or a callee's answer says of a check.
use mathlib.Core.Path.{◌≡◌, sym, ap, ◌∙◌}
use mathlib.Core.Bool.{Bool, true, false, not}
use Prim.Native.Nat.{ℕ, ◌+◌, ◌-◌, ◌≤◌, ◌<◌}
use native.Mathlib.Omega.{arith}
use native.Mathlib.Nat.{sub-zero}
use borrow.Author.Tests.{not-true, not-false}
use Rattle.rules.specs.Base.{Refusal, refused, Check, passed, require, for_each}
use Rattle.rules.proofs.EachLaws.{up_to}
use Rattle.rules.proofs.NumberedLaws.{for_each_go, for_each_stop, for_each_none}

-- the checks of numbers below k of m have passed
pub record Passing (rule : ℕ → Check) (m k : ℕ) : Type 0 where
  pub within : k ≤ m
  pub left : for_each rule 0 m ≡ for_each rule k (m - k)
  pub before : (j : ℕ) → j < k → rule j ≡ passed

pub pass_first : {rule : ℕ → Check} {m : ℕ} → Passing rule m 0
pass_first = record { within = omega arith; left = rw sub-zero; before = λ j h. absurd (omega arith) }

module _ {rule : ℕ → Check} {m k : ℕ} (p : Passing rule m k) where
  pub pass_stop : {q : Refusal} → k < m → rule k ≡ refused q → refused q ≡ for_each rule 0 m
  pass_stop h e = sym (p.left ∙ for_each_stop rule m k h e)

  pub pass_next : k < m → rule k ≡ passed → Passing rule m (k + 1)
  pass_next h e = record {
    within = omega arith;
    left = p.left ∙ for_each_go rule m k h e;
    before = λ j l. up_to k p.before e j (omega arith);
  }

  pub pass_end : m ≤ k → passed ≡ for_each rule 0 m
  pass_end h = sym (p.left ∙ for_each_none rule m k h)

-- a test that the code made
pub test_fails : (r : Bool) {q : Refusal} {t : Check} → require r q ≡ t → not r ≡ true → t ≡ refused q
test_fails r {q} e n = sym e ∙ ap (λ (x : Bool). require x q) (not-true r n)

pub test_holds : (r : Bool) (q : Refusal) {t : Check} → require r q ≡ t → not r ≡ false → t ≡ passed
test_holds r q e n = sym e ∙ ap (λ (x : Bool). require x q) (not-false r n)
