-- 6 as the code tests it: which arguments have been found in the alternatives read so far, and then the first that is missing.
use mathlib.Core.Path.{◌≡◌, refl, sym, ap, ◌∙◌}
use mathlib.Core.List.{List, [], ◌∷◌}
use mathlib.Core.Bool.{Bool, false, ◌||◌, or_assoc, or-false}
use Prim.Native.Nat.{ℕ, zero, suc, ◌+◌, ◌-◌, ◌≤◌, ◌<◌}
use native.Mathlib.Omega.{arith}
use native.Mathlib.Numerals.{add-one}
use native.Mathlib.Nat.{sub-zero}
use lib.ListN.{length, get_or}
use lib.Seq.{get_or-take}
use lib.Dec.{ltb}
use Rattle.rules.specs.declared.records.HeadRecord.{HeadRecord}
use Rattle.rules.specs.declared.records.AlternativeRecord.{AlternativeRecord}
use Rattle.rules.specs.Base.{refusal, Check, require, numbered, for_each, each, any, byte_at}
use Rattle.rules.specs.Declarations.{counted, argument_rule, bound_rule}
use Rattle.rules.specs.Records.{four_at, head_at, declaration_at, alternative_at, alternative_offset, arguments_of, alternative_of}
use Rattle.rules.specs.Records.{function_of}
use Rattle.rules.specs.There.{FunctionThere}
use Rattle.rules.proofs.RecordLaws.{arguments_length}
use Rattle.declarations.specs.Bounded.{positive_in}

pub each_of_four : (P : ℕ → Type 0) → P 0 → P 1 → P 2 → P 3 → (j : ℕ) → j < 4 → P j
each_of_four P a b c d zero h = a
each_of_four P a b c d (suc zero) h = b
each_of_four P a b c d (suc (suc zero)) h = c
each_of_four P a b c d (suc (suc (suc zero))) h = d
each_of_four P a b c d (suc (suc (suc (suc j)))) h = absurd (omega arith)

---- One alternative

-- of four marks: those below j have taken in the coefficients, the others are as they were
pub record Marked (before : List Bool) (four : List ℕ) (j : ℕ) (marks : List Bool) : Type 0 where
  pub long : length marks ≡ 4
  pub done : (i : ℕ) → i < j → get_or marks i false ≡ (get_or before i false || ltb 0 (get_or four i 0))
  pub left : (i : ℕ) → j ≤ i → get_or marks i false ≡ get_or before i false

---- The alternatives

-- k of m alternatives are read: what was found in them, and what can still be found in the others
pub record Finding (bytes : List ℕ) (at m k : ℕ) (marks : List Bool) : Type 0 where
  pub within : k ≤ m
  pub left : (j : ℕ) → j < 4 → (get_or marks j false || positive_in bytes at k (m - k) j) ≡ positive_in bytes at 0 m j

pub find_first : {bytes : List ℕ} {at m : ℕ} {marks : List Bool} → ((j : ℕ) → j < 4 → get_or marks j false ≡ false)
    → Finding bytes at m 0 marks
find_first {m = m} e = record { within = omega arith; left = λ j h. rw (e j h, sub-zero m) }

module _ {bytes : List ℕ} {at m k : ℕ} {marks : List Bool} (f : Finding bytes at m k marks) where
  positive_step : (j : ℕ) → k < m → positive_in bytes at k (m - k) j
      ≡ (ltb 0 (get_or (four_at bytes (alternative_offset at k)) j 0) || positive_in bytes at (k + 1) (m - (k + 1)) j)
  unfolding positive_in numbered
  positive_step j h =
      let e : m - k ≡ suc (m - (k + 1)) = omega arith in
      rw (e, add-one)

  pub find_next : {a : AlternativeRecord} {marks' : List Bool} → k < m → a ≡ alternative_at bytes (alternative_offset at k)
      → ((j : ℕ) → j < 4 → get_or marks' j false ≡ (get_or marks j false || ltb 0 (get_or a.coefficients j 0)))
      → Finding bytes at m (k + 1) marks'
  find_next {a} {marks'} h is e = record {
    within = omega arith;
    left =
        λ j l. rw (e j l, is) (or_assoc (get_or marks j false) (ltb 0 (get_or (four_at bytes (alternative_offset at k)) j 0))
        (positive_in bytes at (k + 1) (m - (k + 1)) j) ∙ (rw (positive_step j h) at (f.left j l)));
  }

  pub find_end : m ≤ k → (j : ℕ) → j < 4 → get_or marks j false ≡ positive_in bytes at 0 m j
  unfolding positive_in numbered
  find_end h j l =
      let e : m - k ≡ 0 = omega arith in
      sym (or-false (get_or marks j false)) ∙ (rw e at (f.left j l))

---- The arguments

-- a rule that does not look at the elements, numbered from 1
each_from_one : {A : Type 0} (rule : ℕ → A → Check) (check : ℕ → Check) → ((i : ℕ) (x : A) → rule (suc i) x ≡ check i)
    → (i : ℕ) (xs : List A) → each rule (suc i) xs ≡ for_each check i (length xs)
unfolding each for_each
each_from_one rule check e i [] = refl
each_from_one rule check e i (x ∷ xs) = rw (e i x, each_from_one rule check e (suc i) xs)

any_numbered : {A B : Type 0} (p : A → Bool) (q : B → Bool) (f : ℕ → A) (g : ℕ → B) → ((i : ℕ) → p (f i) ≡ q (g i)) → (n k : ℕ)
    → any p (numbered f k n) ≡ any q (numbered g k n)
unfolding numbered
any_numbered p q f g e zero k = refl
any_numbered p q f g e (suc n) k = rw (e k, any_numbered p q f g e n (suc k))

-- argument k, from 0, of function g at an offset
abbrev pub argument_check : List ℕ → ℕ → ℕ → ℕ → Check
argument_check bytes at g k = require (counted (k + 1) (function_of bytes at).bound) (refusal 6 g (k + 1))

module _ {bytes : List ℕ} {at : ℕ} (t : FunctionThere bytes at) where
  module _ {h : HeadRecord} (is : h ≡ head_at bytes at) where
    pub arity_few : h.declaration.arity ≤ 4
    arity_few = rw is t.arity

    pub alternatives_fit : alternative_offset at h.alternatives ≤ length bytes
    alternatives_fit =
        let last : ℕ = byte_at bytes (at + 6) - 1 in
        let fits : alternative_offset at last + 6 ≤ length bytes = (t.alternative last (omega (arith, t.some_alternatives))).0 in
        rw is (omega (arith, t.some_alternatives))

    pub bound_pass : (g : ℕ) {m : ℕ} → m ≡ h.declaration.arity
        → bound_rule g (function_of bytes at) ≡ for_each (argument_check bytes at g) 0 m
    unfolding bound_rule argument_rule function_of
    bound_pass g e =
        each_from_one (argument_rule g (function_of bytes at)) (argument_check bytes at g) (λ i x. rw (add-one i)) 0
        (arguments_of (declaration_at bytes at))
        ∙ ap (for_each (argument_check bytes at g) 0)
        (arguments_length bytes at t.arity ∙ sym (e ∙ ap (λ (x : HeadRecord). x.declaration.arity) is))

    -- an argument within the arity is found as the code looks for it
    pub argument_says : (g k : ℕ) {b : Bool} → k < h.declaration.arity → b ≡ positive_in bytes at 0 h.alternatives k
        → require b (refusal 6 g (k + 1)) ≡ argument_check bytes at g k
    unfolding counted function_of alternative_of positive_in
    argument_says g k l e =
        let within : k < byte_at bytes (at + 1) = rw is at l in
        let back : k + 1 - 1 ≡ k = omega arith in
        ap (λ (b : Bool). require b (refusal 6 g (k + 1)))
        (e ∙ ap (λ (x : HeadRecord). positive_in bytes at 0 x.alternatives k) is
        ∙ any_numbered (λ a. ltb 0 (get_or a.coefficients k 0)) (λ a. ltb 0 (get_or a.coefficients (k + 1 - 1) 0))
        (λ i. alternative_at bytes (alternative_offset at i))
        (λ i. alternative_of (byte_at bytes (at + 1)) (alternative_at bytes (alternative_offset at i)))
        (λ i. rw (back, get_or-take (byte_at bytes (at + 1)) (four_at bytes (alternative_offset at i)) k 0 within))
        (byte_at bytes (at + 6)) 0)
