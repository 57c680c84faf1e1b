-- Laws of the type rules of one instruction, in the words of the code's answers.
use Rattle.std.specs.Prelude.{if◌then◌else◌}
use Rattle.std.proofs.Common.{◌≡◌, refl, sym, ap, ◌∙◌, List, [], ◌∷◌, ◌++◌, Bool, true, false, ◌&&◌, ℕ, zero, suc, ◌-◌, ◌≤◌, ◌<◌, length}
use Rattle.std.proofs.Common.{take, drop, get_or, arith}
use Rattle.std.specs.Prelude.{Option, None, Some, slice_get, leb, eqb}
use Rattle.std.specs.Option.{option_map}
use lib.Pointwise.{pointwise}
use lib.Seq.{get_or-take, length-take-le}
use borrow.Author.Tests.{eq-eqb, ne_eqb, eqb-true, eqb-false, leb-false}
use Rattle.rules.specs.declared.records.Declaration.{Declaration}
use Rattle.rules.specs.declared.records.Instruction.TheVariants.{Load, Return}
use Rattle.rules.specs.Base.{Tried, found, refusal, require, or_refuse, ◌>>=◌}
use Rattle.rules.specs.Program.{Function, Program}
use Rattle.rules.specs.Records.{arguments_of}
use Rattle.rules.specs.Stacks.{slot, split, push}
use Rattle.rules.specs.Walk.{Arrow}
use Rattle.rules.specs.Types.{same, below, types_on, type_rule}
use Rattle.operands.specs.declared.stack.Stack.{Stack}
use Rattle.operands.specs.declared.operation.TypedStep.{TypedStep}
use Rattle.operands.specs.declared.operation.TypedStep.TheVariants.{Ends, Next, Both}
use Rattle.operands.specs.Operands.{stack_of, grown, below_of, TypeSays, signature_of, applied_to, branched_to}

---- What is below

eqb_sym : (x y : ℕ) → eqb x y ≡ eqb y x
eqb_sym x y = go (eqb x y) refl
  where
    go : (b : Bool) → eqb x y ≡ b → b ≡ eqb y x
    go true e = sym (eq-eqb y x (sym (eqb-true x y e)))
    go false e = sym (ne_eqb y x (λ q. eqb-false x y e (sym q)))

same_types : (xs ys : List ℕ) → pointwise eqb ys xs ≡ same xs ys
unfolding same
same_types [] [] = refl
same_types [] (y ∷ ys) = refl
same_types (x ∷ xs) [] = refl
same_types (x ∷ xs) (y ∷ ys) = rw (eqb_sym y x, same_types xs ys) refl

same_long : (xs ys : List ℕ) → length xs < length ys → same xs ys ≡ false
unfolding same
same_long [] (y ∷ ys) h = refl
same_long (x ∷ xs) (y ∷ ys) h = rw (same_long xs ys (omega arith)) (go (eqb x y))
  where
    go : (b : Bool) → (b && false) ≡ false
    go true = refl
    go false = refl
same_long xs [] h = absurd (omega arith)

module _ (s : Program) (n : ℕ) (f : Function) (i : ℕ) where
  below_is : (types stack : List ℕ) → below s n f i types stack ≡ or_refuse (below_of types stack) (refusal 8 n i)
  unfolding below split
  below_is types stack =
      rw (same_types (drop (length stack - length types) stack) types) (go (leb (length types) (length stack)) refl)
    where
      under : List ℕ
      under = take (length stack - length types) stack

      top : List ℕ
      top = drop (length stack - length types) stack

      ends : (u : Bool) → (require u (refusal 8 n i) >>= (λ _. found under))
          ≡ or_refuse (if u then Some under else None) (refusal 8 n i)
      ends true = refl
      ends false = refl

      go : (t : Bool) → leb (length types) (length stack) ≡ t
          → (or_refuse (if t then Some (under, top) else None) (refusal 8 n i)
          >>= (λ (parts : List ℕ × List ℕ). require (same parts.1 types) (refusal 8 n i) >>= (λ _. found parts.0)))
          ≡ or_refuse (if same top types then Some under else None) (refusal 8 n i)
      go true e = ends (same top types)
      go false e =
          let h = leb-false (length types) (length stack) e in
          let k : length stack - length types ≡ 0 = omega arith in
          rw (k, same_long stack types (omega arith)) refl

  -- the arrow to the next instruction
  abbrev next_with : List ℕ → Tried (List (Arrow (List ℕ)))
  next_with types = found ((suc i, types) ∷ [])

  types_on_is : (types : List ℕ) → types_on s n f i types ≡ (or_refuse (grown types) (refusal 8 n i) >>= next_with)
  unfolding types_on
  types_on_is types = go (leb (length types) 16)
    where
      go : (b : Bool) → (require b (refusal 8 n i) >>= (λ _. next_with types))
          ≡ (or_refuse (if b then Some types else None) (refusal 8 n i) >>= next_with)
      go true = refl
      go false = refl

---- One type more

module _ (s : Program) (n : ℕ) (f : Function) (i : ℕ) (here : List ℕ) where
  pub onward_full : {r : Option TypedStep} (types : List ℕ) → r ≡ None → None ≡ grown types → TypeSays n i here r (types_on s n f i types)
  onward_full types e q = record { says = rw (e, types_on_is s n f i types, ← q) refl }

  pub onward_goes : {st : Stack} (types : List ℕ) → Some (stack_of st) ≡ grown types
      → TypeSays n i here (Some (Next st)) (types_on s n f i types)
  onward_goes types q = record { says = rw (types_on_is s n f i types, ← q) refl }

---- Load

pub stack_length : (st : Stack) → length (stack_of st) ≡ st.height
stack_length st = length-take-le st.height st.types (omega (arith, st.places, st.within))

slot_past : (a : ℕ) (l : List ℕ) → length l < a → slot a l ≡ None
slot_past zero l h = absurd (omega arith)
slot_past (suc k) l h = past l k (omega arith)
  where
    past : (l : List ℕ) (k : ℕ) → length l ≤ k → slice_get l k ≡ None
    past [] k h = refl
    past (x ∷ l) zero h = absurd (omega arith)
    past (x ∷ l) (suc k) h = past l k (omega arith)

slot_at : (a : ℕ) (l : List ℕ) → (a ≡ 0 → ⊥) → a ≤ length l → slot a l ≡ Some (get_or l (a - 1) 0)
slot_at zero l h h' = absurd (h refl)
slot_at (suc k) l h h' = let e : suc k - 1 ≡ k = omega arith in rw e (there l k (omega arith))
  where
    there : (l : List ℕ) (k : ℕ) → k < length l → slice_get l k ≡ Some (get_or l k 0)
    there [] k h = absurd (omega arith)
    there (x ∷ l) zero h = refl
    there (x ∷ l) (suc k) h = there l k (omega arith)

module _ (s : Program) (n : ℕ) (f : Function) (i a : ℕ) (st : Stack) where
  pub load_none : a ≡ 0 → TypeSays n i (stack_of st) None (type_rule s n f i (Load a) (stack_of st))
  unfolding type_rule
  load_none h = record { says = rw h refl }

  pub load_past : st.height < a → TypeSays n i (stack_of st) None (type_rule s n f i (Load a) (stack_of st))
  unfolding type_rule
  load_past h = record { says = rw (slot_past a (stack_of st) (rw (stack_length st) h)) refl }

  pub load_goes : {r : Option TypedStep} → (a ≡ 0 → ⊥) → a ≤ st.height
      → TypeSays n i (stack_of st) r (types_on s n f i (push (stack_of st) (get_or st.types (a - 1) 0)))
      → TypeSays n i (stack_of st) r (type_rule s n f i (Load a) (stack_of st))
  unfolding type_rule
  load_goes h h' t =
      rw (slot_at a (stack_of st) h (rw (stack_length st) h'), get_or-take st.height st.types (a - 1) 0 (omega arith)) t

---- Build and call

module _ (s : Program) (n : ℕ) (f : Function) (i : ℕ) (stack : List ℕ) {named : Option Declaration} (is : named ≡ None)
    {r : Option TypedStep} (e : r ≡ None) where
  pub make_unknown : (here : List ℕ) → TypeSays n i here r (applied_to s n f i (option_map signature_of named) stack)
  make_unknown here = record { says = rw (is, e) refl }

  pub branch_unknown : (b : ℕ) → TypeSays n i stack r (branched_to s n f i (option_map signature_of named) b stack)
  branch_unknown b = record { says = rw (is, e) refl }

module _ (s : Program) (n : ℕ) (f : Function) (i : ℕ) (here stack : List ℕ) {named : Option Declaration} {d : Declaration}
    (is : named ≡ Some d) {r : Option TypedStep} where
  pub make_wrong : None ≡ below_of (arguments_of d) stack → r ≡ None
      → TypeSays n i here r (applied_to s n f i (option_map signature_of named) stack)
  make_wrong q e = record { says = rw (is, below_is s n f i (arguments_of d) stack, ← q, e) refl }

  pub make_goes : {rest : List ℕ} → Some rest ≡ below_of (arguments_of d) stack
      → TypeSays n i here r (types_on s n f i (push rest d.result))
      → TypeSays n i here r (applied_to s n f i (option_map signature_of named) stack)
  make_goes q t = rw (is, below_is s n f i (arguments_of d) stack, ← q) t

---- Branch

module _ (s : Program) (n : ℕ) (f : Function) (i : ℕ) (b : ℕ) (stack : List ℕ) {named : Option Declaration} {d : Declaration}
    (is : named ≡ Some d) where
  pub branch_wrong : {r : Option TypedStep} → None ≡ below_of (d.result ∷ []) stack → r ≡ None
      → TypeSays n i stack r (branched_to s n f i (option_map signature_of named) b stack)
  branch_wrong q e = record { says = rw (is, below_is s n f i (d.result ∷ []) stack, ← q, e) refl }

  module _ {rest : List ℕ} (ends : Some rest ≡ below_of (d.result ∷ []) stack) where
    pub branch_full : {r : Option TypedStep} → None ≡ grown (rest ++ arguments_of d) → r ≡ None
        → TypeSays n i stack r (branched_to s n f i (option_map signature_of named) b stack)
    branch_full q e =
        record { says = rw (is, below_is s n f i (d.result ∷ []) stack, ← ends, types_on_is s n f i (rest ++ arguments_of d), ← q, e) refl }

    pub branch_goes : {next : Stack} → Some (stack_of next) ≡ grown (rest ++ arguments_of d)
        → TypeSays n i stack (Some (Both next b)) (branched_to s n f i (option_map signature_of named) b stack)
    branch_goes q =
        record { says = rw (is, below_is s n f i (d.result ∷ []) stack, ← ends, types_on_is s n f i (rest ++ arguments_of d), ← q) refl }

---- Return

module _ (s : Program) (n : ℕ) (f : Function) (i : ℕ) (stack : List ℕ) {res : ℕ} (is : f.result ≡ res) where
  result_is : below s n f i (f.result ∷ []) stack ≡ or_refuse (below_of (res ∷ []) stack) (refusal 8 n i)
  result_is = ap (λ (t : ℕ). below s n f i (t ∷ []) stack) is ∙ below_is s n f i (res ∷ []) stack

  pub return_wrong : {r : Option TypedStep} → None ≡ below_of (res ∷ []) stack → r ≡ None → TypeSays n i stack r
      (type_rule s n f i Return stack)
  unfolding type_rule
  return_wrong q e = record { says = rw (e, result_is, ← q) refl }

  pub return_ends : {rest : List ℕ} → Some rest ≡ below_of (res ∷ []) stack → TypeSays n i stack (Some Ends)
      (type_rule s n f i Return stack)
  unfolding type_rule
  return_ends q = record { says = rw (result_is, ← q) refl }
