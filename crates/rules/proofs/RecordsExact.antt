-- The pass for 4 agrees with document 01's words for it on every payload.
use Rattle.std.specs.Prelude.{if◌then◌else◌, Option, None, Some}
use mathlib.Core.Path.{◌≡◌, refl, subst}
use mathlib.Core.List.{List}
use mathlib.Core.Bool.{Bool, true, false, ◌&&◌}
use mathlib.Core.Logic.{◌↔◌}
use Prim.Native.Nat.{ℕ, suc, ◌+◌, ◌-◌, ◌≤◌, ◌<◌}
use native.Mathlib.Omega.{arith}
use lib.ListN.{length}
use lib.Dec.{leb, eqb}
use Rattle.rules.specs.declared.records.Header.{Header}
use Rattle.rules.specs.declared.records.InstructionRecord.{InstructionRecord}
use Rattle.rules.specs.declared.records.Instruction.{Instruction}
use Rattle.rules.specs.declared.records.Instruction.TheVariants.{Branch}
use Rattle.rules.specs.Base.{Refusal, Check, is_zero, for_each}
use Rattle.rules.specs.Base.{byte_at, word_at}
use Rattle.rules.specs.Records.{four_at, header_at, declaration_at, constructor_at, head_at, alternative_at, instruction_at, past_zero}
use Rattle.rules.specs.Records.{header_right, declaration_right, constructor_right, head_right, alternative_right, operation, is_some}
use Rattle.rules.specs.Records.{constructor_offset, alternative_offset, code_offset, instruction_offset, behind, head_offset, record_right}
use Rattle.rules.specs.Records.{function_right, constructors_right, functions_right, nothing_left, records_right}
use Rattle.rules.specs.FileRules.{HeaderIn, PastZero, DeclarationIn, ConstructorIn, HeadIn, AlternativeIn, saying, Says, load}
use Rattle.rules.specs.FileRules.{build, call, branch, return, stop, Item, header, constructor, head, alternative, instruction, end}
use Rattle.rules.specs.FileRules.{InstructionIn, size, ItemRight, Next, first_constructor, next_constructor, first_head}
use Rattle.rules.specs.FileRules.{first_alternative}
use Rattle.rules.specs.FileRules.{next_alternative, first_instruction, next_instruction, next_head, last, Reached, start, on}
use Rattle.rules.specs.FileRules.{RecordsHold, RecordsFail, wrong, RecordsExact}
use Rattle.rules.proofs.ListLaws.{none_some, some_inj, false_true, and_iff, leb_iff, eqb_iff, all_iff, zeros_iff}
use Rattle.rules.proofs.VerdictLaws.{Verdict, verdict_require, verdict_bind, verdict_map, verdict_decides}
use Rattle.rules.proofs.VerdictLaws.{verdict_for_each}
use Rattle.rules.proofs.BlocksExact.{within_iff}

---- Fields in range

and4_iff : {P Q R S : Type 0} {a b c d : Bool} → (a ≡ true ↔ P) → (b ≡ true ↔ Q) → (c ≡ true ↔ R) → (d ≡ true ↔ S)
    → (a && b && c && d) ≡ true ↔ (P × Q × R × S)
and4_iff p q r s =
    let i = and_iff (and_iff (and_iff p q) r) s in
    ((λ e. let h = i.0 e in (h.0.0.0, h.0.0.1, h.0.1, h.1)), λ h. i.1 (((h.0, h.1), h.2), h.3))

header_iff : (h : Header) → header_right h ≡ true ↔ HeaderIn h
unfolding header_right
header_iff h =
    and4_iff (eqb_iff h.edition 1) (within_iff 1 32 h.types) (within_iff 1 64 h.constructors) (within_iff 1 32 h.functions)

past_iff : (n : ℕ) (four : List ℕ) → length four ≡ 4 → past_zero n four ≡ true ↔ PastZero n four
past_iff n four e = and_iff (leb_iff n 4) (rw e at (zeros_iff four n))

module _ (bytes : List ℕ) (at : ℕ) where
  declaration_iff : declaration_right (declaration_at bytes at) ≡ true ↔ DeclarationIn (declaration_at bytes at)
  unfolding declaration_right
  declaration_iff = past_iff (byte_at bytes (at + 1)) (four_at bytes (at + 2)) refl

  constructor_iff : constructor_right (constructor_at bytes at) ≡ true ↔ ConstructorIn (constructor_at bytes at)
  unfolding constructor_right
  constructor_iff = and_iff declaration_iff (eqb_iff (byte_at bytes (at + 7)) 0)

  head_iff : head_right (head_at bytes at) ≡ true ↔ HeadIn (head_at bytes at)
  unfolding head_right
  head_iff =
      and4_iff declaration_iff (within_iff 1 4 (byte_at bytes (at + 6))) (eqb_iff (byte_at bytes (at + 7)) 0)
      (within_iff 1 256 (word_at bytes (at + 8)))

  alternative_iff : (n : ℕ) → alternative_right n (alternative_at bytes at) ≡ true ↔ AlternativeIn n (alternative_at bytes at)
  unfolding alternative_right
  alternative_iff n = and_iff (past_iff n (four_at bytes at) refl) (all_iff (λ c. leb c 15) (λ c. leb_iff c 15) (four_at bytes at))

-- what an instruction record says
says_is : {r : InstructionRecord} {ins : Instruction} → Says r ins → operation r ≡ Some ins
unfolding operation
says_is load = refl
says_is build = refl
says_is call = refl
says_is branch = refl
says_is return = refl
says_is stop = refl

-- the first choice, or one of the others
choice : {A Z : Type 0} (t : Bool) (x : A) (others : Option A) {y : A} → ◌≡◌ {A = Option A} (if t then Some x else others) (Some y)
    → (t ≡ true → x ≡ y → Z) → (others ≡ Some y → Z) → Z
choice true x others e p q = p refl (some_inj e)
choice false x others e p q = q e

operation_says : (o a b : ℕ) {ins : Instruction} → operation (saying o a b) ≡ Some ins → Says (saying o a b) ins
unfolding operation
operation_says o a b e =
    choice _ _ _ e (λ t x. rw x at (one_operand 1 load t)) (λ e.
    choice _ _ _ e (λ t x. rw x at (one_operand 2 build t)) (λ e.
    choice _ _ _ e (λ t x. rw x at (one_operand 3 call t)) (λ e.
    choice _ _ _ e (λ t x. rw x at (both_operands ((eqb_iff o 4).0 t))) (λ e.
    choice _ _ _ e (λ t x. rw x at (no_operand 5 return t)) (λ e.
    choice _ _ _ e (λ t x. rw x at (no_operand 6 stop t)) (λ e. none_some e))))))
  where
    one_operand : {i : Instruction} (n : ℕ) → Says (saying n a 0) i → (eqb o n && is_zero b) ≡ true → Says (saying o a b) i
    one_operand n s t = let h = (and_iff (eqb_iff o n) (eqb_iff b 0)).0 t in rw (h.0, h.1) s

    both_operands : o ≡ 4 → Says (saying o a b) (Branch a b)
    both_operands e = rw e branch

    no_operand : {i : Instruction} (n : ℕ) → Says (saying n 0 0) i → (eqb o n && is_zero a && is_zero b) ≡ true → Says (saying o a b) i
    no_operand n s t = let h = (and_iff (and_iff (eqb_iff o n) (eqb_iff a 0)) (eqb_iff b 0)).0 t in rw (h.0.0, h.0.1, h.1) s

-- an instruction record says just what the decoder reads in it
pub says_operation : (r : InstructionRecord) (ins : Instruction) → Says r ins ↔ operation r ≡ Some ins
says_operation r ins = ((λ s. says_is s), λ e. operation_says r.operation r.a r.b e)

says_iff : (r : InstructionRecord) → is_some (operation r) ≡ true ↔ InstructionIn r
says_iff r = (found_in (operation r) refl, λ s. rw ((says_operation r s.0).0 s.1))
  where
    found_in : (o : Option Instruction) → operation r ≡ o → is_some o ≡ true → InstructionIn r
    found_in None e t = absurd (false_true t)
    found_in (Some ins) e t = (ins, (says_operation r ins).1 e)

---- An item

module _ (bytes : List ℕ) where
  -- the pass over one item
  abbrev item_check : ℕ → Item → Check
  item_check at header = record_right 4 bytes at (header_right (header_at bytes at))
  item_check at (constructor c) = record_right 8 bytes at (constructor_right (constructor_at bytes at))
  item_check at (head g) = record_right 10 bytes at (head_right (head_at bytes at))
  item_check at (alternative g h k) = record_right 6 bytes at (alternative_right h.declaration.arity (alternative_at bytes at))
  item_check at (instruction g h i) = record_right 4 bytes at (is_some (operation (instruction_at bytes at)))
  item_check at end = nothing_left bytes at

  -- an item that is reached is right, or fails
  item_verdict : {at : ℕ} (item : Item) → Reached bytes at item → Verdict (ItemRight bytes at item) (RecordsFail bytes) (item_check at item)
  unfolding record_right nothing_left
  item_verdict {at} header m = verdict_require _ _ (and_iff (leb_iff (at + 4) (length bytes)) (header_iff (header_at bytes at))) (wrong m)
  item_verdict {at} (constructor c) m = verdict_require _ _ (and_iff (leb_iff (at + 8) (length bytes)) (constructor_iff bytes at)) (wrong m)
  item_verdict {at} (head g) m = verdict_require _ _ (and_iff (leb_iff (at + 10) (length bytes)) (head_iff bytes at)) (wrong m)
  item_verdict {at} (alternative g h k) m =
      verdict_require _ _ (and_iff (leb_iff (at + 6) (length bytes)) (alternative_iff bytes at h.declaration.arity)) (wrong m)
  item_verdict {at} (instruction g h i) m =
      verdict_require _ _ (and_iff (leb_iff (at + 4) (length bytes)) (says_iff (instruction_at bytes at))) (wrong m)
  item_verdict {at} end m = verdict_require _ _ (eqb_iff at (length bytes)) (wrong m)

  -- from an item on to the next, which stands behind it
  onto : {at at' : ℕ} {item item' : Item} → Reached bytes at item × ItemRight bytes at item → Next bytes at item item'
      → at + size item ≡ at' → Reached bytes at' item'
  onto {item' = item'} m n e = subst (λ (i : ℕ). Reached bytes i item') e (on m.0 m.1 n)

  -- n items, one behind the other: the last is reached and right, or one fails
  items_verdict : (n : ℕ) (o : ℕ → ℕ) (x : ℕ → Item) → Reached bytes (o 0) (x 0)
      → ((i : ℕ) → suc i < n → Next bytes (o i) (x i) (x (suc i))) → ((i : ℕ) → o i + size (x i) ≡ o (suc i))
      → Verdict ((i : ℕ) → suc i ≡ n → Reached bytes (o i) (x i) × ItemRight bytes (o i) (x i)) (RecordsFail bytes)
      (for_each (λ i. item_check (o i) (x i)) 0 n)
  items_verdict n o x m next behind =
      verdict_map (λ p. p.1) (verdict_for_each (λ i. item_check (o i) (x i)) P n ((λ _. m), λ i e. absurd (omega arith))
      (λ i l p. verdict_map (λ r. on_from i (p.0 l, r)) (item_verdict (x i) (p.0 l))))
    where
      There : ℕ → Type 0
      There i = Reached bytes (o i) (x i) × ItemRight bytes (o i) (x i)

      P : ℕ → Type 0
      P k = (k < n → Reached bytes (o k) (x k)) × ((i : ℕ) → suc i ≡ k → There i)

      on_from : (i : ℕ) → There i → P (suc i)
      on_from i r = ((λ l. onto r (next i l) (behind i)), λ j e. let q : i ≡ j = omega arith in subst There q r)

  ---- All items

  -- what is behind function g: the next head, or the end
  abbrev Followed : ℕ → ℕ → Type 0
  Followed at g = (suc g < byte_at bytes 3 → Reached bytes at (head (suc g))) × (suc g ≡ byte_at bytes 3 → Reached bytes at end)

  function_verdict : (at g : ℕ) → Reached bytes at (head g)
      → Verdict (Followed (behind bytes at) g) (RecordsFail bytes) (function_right bytes at)
  unfolding function_right
  function_verdict at g m =
      verdict_bind (item_verdict (head g) m) (λ r.
      verdict_bind (items_verdict (byte_at bytes (at + 6)) (alternative_offset at) (alternative g (head_at bytes at))
      (onto (m, r) first_alternative (omega arith)) (λ i l. next_alternative l) (λ i. omega arith)) (λ a.
      let k : ℕ = byte_at bytes (at + 6) - 1 in
      let e : suc k ≡ byte_at bytes (at + 6) = omega arith in
      verdict_map (λ c.
      let i : ℕ = word_at bytes (at + 8) - 1 in
      let e' : suc i ≡ word_at bytes (at + 8) = omega arith in
      let q : instruction_offset (code_offset bytes at) i + 4 ≡ behind bytes at = omega arith in
      ((λ l. onto (c i e') (next_head e' l) q), λ l. onto (c i e') (last e' l) q))
      (items_verdict (word_at bytes (at + 8)) (instruction_offset (code_offset bytes at)) (instruction g (head_at bytes at))
      (onto (a k e) (first_instruction e) (omega arith)) (λ i l. next_instruction l) (λ i. omega arith))))

  constructors_verdict : Reached bytes 4 (constructor 0) → 1 ≤ byte_at bytes 2
      → Verdict (Reached bytes (constructor_offset (byte_at bytes 2)) (head 0)) (RecordsFail bytes) (constructors_right bytes)
  unfolding constructors_right
  constructors_verdict m some-constructors =
      let c : ℕ = byte_at bytes 2 - 1 in
      let e : suc c ≡ byte_at bytes 2 = omega arith in
      verdict_map (λ p. onto (p c e) (first_head e) (omega arith))
      (items_verdict (byte_at bytes 2) constructor_offset constructor m (λ i l. next_constructor l) (λ i. omega arith))

  functions_verdict : Reached bytes (constructor_offset (byte_at bytes 2)) (head 0) → 1 ≤ byte_at bytes 3
      → Verdict (Reached bytes (head_offset bytes (byte_at bytes 3)) end) (RecordsFail bytes) (functions_right bytes)
  unfolding functions_right head_offset
  functions_verdict m some-functions =
      verdict_map (λ p. p.1 (omega arith)) (verdict_for_each (λ g. function_right bytes (head_offset bytes g)) P (byte_at bytes 3)
      ((λ _. m), λ e. absurd (omega arith))
      (λ g l p. verdict_map (λ b. ((λ h. b.0 h), λ h. b.1 (omega arith))) (function_verdict (head_offset bytes g) g (p.0 l))))
    where
      P : ℕ → Type 0
      P g =
          (g < byte_at bytes 3 → Reached bytes (head_offset bytes g) (head g))
          × (byte_at bytes 3 ≤ g → Reached bytes (head_offset bytes g) end)

  records_verdict : Verdict (RecordsHold bytes) (RecordsFail bytes) (records_right bytes)
  unfolding records_right
  records_verdict =
      verdict_bind (item_verdict header start) (λ h.
      verdict_bind (constructors_verdict (on start h first_constructor) h.1.2.0) (λ c.
      verdict_bind (functions_verdict c h.1.3.0) (λ m.
      verdict_map (λ e. subst (λ (at : ℕ). Reached bytes at end) e m) (item_verdict end m))))

---- A payload is read to its end, or fails in one way

module _ (bytes : List ℕ) where
  -- from the item x at a, over items that are right, a reader comes to y at b
  data Leads (b : ℕ) (y : Item) : ℕ → Item → Type 0 where
    here : Leads b y b y
    step : {a : ℕ} {x x' : Item} → ItemRight bytes a x → Next bytes a x x' → Leads b y (a + size x) x' → Leads b y a x

  -- no reader comes past an item
  abbrev Stuck : ℕ → Item → Type 0
  Stuck a x = (y : Item) → ItemRight bytes a x → ¬ Next bytes a x y

module _ {bytes : List ℕ} where
  -- only one item comes behind another
  next_same : {at : ℕ} {x y z : Item} → Next bytes at x y → Next bytes at x z → y ≡ z
  next_same first_constructor first_constructor = refl
  next_same (next_constructor l) (next_constructor m) = refl
  next_same (next_constructor l) (first_head e) = absurd (omega arith)
  next_same (first_head e) (next_constructor l) = absurd (omega arith)
  next_same (first_head e) (first_head f) = refl
  next_same first_alternative first_alternative = refl
  next_same (next_alternative l) (next_alternative m) = refl
  next_same (next_alternative l) (first_instruction e) = absurd (omega arith)
  next_same (first_instruction e) (next_alternative l) = absurd (omega arith)
  next_same (first_instruction e) (first_instruction f) = refl
  next_same (next_instruction l) (next_instruction m) = refl
  next_same (next_instruction l) (next_head e m) = absurd (omega arith)
  next_same (next_instruction l) (last e f) = absurd (omega arith)
  next_same (next_head e m) (next_instruction l) = absurd (omega arith)
  next_same (next_head e m) (next_head f l) = refl
  next_same (next_head e m) (last f g) = absurd (omega arith)
  next_same (last e f) (next_instruction l) = absurd (omega arith)
  next_same (last e f) (next_head g l) = absurd (omega arith)
  next_same (last e f) (last g h) = refl

  from_start : {a b : ℕ} {x y : Item} → Reached bytes a x → Leads bytes b y a x → Leads bytes b y 0 header
  from_start start l = l
  from_start (on m r n) l = from_start m (step r n l)

  -- where a reader is stuck, all that is reached leads there
  leads : {a b : ℕ} {x y : Item} → Stuck bytes b y → Leads bytes b y 0 header → Reached bytes a x → Leads bytes b y a x
  leads s l start = l
  leads s l (on m r n) = behind_it (leads s l m) s r n
    where
      behind_it : {a b : ℕ} {x x' y : Item} → Leads bytes b y a x → Stuck bytes b y → ItemRight bytes a x → Next bytes a x x'
          → Leads bytes b y (a + size x) x'
      behind_it here s r n = absurd (s _ r n)
      behind_it (step r' n' l) s r n = rw (next_same n n') l

  stuck_same : {a b : ℕ} {x y : Item} → Stuck bytes a x → Leads bytes b y a x → (a ≡ b) × (x ≡ y)
  stuck_same s here = (refl, refl)
  stuck_same s (step r n l) = absurd (s _ r n)

  -- two readers that are stuck are stuck at the same place
  same_place : {a b : ℕ} {x y : Item} → Stuck bytes a x → Stuck bytes b y → Reached bytes a x → Reached bytes b y → (a ≡ b) × (x ≡ y)
  same_place s s' m m' = stuck_same s (leads s' (from_start m' here) m)

  end_stuck : {a : ℕ} → Stuck bytes a end
  end_stuck y r n = elim n [ ]

  not_both : (r : Refusal) → RecordsHold bytes → RecordsFail bytes r → ⊥
  not_both r h (wrong m n) =
      let e = same_place end_stuck (λ y r _. n r) h m in
      n (rw (← e.0, ← e.1))

  one : (r q : Refusal) → RecordsFail bytes r → RecordsFail bytes q → r ≡ q
  one r q (wrong m n) (wrong m' n') = rw (same_place (λ y r _. n r) (λ y r _. n' r) m m').0

pub records_exact : RecordsExact
records_exact bytes = verdict_decides (records_verdict bytes) not_both one
