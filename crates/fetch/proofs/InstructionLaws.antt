-- What the instruction at a place says, from its record and from its record's number.
use Rattle.std.specs.Prelude.{if◌then◌else◌}
use Prim.Native.Nat.{ℕ, ◌+◌, ◌-◌, ◌/◌, ◌%◌, ◌≤◌, ◌<◌}
use mathlib.Core.Path.{◌≡◌, refl, sym, ap, ◌∙◌}
use mathlib.Core.List.{List}
use Rattle.std.specs.Prelude.{None, Some}
use mathlib.Core.Bool.{Bool, true, false, ◌&&◌}
use native.Mathlib.Omega.{arith}
use lib.ListN.{length}
use lib.Dec.{eqb}
use borrow.Author.Tests.{ne_eqb}
use Rattle.rules.specs.declared.records.InstructionRecord.{InstructionRecord}
use Rattle.rules.specs.declared.records.Instruction.{Instruction}
use Rattle.rules.specs.declared.records.Instruction.TheVariants.{Load, Build, Call, Branch, Return, Stop}
use Rattle.rules.specs.Base.{byte_at, word_at, is_zero}
use Rattle.rules.specs.Container.{payload}
use Rattle.rules.specs.Records.{instruction_at, operation, instruction_of, is_some, or_else, program_in}
use Rattle.rules.specs.There.{RecordsThere}
use Rattle.rules.specs.Established.{Parsed}
use Rattle.rules.specs.Machine.{current}
use Rattle.rules.proofs.ListLaws.{false_true}
use Rattle.rules.proofs.RecordLaws.{records_there}
use Rattle.fetch.specs.Arities.{place}
use Rattle.fetch.specs.Places.{offset_at, StandsAt}
use Rattle.fetch.specs.Words.{WordThere}
use Rattle.fetch.proofs.IndexLaws.{placed, function_count}

---- Where it stands

pub instruction_there : {file : List ℕ} → Parsed file → (f i at : ℕ) (ins : Instruction) → StandsAt file f i at
    → current (program_in file) (place f i) ≡ Some ins
    → (offset_at at + 4 ≤ length (payload file)) × (f < length (program_in file).functions) × (i ≤ 256)
    × (is_some (operation (instruction_at (payload file) (offset_at at))) ≡ true)
    × (ins ≡ instruction_of (instruction_at (payload file) (offset_at at)))
instruction_there {file} parsed f i at ins s e =
    let there : RecordsThere (payload file) = records_there (payload file) parsed.records in
    let p = placed (payload file) there f i ins e in
    let r = (there.function f p.function).instruction (i - 1) p.last in
    let short : i ≤ 256 = omega (arith, p.first, p.last, (there.function f p.function).short_code) in
    rw s.is (r.0, omega (arith, p.function, function_count (payload file)), short, r.1, p.is)

---- What a record says

abbrev rec : ℕ → ℕ → ℕ → InstructionRecord
rec o a b = record { operation = o; a = a; b = b }

module _ (o a b : ℕ) (right : is_some (operation (rec o a b)) ≡ true) where
  says_load : o ≡ 1 → Load a ≡ instruction_of (rec o a b)
  unfolding operation instruction_of
  says_load e = go (eqb b 0) refl
    where
      go : (t : Bool) → eqb b 0 ≡ t → Load a ≡ instruction_of (rec o a b)
      go true q = rw (e, q)
      go false q = absurd (false_true (rw (e, q) at right))

  says_build : o ≡ 2 → Build a ≡ instruction_of (rec o a b)
  unfolding operation instruction_of
  says_build e = go (eqb b 0) refl
    where
      go : (t : Bool) → eqb b 0 ≡ t → Build a ≡ instruction_of (rec o a b)
      go true q = rw (e, q)
      go false q = absurd (false_true (rw (e, q) at right))

  says_call : o ≡ 3 → Call a ≡ instruction_of (rec o a b)
  unfolding operation instruction_of
  says_call e = go (eqb b 0) refl
    where
      go : (t : Bool) → eqb b 0 ≡ t → Call a ≡ instruction_of (rec o a b)
      go true q = rw (e, q)
      go false q = absurd (false_true (rw (e, q) at right))

  says_branch : o ≡ 4 → Branch a b ≡ instruction_of (rec o a b)
  unfolding operation instruction_of
  says_branch e = rw e

  says_return : o ≡ 5 → Return ≡ instruction_of (rec o a b)
  unfolding operation instruction_of
  says_return e = go (eqb a 0 && eqb b 0) refl
    where
      go : (t : Bool) → (eqb a 0 && eqb b 0) ≡ t → Return ≡ instruction_of (rec o a b)
      go true q = rw (e, q)
      go false q = absurd (false_true (rw (e, q) at right))

  says_stop : (o ≡ 1 → ⊥) → (o ≡ 2 → ⊥) → (o ≡ 3 → ⊥) → (o ≡ 4 → ⊥) → (o ≡ 5 → ⊥) → Stop ≡ instruction_of (rec o a b)
  unfolding operation instruction_of
  says_stop n₁ n₂ n₃ n₄ n₅ =
      simp (ne_eqb o 1 n₁, ne_eqb o 2 n₂, ne_eqb o 3 n₃, ne_eqb o 4 n₄, ne_eqb o 5 n₅) (go (eqb o 6 && is_zero a && is_zero b))
    where
      go : (t : Bool) → Stop ≡ or_else (if t then Some Stop else None) Stop
      go true = refl
      go false = refl

---- What its number says

module _ {bytes : List ℕ} {k w : ℕ} {ins : Instruction} (there : WordThere bytes k w)
    (right : is_some (operation (instruction_at bytes k)) ≡ true) (is : ins ≡ instruction_of (instruction_at bytes k)) where
  -- the number taken apart
  low : w % 256 ≡ byte_at bytes k
  low = omega (arith, there.is, there.first_small, there.second_small)

  middle : byte_at bytes (k + 1) ≡ w / 256 % 256
  middle = omega (arith, there.is, there.first_small, there.second_small)

  high : word_at bytes (k + 2) ≡ w / 65536
  high = omega (arith, there.is, there.first_small, there.second_small)

  pub word_load : w % 256 ≡ 1 → ins ≡ Load (w / 256 % 256)
  word_load e = is ∙ sym (says_load (byte_at bytes k) (byte_at bytes (k + 1)) (word_at bytes (k + 2)) right (sym low ∙ e)) ∙ ap Load middle

  pub word_build : w % 256 ≡ 2 → ins ≡ Build (w / 256 % 256)
  word_build e = is ∙ sym (says_build (byte_at bytes k) (byte_at bytes (k + 1)) (word_at bytes (k + 2)) right (sym low ∙ e))
      ∙ ap Build middle

  pub word_call : w % 256 ≡ 3 → ins ≡ Call (w / 256 % 256)
  word_call e = is ∙ sym (says_call (byte_at bytes k) (byte_at bytes (k + 1)) (word_at bytes (k + 2)) right (sym low ∙ e)) ∙ ap Call middle

  pub word_branch : w % 256 ≡ 4 → ins ≡ Branch (w / 256 % 256) (w / 65536)
  word_branch e =
      is ∙ sym (says_branch (byte_at bytes k) (byte_at bytes (k + 1)) (word_at bytes (k + 2)) right (sym low ∙ e)) ∙ rw (middle, high)

  pub word_return : w % 256 ≡ 5 → ins ≡ Return
  word_return e = is ∙ sym (says_return (byte_at bytes k) (byte_at bytes (k + 1)) (word_at bytes (k + 2)) right (sym low ∙ e))

  pub word_stop : (w % 256 ≡ 1 → ⊥) → (w % 256 ≡ 2 → ⊥) → (w % 256 ≡ 3 → ⊥) → (w % 256 ≡ 4 → ⊥) → (w % 256 ≡ 5 → ⊥) → ins ≡ Stop
  word_stop n₁ n₂ n₃ n₄ n₅ =
      is ∙ sym
      (says_stop (byte_at bytes k) (byte_at bytes (k + 1)) (word_at bytes (k + 2)) right (λ z. n₁ (low ∙ z)) (λ z. n₂ (low ∙ z))
      (λ z. n₃ (low ∙ z)) (λ z. n₄ (low ∙ z)) (λ z. n₅ (low ∙ z)))
