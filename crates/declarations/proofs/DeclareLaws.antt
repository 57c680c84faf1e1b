-- 5 as the code tests it.
use mathlib.Core.Path.{◌≡◌, refl, sym, ap, ap₂, ◌∙◌}
use mathlib.Core.List.{List, ◌∷◌}
use mathlib.Core.Bool.{Bool, ◌&&◌, ◌||◌, or-false}
use Prim.Native.Nat.{ℕ, ◌<◌}
use lib.Dec.{eqb, ltb}
use native.Mathlib.Omega.{arith}
use borrow.Author.Tests.{lt-ltb, ne_eqb}
use Rattle.rules.specs.declared.records.Header.{Header}
use Rattle.rules.specs.declared.records.Declaration.{Declaration}
use Rattle.rules.specs.declared.records.ConstructorRecord.{ConstructorRecord}
use Rattle.rules.specs.Base.{is_zero, refusal, ◌>>=◌, Check, require, each}
use Rattle.rules.specs.Container.{payload}
use Rattle.rules.specs.Program.{Program}
use Rattle.rules.specs.Declarations.{all_below, weight_right, constructor_rule, signature_rule, declarations_right}
use Rattle.rules.specs.Records.{declaration_at, constructor_at, arguments_of, constructor_of, function_of, program_of, program_in}
use Rattle.rules.specs.Established.{Headed}
use Rattle.program.proofs.LayoutLaws.{types_count}

-- the result type is below, and of the argument types it is known
below_all : (types : ℕ) (d : Declaration) {v : Bool} → d.result < types → all_below types (arguments_of d) ≡ v
    → v ≡ all_below types (d.result ∷ arguments_of d)
below_all types d h e = sym (rw (lt-ltb d.result types h) e)

-- a weight is right by the arity
pub weight_none : (a w : ℕ) → a ≡ 0 → eqb w 0 ≡ (is_zero a && is_zero w || ltb 0 a && ltb 0 w)
weight_none a w e = rw (e, or-false (eqb w 0)) refl

pub weight_some : (a w : ℕ) → (a ≡ 0 → ⊥) → ltb 0 w ≡ (is_zero a && is_zero w || ltb 0 a && ltb 0 w)
weight_some a w e = rw (ne_eqb a 0 e, lt-ltb 0 a (omega arith)) refl

module _ {file : List ℕ} {h : Header} (o : Headed file h) where
  pub constructor_says : (k at : ℕ) {c : ConstructorRecord} {r : Bool} → c ≡ constructor_at (payload file) at
      → r ≡ (all_below h.types (c.declaration.result ∷ arguments_of c.declaration) && weight_right (constructor_of c))
      → require r (refusal 5 0 k) ≡ constructor_rule (program_in file).types k (constructor_of (constructor_at (payload file) at))
  unfolding constructor_rule constructor_of program_of
  constructor_says k at is e =
      ap (λ (b : Bool). require b (refusal 5 0 k))
      (e ∙ ap₂ (λ (x : ℕ) (y : ConstructorRecord). all_below x (y.declaration.result ∷ arguments_of y.declaration)
      && weight_right (constructor_of y)) (types_count o) is)

  pub signature_says : (g at : ℕ) {d : Declaration} {r : Bool} → d ≡ declaration_at (payload file) at
      → r ≡ all_below h.types (d.result ∷ arguments_of d)
      → require r (refusal 5 1 g) ≡ signature_rule (program_in file).types g (function_of (payload file) at)
  unfolding signature_rule function_of program_of
  signature_says g at is e =
      ap (λ (b : Bool). require b (refusal 5 1 g))
      (e ∙ ap₂ (λ (x : ℕ) (y : Declaration). all_below x (y.result ∷ arguments_of y)) (types_count o) is)

-- constructors, then functions
pub declarations_by : (s : Program) {t u : Check} → each (constructor_rule s.types) 0 s.constructors ≡ t
    → each (signature_rule s.types) 0 s.functions ≡ u → declarations_right s ≡ (t >>= (λ _. u))
unfolding declarations_right
declarations_by s e₁ e₂ = rw (e₁, e₂)
