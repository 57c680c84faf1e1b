-- The machine's steps one after the other.
use mathlib.Core.Path.{◌≡◌, refl}
use mathlib.Core.List.{[], ◌∷◌, List}
use Rattle.std.specs.Prelude.{Option, None, Some}
use Prim.Native.Nat.{ℕ, zero, suc, ◌+◌}
use native.Mathlib.Omega.{arith}
use Rattle.rules.specs.declared.records.Instruction.{Instruction}
use Rattle.rules.specs.declared.records.Instruction.TheVariants.{Load, Build, Call, Branch, Return, Stop}
use Rattle.rules.specs.Program.{Program}
use Rattle.rules.specs.Machine.{◌>>=◌, Value, State, current, execute, step, after, returned, result_of, top}
use Rattle.rules.specs.Promise.{takes, builds_by, builds}
use Rattle.rules.proofs.ListLaws.{none_some, some_inj, all_slot, all_parts}
use Rattle.rules.specs.Lists.{All}
use Rattle.rules.specs.Stacks.{slot, split}

-- something needed that is there
pub bind_some : {A B : Type 0} (o : Option A) (f : A → Option B) {b : B} → (o >>= f) ≡ Some b → (a : A) × (o ≡ Some a) × (f a ≡ Some b)
bind_some None f e = none_some e
bind_some (Some a) f e = (a, refl, e)

-- the top of a stack is one of all
pub all_top : {A : Type 0} {P : A → Type 0} {xs : List A} {v : A} → top xs ≡ Some v → All P xs → P v
all_top {xs = xs} e h =
    let r = bind_some (split 1 xs) (λ parts. slot 1 parts.1) e in
    all_slot 1 r.2 (all_parts 1 r.1 h).1

-- one step more
pub after_next : (s : Program) (k : ℕ) (st mid next : State) → after s k st ≡ Some mid → step s mid ≡ Some next
    → after s (suc k) st ≡ Some next
unfolding after
after_next s zero st mid next e e' = rw (some_inj e, e')
after_next s (suc k) st mid next e e' = one (step s st) refl e (λ st' w. after_next s k st' mid next w e')
  where
    one : (o : Option State) → step s st ≡ o → (o >>= (λ st'. after s k st')) ≡ Some mid
        → ((st' : State) → after s k st' ≡ Some mid → after s (suc k) st' ≡ Some next) → after s (suc (suc k)) st ≡ Some next
    one None w e ih = none_some e
    one (Some st') w e ih = rw w (ih st' e)

-- where the result stands there is no step
pub result_stops : (s : Program) (st : State) {v : Value} → result_of s st ≡ Some v → step s st ≡ None
unfolding result_of step returned execute
result_stops s [] e = refl
result_stops s (fr ∷ w ∷ frs) e = none_some e
result_stops s (fr ∷ []) {v} e = one (current s fr) e
  where
    one : (o : Option Instruction) → (o >>= (λ ins. returned s ins fr.stack)) ≡ Some v → (o >>= (λ ins. execute s ins fr [])) ≡ None
    one None e = refl
    one (Some (Load a)) e = none_some e
    one (Some (Build c)) e = none_some e
    one (Some (Call g)) e = none_some e
    one (Some (Branch c b)) e = none_some e
    one (Some Return) e = refl
    one (Some Stop) e = none_some e

-- the builds of one step more
pub builds_next : (s : Program) (k : ℕ) (st mid next : State) → after s k st ≡ Some mid → step s mid ≡ Some next
    → builds s (suc k) st ≡ builds s k st + takes s mid
unfolding after builds_by
builds_next s zero st mid next e e' = rw (some_inj e, e') (omega arith)
builds_next s (suc k) st mid next e e' = one (step s st) refl e (λ st' w. builds_next s k st' mid next w e')
  where
    one : (o : Option State) → step s st ≡ o → (o >>= (λ st'. after s k st')) ≡ Some mid
        → ((st' : State) → after s k st' ≡ Some mid → builds s (suc k) st' ≡ builds s k st' + takes s mid)
        → builds s (suc (suc k)) st ≡ builds s (suc k) st + takes s mid
    one None w e ih = none_some e
    one (Some st') w e ih = rw w (omega (arith, ih st' e))
