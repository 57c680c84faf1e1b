-- The passes for 5 and 6 agree with document 01's words for them on every program.
use mathlib.Core.Path.{◌≡◌, refl, ◌∙◌}
use mathlib.Core.List.{List, [], ◌∷◌}
use Rattle.std.specs.Prelude.{Some, slice_get}
use mathlib.Core.Bool.{true, ◌&&◌, ◌||◌}
use mathlib.Core.Logic.{◌↔◌}
use Prim.Native.Nat.{ℕ, zero, suc, ◌+◌, ◌-◌, ◌≤◌, ◌<◌}
use native.Mathlib.Omega.{arith}
use native.Mathlib.Nat.{zero-add, not-suc-le-zero}
use lib.ListN.{length, get_or}
use lib.Dec.{ltb, eqb-suc-zero}
use borrow.Author.Tests.{ltb-true, lt-ltb}
use Rattle.rules.specs.declared.records.Alternative.{Alternative}
use Rattle.rules.specs.Base.{Refusal, refusal, found, refused, ◌>>=◌, Check, passed, Decides, each, is_zero, all}
use Rattle.rules.specs.Program.{Constructor, Function, arity, constructor, function}
use Rattle.rules.specs.Declarations.{all_below, weight_right, constructor_rule, signature_rule, declarations_right, counted, argument_rule}
use Rattle.rules.specs.Declarations.{bound_rule, bounds_right}
use Rattle.rules.specs.DeclarationRules.{TypesBelow, WeightOk, ConstructorOk, SignatureOk, DeclarationsHold, DeclarationsFail}
use Rattle.rules.specs.DeclarationRules.{constructor_wrong, signature_wrong, DeclarationsExact, Counts, AllCount, BoundsFail}
use Rattle.rules.specs.DeclarationRules.{missing, BoundsExact}
use Rattle.rules.proofs.ListLaws.{none_some, some_inj, false_true, at_less, at_there, and_iff, ltb_iff, all_iff, any_iff}
use Rattle.rules.proofs.TriedLaws.{bind_found}
use Rattle.rules.proofs.VerdictLaws.{decides_require, EachFails, each_decides}

---- 5

below_iff : (types result : ℕ) (arguments : List ℕ) → all_below types (result ∷ arguments) ≡ true ↔ TypesBelow types result arguments
below_iff types result arguments =
    and_iff (ltb_iff result types)
    (all_iff (λ t. ltb t types) (λ t. ltb_iff t types) arguments)

weight_iff : (k : Constructor) → weight_right k ≡ true ↔ WeightOk (length k.arguments) k.weight
unfolding weight_right
weight_iff k = go (length k.arguments) k.weight
  where
    go : (n w : ℕ) → (is_zero n && is_zero w || ltb 0 n && ltb 0 w) ≡ true ↔ WeightOk n w
    go zero zero = ((λ e. ((λ z. refl), λ l. absurd (not-suc-le-zero l))), λ h. refl)
    go zero (suc w) = ((λ e. absurd (false_true (rw (eqb-suc-zero w) at e))), λ h. absurd (omega (arith, h.0 refl)))
    go (suc n) zero = (
      (λ e. absurd (false_true (rw (eqb-suc-zero n, lt-ltb 0 (suc n) (omega arith)) at e))),
      λ h. absurd (not-suc-le-zero (h.1 (omega arith))),
    )
    go (suc n) (suc w) = (
      (λ e. ((λ z. absurd (omega arith)), λ l. omega arith)),
      λ h. rw (eqb-suc-zero n, lt-ltb 0 (suc n) (omega arith), lt-ltb 0 (suc w) (omega arith)),
    )

module _ (types : ℕ) where
  -- a constructor, or a signature, is wrong, and the refusal is its own
  abbrev ConstructorFails : ℕ → Constructor → Refusal → Type 0
  ConstructorFails c k r = (r ≡ refusal 5 0 c) × ¬ ConstructorOk types k

  abbrev SignatureFails : ℕ → Function → Refusal → Type 0
  SignatureFails g f r = (r ≡ refusal 5 1 g) × ¬ SignatureOk types f

  constructor_decides : (c : ℕ) (k : Constructor) → Decides (constructor_rule types (0 + c) k) (ConstructorOk types k)
      (ConstructorFails c k)
  unfolding constructor_rule
  constructor_decides c k =
      rw (zero-add c) (decides_require (all_below types (k.result ∷ k.arguments) && weight_right k) (refusal 5 0 c)
      (and_iff (below_iff types k.result k.arguments) (weight_iff k)))

  signature_decides : (g : ℕ) (f : Function) → Decides (signature_rule types (0 + g) f) (SignatureOk types f) (SignatureFails g f)
  unfolding signature_rule
  signature_decides g f =
      rw (zero-add g) (decides_require (all_below types (f.result ∷ f.parameters)) (refusal 5 1 g)
      (below_iff types f.result f.parameters))

pub declarations_exact : DeclarationsExact
unfolding declarations_right
declarations_exact s = ((holds, passes), λ r. (fails r, refuses r))
  where
    constructors : Check
    constructors = each (constructor_rule s.types) 0 s.constructors

    signatures : Check
    signatures = each (signature_rule s.types) 0 s.functions

    C : Decides constructors ((c : ℕ) (k : Constructor) → constructor s c ≡ Some k → ConstructorOk s.types k)
        (EachFails s.constructors (λ c k. ConstructorOk s.types k) (ConstructorFails s.types))
    C = each_decides (constructor_rule s.types) 0 s.constructors _ _ (λ c k _. constructor_decides s.types c k)

    S : Decides signatures ((g : ℕ) (f : Function) → function s g ≡ Some f → SignatureOk s.types f)
        (EachFails s.functions (λ g f. SignatureOk s.types f) (SignatureFails s.types))
    S = each_decides (signature_rule s.types) 0 s.functions _ _ (λ g f _. signature_decides s.types g f)

    holds : (constructors >>= (λ _. signatures)) ≡ passed → DeclarationsHold s
    holds e =
        let b = bind_found constructors _ e in
        record { constructors = C.0.0 b.1; signatures = S.0.0 b.2 }

    passes : DeclarationsHold s → (constructors >>= (λ _. signatures)) ≡ passed
    passes h = rw (C.0.1 h.constructors) (S.0.1 h.signatures)

    fails : (r : Refusal) → (constructors >>= (λ _. signatures)) ≡ refused r → DeclarationsFail s r
    fails r e = go constructors refl e
      where
        go : (t : Check) → constructors ≡ t → (t >>= (λ _. signatures)) ≡ refused r → DeclarationsFail s r
        go (found tt) h e =
            let f = (S.1 r).0 e in
            rw f.3.0 (signature_wrong (C.0.0 h) f.2 (λ b j l. f.4 b j l) f.3.1)
        go (refused q) h e =
            let f = (C.1 r).0 (h ∙ e) in
            rw f.3.0 (constructor_wrong f.2 (λ b j l. f.4 b j l) f.3.1)

    refuses : (r : Refusal) → DeclarationsFail s r → (constructors >>= (λ _. signatures)) ≡ refused r
    refuses r (constructor_wrong {c} {k} at before not) =
        rw ((C.1 (refusal 5 0 c)).1 (c, k, at, (refl, not), before))
    refuses r (signature_wrong {g} {f} all at before not) =
        rw (C.0.1 all) ((S.1 (refusal 5 1 g)).1 (g, f, at, (refl, not), before))

---- 6

-- a coefficient that is read as 1 or more is there
get_d_there : (cs : List ℕ) (k : ℕ) → ltb 0 (get_or cs k 0) ≡ true ↔ ((m : ℕ) × (slice_get cs k ≡ Some m) × (1 ≤ m))
get_d_there [] k = ((λ e. absurd (false_true e)), λ h. none_some h.1)
get_d_there (c ∷ cs) zero = (
  (λ e. (c, refl, ltb-true 0 c e)),
  λ h. lt-ltb 0 c (rw (some_inj h.1) h.2),
)
get_d_there (c ∷ cs) (suc k) = get_d_there cs k

counted_iff : (k : ℕ) (bound : List Alternative) → counted (1 + k) bound ≡ true ↔ Counts bound (1 + k)
unfolding counted
counted_iff k bound =
    let e : 1 + k - 1 ≡ k = omega arith in
    let e' : 1 + k ≡ suc k = omega arith in
    rw (e, e') (any_iff (λ a. ltb 0 (get_or a.coefficients k 0)) (λ a. get_d_there a.coefficients k) bound)

module _ (g : ℕ) (f : Function) where
  abbrev ArgumentFails : ℕ → ℕ → Refusal → Type 0
  ArgumentFails k t r = (r ≡ refusal 6 g (1 + k)) × ¬ Counts f.bound (1 + k)

  argument_decides : (k t : ℕ) → Decides (argument_rule g f (1 + k) t) (Counts f.bound (1 + k)) (ArgumentFails k t)
  unfolding argument_rule
  argument_decides k t = decides_require (counted (1 + k) f.bound) (refusal 6 g (1 + k)) (counted_iff k f.bound)

  -- an argument of the function is missing
  abbrev BoundFails : Refusal → Type 0
  BoundFails r =
      (k : ℕ) × (r ≡ refusal 6 g k) × (1 ≤ k) × (k ≤ arity f) × ((i : ℕ) → 1 ≤ i → i < k → Counts f.bound i) × ¬ Counts f.bound k

  bound_decides : Decides (bound_rule (0 + g) f) (AllCount f) BoundFails
  unfolding bound_rule
  bound_decides = rw (zero-add g) (
    (
      (λ e k lo hi. let x = at_there f.parameters (k - 1) (omega arith) in rw (from_one k lo) at (E.0.0 e (k - 1) x.0 x.1)),
      λ h. E.0.1 (λ k t e. h (1 + k) (omega arith) (omega (arith, at_less f.parameters k e))),
    ),
    λ r. (
      (λ e.
          let m = (E.1 r).0 e in (
            1 + m.0,
            m.3.0,
            omega arith,
            omega (arith, at_less f.parameters m.0 m.2),
            (λ i lo hi.
                let x = at_there f.parameters (i - 1) (omega (arith, at_less f.parameters m.0 m.2)) in
                rw (from_one i lo) at (m.4 (i - 1) x.0 (omega arith) x.1)),
            m.3.1,
          )),
      λ m.
          let x = at_there f.parameters (m.0 - 1) (omega (arith, m.2, m.3)) in
          (E.1 r).1 (
            m.0 - 1,
            x.0,
            x.1,
            (rw (from_one m.0 m.2) (m.1, m.5)),
            λ j y l h. m.4 (1 + j) (omega arith) (omega (arith, l)),
          ),
    ),
  )
    where
      E : Decides (each (argument_rule g f) 1 f.parameters) ((k t : ℕ) → slice_get f.parameters k ≡ Some t → Counts f.bound (1 + k))
          (EachFails f.parameters (λ k t. Counts f.bound (1 + k)) ArgumentFails)
      E = each_decides (argument_rule g f) 1 f.parameters _ _ (λ k t _. argument_decides k t)

      from_one : (k : ℕ) → 1 ≤ k → 1 + (k - 1) ≡ k
      from_one k h = omega arith

pub bounds_exact : BoundsExact
unfolding bounds_right
bounds_exact s = (
  ((λ e. record { counted = B.0.0 e }), λ h. B.0.1 h.counted),
  λ r. (
    (λ e.
        let f = (B.1 r).0 e in
        let m = f.3 in
        rw m.1 (missing f.2 (λ b j l. f.4 b j l) m.2 m.3 m.4 m.5)),
    refuses r,
  ),
)
  where
    B : Decides (each bound_rule 0 s.functions) ((g : ℕ) (f : Function) → function s g ≡ Some f → AllCount f)
        (EachFails s.functions (λ g f. AllCount f) BoundFails)
    B = each_decides bound_rule 0 s.functions (λ g f. AllCount f) BoundFails (λ g f _. bound_decides g f)

    refuses : (r : Refusal) → BoundsFail s r → each bound_rule 0 s.functions ≡ refused r
    refuses r (missing {g} {k} {f} at before lo hi counts not) =
        (B.1 (refusal 6 g k)).1 (g, f, at, (k, refl, lo, hi, counts, not), before)
