-- The check accepts a file just where it obeys every rule, and refuses it with just the number and the places that `Fails` says.
use mathlib.Core.Path.{◌≡◌, refl, ap, ◌∙◌}
use mathlib.Core.List.{List}
use Rattle.std.specs.Prelude.{Some}
use mathlib.Core.Logic.{◌⊎◌, inl, inr}
use Prim.Native.Nat.{ℕ, ◌≤◌}
use native.Mathlib.Omega.{arith}
use native.Mathlib.Nat.{le_trans, zero-add}
use lib.ListN.{length}
use Rattle.rules.specs.declared.records.Instruction.{Instruction}
use Rattle.rules.specs.Base.{Refusal, refusal, found, refused, Check, passed, Decides, Tried, ◌>>=◌}
use Rattle.rules.specs.Container.{verify, payload}
use Rattle.rules.specs.Program.{Function, Program, function}
use Rattle.rules.specs.Records.{records_right, program_of, decode}
use Rattle.rules.specs.Declarations.{declarations_right, bounds_right}
use Rattle.rules.specs.Stacks.{slot}
use Rattle.rules.specs.Walk.{Arrow, root_at}
use Rattle.rules.specs.Flow.{flow_of, flow_right}
use Rattle.rules.specs.Types.{type_rule, types_at, types_of, types_right}
use Rattle.rules.specs.Shapes.{sizes_of, sizes_right}
use Rattle.rules.specs.Check.{checked}
use Rattle.rules.specs.FlowRules.{AllFlow, FlowFails}
use Rattle.rules.specs.Refusals.{EachFunction, HasTypes, HasShapes, TypesFail, CoverFails, ManyFails, UpTo4, UpTo5, UpTo6, UpTo7}
use Rattle.rules.specs.Refusals.{UpTo8, Obeys, Fails, records, declarations, bounds, flow, types, many, cover, CheckExact}
use Rattle.rules.specs.Refusals as fails
use Rattle.rules.specs.FileRules.{BlocksRight, BlocksFail, whole, sum, fields, RecordsFail, wrong}
use Rattle.rules.specs.DeclarationRules.{DeclarationsFail, constructor_wrong, signature_wrong, BoundsFail, missing}
use Rattle.rules.specs.Refusals.{RefusalExact}
use Rattle.rules.proofs.ListLaws.{all_at}
use Rattle.rules.proofs.TriedLaws.{answers_exactly}
use Rattle.rules.proofs.VerdictLaws.{EachFails, each_decides}
use Rattle.rules.proofs.WalkLaws.{judged_found}
use Rattle.rules.proofs.RecordLaws.{DecodedFunction, decoded}
use Rattle.rules.proofs.Accepted.{FlowsRightly, flows_rightly}
use Rattle.rules.proofs.BlocksExact.{blocks_exact}
use Rattle.rules.proofs.RecordsExact.{records_exact}
use Rattle.rules.proofs.DeclarationsExact.{declarations_exact, bounds_exact}
use Rattle.rules.proofs.FlowExact.{flow_exact}
use Rattle.rules.proofs.TypesExact.{types_exact}
use Rattle.rules.proofs.SizesExact.{sizes_exact}

---- 7, 8, and 10 and 9 over all functions

module _ (s : Program) where
  abbrev FlowStops : ℕ → Function → Refusal → Type 0
  FlowStops n f r = (i : ℕ) × (r ≡ refusal 7 n i) × FlowFails f.code i

  flow_decides : Decides (flow_right s) (EachFunction s (λ n f. AllFlow f.code)) (EachFails s.functions (λ n f. AllFlow
      f.code) FlowStops)
  unfolding flow_right
  flow_decides = each_decides flow_of 0 s.functions (λ n f. AllFlow f.code) FlowStops (λ n f _. rw (zero-add n) (flow_exact n f))

  abbrev TypesStop : ℕ → Function → Refusal → Type 0
  TypesStop n f r = (i : ℕ) × (r ≡ refusal 8 n i) × TypesFail s f i

  abbrev SizesStop : ℕ → Function → Refusal → Type 0
  SizesStop n f r = ((i : ℕ) × (r ≡ refusal 10 n i) × CoverFails s n f i) ⊎ ((i : ℕ) × (r ≡ refusal 9 n i) × ManyFails s n f i)

module _ {file : List ℕ} {s : Program} where
  passed_4 : UpTo4 file s → (verify file ≡ passed) × (decode (payload file) ≡ found s)
  unfolding decode
  passed_4 u = ((blocks_exact file).0.1 u.blocks, rw ((records_exact (payload file)).0.1 u.records) (ap found u.program))

  function_there : UpTo4 file s → (n : ℕ) (f : Function) → function s n ≡ Some f → DecodedFunction (payload file) f
  function_there u n f e = all_at n (decoded (payload file) (passed_4 u).1).0 e

  few_parameters : UpTo4 file s → (n : ℕ) (f : Function) → function s n ≡ Some f → length f.parameters ≤ 16
  few_parameters u n f e = le_trans (function_there u n f e).few (omega arith)

  -- what 7 leaves of a function for 8, and what both leave for 10 and 9
  flows : UpTo7 file s → (n : ℕ) (f : Function) → function s n ≡ Some f → FlowsRightly n f
  flows u n f e =
      flows_rightly n f (function_there u.bounded.declared.read n f e).some_code ((flow_exact n f).0.1 (u.flow n f e))

  types_decides : UpTo7 file s → Decides (types_right s) (EachFunction s (HasTypes s)) (EachFails s.functions (HasTypes s) (TypesStop s))
  unfolding types_right
  types_decides u =
      each_decides (types_of s) 0 s.functions (HasTypes s) (TypesStop s)
      (λ n f e. rw (zero-add n) (types_exact s n f (few_parameters u.bounded.declared.read n f e) (flows u n f e)))

  types_pass : UpTo8 file s → (n : ℕ) (f : Function) → function s n ≡ Some f → (i : ℕ) (ins : Instruction) → slot i f.code ≡ Some ins
      → (ts : List ℕ) → types_at s n f i ≡ Some ts → (M : List (Arrow (List ℕ))) × (type_rule s n f i ins ts ≡ found M)
  unfolding types_of
  types_pass u n f e i ins c ts h =
      judged_found (type_rule s n f) (root_at 1 f.parameters) f.code
      ((types_exact s n f (few_parameters u.flowing.bounded.declared.read n f e) (flows u.flowing n f e)).0.1
      (u.types n f e)) i ins
      c ts h

  sizes_decides : UpTo8 file s → Decides (sizes_right s) (EachFunction s (HasShapes s)) (EachFails s.functions (HasShapes s)
      (SizesStop s))
  unfolding sizes_right
  sizes_decides u =
      each_decides (sizes_of s) 0 s.functions (HasShapes s) (SizesStop s)
      (λ n f e. rw (zero-add n) (sizes_exact s n f (flows u.flowing n f e) (types_pass u n f e)))

---- From the relations to the check: what is left of it behind the numbers that hold

abbrev rest8 : Program → Tried Program
rest8 s = sizes_right s >>= (λ _. found s)

abbrev rest7 : Program → Tried Program
rest7 s = types_right s >>= (λ _. rest8 s)

abbrev rest6 : Program → Tried Program
rest6 s = flow_right s >>= (λ _. rest7 s)

abbrev rest5 : Program → Tried Program
rest5 s = bounds_right s >>= (λ _. rest6 s)

abbrev rest4 : Program → Tried Program
rest4 s = declarations_right s >>= (λ _. rest5 s)

module _ (file : List ℕ) where
  past4 : (s : Program) → UpTo4 file s → checked file ≡ rest4 s
  unfolding checked
  past4 s u = let p = passed_4 u in rw (p.0, p.1)

  past5 : (s : Program) → UpTo5 file s → checked file ≡ rest5 s
  past5 s u = past4 s u.read ∙ rw ((declarations_exact s).0.1 u.declarations)

  past6 : (s : Program) → UpTo6 file s → checked file ≡ rest6 s
  past6 s u = past5 s u.declared ∙ rw ((bounds_exact s).0.1 u.bounds)

  past7 : (s : Program) → UpTo7 file s → checked file ≡ rest7 s
  past7 s u = past6 s u.bounded ∙ rw ((flow_decides s).0.1 u.flow)

  past8 : (s : Program) → UpTo8 file s → checked file ≡ rest8 s
  past8 s u = past7 s u.flowing ∙ rw ((types_decides u.flowing).0.1 u.types)

  accepts : (s : Program) → Obeys file s → checked file ≡ found s
  accepts s o = past8 s o.typed ∙ rw ((sizes_decides o.typed).0.1 o.sizes)

  refuses : (r : Refusal) → Fails file r → checked file ≡ refused r
  unfolding checked decode
  refuses r (fails.whole h) = rw (((blocks_exact file).1 (refusal 1 0 0)).1 h)
  refuses r (fails.sum {k} h) = rw (((blocks_exact file).1 (refusal 2 k 0)).1 h)
  refuses r (fails.fields {k} h) = rw (((blocks_exact file).1 (refusal 3 k 0)).1 h)
  refuses r (records {at} b h) = rw ((blocks_exact file).0.1 b, ((records_exact (payload file)).1 (refusal 4 at 0)).1 h)
  refuses r (declarations {s} {p} {q} u h) = past4 s u ∙ rw (((declarations_exact s).1 (refusal 5 p q)).1 h)
  refuses r (bounds {s} {g} {k} u h) = past5 s u ∙ rw (((bounds_exact s).1 (refusal 6 g k)).1 h)
  refuses r (flow {s} {n} {i} {f} u at before h) = past6 s u ∙ rw (((flow_decides s).1 (refusal 7 n i)).1 (n, f, at, (i, refl, h), before))
  refuses r (types {s} {n} {i} {f} u at before h) = past7 s u
      ∙ rw (((types_decides u).1 (refusal 8 n i)).1 (n, f, at, (i, refl, h), before))
  refuses r (many {s} {n} {i} {f} u at before h) =
      past8 s u ∙ rw (((sizes_decides u).1 (refusal 9 n i)).1 (n, f, at, inr (i, refl, h), before))
  refuses r (cover {s} {n} {i} {f} u at before h) =
      past8 s u ∙ rw (((sizes_decides u).1 (refusal 10 n i)).1 (n, f, at, inl (i, refl, h), before))

---- From the check to the relations: pass by pass, one of the two holds

module _ (file : List ℕ) where
  abbrev Answered : Type 0
  Answered = ((r : Refusal) × Fails file r) ⊎ ((s : Program) × Obeys file s)

  -- which number it is that fails
  blocks_fail : {r : Refusal} → BlocksFail file r → Fails file r
  blocks_fail (whole h) = fails.whole (whole h)
  blocks_fail (sum w l right h) = fails.sum (sum w l right h)
  blocks_fail (fields w l right summed h) = fails.fields (fields w l right summed h)

  records_fail : {r : Refusal} → BlocksRight file → RecordsFail (payload file) r → Fails file r
  records_fail b (wrong reached h) = records b (wrong reached h)

  declarations_fail : (s : Program) {r : Refusal} → UpTo4 file s → DeclarationsFail s r → Fails file r
  declarations_fail s u (constructor_wrong at before h) = declarations u (constructor_wrong at before h)
  declarations_fail s u (signature_wrong right at before h) = declarations u (signature_wrong right at before h)

  bounds_fail : (s : Program) {r : Refusal} → UpTo5 file s → BoundsFail s r → Fails file r
  bounds_fail s u (missing at before l h earlier not) = bounds u (missing at before l h earlier not)

  module _ (s : Program) where
    after_8 : UpTo8 file s → (t : Check) → sizes_right s ≡ t → Answered
    after_8 u (found tt) e = inr (s, record { typed = u; sizes = (sizes_decides u).0.0 e })
    after_8 u (refused r) e = inl (one (((sizes_decides u).1 r).0 e))
      where
        one : EachFails s.functions (HasShapes s) (SizesStop s) r → (r : Refusal) × Fails file r
        one (n, f, at, inl (i, q, h), before) = (refusal 10 n i, cover u at before h)
        one (n, f, at, inr (i, q, h), before) = (refusal 9 n i, many u at before h)

    after_7 : UpTo7 file s → (t : Check) → types_right s ≡ t → Answered
    after_7 u (found tt) e = after_8 (record { flowing = u; types = (types_decides u).0.0 e }) (sizes_right s) refl
    after_7 u (refused r) e = let w = ((types_decides u).1 r).0 e in inl (refusal 8 w.0 w.3.0, types u w.2 w.4 w.3.2)

    after_6 : UpTo6 file s → (t : Check) → flow_right s ≡ t → Answered
    after_6 u (found tt) e = after_7 (record { bounded = u; flow = (flow_decides s).0.0 e }) (types_right s) refl
    after_6 u (refused r) e = let w = ((flow_decides s).1 r).0 e in inl (refusal 7 w.0 w.3.0, flow u w.2 w.4 w.3.2)

    after_5 : UpTo5 file s → (t : Check) → bounds_right s ≡ t → Answered
    after_5 u (found tt) e = after_6 (record { declared = u; bounds = (bounds_exact s).0.0 e }) (flow_right s) refl
    after_5 u (refused r) e = inl (r, bounds_fail s u (((bounds_exact s).1 r).0 e))

    after_4 : UpTo4 file s → (t : Check) → declarations_right s ≡ t → Answered
    after_4 u (found tt) e = after_5 (record { read = u; declarations = (declarations_exact s).0.0 e }) (bounds_right s) refl
    after_4 u (refused r) e = inl (r, declarations_fail s u (((declarations_exact s).1 r).0 e))

  after_3 : verify file ≡ passed → (t : Check) → records_right (payload file) ≡ t → Answered
  after_3 b (found tt) e =
      let s = program_of (payload file) in
      after_4 s (record { blocks = (blocks_exact file).0.0 b; records = (records_exact (payload file)).0.0 e; program = refl })
      (declarations_right s) refl
  after_3 b (refused r) e = inl (r, records_fail ((blocks_exact file).0.0 b) (((records_exact (payload file)).1 r).0 e))

  answered : (t : Check) → verify file ≡ t → Answered
  answered (found tt) e = after_3 e (records_right (payload file)) refl
  answered (refused r) e = inl (r, blocks_fail (((blocks_exact file).1 r).0 e))

pub refusal_exact : RefusalExact
refusal_exact file = (answers_exactly (checked file) (Fails file) (Obeys file) (refuses file) (accepts file) (answered file
    (verify file) refl)).0

pub check_exact : CheckExact
check_exact file = (answers_exactly (checked file) (Fails file) (Obeys file) (refuses file) (accepts file) (answered file
    (verify file) refl)).1
