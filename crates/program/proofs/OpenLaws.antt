-- 4 as the code goes through it: one record, one function, all functions, the whole payload.
use Rattle.std.proofs.Common.{◌≡◌, refl, sym, ap, ◌∙◌, List, Bool, true, false, ◌&&◌, ℕ, ◌+◌, ◌≤◌, ◌<◌, arith, add-one}
use native.Mathlib.Nat.{not-suc-le-zero}
use lib.ListN.{length, get_or, set, length-set}
use lib.Seq.{get_or-set_same, get_or-set_other}
use lib.Dec.{leb, eqb}
use borrow.Author.Count.{below_more}
use borrow.Author.Tests.{leb-true, eq-eqb, ne_eqb}
use Rattle.rules.specs.declared.records.Header.{Header}
use Rattle.rules.specs.declared.records.HeadRecord.{HeadRecord}
use Rattle.rules.specs.Base.{Refusal, refusal, refused, ◌>>=◌, Check, passed, require, for_each, within, byte_at, word_at}
use Rattle.rules.specs.Container.{payload}
use Rattle.rules.specs.Records.{header_at, constructor_at, head_at, alternative_at, header_right, constructor_right, head_right}
use Rattle.rules.specs.Records.{alternative_right}
use Rattle.rules.specs.Records.{constructor_offset}
use Rattle.rules.specs.Records.{alternative_offset, code_offset, behind, head_offset, record_right, constructor_check}
use Rattle.rules.specs.Records.{alternative_check, instruction_check, function_right, constructors_right, functions_right, nothing_left}
use Rattle.rules.specs.Records.{records_right}
use Rattle.program.specs.Nth.{nth_right}
use Rattle.rules.specs.Established.{Measured, LaidOut}
use Rattle.rules.proofs.ListLaws.{and_left, and_right}
use Rattle.rules.proofs.PassLaws.{Passing, pass_first, pass_stop, pass_next, pass_end}
use Rattle.rules.proofs.RecordLaws.{record_short, record_whole}
use Rattle.rules.proofs.TriedLaws.{required}

---- One record

-- a record of so many bytes, which is right or not by where it stands; the code has its offset as x
module _ {file : List ℕ} {n : ℕ} (o : Measured file n) (size : ℕ) (right : ℕ → Bool) {x at : ℕ} (e : x ≡ at) where
  pub record_cut : n < x + size → record_right size (payload file) at (right at) ≡ refused (refusal 4 x 0)
  record_cut h = rw e (sym (record_short size (payload file) at n (right at) o.long (rw e at h)))

  as_read : {r : Bool} → x + size ≤ n → r ≡ right x → require r (refusal 4 x 0) ≡ record_right size (payload file) at (right at)
  as_read {r} h q = rw e (record_whole size (payload file) at n r (right at) o.long (rw e at h) (rw e at q))

  pub record_bad : {r : Bool} → x + size ≤ n → r ≡ right x → r ≡ false
      → record_right size (payload file) at (right at) ≡ refused (refusal 4 x 0)
  record_bad {r} h q w = sym (as_read h q) ∙ ap (λ (t : Bool). require t (refusal 4 x 0)) w

  pub record_good : {r : Bool} → x + size ≤ n → r ≡ right x → r ≡ true → record_right size (payload file) at (right at) ≡ passed
  record_good {r} h q w = sym (as_read h q) ∙ ap (λ (t : Bool). require t (refusal 4 x 0)) w

---- One function

function_by : (p : List ℕ) (at : ℕ) {t u v : Check} → record_right 10 p at (head_right (head_at p at)) ≡ t
    → for_each (alternative_check p at) 0 (byte_at p (at + 6)) ≡ u
    → for_each (instruction_check p (code_offset p at)) 0 (word_at p (at + 8)) ≡ v
    → (t >>= (λ _. u >>= (λ _. v))) ≡ function_right p at
unfolding function_right
function_by p at e₁ e₂ e₃ = rw (e₁, e₂, e₃)

module _ (p : List ℕ) (at : ℕ) where
  pub placed_head : {q : Refusal} → refused q ≡ record_right 10 p at (head_right (head_at p at)) → refused q ≡ function_right p at
  placed_head e = function_by p at (sym e) refl refl

  module _ {h : HeadRecord} (good : passed ≡ record_right 10 p at (head_right (head_at p at))) (is : h ≡ head_at p at) where
    -- the alternatives as the code checks them
    module _ {count first : ℕ} (ec : count ≡ h.alternatives) (ef : first ≡ at + 10) where
      alternatives_as : {t : Check} → t ≡ for_each (nth_right 6 alternative_at (alternative_right h.declaration.arity) p first) 0 count
          → for_each (alternative_check p at) 0 (byte_at p (at + 6)) ≡ t
      alternatives_as e =
          sym (e ∙ ap (λ (m : ℕ). for_each (nth_right 6 alternative_at (alternative_right h.declaration.arity) p first) 0 m) ec
          ∙ ap (λ (f : ℕ). for_each (nth_right 6 alternative_at (alternative_right h.declaration.arity) p f) 0 h.alternatives) ef
          ∙ ap (λ (x : HeadRecord). for_each (nth_right 6 alternative_at (alternative_right x.declaration.arity) p
          (at + 10)) 0 x.alternatives) is)

      pub placed_alternatives : {q : Refusal}
          → refused q ≡ for_each (nth_right 6 alternative_at (alternative_right h.declaration.arity) p first) 0 count
          → refused q ≡ function_right p at
      placed_alternatives e = function_by p at (sym good) (alternatives_as e) refl

      module _ (e : passed ≡ for_each (nth_right 6 alternative_at (alternative_right h.declaration.arity) p first) 0 count)
          {k base : ℕ} (ek : k ≡ h.alternatives) (eb : base ≡ alternative_offset at k) where
        base_is : base ≡ code_offset p at
        base_is = eb ∙ ap (alternative_offset at) ek ∙ ap (λ (x : HeadRecord). alternative_offset at x.alternatives) is

        pub placed_code : {t : Check} → t ≡ for_each (instruction_check p base) 0 h.instructions → t ≡ function_right p at
        placed_code {t} e' =
            let code : for_each (instruction_check p (code_offset p at)) 0 (word_at p (at + 8)) ≡ t =
            sym (e' ∙ ap (λ (b : ℕ). for_each (instruction_check p b) 0 h.instructions) base_is
            ∙ ap (λ (x : HeadRecord). for_each (instruction_check p (code_offset p at)) 0 x.instructions) is) in
            function_by p at (sym good) (alternatives_as e) code

---- All functions

abbrev function_check : List ℕ → ℕ → Check
function_check p g = function_right p (head_offset p g)

-- g of m functions have passed, and the next stands at `at`
pub record Scanned (p : List ℕ) (m g at : ℕ) (heads : List ℕ) : Type 0 where
  pub passing : Passing (function_check p) m g
  pub here : at ≡ head_offset p g
  pub small : at ≤ 400000
  pub long : length heads ≡ 32
  pub placed : (j : ℕ) → j < g → get_or heads j 0 ≡ head_offset p j

scan_first : {p : List ℕ} {m first : ℕ} {heads : List ℕ} → first ≡ head_offset p 0 → first ≤ 400000 → length heads ≡ 32
    → Scanned p m 0 first heads
scan_first e l long = record { passing = pass_first; here = e; small = l; long = long; placed = λ j b. absurd (not-suc-le-zero b) }

module _ {p : List ℕ} {m g at : ℕ} {heads : List ℕ} (s : Scanned p m g at heads) (h : g < m) where
  pub scan_stop : {q : Refusal} → refused q ≡ function_right p at → refused q ≡ for_each (function_check p) 0 m
  scan_stop e = pass_stop s.passing h (sym (e ∙ ap (function_right p) s.here))

  pub scan_next : {end : ℕ} → passed ≡ function_right p at → (end ≡ behind p at) × (end ≤ 400000) → m ≤ 32
      → Scanned p m (g + 1) end (set heads g at)
  unfolding head_offset
  scan_next e q few = record {
    passing = pass_next s.passing h (sym (e ∙ ap (function_right p) s.here));
    here = rw add-one (q.0 ∙ ap (behind p) s.here);
    small = q.1;
    long = length-set heads g at ∙ s.long;
    placed =
        below_more _ _ (λ j b. get_or-set_other heads g j at 0 (λ e. absurd (omega arith)) ∙ s.placed j b)
        (get_or-set_same heads g at 0 (omega (arith, s.long)) ∙ s.here);
  }

---- The whole payload

records_by : (p : List ℕ) {t u v w : Check} → record_right 4 p 0 (header_right (header_at p 0)) ≡ t → constructors_right p ≡ u
    → functions_right p ≡ v → nothing_left p (head_offset p (byte_at p 3)) ≡ w
    → (t >>= (λ _. u >>= (λ _. v >>= (λ _. w)))) ≡ records_right p
unfolding records_right
records_by p e₁ e₂ e₃ e₄ = rw (e₁, e₂, e₃, e₄)

pub few_functions : (h : Header) → header_right h ≡ true → h.functions ≤ 32
unfolding header_right
few_functions h e =
    leb-true _ _ (and_right (leb 1 h.functions) (leb h.functions 32)
    (and_right (eqb h.edition 1 && within 1 32 h.types && within 1 64 h.constructors) (within 1 32 h.functions) e))

pub few_constructors : (h : Header) → header_right h ≡ true → h.constructors ≤ 64
unfolding header_right
few_constructors h e =
    let first : Bool = eqb h.edition 1 && within 1 32 h.types in
    let c = and_right first (within 1 64 h.constructors)
    (and_left (first && within 1 64 h.constructors) (within 1 32 h.functions) e) in
    leb-true _ _ (and_right (leb 1 h.constructors) (leb h.constructors 64) c)

module _ {file : List ℕ} {n : ℕ} (o : Measured file n) where
  abbrev bytes : List ℕ
  bytes = payload file

  pub open_header : {q : Refusal} → refused q ≡ record_right 4 bytes 0 (header_right (header_at bytes 0)) → refused q ≡ records_right bytes
  open_header e = records_by bytes (sym e) refl refl refl

  module _ {h : Header} (good : passed ≡ record_right 4 bytes 0 (header_right (header_at bytes 0))) (is : h ≡ header_at bytes 0) where
    functions_as : {v : Check} → v ≡ for_each (function_check bytes) 0 h.functions → functions_right bytes ≡ v
    unfolding functions_right
    functions_as e = sym (e ∙ ap (λ (x : Header). for_each (function_check bytes) 0 x.functions) is)

    pub open_few : h.functions ≤ 32
    unfolding record_right
    open_few =
        few_functions h (ap header_right is ∙ and_right (leb 4 (length bytes)) (header_right (header_at bytes 0)) (required _ _ (sym good)))

    pub open_first : {c first : ℕ} {heads : List ℕ} → c ≡ h.constructors → first ≡ constructor_offset c → first ≤ 400000
        → length heads ≡ 32 → Scanned bytes h.functions 0 first heads
    unfolding head_offset
    open_first ec e = scan_first (e ∙ ap constructor_offset (ec ∙ ap (λ (x : Header). x.constructors) is))

    -- the constructors as the code checks them
    module _ {count first : ℕ} (ec : count ≡ h.constructors) (ef : first ≡ 4) where
      constructors_as : {v : Check} → v ≡ for_each (nth_right 8 constructor_at constructor_right bytes first) 0 count
          → constructors_right bytes ≡ v
      unfolding constructors_right
      constructors_as e =
          sym (e ∙ ap (λ (f : ℕ). for_each (nth_right 8 constructor_at constructor_right bytes f) 0 count) ef
          ∙ ap (for_each (constructor_check bytes) 0) (ec ∙ ap (λ (x : Header). x.constructors) is))

      pub open_constructors : {q : Refusal} → refused q ≡ for_each (nth_right 8 constructor_at constructor_right bytes first) 0 count
          → refused q ≡ records_right bytes
      open_constructors e = records_by bytes (sym good) (constructors_as e) refl refl

      module _ (constructors : passed ≡ for_each (nth_right 8 constructor_at constructor_right bytes first) 0 count) where
        pub open_functions : {q : Refusal} → refused q ≡ for_each (function_check bytes) 0 h.functions → refused q ≡ records_right bytes
        open_functions e = records_by bytes (sym good) (constructors_as constructors) (functions_as e) refl

        module _ {at g : ℕ} {heads : List ℕ} (s : Scanned bytes h.functions g at heads) (all : h.functions ≤ g) where
          ends : at ≡ head_offset bytes (byte_at bytes 3)
          ends =
              let e : g ≡ h.functions = omega (arith, s.passing.within) in
              s.here ∙ ap (head_offset bytes) (e ∙ ap (λ (x : Header). x.functions) is)

          by_end : (v : Bool) → eqb at n ≡ v → require v (refusal 4 at 0) ≡ records_right bytes
          unfolding nothing_left
          by_end v e =
              records_by bytes (sym good) (constructors_as constructors) (functions_as (pass_end s.passing all))
              (rw (← ends, ← o.long, e))

          pub open_end : (at ≡ n → ⊥) → refused (refusal 4 at 0) ≡ records_right bytes
          open_end ne = by_end false (ne_eqb at n ne)

          pub open_right : at ≡ n → passed ≡ records_right bytes
          open_right e = by_end true (eq-eqb at n e)

          pub open_laid : at ≡ n → LaidOut file h heads
          open_laid e = record {
            headed = record { parsed = record { verified = o.verified; records = sym (open_right e) }; header = is };
            placed = λ j b. s.placed j (omega (arith, all, ap (λ (x : Header). x.functions) is));
          }
