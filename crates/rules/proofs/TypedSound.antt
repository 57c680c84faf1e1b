-- The first storey of soundness, without sizes: where flow and types are right, every frame has the types worked out at its instruction,
-- and
-- the machine goes on.
use mathlib.Core.Path.{◌≡◌, refl, sym, ◌∙◌}
use mathlib.Core.List.{List, [], ◌∷◌, ◌++◌}
use Rattle.std.specs.Prelude.{Option, Some}
use mathlib.Core.Bool.{Bool, true, false}
use Prim.Native.Nat.{ℕ, suc}
use lib.ListN.{length}
use lib.Dec.{eqb}
use borrow.Author.Tests.{eqb-true}
use Rattle.rules.specs.declared.records.Instruction.{Instruction}
use Rattle.rules.specs.declared.records.Instruction.TheVariants.{Load, Build, Call, Branch, Return, Stop}
use Rattle.rules.specs.Base.{Tried, found}
use Rattle.rules.specs.Lists.{All, a[], ◌a∷◌}
use Rattle.rules.specs.Program.{Constructor, Function, Program, constructor, function}
use Rattle.rules.specs.Tree.{Trees, node, to_list, made}
use Rattle.rules.specs.Stacks.{slot, split, push}
use Rattle.rules.specs.Walk.{Arrow}
use Rattle.rules.specs.Types.{type_rule}
use Rattle.rules.specs.Values.{Has, Typed}
use Rattle.rules.specs.Machine.{Value, Frame, onward, frame_at, top, current, execute}
use Rattle.rules.proofs.ListLaws.{some_inj, all2_append, all2_slot, all2_split, all_one, all_two}
use Rattle.rules.proofs.Models.{have_list, have_trees}
use Rattle.rules.proofs.WalkLaws.{LeadsOn}
use Rattle.rules.proofs.RuleLaws.{type_load, type_build, type_call, type_branch, type_return}
use Rattle.rules.proofs.Progress.{Done, stays, calls, returns, stops}

-- a table that holds of every instruction at once
abbrev pub Stands : {S : Type 0} → (ℕ → Option S) → (ℕ → Instruction → S → Tried (List (Arrow S))) → List Instruction → Type 0
Stands {S} tab rule code =
    (i : ℕ) (x : S) → tab i ≡ Some x → (ins : Instruction) × (slot i code ≡ Some ins) × (M : List (Arrow S)) × (rule i ins x ≡ found M)
    × All (LeadsOn tab) M

pub record TypedFn (s : Program) (n : ℕ) (f : Function) (ty : ℕ → Option (List ℕ)) : Type 0 where
  pub type_start : ty 1 ≡ Some f.parameters
  pub type_on : Stands ty (type_rule s n f) f.code

module _ (s : Program) (ty : ℕ → ℕ → Option (List ℕ)) (acc : (n : ℕ) (f : Function) → function s n ≡ Some f → TypedFn s n f (ty n)) where
  -- a frame has values of the types worked out at its instruction
  pub record FrameTyped (fr : Frame) : Type 0 where
    pub f : Function
    pub at_f : function s fr.function ≡ Some f
    pub ts : List ℕ
    pub types_at_lem : ty fr.function fr.instruction ≡ Some ts
    pub typed : Typed s fr.stack ts

  retype : {fr : Frame} (k : FrameTyped fr) (j : ℕ) {stack : List Value} {ts : List ℕ} → ty fr.function j ≡ Some ts → Typed s stack ts
      → FrameTyped (frame_at j fr stack)
  retype k j {ts} e h = record { f = k.f; at_f = k.at_f; ts = ts; types_at_lem = e; typed = h }

  -- the frame of a function that is called
  pub entered_typed : (g : ℕ) (G : Function) → function s g ≡ Some G → (vs : List Value) → Typed s vs G.parameters
      → FrameTyped (record { function = g; instruction = 1; stack = vs })
  entered_typed g G e vs h = record { f = G; at_f = e; ts = G.parameters; types_at_lem = (acc g G e).type_start; typed = h }

  -- what an instruction finds on a typed stack, and the typed frame that it leaves
  pub data Finds (fr : Frame) (f : Function) : Instruction → Type 0 where
    loads : {a : ℕ} (v : Value) → slot a fr.stack ≡ Some v → FrameTyped (onward fr (push fr.stack v)) → Finds fr f (Load a)
    builds : {c : ℕ} (K : Constructor) (rest args : List Value) → constructor s c ≡ Some K
        → split (length K.arguments) fr.stack ≡ Some (rest, args) → Typed s args K.arguments
        → FrameTyped (onward fr (push rest (made c args))) → Finds fr f (Build c)
    enters : {g : ℕ} (G : Function) (rest args : List Value) → function s g ≡ Some G
        → split (length G.parameters) fr.stack ≡ Some (rest, args) → Typed s args G.parameters
        → ((v : Value) → Has s v G.result → FrameTyped (onward fr (push rest v))) → Finds fr f (Call g)
    forks : {c b : ℕ} (K : Constructor) (rest : List Value) (d : ℕ) (vs : Trees ℕ) → constructor s c ≡ Some K
        → split 1 fr.stack ≡ Some (rest, node d vs ∷ []) → (d ≡ c → Typed s (to_list vs) K.arguments)
        → (d ≡ c → FrameTyped (onward fr (rest ++ to_list vs))) → FrameTyped (frame_at b fr fr.stack) → Finds fr f (Branch c b)
    leaves : (v : Value) → top fr.stack ≡ Some v → Has s v f.result → Finds fr f Return
    ends : Finds fr f Stop

  -- the parts of a value whose constructor is known
  parts_of : (c : ℕ) (K : Constructor) → constructor s c ≡ Some K → (vs : Trees ℕ) (t : ℕ) → Has s (node c vs) t
      → Typed s (to_list vs) K.arguments
  parts_of c K e vs t h = have_list s vs K.arguments (rw (some_inj (sym h.1 ∙ e)) at h.3)

  module _ {fr : Frame} (k : FrameTyped fr) where
    abbrev i : ℕ
    i = fr.instruction

    abbrev n : ℕ
    n = fr.function

    finds_branch : (c b : ℕ) (K : Constructor) → constructor s c ≡ Some K → {rest tops : List Value} {tr : List ℕ}
        → split 1 fr.stack ≡ Some (rest, tops) → Typed s rest tr → Typed s tops (K.result ∷ [])
        → ty n (suc i) ≡ Some (tr ++ K.arguments) → ty n b ≡ Some k.ts → Finds fr k.f (Branch c b)
    finds_branch c b K ck {rest} cut h (◌a∷◌ {x = node d vs} p a[]) on off =
        forks K rest d vs ck cut parts (λ e. retype k (suc i) on (all2_append h (parts e))) (retype k b off k.typed)
      where
        parts : d ≡ c → Typed s (to_list vs) K.arguments
        parts e = parts_of c K ck vs K.result (rw e at p)

    finds : (ins : Instruction) {M : List (Arrow (List ℕ))} → type_rule s n k.f i ins k.ts ≡ found M → All (LeadsOn (ty n)) M
        → Finds fr k.f ins
    finds (Load a) et mt =
        let t = type_load s n k.f i a k.ts et in
        let v = all2_slot a k.typed t.1 in
        loads v.0 v.1 (retype k (suc i) (all_one t.2 mt) (all2_append k.typed (v.2 a∷ a[])))
    finds (Build c) et mt =
        let t = type_build s n k.f i c k.ts et in
        let v = all2_split (length t.0.arguments) k.typed t.3 in
        let has : Has s (made c v.0.1) t.0.result = (t.0, t.1, refl, have_trees s v.3) in
        builds t.0 v.0.0 v.0.1 t.1 v.1 v.3 (retype k (suc i) (all_one t.4 mt) (all2_append v.2 (has a∷ a[])))
    finds (Call g) et mt =
        let t = type_call s n k.f i g k.ts et in
        let v = all2_split (length t.0.parameters) k.typed t.3 in
        enters t.0 v.0.0 v.0.1 t.1 v.1 v.3
        (λ w h. retype k (suc i) (all_one t.4 mt) (all2_append v.2 (h a∷ a[])))
    finds (Branch c b) et mt =
        let t = type_branch s n k.f i c b k.ts et in
        let v = all2_split 1 k.typed t.3 in
        let on = all_two t.4 mt in
        finds_branch c b t.0 t.1 v.1 v.2 v.3 on.0 on.1
    finds Return et mt =
        let t = type_return s n k.f i k.ts et in
        let v = all2_split 1 k.typed t.1 in
        one v.1 v.3
      where
        one : {rest tops : List Value} → split 1 fr.stack ≡ Some (rest, tops) → Typed s tops (k.f.result ∷ []) → Finds fr k.f Return
        one e (◌a∷◌ {x = v} h a[]) = leaves v (rw e) h
    finds Stop et mt = ends

    -- the instruction at which the frame stands, and what it finds
    pub finding : (ins : Instruction) × (current s fr ≡ Some ins) × (slot i k.f.code ≡ Some ins) × Finds fr k.f ins
    unfolding current
    finding =
        let t = (acc n k.f k.at_f).type_on i k.ts k.types_at_lem in
        (t.0, rw k.at_f t.1, t.1, finds t.0 t.3 t.4)

  ---- Types alone

  -- a function gives a value of its result type
  abbrev pub GivesTyped : ℕ → List Value → Value → Type 0
  GivesTyped g us v = (G : Function) × (function s g ≡ Some G) × Has s v G.result

  abbrev pub GoodTyped : Frame → List Value → Type 0
  GoodTyped fr us = FrameTyped fr

  pub does_typed : (fr : Frame) (us : List Value) → GoodTyped fr us → (ins : Instruction) × (current s fr ≡ Some ins)
      × Done s GoodTyped GivesTyped ins fr us
  unfolding execute
  does_typed fr us k = let d = finding k in (d.0, d.1, one d.0 d.3)
    where
      one : (ins : Instruction) → Finds fr k.f ins → Done s GoodTyped GivesTyped ins fr us
      one (Load a) (loads v e k') = stays (suc fr.instruction) (push fr.stack v) (λ others. rw e) k'
      one (Build c) (builds K rest args ck e h k') = stays (suc fr.instruction) (push rest (made c args)) (λ others. rw (ck, e)) k'
      one (Call g) (enters G rest args eg e h again) =
          calls g args G rest refl eg e (entered_typed g G eg args h)
          (λ v w. again v (rw (some_inj (sym w.1 ∙ eg)) at w.2))
      one (Branch c b) (forks K rest d vs ck e parts on off) = two (eqb d c) refl
        where
          two : (t : Bool) → eqb d c ≡ t → Done s GoodTyped GivesTyped (Branch c b) fr us
          two true w = stays (suc fr.instruction) (rest ++ to_list vs) (λ others. rw (e, w)) (on (eqb-true d c w))
          two false w = stays b fr.stack (λ others. rw (e, w)) off
      one Return (leaves v e h) = returns v refl e (k.f, k.at_f, h)
      one Stop ends = stops refl
