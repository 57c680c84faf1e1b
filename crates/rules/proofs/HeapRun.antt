-- The run over heap cells answers as the run over the values that they stand for.
use mathlib.Core.Path.{◌≡◌, refl, sym, ap, ap₂, ◌∙◌, subst}
use mathlib.Core.List.{List, [], ◌∷◌, ◌++◌, map}
use Rattle.std.specs.Prelude.{Option, None, Some}
use Prim.Native.Nat.{ℕ, zero, suc, ◌+◌, ◌≤◌, ◌<◌}
use native.Mathlib.Omega.{arith}
use lib.ListN.{length, length-append, length-take, length-drop, take, drop}
use lib.Dec.{leb}
use borrow.Author.Tests.{lt-ltb}
use Rattle.rules.specs.declared.records.Instruction.{Instruction}
use Rattle.rules.specs.declared.records.Instruction.TheVariants.{Load, Build, Call, Branch, Return, Stop}
use Rattle.rules.specs.Base.{Refusal, refusal, Tried, found, refused, ◌>>=◌, Check, passed, or_refuse}
use Rattle.rules.specs.Lists.{All, l[], ◌l∷◌}
use Rattle.rules.specs.Program.{Constructor, Program, constructor, function}
use Rattle.rules.specs.Tree.{made}
use Rattle.rules.specs.Machine.{◌>>=◌ as ◌>>=ᵒ◌, State, start, current, returned, result_of}
use Rattle.rules.specs.Heap.{Cell, Heap, HeapFrame, HeapState, heap_state, allocated, Refers, value_of, frame_of, state_of, place_of}
use Rattle.rules.specs.Heap.{heap_step, allocated_for, heap_start, NamesEarlier, Valid}
use Rattle.rules.specs.HeapRun.{result_on, end_on, step_on_within, continued_on, started_on}
use Rattle.rules.specs.Facts.{HeapFact}
use Rattle.rules.specs.Prefix.{read_bytes, arguments_right, arity, values, written}
use Rattle.rules.specs.Run.{with_arguments, Tables, Ending, finished, refused_with, Outcome, answer, fits, cells_taken, cells_loaded_by}
use Rattle.rules.specs.Run.{cells_loaded, refusal_at, finished_with, end_of, Point, step_within_by, step_within, continued, loaded_by}
use Rattle.rules.specs.Run.{loaded}
use Rattle.rules.specs.Run.{started_by}
use Rattle.rules.proofs.ListLaws.{at_less, all_map, all_take, all_drop}
use Rattle.rules.proofs.TriedLaws.{refused_found, found_inj, bind_found, after_some, after_required}
use Rattle.rules.proofs.PrefixLaws.{arity_is, read_cons}
use Rattle.rules.proofs.MapLaws.{option_map, map_take, map_drop, map_alike, bind_both}
use Rattle.rules.proofs.HeapLaws.{constant_at, top_mapped, heap_step_lem, allocated_value, allocated_kept}
use Rattle.rules.proofs.HeapGrowth.{earlier_allocated, refers_allocated, new_refers, allocated_cells, heap_grows}
use Rattle.rules.proofs.RunLaws.{continued_ended, continued_spent, continued_short, continued_on_lem}

---- The end

module _ (s : Program) (heap : Heap) where
  returned_alike : (ins : Instruction) (stack : List ℕ)
      → returned s ins (map (value_of heap) stack) ≡ option_map (value_of heap) (returned s ins stack)
  unfolding returned
  returned_alike (Load a) stack = refl
  returned_alike (Build c) stack = refl
  returned_alike (Call g) stack = refl
  returned_alike (Branch c b) stack = refl
  returned_alike Return stack = top_mapped s heap stack
  returned_alike Stop stack = refl

  result_alike : (frames : List HeapFrame) → result_of s (map (frame_of heap) frames) ≡ option_map (value_of heap) (result_on s frames)
  unfolding result_of result_on current
  result_alike [] = refl
  result_alike (fr ∷ []) = bind_both (value_of heap) (current s (place_of fr)) _ _ (λ ins e. returned_alike ins fr.stack)
  result_alike (fr ∷ w ∷ others) = refl

  pub end_alike : (frames : List HeapFrame) → end_of s (map (frame_of heap) frames) ≡ end_on s heap frames
  unfolding end_of end_on
  end_alike [] = refl
  end_alike (fr ∷ others) = ap finished_with (result_alike (fr ∷ others)) ∙ one (result_on s (fr ∷ others))
    where
      one : (o : Option ℕ) → finished_with (option_map (value_of heap) o) ≡ (o >>=ᵒ (λ k. Some (finished (written (value_of heap k)))))
      one None = refl
      one (Some k) = refl

---- A step within the tables

abbrev point_of : Tried HeapState → Tried Point
point_of (found h) = found (state_of h, length h.heap)
point_of (refused r) = refused r

module _ (s : Program) (few : length s.constructors ≤ 64) (m : Tables) where
  within_alike : (heap : Heap) (frames : List HeapFrame) → Valid (heap_state heap frames)
      → step_within s m (map (frame_of heap) frames) (length heap) ≡ point_of (step_on_within s m heap frames)
  unfolding step_within_by step_on_within current
  within_alike heap [] ok = refl
  within_alike heap (fr ∷ others) ok = rw (heap_step_lem s few h ok) (one (heap_step s h) refl)
    where
      h : HeapState
      h = heap_state heap (fr ∷ others)

      stuck : Refusal
      stuck = refusal 0 fr.function fr.instruction

      n : ℕ
      n = length heap + cells_taken s (current s (place_of fr))

      room : State → ℕ → Check
      room st cells = fits m st cells fr.function fr.instruction

      two : (h' : HeapState) (t : Check)
          → ◌≡◌ {A = Tried Point} (t >>= (λ _. found (state_of h', length h'.heap))) (point_of (t >>= (λ _. found h')))
      two h' (found u) = refl
      two h' (refused r) = refl

      one : (o : Option HeapState) → heap_step s h ≡ o
          → ◌≡◌ {A = Tried Point} (or_refuse (option_map state_of o) stuck >>= (λ next. room next n >>= (λ _. found (next, n))))
          (point_of (or_refuse o stuck >>= (λ next. room (state_of next) (length next.heap) >>= (λ _. found next))))
      one None e = refl
      one (Some h') e = rw (← (heap_grows s few h h' ok e).cells) (two h' (room (state_of h') (length h'.heap)))

  within_valid : (heap : Heap) (frames : List HeapFrame) {h' : HeapState} → Valid (heap_state heap frames)
      → step_on_within s m heap frames ≡ found h' → Valid h'
  unfolding step_on_within
  within_valid heap [] ok e = absurd (refused_found e)
  within_valid heap (fr ∷ others) ok e =
      let next = after_some (heap_step s (heap_state heap (fr ∷ others))) (refusal 0 fr.function fr.instruction) _ e in
      let room = bind_found (fits m (state_of next.0) (length next.0.heap) fr.function fr.instruction) _ next.2 in
      rw (← found_inj room.2) (heap_grows s few (heap_state heap (fr ∷ others)) next.0 ok next.1).valid

  pub continued_alike : (left steps : ℕ) (h : HeapState) → Valid h
      → continued_on s m left steps h ≡ continued s m left steps (state_of h) (length h.heap)
  unfolding continued_on
  continued_alike zero steps h ok = one (end_on s h.heap h.frames) refl
    where
      one : (o : Option (Ending (List ℕ))) → end_on s h.heap h.frames ≡ o
          → (elim o [ Some e ↦ answer e steps | None ↦ answer (refused_with (refusal_at 14 (state_of h))) steps ])
          ≡ continued s m zero steps (state_of h) (length h.heap)
      one (Some e) w = sym (continued_ended with_arguments s m zero steps (state_of h) _ (end_alike s h.heap h.frames ∙ w))
      one None w = sym (continued_spent with_arguments s m steps (state_of h) _ (end_alike s h.heap h.frames ∙ w))
  continued_alike (suc left) steps h ok = one (end_on s h.heap h.frames) refl (λ h' ok'. continued_alike left (suc steps) h' ok')
    where
      Goes : (h' : HeapState) → Type 0
      Goes h' = continued_on s m left (suc steps) h' ≡ continued s m left (suc steps) (state_of h') (length h'.heap)

      one : (o : Option (Ending (List ℕ))) → end_on s h.heap h.frames ≡ o → ((h' : HeapState) → Valid h' → Goes h')
          → (elim o [
            | Some e ↦ answer e steps
            | None ↦ elim (step_on_within s m h.heap h.frames) [
              | found next ↦ continued_on s m left (suc steps) next
              | refused r ↦ answer (refused_with r) steps
            ]
          ])
          ≡ continued s m (suc left) steps (state_of h) (length h.heap)
      one (Some e) w ih = sym (continued_ended with_arguments s m (suc left) steps (state_of h) _ (end_alike s h.heap h.frames ∙ w))
      one None w ih = two (step_on_within s m h.heap h.frames) refl
        where
          going : end_of s (state_of h) ≡ None
          going = end_alike s h.heap h.frames ∙ w

          two : (t : Tried HeapState) → step_on_within s m h.heap h.frames ≡ t
              → (elim t [ found next ↦ continued_on s m left (suc steps) next | refused r ↦ answer (refused_with r) steps ])
              ≡ continued s m (suc left) steps (state_of h) (length h.heap)
          two (found h') v =
              ih h' (within_valid h.heap h.frames ok v)
              ∙ sym (continued_on_lem with_arguments s m left steps (state_of h) _ going (within_alike h.heap h.frames ok ∙ ap point_of v))
          two (refused r) v = sym (continued_short with_arguments s m left steps (state_of h) _ going (within_alike h.heap h.frames ok
              ∙ ap point_of v))

---- The start

-- as many references as types that the bytes are read for
pub references_length : (s : Program) (o : ℕ) (bytes pending : List ℕ) → read_bytes s o bytes pending ≡ passed
    → length (allocated_for s bytes).1 ≡ length pending
unfolding allocated_for read_bytes
references_length s o [] [] e = refl
references_length s o [] (t ∷ ps) e = absurd (refused_found e)
references_length s o (c ∷ bytes) pending e =
    let (t, ps, k, p, q, h, rest) = read_cons s o c bytes pending e in
    let ih = references_length s (suc o) bytes (k.arguments ++ ps) rest in
    let n : arity s c ≡ length k.arguments = arity_is s c q in
    rw p (ap suc (length-drop (arity s c) (allocated_for s bytes).1 ∙ omega (arith, ih, n, length-append k.arguments ps)))

-- what is allocated for bytes: in order, the cells that they take, and the values that the bytes stand for
pub record Allocated (s : Program) (bytes : List ℕ) : Type 0 where
  pub earlier : NamesEarlier (allocated_for s bytes).0
  pub there : All (Refers (allocated_for s bytes).0) (allocated_for s bytes).1
  pub cells : length (allocated_for s bytes).0 ≡ cells_loaded s bytes
  pub stand : map (value_of (allocated_for s bytes).0) (allocated_for s bytes).1 ≡ values s bytes

-- a constant names nothing
earlier_none : NamesEarlier []
earlier_none k l = subst (λ (x : Cell). All (λ j. j < k) x.arguments) (sym (constant_at [] k (lt-ltb k 64 (omega (arith, l))))) l[]

pub allocated_all : (s : Program) → length s.constructors ≤ 64 → (o : ℕ) (bytes pending : List ℕ) → read_bytes s o bytes pending ≡ passed
    → Allocated s bytes
unfolding allocated_for values cells_loaded_by
allocated_all s few o [] pending e = record { earlier = earlier_none; there = l[]; cells = refl; stand = refl }
allocated_all s few o (c ∷ bytes) pending e =
    let (t, ps, k, p, q, h, rest) = read_cons s o c bytes pending e in
    one k q (omega (arith, references_length s (suc o) bytes (k.arguments ++ ps) rest, length-append k.arguments ps))
    (allocated_all s few (suc o) bytes (k.arguments ++ ps) rest)
  where
    heap : Heap
    heap = (allocated_for s bytes).0

    refs : List ℕ
    refs = (allocated_for s bytes).1

    n : ℕ
    n = arity s c

    one : (k : Constructor) → constructor s c ≡ Some k → length k.arguments ≤ length refs → Allocated s bytes → Allocated s (c ∷ bytes)
    one k q many a =
        let mine : List ℕ = take n refs in
        let small : c < 64 = omega (arith, few, at_less s.constructors c q) in
        let whole : length mine ≡ n = length-take n refs ∙ omega (arith, many, arity_is s c q) in
        let kept = allocated_kept heap a.earlier c mine in
        let later = all_drop n a.there in
        record {
          earlier = earlier_allocated heap a.earlier c mine (all_take n a.there);
          there = new_refers heap c small mine l∷ all_map (refers_allocated heap c mine) later;
          cells = omega (arith, allocated_cells heap c mine n whole, a.cells);
          stand = ap₂ ◌∷◌
              (allocated_value heap a.earlier c small mine (all_take n a.there)
              ∙ ap (made c) (sym (map_take (value_of heap) n refs) ∙ ap (take n) a.stand))
              (map_alike (value_of (allocated heap c mine).0) (value_of heap) kept later ∙ sym (map_drop (value_of heap) n refs)
              ∙ ap (drop n) a.stand);
        }

---- The whole run

-- what is loaded is the start, from bytes that are right for some types
loaded_start : (s : Program) (m : Tables) (entry : ℕ) (bytes : List ℕ) {st : State} → loaded s m entry bytes ≡ found st
    → (st ≡ start entry (values s bytes)) × (pending : List ℕ) × (read_bytes s 0 bytes pending ≡ passed)
unfolding loaded_by arguments_right
loaded_start s m entry bytes e =
    let f = after_some (function s entry) (refusal 11 entry 0) _ e in
    let a = bind_found (arguments_right s f.0 bytes) _ f.2 in
    let r = bind_found (fits m (start entry (values s bytes)) (cells_loaded s bytes) entry 1) _ a.2 in
    (sym (found_inj r.2), f.0.parameters, (after_required (leb (length bytes) 65535) _ _ a.1).1)

pub heap_fact : HeapFact
unfolding started_on started_by
heap_fact s few m budget entry bytes = one (loaded s m entry bytes) refl
  where
    one : (t : Tried State) → loaded s m entry bytes ≡ t
        → ◌≡◌ {A = Outcome} (elim t [
          | found st ↦ continued_on s m budget 0 (heap_start s entry bytes)
          | refused r ↦ answer
              (refused_with r) 0
        ])
        (elim t [ found st ↦ continued s m budget 0 st (cells_loaded s bytes) | refused r ↦ answer (refused_with r) 0 ])
    one (found st) e =
        let (is, pending, right) = loaded_start s m entry bytes e in
        let all = allocated_all s few 0 bytes pending right in
        let ordered : Valid (heap_start s entry bytes) = record { earlier = all.earlier; refer = all.there l∷ l[] } in
        continued_alike s few m budget 0 (heap_start s entry bytes) ordered
        ∙ ap₂ (λ (st : State) (n : ℕ). continued s m budget 0 st n) (ap (start entry) all.stand ∙ sym is) all.cells
    one (refused r) e = refl
