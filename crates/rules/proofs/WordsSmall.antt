-- Every word of an answer in words fits 32 bits: counts, places, lengths and steps are all small.
use mathlib.Core.Path.{◌≡◌, refl}
use mathlib.Core.List.{List, [], ◌∷◌}
use Rattle.std.specs.Prelude.{Option, None, Some}
use mathlib.Core.Bool.{Bool, true, false, ◌&&◌}
use Prim.Native.Nat.{ℕ, ◌+◌, ◌≤◌, ◌<◌, zero-le}
use native.Mathlib.Omega.{arith}
use native.Mathlib.Nat.{le_trans, le_of_eq, zero-add}
use lib.ListN.{length}
use lib.Dec.{leb, eqb}
use borrow.Author.Tests.{leb-true, leb-false}
use Rattle.rules.specs.Base.{Refusal, refusal, Tried, found, refused, passed, within, byte_at, word_at}
use Rattle.rules.specs.Lists.{All, l[], ◌l∷◌, Bytes}
use Rattle.rules.specs.Container.{payload, block_count, packed, pack, unpack}
use Rattle.rules.specs.Program.{Constructor, Function, Program, arity, constructor, function}
use Rattle.rules.specs.Records.{header_right, instruction_at, instruction_offset, code_offset, head_offset, constructor_of, constructor_at}
use Rattle.rules.specs.Records.{constructor_offset, instruction_of, function_of, program_of}
use Rattle.rules.specs.There.{FunctionThere}
use Rattle.rules.specs.Check.{checked, verdict_of}
use Rattle.rules.specs.FileRules.{BlocksRight, BlocksFail, whole, sum, fields, Item, header, head, alternative, instruction, end}
use Rattle.rules.specs.FileRules.{size, ItemRight, Reached, on, RecordsFail, wrong}
use Rattle.rules.specs.FileRules as item
use Rattle.rules.specs.DeclarationRules.{DeclarationsFail, constructor_wrong, signature_wrong, BoundsFail, missing}
use Rattle.rules.specs.Refusals.{TypesFail, UpTo4, Fails, records, declarations, bounds, flow, types, many, cover}
use Rattle.rules.specs.Refusals as fails
use Rattle.rules.specs.PackingRules.{PackingFails, bad_length, short_output, UnpackingFails, damaged}
use Rattle.rules.specs.PackingRules as packing
use Rattle.rules.specs.ArgumentRules.{WrongAt, unknown, wrong_type, cut_short, left_over, too_many, ArgumentsFail, too_long}
use Rattle.rules.specs.ArgumentRules as arguments
use Rattle.rules.specs.Walk.{root_at}
use Rattle.rules.specs.Types.{type_rule}
use Rattle.rules.specs.Machine.{Value, Frame, State, start, after, result_of}
use Rattle.rules.specs.Values.{Typed}
use Rattle.rules.specs.Prefix.{arguments_right, values, written}
use Rattle.rules.specs.Run.{Lent, with_arguments, usable, Ending, refused_with, Outcome, refusal_at, run}
use Rattle.rules.specs.Promise.{worked_out, Kept, Ends, with_result, undelivered, stopped, spent, short, Answers}
use Rattle.rules.specs.Promise.{no_entry, bad_arguments, no_room, began}
use Rattle.rules.specs.Answers.{length_of, measured_ending, measured, check_words, length_words, end_words, run_words}
use Rattle.rules.specs.WordRules.{Words, CheckWordsSmall, PackWordsSmall, UnpackWordsSmall, RunWordsSmall}
use Rattle.rules.proofs.ListLaws.{none_some, at_less, slot_low, and_left, and_right, all_at}
use Rattle.rules.proofs.WalkLaws.{state_stands}
use Rattle.rules.proofs.ArgumentExact.{argument_exact}
use Rattle.rules.proofs.ResultLaws.{result_fact}
use Rattle.rules.proofs.RunLaws.{run_refused}
use Rattle.rules.proofs.Promise.{tally_promise, no_room_number}
use Rattle.rules.proofs.NumberedLaws.{numbered_length, numbered_all}
use Rattle.rules.proofs.RecordLaws.{arguments_length, records_there}
use Rattle.rules.proofs.ContainerLaws.{verified_length, packed_length}
use Rattle.rules.proofs.BlocksExact.{within_iff, blocks_exact}
use Rattle.rules.proofs.PackingExact.{packing_exact, unpacking_exact}
use Rattle.rules.proofs.RecordsExact.{records_exact}
use Rattle.rules.proofs.CheckExact.{refusal_exact, check_exact}
use Rattle.rules.proofs.CheckLaws.{verdict_refused, verdict_accepted}

-- a refusal's number and its two places fit
abbrev Fits : Refusal → Type 0
Fits r = (r.number < 4294967296) × (r.first < 4294967296) × (r.second < 4294967296)

-- a refusal and one word more
place_words : (w : ℕ) {r : Refusal} → Fits r → w < 4294967296 → Words (r.number ∷ r.first ∷ r.second ∷ w ∷ [])
place_words w p h = p.0 l∷ p.1 l∷ p.2 l∷ h l∷ l[]

---- Blocks and records

-- a block's number is below 64
blocks_fit : {file : List ℕ} {r : Refusal} → BlocksFail file r → Fits r
blocks_fit (whole h) = (omega arith, omega arith, omega arith)
blocks_fit (sum w l right h) = (omega arith, omega (arith, w.0.1, l), omega arith)
blocks_fit (fields w l right summed h) = (omega arith, omega (arith, w.0.1, l), omega arith)

-- 64 blocks of 504 payload bytes
payload_short : {file : List ℕ} → BlocksRight file → length (payload file) ≤ 32256
payload_short {file} b = (verified_length file ((blocks_exact file).0.1 b)).2

module _ (bytes : List ℕ) where
  -- what is right is all there
  item_there : (at : ℕ) (i : Item) → ItemRight bytes at i → at + size i ≤ length bytes
  item_there at header right = right.0
  item_there at (item.constructor c) right = right.0
  item_there at (head g) right = right.0
  item_there at (alternative g h k) right = right.0
  item_there at (instruction g h i) right = right.0
  item_there at end right = omega arith

  -- so a reader never comes to a place past the payload
  reached_there : {at : ℕ} {i : Item} → Reached bytes at i → at ≤ length bytes
  reached_there item.start = zero-le
  reached_there (on {at} {item = i} r right next) = item_there at i right

  -- the record that is wrong stands where the reader came
  records_fit : {r : Refusal} → length bytes ≤ 32256 → RecordsFail bytes r → Fits r
  records_fit few (wrong reached h) = (omega arith, omega (arith, reached_there reached), omega arith)

---- A program whose records are right

-- the most that there can be of everything that a place counts
record Limits (s : Program) : Type 0 where
  types_most : s.types ≤ 32
  constructors_most : length s.constructors ≤ 64
  functions_most : length s.functions ≤ 32
  functions_small : All (λ f. (arity f ≤ 4) × (length f.code ≤ 256)) s.functions

-- the head says how many arguments and instructions there are
function_small : (bytes : List ℕ) (at : ℕ) → FunctionThere bytes at
    → (arity (function_of bytes at) ≤ 4) × (length (function_of bytes at).code ≤ 256)
unfolding function_of
function_small bytes at t = (
  le_trans (le_of_eq (arguments_length bytes at t.arity)) t.arity,
  le_trans (le_of_eq
      (numbered_length (λ i. instruction_of (instruction_at bytes (instruction_offset (code_offset bytes at) i))) (word_at bytes (at + 8))
      0))
      t.short_code,
)

-- the header's ranges are the limits
limits : {file : List ℕ} {s : Program} → UpTo4 file s → Limits s
unfolding header_right program_of
limits {file} {s} u =
    let bytes = payload file in
    let t = records_there bytes ((records_exact bytes).0.1 u.records) in
    let e = eqb (byte_at bytes 0) 1 in
    let T = within 1 32 (byte_at bytes 1) in
    let C = within 1 64 (byte_at bytes 2) in
    let F = within 1 32 (byte_at bytes 3) in
    let h : (e && T && C && F) ≡ true = t.header_right_lem in
    let etc = and_left (e && T && C) F h in
    let et = and_left (e && T) C etc in
    rw (← u.program) (record {
      types_most = ((within_iff 1 32 (byte_at bytes 1)).0 (and_right e T et)).1;
      constructors_most =
          le_trans (le_of_eq (numbered_length (λ c. constructor_of (constructor_at bytes (constructor_offset c))) (byte_at bytes 2) 0))
          ((within_iff 1 64 (byte_at bytes 2)).0 (and_right (e && T) C etc)).1;
      functions_most =
          le_trans (le_of_eq (numbered_length (λ g. function_of bytes (head_offset bytes g)) (byte_at bytes 3) 0))
          ((within_iff 1 32 (byte_at bytes 3)).0 (and_right (e && T && C) F h)).1;
      functions_small =
          numbered_all (λ g. function_of bytes (head_offset bytes g)) (byte_at bytes 3) 0
          (λ g l. rw (zero-add g) (function_small bytes (head_offset bytes g) (t.function g l)));
    })

-- constants have the numbers below 64
pub few_constructors : (file : List ℕ) (s : Program) → checked file ≡ found s → length s.constructors ≤ 64
few_constructors file s e = (limits ((check_exact file s).0 e).typed.flowing.bounded.declared.read).constructors_most

module _ {s : Program} (L : Limits s) where
  -- a number that names a constructor or a function is below their count
  constructor_below : (c : ℕ) {k : Constructor} → constructor s c ≡ Some k → c < 64
  constructor_below c e = le_trans (at_less s.constructors c e) L.constructors_most

  function_below : (n : ℕ) {f : Function} → function s n ≡ Some f → n < 32
  function_below n e = le_trans (at_less s.functions n e) L.functions_most

  -- what holds of every function, of one by its number
  small_function : (n : ℕ) {f : Function} → function s n ≡ Some f → (arity f ≤ 4) × (length f.code ≤ 256)
  small_function n e = all_at n L.functions_small e

  -- 5 names a constructor or a function, 6 a function and one of its arguments
  declarations_fit : {r : Refusal} → DeclarationsFail s r → Fits r
  declarations_fit (constructor_wrong {c} at before h) = (omega arith, omega arith, omega (arith, constructor_below c at))
  declarations_fit (signature_wrong {g} right at before h) = (omega arith, omega arith, omega (arith, function_below g at))

  bounds_fit : {r : Refusal} → BoundsFail s r → Fits r
  bounds_fit (missing {g} at before l h earlier not) =
      (omega arith, omega (arith, function_below g at), omega (arith, (small_function g at).0, h))

  -- 7 to 10 and 14 to 17 name a function and an instruction of its code
  place_fits : (number n i : ℕ) (f : Function) → number < 20 → function s n ≡ Some f → i ≤ length f.code → Fits (refusal number n i)
  place_fits number n i f h at l = (omega arith, omega (arith, function_below n at), omega (arith, (small_function n at).1, l))

-- past the code there is no instruction at which the types could fail: what obeys the rules before such a place obeys them at it too
types_place : {s : Program} {f : Function} {i : ℕ} → TypesFail s f i → i ≤ length f.code
types_place {s} {f} {i} h = one (leb i (length f.code)) refl
  where
    one : (t : Bool) → leb i (length f.code) ≡ t → i ≤ length f.code
    one true w = leb-true _ _ w
    one false w =
        let T = h.before.0 in
        let B = h.before.1 in
        absurd (h.here T (record {
          start = B.start;
          instructions = λ j ins l c. B.instructions j ins (omega (arith, (slot_low j f.code c).1, leb-false i (length f.code) w)) c;
          low = B.low;
        }))

---- Check

-- what fails says its place, number by number
fails_fit : {file : List ℕ} {r : Refusal} → Fails file r → Fits r
fails_fit (fails.whole h) = blocks_fit h
fails_fit (fails.sum h) = blocks_fit h
fails_fit (fails.fields h) = blocks_fit h
fails_fit {file} (records b h) = records_fit (payload file) (payload_short b) h
fails_fit (declarations u h) = declarations_fit (limits u) h
fails_fit (bounds u h) = bounds_fit (limits u.read) h
fails_fit (flow {n} {i} {f} u at before h) =
    place_fits (limits u.declared.read) 7 n i f (omega arith) at (slot_low i f.code h.stands).1
fails_fit (types {n} {i} {f} u at before h) = place_fits (limits u.bounded.declared.read) 8 n i f (omega arith) at (types_place h)
fails_fit (many {n} {i} {f} u at before h) =
    place_fits (limits u.flowing.bounded.declared.read) 9 n i f (omega arith) at (slot_low i f.code h.stands).1
fails_fit (cover {n} {i} {f} u at before h) =
    place_fits (limits u.flowing.bounded.declared.read) 10 n i f (omega arith) at (slot_low i f.code h.stands).1

-- so a refusal of the check fits
checked_fits : (file : List ℕ) {r : Refusal} → checked file ≡ refused r → Fits r
checked_fits file {r} e = fails_fit ((refusal_exact file r).0 e)

-- the places of a refusal, or the header's counts
pub check_words_small : CheckWordsSmall
check_words_small file = one (checked file) refl
  where
    one : (t : Tried Program) → checked file ≡ t → Words (check_words (verdict_of file))
    one (refused r) e = rw (verdict_refused file e) (place_words 0 (checked_fits file e) (omega arith))
    one (found s) e =
        let L = limits ((check_exact file s).0 e).typed.flowing.bounded.declared.read in
        let t : s.types < 4294967296 = omega (arith, L.types_most) in
        let c : length s.constructors < 4294967296 = omega (arith, L.constructors_most) in
        let f : length s.functions < 4294967296 = omega (arith, L.functions_most) in
        let z : 0 < 4294967296 = omega arith in
        rw (verdict_accepted file e) (z l∷ t l∷ c l∷ f l∷ l[])

---- Pack and unpack

-- 32,256 bytes need 64 blocks
packed_short : (bytes : List ℕ) → length bytes ≤ 32256 → length (packed bytes) ≤ 32768
unfolding block_count
packed_short bytes h = omega (arith, packed_length bytes)

-- as `length_words` says a length
length_words_lem : (n : ℕ) → n ≤ 32768 → Words (length_words (found n))
length_words_lem n h =
    let z : 0 < 4294967296 = omega arith in
    let l : n < 4294967296 = omega arith in
    z l∷ z l∷ z l∷ l l∷ l[]

-- 13 says the 64 blocks or fewer that are needed
packing_fits : {bytes : List ℕ} {room : ℕ} {r : Refusal} → PackingFails bytes room r → Fits r
packing_fits (bad_length h) = (omega arith, omega arith, omega arith)
packing_fits (short_output b lo hi w h) = (omega arith, omega (arith, hi, w.0), omega arith)

-- the places of a refusal, or the packed blocks' length
pub pack_words_small : PackWordsSmall
pack_words_small bytes room = one (pack bytes room) refl
  where
    one : (t : Tried (List ℕ)) → pack bytes room ≡ t → Words (length_words (length_of t))
    one (refused r) e = place_words 0 (packing_fits (((packing_exact bytes room).0 r).0 e)) (omega arith)
    one (found out) e =
        let p = ((packing_exact bytes room).1 out).0 e in
        length_words_lem (length out) (rw p.is_packed (packed_short bytes p.few_bytes))

-- the blocks fail as in the check, or 13 says the payload's length
unpacking_fits : {file : List ℕ} {room : ℕ} {r : Refusal} → UnpackingFails file room r → Fits r
unpacking_fits (damaged h) = blocks_fit h
unpacking_fits (packing.short_output b h) = (omega arith, omega (arith, payload_short b), omega arith)

-- the places of a refusal, or the payload's length
pub unpack_words_small : UnpackWordsSmall
unpack_words_small file room = one (unpack file room) refl
  where
    one : (t : Tried (List ℕ)) → unpack file room ≡ t → Words (length_words (length_of t))
    one (refused r) e = place_words 0 (unpacking_fits (((unpacking_exact file room).0 r).0 e)) (omega arith)
    one (found out) e =
        let p = ((unpacking_exact file room).1 out).0 e in
        length_words_lem (length out) (rw p.is_payload (le_trans (payload_short p.blocks) (omega arith)))

---- Run

-- a refusal with the steps
run_place_words : {r : Refusal} (steps : ℕ) → Fits r → steps < 4294967296 → Words (end_words (refused_with r) steps)
run_place_words steps p h = let z : 0 < 4294967296 = omega arith in p.0 l∷ p.1 l∷ p.2 l∷ h l∷ z l∷ l[]

-- arguments go wrong at one of at most 65,535 bytes, or behind the last
wrong_place : {s : Program} {ts bytes : List ℕ} {o : ℕ} → WrongAt s ts bytes o → o ≤ length bytes
wrong_place {bytes} {o} (unknown r at h) = omega (arith, at_less bytes o at)
wrong_place {bytes} {o} (wrong_type r at h n) = omega (arith, at_less bytes o at)
wrong_place (cut_short r h) = omega arith
wrong_place (left_over r h) = omega arith
wrong_place {bytes} {o} (too_many r at h t l) = omega (arith, at_less bytes o at)

-- 12 says the limit or the byte
arguments_fit : {s : Program} {f : Function} {bytes : List ℕ} {r : Refusal} → ArgumentsFail s f bytes r → Fits r
arguments_fit (too_long h) = (omega arith, omega arith, omega arith)
arguments_fit (arguments.wrong few w) = (omega arith, omega (arith, few, wrong_place w), omega arith)

module _ {s : Program} (L : Limits s) where
  -- a frame stands at an instruction of a function: there the check worked out its types
  frame_fits : (number limit : ℕ) (fr : Frame) → number < 20 → Kept s limit fr → Fits (refusal number fr.function fr.instruction)
  frame_fits number limit fr h k = one (function s fr.function) refl k.worked_out_lem
    where
      one : (o : Option Function) → function s fr.function ≡ o → worked_out s o fr.function fr.instruction ≡ Some k.types
          → Fits (refusal number fr.function fr.instruction)
      one None e w = none_some w
      one (Some f) e w =
          let stands = state_stands (type_rule s fr.function f) (root_at 1 f.parameters) f.code fr.instruction w in
          place_fits L number fr.function fr.instruction f h e (slot_low fr.instruction f.code stands.4).1

  -- so does the top frame of a state
  state_fits : (number limit : ℕ) (st : State) → number < 20 → All (Kept s limit) st → Fits (refusal_at number st)
  unfolding refusal_at
  state_fits number limit [] h k = (omega arith, omega arith, omega arith)
  state_fits number limit (fr ∷ frs) h (k l∷ ks) = frame_fits number limit fr h k

-- a run with an entry and a budget that fit
module _ (file : List ℕ) (small : Bytes file) (entry : ℕ) (entry_small : entry < 4294967296) (args : List ℕ) (budget : ℕ)
    (budget_small : budget < 4294967296) (lent : Lent) where
  abbrev Told : Outcome → Type 0
  Told a = Words (run_words (measured a))

  module _ (s : Program) (e : checked file ≡ found s) where
    abbrev begin : State
    begin = start entry (values s args)

    -- an accepted file obeys 4
    L : Limits s
    L = limits ((check_exact file s).0 e).typed.flowing.bounded.declared.read

    -- how it ends: with its steps, which the budget limits, and a result, which `result_fact` limits, or the place of the top frame
    ends_fit : (f : Function) → function s entry ≡ Some f → arguments_right s f args ≡ passed → Typed s (values s args) f.parameters
        → (limit cells room steps : ℕ) (st : State) (x : Ending (List ℕ)) → steps ≤ budget → after s steps begin ≡ Some st
        → Ends s f limit (usable lent) budget room begin cells steps st x → Words (end_words (measured_ending x) steps)
    ends_fit f at right typed limit cells room steps st x le r ends = one x ends
      where
        taken : steps < 4294967296
        taken = omega arith

        z : 0 < 4294967296
        z = omega arith

        stands : (number : ℕ) → number < 20 → Fits (refusal_at number st)
        stands number h = state_fits L number _ st h ((tally_promise file s e).states entry f at (values s args) typed steps st r).frames

        long : (v : Value) → result_of s st ≡ Some v → length (written v) < 4294967296
        long v q = result_fact file s small e entry f at args right steps st v r q

        one : (x : Ending (List ℕ)) → Ends s f limit (usable lent) budget room begin cells steps st x
            → Words (end_words (measured_ending x) steps)
        one x (with_result v q has most fits) = z l∷ z l∷ z l∷ taken l∷ long v q l∷ l[]
        one x (undelivered v q has most fits) = run_place_words steps (omega arith, long v q, z) taken
        one x (stopped q) = let n : 100 < 4294967296 = omega arith in n l∷ z l∷ z l∷ taken l∷ z l∷ l[]
        one x (spent q next h) = run_place_words steps (stands 14 (omega arith)) taken
        one x (short l next h number gone) = run_place_words steps (stands number (omega (arith, (no_room_number gone).1))) taken

    -- what is refused before the start has taken no step: 11 names the entry, 12 a byte, 15 to 17 the entry's first instruction
    answers_fit : (a : Outcome) → Answers s entry args budget lent a → Told a
    answers_fit a (no_entry h q) = rw q (run_place_words 0 (omega arith, entry_small, omega arith) (omega arith))
    answers_fit a (bad_arguments f at r h q) =
        rw q (run_place_words 0 (arguments_fit (((argument_exact s f args).1 r).0 h)) (omega arith))
    answers_fit a (no_room f at h typed number gone q) =
        rw q (run_place_words 0 (omega (arith, (no_room_number gone).1), entry_small, omega arith) (omega arith))
    answers_fit a (began f at h typed ran) =
        ends_fit f at h typed _ _ _ a.steps ran.last a.ending ran.within_budget ran.reached ran.ending

  -- the check refuses with a place of its own, or the promise says how the run went
  run_told : (t : Tried Program) → checked file ≡ t → Told (run file entry args budget lent)
  run_told (refused r) e =
      rw (run_refused with_arguments file entry args budget lent e) (run_place_words 0 (checked_fits file e) (omega arith))
  run_told (found s) e = answers_fit s e (run file entry args budget lent) ((tally_promise file s e).runs entry args budget lent)

-- the same of every file
pub run_words_small : RunWordsSmall
run_words_small file small entry entry_small args budget budget_small lent =
    run_told file small entry entry_small args budget budget_small lent (checked file) refl
