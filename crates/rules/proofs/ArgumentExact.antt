-- The argument check answers as its rule in document 01's words says: it reads on while all is right, and stops where something is wrong.
use mathlib.Core.Path.{◌≡◌, refl, sym, ap, ◌∙◌}
use mathlib.Core.List.{List, [], ◌∷◌, ◌++◌, append-nil, append_assoc}
use Rattle.std.specs.Prelude.{Option, None, Some, slice_get}
use mathlib.Core.Bool.{Bool, true, false}
use mathlib.Core.Logic.{◌⊎◌, inl, inr}
use Prim.Native.Nat.{ℕ, zero, suc, ◌+◌, ◌≤◌, ◌<◌}
use native.Mathlib.Omega.{arith}
use native.Mathlib.Nat.{add-zero, add-suc, suc-add, zero-add}
use lib.ListN.{length, take, drop}
use lib.Seq.{take-length, drop-length, drop-cons}
use lib.Dec.{leb, eqb}
use borrow.Author.Tests.{eqb-true, eqb-false, eq-eqb, ne_eqb, leb-true, leb-false, le-leb, lt-leb}
use Rattle.rules.specs.Base.{Refusal, refusal, found, refused, passed}
use Rattle.rules.specs.Program.{Constructor, Function, Program, constructor}
use Rattle.rules.specs.Tree.{Trees, node, nil, cons, from_list}
use Rattle.rules.specs.Machine.{Value}
use Rattle.rules.specs.Values.{Has, AllHave}
use Rattle.rules.specs.Prefix.{read_byte, read_bytes, arguments_right, values, written, written_all}
use Rattle.rules.specs.ArgumentRules.{Reads, no_byte, byte, FewPending, RightTo, WrongAt, unknown, wrong_type, cut_short, left_over}
use Rattle.rules.specs.ArgumentRules.{too_many, ArgumentsHold, ArgumentsFail, too_long, wrong, ArgumentExact}
use Rattle.rules.proofs.ListLaws.{none_some, some_inj}
use Rattle.rules.proofs.TriedLaws.{answers_exactly}
use Rattle.rules.proofs.Models.{have_trees}
use Rattle.rules.proofs.PrefixLaws.{argument_fact}

module _ (s : Program) where
  ---- Reading

  -- how no byte is read, and how a first byte
  reads_none : {ts left : List ℕ} → Reads s ts [] left → ts ≡ left
  reads_none no_byte = refl

  reads_byte : {c : ℕ} {ts bytes left : List ℕ} → Reads s ts (c ∷ bytes) left → (k : Constructor) × (constructor s c ≡ Some k)
      × (more : List ℕ) × (ts ≡ k.result ∷ more) × Reads s (k.arguments ++ more) bytes left
  reads_byte (byte {k = k} {ts = more} e r) = (k, e, more, refl, r)

  byte_of : {c t : ℕ} {k : Constructor} {ts bytes left : List ℕ} → constructor s c ≡ Some k → k.result ≡ t
      → Reads s (k.arguments ++ ts) bytes left → Reads s (t ∷ ts) (c ∷ bytes) left
  byte_of e is r = rw (← is) (byte e r)

  -- a first byte of known constructor
  reads_known : {c t : ℕ} {k : Constructor} {ts bytes left : List ℕ} → constructor s c ≡ Some k → Reads s (t ∷ ts) (c ∷ bytes) left
      → (k.result ≡ t) × Reads s (k.arguments ++ ts) bytes left
  reads_known {t = t} {k} {ts} e r =
      let b = reads_byte r in
      let same : b.0 ≡ k = some_inj (sym b.1 ∙ e) in
      let head : t ≡ b.0.result = cc b.3 in
      let tail : ts ≡ b.2 = cc b.3 in
      (cc, rw (tail, ← same) b.4)

  -- what is still to be read is settled by the types and the bytes
  pub reads_one : {ts bytes left left' : List ℕ} → Reads s ts bytes left → Reads s ts bytes left' → left ≡ left'
  reads_one no_byte q = reads_none q
  reads_one (byte e r) q = reads_one r (reads_known e q).1

  ---- Where all is right, or what goes wrong first

  few_none : (ts bytes : List ℕ) → FewPending s ts bytes 0
  few_none ts bytes j pending lo hi r = absurd (omega arith)

  -- a right byte, then more that is right
  module _ (c t : ℕ) (k : Constructor) (ts bytes : List ℕ) (e : constructor s c ≡ Some k) (is : k.result ≡ t)
      (few : length (k.arguments ++ ts) ≤ 256) where
    few_next : (o : ℕ) → FewPending s (k.arguments ++ ts) bytes o → FewPending s (t ∷ ts) (c ∷ bytes) (suc o)
    few_next o h zero pending lo hi r = absurd (omega arith)
    few_next o h (suc zero) pending lo hi r = rw (← reads_none (reads_known e r).1) few
    few_next o h (suc (suc j)) pending lo hi r = h (suc j) pending (omega arith) (omega arith) (reads_known e r).1

    right_next : {o : ℕ} {pending : List ℕ} → RightTo s (k.arguments ++ ts) bytes o pending
        → RightTo s (t ∷ ts) (c ∷ bytes) (suc o) pending
    right_next {o} (r, h) = (byte_of e is r, few_next o h)

    wrong_next : {o : ℕ} → WrongAt s (k.arguments ++ ts) bytes o → WrongAt s (t ∷ ts) (c ∷ bytes) (suc o)
    wrong_next (unknown r b n) = unknown (right_next r) b n
    wrong_next (wrong_type r b n d) = wrong_type (right_next r) b n d
    wrong_next (cut_short r l) = cut_short (right_next r) (ap suc l)
    wrong_next (left_over r l) = left_over (right_next r) (omega arith)
    wrong_next (too_many r b n d m) = too_many (right_next r) b n d m

  abbrev Judged : List ℕ → List ℕ → Type 0
  Judged ts bytes = RightTo s ts bytes (length bytes) [] ⊎ ((o : ℕ) × WrongAt s ts bytes o)

  judge : (bytes ts : List ℕ) → Judged ts bytes
  judge [] [] = inl (no_byte, few_none [] [])
  judge [] (t ∷ ts) = inr (0, cut_short (no_byte, few_none (t ∷ ts) []) refl)
  judge (c ∷ bytes) [] = inr (0, left_over (no_byte, few_none [] (c ∷ bytes)) (omega arith))
  judge (c ∷ bytes) (t ∷ ts) = known (λ pending. judge bytes pending) (constructor s c) refl
    where
      begin : RightTo s (t ∷ ts) (c ∷ bytes) 0 (t ∷ ts)
      begin = (no_byte, few_none (t ∷ ts) (c ∷ bytes))

      later : (k : Constructor) → constructor s c ≡ Some k → k.result ≡ t → length (k.arguments ++ ts) ≤ 256
          → Judged (k.arguments ++ ts) bytes → Judged (t ∷ ts) (c ∷ bytes)
      later k e is few (inl r) = inl (right_next c t k ts bytes e is few r)
      later k e is few (inr w) = inr (suc w.0, wrong_next c t k ts bytes e is few w.1)

      fits : ((pending : List ℕ) → Judged pending bytes) → (k : Constructor) → constructor s c ≡ Some k
          → (a : Bool) → eqb k.result t ≡ a → (b : Bool) → leb (length (k.arguments ++ ts)) 256 ≡ b → Judged (t ∷ ts) (c ∷ bytes)
      fits ih k e true ea true eb = later k e (eqb-true _ _ ea) (leb-true _ _ eb) (ih (k.arguments ++ ts))
      fits ih k e true ea false eb = inr (0, too_many begin refl e (eqb-true _ _ ea) (leb-false _ _ eb))
      fits ih k e false ea b eb = inr (0, wrong_type begin refl e (eqb-false _ _ ea))

      known : ((pending : List ℕ) → Judged pending bytes) → (o : Option Constructor) → constructor s c ≡ o → Judged (t ∷ ts) (c ∷ bytes)
      known ih None e = inr (0, unknown begin refl e)
      known ih (Some k) e = fits ih k e (eqb k.result t) refl (leb (length (k.arguments ++ ts)) 256) refl

  ---- The check goes on where all is right, and stops at what is wrong

  -- a byte that is right, with few types pending after it
  read_right : (offset c t : ℕ) (k : Constructor) (ts : List ℕ) → constructor s c ≡ Some k → k.result ≡ t
      → length (k.arguments ++ ts) ≤ 256 → read_byte s offset c (t ∷ ts) ≡ found (k.arguments ++ ts)
  unfolding read_byte
  read_right offset c t k ts e is few = rw (e, eq-eqb k.result t is, le-leb (length (k.arguments ++ ts)) 256 few)

  read_to : (o offset : ℕ) (bytes ts pending : List ℕ) → o ≤ length bytes → RightTo s ts bytes o pending
      → read_bytes s offset bytes ts ≡ read_bytes s (offset + o) (drop o bytes) pending
  unfolding read_bytes
  read_to zero offset bytes ts pending h (r, few) = rw (add-zero offset, reads_none r)
  read_to (suc o) offset [] ts pending h (r, few) = absurd (omega arith)
  read_to (suc o) offset (c ∷ bytes) [] pending h (r, few) = absurd (nothing_due r)
    where
      nothing_due : {left : List ℕ} → Reads s [] (c ∷ take o bytes) left → ⊥
      nothing_due q = let b = reads_byte q in let z : ◌≡◌ {A = ℕ} 0 1 = cc b.3 in omega arith
  read_to (suc o) offset (c ∷ bytes) (t ∷ ts) pending h (r, few) =
      let b = reads_byte r in
      let k = b.0 in
      let is : k.result ≡ t = cc b.3 in
      let rest : Reads s (k.arguments ++ ts) (take o bytes) pending = (reads_known b.1 r).1 in
      let due : length (k.arguments ++ ts) ≤ 256 =
      few 1 (k.arguments ++ ts) (omega arith) (omega arith) (byte_of b.1 is no_byte) in
      rw (read_right offset c t k ts b.1 is due, add-suc, ← suc-add)
      (read_to o (suc offset) bytes (k.arguments ++ ts) pending (omega arith)
      (rest, λ j p lo hi q. few (suc j) p (omega arith) (omega arith) (byte_of b.1 is q)))

  right_passes : (offset : ℕ) (bytes ts : List ℕ) → RightTo s ts bytes (length bytes) [] → read_bytes s offset bytes ts ≡ passed
  unfolding read_bytes
  right_passes offset bytes ts r = read_to (length bytes) offset bytes ts [] (omega arith) r ∙ rw drop-length

  -- what is behind the bytes before offset o
  from_byte : (o : ℕ) (bytes : List ℕ) {c : ℕ} → slice_get bytes o ≡ Some c → (o < length bytes) × (drop o bytes ≡ c ∷ drop (suc o) bytes)
  from_byte o [] e = none_some e
  from_byte zero (x ∷ bytes) e = (omega arith, cc)
  from_byte (suc o) (x ∷ bytes) e = let b = from_byte o bytes e in (omega arith, b.1)

  wrong_refused : (offset : ℕ) (bytes ts : List ℕ) (o : ℕ) → WrongAt s ts bytes o
      → read_bytes s offset bytes ts ≡ refused (refusal 12 (offset + o) 0)
  unfolding read_bytes read_byte
  wrong_refused offset bytes ts o (unknown {c} {t} {pending} r b n) =
      let d = from_byte o bytes b in
      read_to o offset bytes ts (t ∷ pending) (omega arith) r ∙ rw (d.1, n)
  wrong_refused offset bytes ts o (wrong_type {c} {t} {k} {pending} r b n d) =
      let d' = from_byte o bytes b in
      read_to o offset bytes ts (t ∷ pending) (omega arith) r ∙ rw (d'.1, n, ne_eqb k.result t d)
  wrong_refused offset bytes ts o (cut_short {t} {pending} r l) =
      read_to o offset bytes ts (t ∷ pending) (omega arith) r ∙ rw (l, drop-length)
  wrong_refused offset bytes ts o (left_over r l) =
      read_to o offset bytes ts [] (omega arith) r ∙ rw (drop-cons bytes o 0 l)
  wrong_refused offset bytes ts o (too_many {c} {t} {k} {pending} r b n d m) =
      let d' = from_byte o bytes b in
      read_to o offset bytes ts (t ∷ pending) (omega arith) r
      ∙ rw (d'.1, n, eq-eqb k.result t d, lt-leb (length (k.arguments ++ pending)) 256 m)

  ---- What is written of typed values is read as values of these types

  mutual
    unfolding written

    reads_value : (v : Value) (t : ℕ) {ts rest left : List ℕ} → Has s v t → Reads s ts rest left → Reads s (t ∷ ts) (written v ++ rest) left
    reads_value (node c vs) t (k, e, is, h) r = byte_of e is (reads_values vs k.arguments h r)

    reads_values : (vs : Trees ℕ) (us : List ℕ) {ts rest left : List ℕ} → AllHave s vs us → Reads s ts rest left
        → Reads s (us ++ ts) (written_all vs ++ rest) left
    reads_values nil [] h r = r
    reads_values nil (u ∷ us) h r = absurd h
    reads_values (cons v vs) [] h r = absurd h
    reads_values (cons v vs) (u ∷ us) (h, hs) r = rw append_assoc (reads_value v u h (reads_values vs us hs r))

---- The whole check

module _ (s : Program) (f : Function) (bytes : List ℕ) where
  checked_long : 65535 < length bytes → arguments_right s f bytes ≡ refused (refusal 12 65535 0)
  unfolding arguments_right
  checked_long h = rw (lt-leb (length bytes) 65535 h)

  checked_short : length bytes ≤ 65535 → arguments_right s f bytes ≡ read_bytes s 0 bytes f.parameters
  unfolding arguments_right
  checked_short h = rw (le-leb (length bytes) 65535 h)

  passes : length bytes ≤ 65535 → RightTo s f.parameters bytes (length bytes) [] → arguments_right s f bytes ≡ passed
  passes h r = checked_short h ∙ right_passes s 0 bytes f.parameters r

  fails : (r : Refusal) → ArgumentsFail s f bytes r → arguments_right s f bytes ≡ refused r
  fails r (too_long h) = checked_long h
  fails r (wrong {o} h w) = checked_short h ∙ wrong_refused s 0 bytes f.parameters o w ∙ rw zero-add

  hold_passes : ArgumentsHold s f bytes → arguments_right s f bytes ≡ passed
  hold_passes h = passes h.short (rw (take-length bytes) reads, h.few_pending)
    where
      reads : Reads s f.parameters bytes []
      reads =
          let none_left : Reads s [] [] [] = no_byte in
          let whole = reads_values s (from_list h.arguments) f.parameters (have_trees s h.typed) none_left in
          simp (append-nil, h.as_written) at whole

  -- they fail, or they are right
  abbrev Either : Type 0
  Either = ((r : Refusal) × ArgumentsFail s f bytes r) ⊎ (Unit {0} × ArgumentsHold s f bytes)

  either : Either
  either = one (leb (length bytes) 65535) refl (judge s bytes f.parameters)
    where
      one : (t : Bool) → leb (length bytes) 65535 ≡ t → Judged s f.parameters bytes → Either
      one false e j = inl (refusal 12 65535 0, too_long (leb-false _ _ e))
      one true e (inr w) = inl (refusal 12 w.0 0, wrong (leb-true _ _ e) w.1)
      one true e (inl r) =
          let a = argument_fact s f bytes (passes (leb-true _ _ e) r) in
          inr (tt, record { short = a.0; arguments = values s bytes; typed = a.1; as_written = a.2; few_pending = r.1 })

pub argument_exact : ArgumentExact
argument_exact s f bytes =
    let q = answers_exactly (arguments_right s f bytes) (ArgumentsFail s f bytes) (λ u. ArgumentsHold s f bytes) (fails s f bytes)
    (λ u. hold_passes s f bytes) (either s f bytes) in
    (q.1 tt, q.0)
