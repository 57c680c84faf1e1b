-- Values in prefix order: bytes that pass the argument check are values of the declared types, what is written of values is the bytes read,
-- and what is written is read back.
use mathlib.Core.Path.{◌≡◌, refl, ap}
use mathlib.Core.List.{List, [], ◌∷◌, ◌++◌, append_assoc, append-nil}
use Rattle.std.specs.Prelude.{Some}
use mathlib.Core.Bool.{◌&&◌, and-eq-true_iff}
use native.Mathlib.Omega.{arith}
use Prim.Native.Nat.{ℕ, suc, ◌≤◌}
use lib.ListN.{length, take, drop, take-append-drop}
use lib.Seq.{take-append_seam, drop-append_seam}
use lib.Dec.{leb, eqb}
use borrow.Author.Tests.{eqb-true, leb-true}
use Rattle.rules.specs.Base.{refusal, found, passed, require, or_refuse}
use Rattle.rules.specs.Lists.{a[], ◌a∷◌}
use Rattle.rules.specs.Program.{Constructor, Function, Program, constructor}
use Rattle.rules.specs.Tree.{Trees, node, nil, cons, to_list, from_list, made}
use Rattle.rules.specs.Machine.{Value}
use Rattle.rules.specs.Values.{Has, AllHave, Typed}
use Rattle.rules.specs.Prefix.{read_byte, read_bytes, arguments_right, arity_of, arity, values, written, written_all}
use Rattle.rules.specs.Facts.{ArgumentFact, ReadBackFact}
use Rattle.rules.proofs.ListLaws.{all2_length, all2_take, all2_drop, and_left}
use Rattle.rules.proofs.TriedLaws.{bind_found, found_some, required, found_inj, refused_found, after_some, after_required}
use Rattle.rules.proofs.Models.{to_from, have_list, have_trees}

---- Bytes

pub arity_is : (s : Program) (c : ℕ) {k : Constructor} → constructor s c ≡ Some k → arity s c ≡ length k.arguments
unfolding arity_of
arity_is s c e = ap arity_of e

-- a byte that is right: its constructor, and the types that are read next
pub read_cons : (s : Program) (o c : ℕ) (bytes pending : List ℕ) → read_bytes s o (c ∷ bytes) pending ≡ passed
    → (t : ℕ) × (ps : List ℕ) × (k : Constructor) × (pending ≡ t ∷ ps) × (constructor s c ≡ Some k) × (length (k.arguments ++ ps) ≤ 256)
    × (read_bytes s (suc o) bytes (k.arguments ++ ps) ≡ passed)
unfolding read_bytes read_byte
read_cons s o c bytes [] e = let z : ◌≡◌ {A = ℕ} 0 1 = cc in absurd (omega arith)
read_cons s o c bytes (t ∷ ps) e =
    let a = bind_found (read_byte s o c (t ∷ ps)) (λ p. read_bytes s (suc o) bytes p) e in
    let b = bind_found (or_refuse (constructor s c) (refusal 12 o 0)) _ a.1 in
    let x = bind_found (require (eqb b.0.result t && leb (length (b.0.arguments ++ ps)) 256) (refusal 12 o 0)) _ b.2 in
    let y = required _ _ x.1 in
    let same : b.0.arguments ++ ps ≡ a.0 = cc in (
      t,
      ps,
      b.0,
      refl,
      found_some _ _ b.1,
      leb-true _ 256 ((and-eq-true_iff (eqb b.0.result t)
          (leb (length (b.0.arguments ++ ps)) 256)).0 y).1,
      rw same a.2,
    )

---- Read, then written

-- bytes that are read as arguments of these types stand for values of them
read_typed : (s : Program) (offset : ℕ) (bytes pending : List ℕ) {u : Unit {0}} → read_bytes s offset bytes pending ≡ found u
    → Typed s (values s bytes) pending
unfolding read_bytes read_byte values arity_of
read_typed s offset [] [] e = a[]
read_typed s offset [] (t ∷ pending) e = absurd (refused_found e)
read_typed s offset (c ∷ bytes) [] e = absurd (refused_found e)
read_typed s offset (c ∷ bytes) (t ∷ pending) e =
    let r = bind_found (read_byte s offset c (t ∷ pending)) _ e in
    let k = after_some (constructor s c) _ _ r.1 in
    let K = k.0 in
    let q = after_required (eqb K.result t && leb (length (K.arguments ++ pending)) 256) _ _ k.2 in
    let is : K.result ≡ t = eqb-true _ _ (and_left (eqb K.result t) (leb (length (K.arguments ++ pending)) 256) q.0) in
    first (values s bytes) K k.1 is (rw (← found_inj q.1) at (read_typed s (suc offset) bytes r.0 r.2))
  where
    first : (later : List Value) (K : Constructor) → constructor s c ≡ Some K → K.result ≡ t → Typed s later (K.arguments ++ pending)
        → Typed s (made c (take (arity_of (constructor s c)) later) ∷ drop (arity_of (constructor s c)) later) (t ∷ pending)
    first later K ck is h =
        let n = length K.arguments in
        let front : Typed s (take n later) K.arguments = rw (take-append_seam K.arguments pending) at (all2_take n h) in
        let back : Typed s (drop n later) pending = rw (drop-append_seam K.arguments pending) at (all2_drop n h) in
        rw ck (◌a∷◌ {x = made c (take n later)} (K, ck, is, have_trees s front) back)

pub arguments_typed : (s : Program) (f : Function) (bytes : List ℕ) {u : Unit {0}} → arguments_right s f bytes ≡ found u
    → (length bytes ≤ 65535) × Typed s (values s bytes) f.parameters
unfolding arguments_right
arguments_typed s f bytes e =
    let b = after_required (leb (length bytes) 65535) _ _ e in
    (leb-true _ _ b.0, read_typed s 0 bytes f.parameters b.1)

written_append : (xs ys : List Value) → written_all (from_list (xs ++ ys)) ≡ written_all (from_list xs) ++ written_all (from_list ys)
unfolding written
written_append [] ys = refl
written_append (x ∷ xs) ys = rw (written_append xs ys, append_assoc)

-- the values that bytes stand for are written as these bytes
written_values : (s : Program) (bytes : List ℕ) → written_all (from_list (values s bytes)) ≡ bytes
unfolding values written
written_values s [] = refl
written_values s (c ∷ bytes) =
    let n = arity_of (constructor s c) in
    let later = values s bytes in
    ap (λ (l : List ℕ). c ∷ l) (rw (← written_append (take n later) (drop n later), take-append-drop n later) (written_values s bytes))

pub argument_fact : ArgumentFact
argument_fact s f bytes e = let t = arguments_typed s f bytes e in (t.0, t.1, written_values s bytes)

---- Written, then read

from_to : {A : Type 0} (ts : Trees A) → from_list (to_list ts) ≡ ts
from_to nil = refl
from_to (cons t ts) = ap (cons t) (from_to ts)

module _ (s : Program) where
  abbrev mutual
    Formed : Value → Type 0
    Formed (node c vs) = (length (to_list vs) ≡ arity_of (constructor s c)) × AllFormed vs

    AllFormed : Trees ℕ → Type 0
    AllFormed nil = Unit {0}
    AllFormed (cons v vs) = Formed v × AllFormed vs

  mutual
    unfolding written values

    read_back : (v : Value) → Formed v → (rest : List ℕ) → values s (written v ++ rest) ≡ v ∷ values s rest
    read_back (node c vs) h rest =
        let later : values s (written_all vs ++ rest) ≡ to_list vs ++ values s rest = read_back_all vs h.1 rest in
        rw (later, ← h.0, take-append_seam, drop-append_seam, from_to)

    read_back_all : (vs : Trees ℕ) → AllFormed vs → (rest : List ℕ) → values s (written_all vs ++ rest) ≡ to_list vs ++ values s rest
    read_back_all nil h rest = refl
    read_back_all (cons v vs) h rest =
        rw (append_assoc, read_back v h.0 (written_all vs ++ rest), read_back_all vs h.1 rest)

  -- a value of a type has as many arguments as its constructor asks for
  mutual
    unfolding arity_of

    formed : (v : Value) (t : ℕ) → Has s v t → Formed v
    formed (node c vs) t (k, e, is, h) = (rw e (all2_length (have_list s vs k.arguments h)), all_formed vs k.arguments h)

    all_formed : (vs : Trees ℕ) (ts : List ℕ) → AllHave s vs ts → AllFormed vs
    all_formed nil ts h = tt
    all_formed (cons v vs) [] h = absurd h
    all_formed (cons v vs) (t ∷ ts) (h, hs) = (formed v t h, all_formed vs ts hs)

pub read_back_fact : ReadBackFact
unfolding values
read_back_fact s = (
  (λ v t h. rw append-nil at (read_back s v (formed s v t h) [])),
  λ vs ts h. rw (append-nil, append-nil, to_from) at (read_back_all s (from_list vs) (all_formed s (from_list vs) ts (have_trees s h)) []),
)
