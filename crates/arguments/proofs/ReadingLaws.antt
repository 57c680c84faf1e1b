-- Laws of the argument check: what each byte leaves to be read, and what is left of the whole check.
use Prim.Native.Nat.{ℕ, ◌+◌, ◌-◌, ◌≤◌, ◌<◌}
use mathlib.Core.Path.{◌≡◌, sym, ap, ◌∙◌, refl}
use mathlib.Core.List.{List, [], ◌∷◌, ◌++◌, append_assoc, append-nil}
use Rattle.std.specs.Prelude.{None, Some}
use native.Mathlib.Omega.{arith}
use native.Mathlib.Nat.{add-zero}
use native.Mathlib.Numerals.{add-one}
use lib.ListN.{length, get_or, set, take, drop, length-append, length-drop, length-take, drop_of_length-le}
use lib.Seq.{sets, sets-eq, take-suc, take_all, drop-cons, drop-append_seam, drop-drop}
use borrow.Author.Tests.{eq-eqb, ne_eqb, le-leb, lt-leb}
use Rattle.rules.specs.declared.records.Declaration.{Declaration}
use Rattle.rules.specs.Base.{refusal, found, refused, Check, passed, byte_at}
use Rattle.rules.specs.Container.{payload}
use Rattle.rules.specs.Program.{Constructor, Program, constructor}
use Rattle.rules.specs.Records.{declaration_at, constructor_at, constructor_of, constructor_offset, function_of, program_of, arguments_of}
use Rattle.rules.specs.Records.{program_in}
use Rattle.rules.specs.There.{RecordsThere}
use Rattle.rules.specs.Established.{Verified, Parsed}
use Rattle.rules.specs.Prefix.{read_byte, read_bytes, arguments_right}
use Rattle.rules.proofs.ListLaws.{sets_append}
use Rattle.rules.proofs.NumberedLaws.{numbered_past}
use Rattle.rules.proofs.RecordLaws.{arguments_length, records_there}
use Rattle.fetch.proofs.IndexLaws.{constructor_is}
use Rattle.arguments.specs.Reading.{HeadThere, ReadsByte}

---- A few types, put one by one

put_more : (l : List ℕ) (at : ℕ) (xs : List ℕ) (j : ℕ) (l' : List ℕ) → j < length xs → l' ≡ sets l at (take j xs)
    → set l' (at + j) (get_or xs j 0) ≡ sets l at (take (j + 1) xs)
put_more l at xs j l' h e =
    let n : length (take j xs) ≡ j = length-take j xs ∙ omega arith in
    let t : take (j + 1) xs ≡ take j xs ++ (get_or xs j 0 ∷ []) = rw add-one (take-suc xs j 0 h) in
    sym (ap (sets l at) t ∙ sets_append l at (take j xs) (get_or xs j 0 ∷ []) ∙ rw (n, ← e))

module _ (l : List ℕ) (at : ℕ) (xs : List ℕ) (room : at + length xs ≤ length l) where
  -- the list with all of them in it
  abbrev all_in : List ℕ
  all_in = take at l ++ (xs ++ drop (length xs) (drop at l))

  put_all : (n : ℕ) {l' : List ℕ} → length xs ≡ n → l' ≡ sets l at (take n xs) → l' ≡ all_in
  put_all n e p =
      let tail : take at l ++ xs ++ drop (at + length xs) l ≡ all_in = rw (append_assoc, drop-drop) in
      p ∙ ap (sets l at) (take_all n xs (omega arith)) ∙ sets-eq xs l at room ∙ tail

  one : 1 ≤ length xs → set l at (get_or xs 0 0) ≡ sets l at (take 1 xs)
  one h = rw add-zero at (put_more l at xs 0 l h refl)

  two : 2 ≤ length xs → set (set l at (get_or xs 0 0)) (at + 1) (get_or xs 1 0) ≡ sets l at (take 2 xs)
  two h = put_more l at xs 1 _ h (one (omega arith))

  three : 3 ≤ length xs → set (set (set l at (get_or xs 0 0)) (at + 1) (get_or xs 1 0)) (at + 2) (get_or xs 2 0) ≡ sets l at (take 3 xs)
  three h = put_more l at xs 2 _ h (two (omega arith))

  pub put_none : length xs ≡ 0 → l ≡ all_in
  put_none e = put_all 0 e refl

  pub put_one : length xs ≡ 1 → set l at (get_or xs 0 0) ≡ all_in
  put_one e = put_all 1 e (one (omega arith))

  pub put_two : length xs ≡ 2 → set (set l at (get_or xs 0 0)) (at + 1) (get_or xs 1 0) ≡ all_in
  put_two e = put_all 2 e (two (omega arith))

  pub put_three : length xs ≡ 3 → set (set (set l at (get_or xs 0 0)) (at + 1) (get_or xs 1 0)) (at + 2) (get_or xs 2 0) ≡ all_in
  put_three e = put_all 3 e (three (omega arith))

  pub put_four : length xs ≡ 4
      → set (set (set (set l at (get_or xs 0 0)) (at + 1) (get_or xs 1 0)) (at + 2) (get_or xs 2 0)) (at + 3) (get_or xs 3 0) ≡ all_in
  put_four e = put_all 4 e (put_more l at xs 3 _ (omega arith) (three (omega arith)))

---- One byte

-- the types from a place on, after types were put there in the place of m
put_on : (l : List ℕ) (at m : ℕ) (vs : List ℕ) → at ≤ length l → drop at (take at l ++ (vs ++ drop m (drop at l))) ≡ vs ++ drop (at + m) l
put_on l at m vs h =
    let n : length (take at l) ≡ at = length-take at l ∙ omega arith in
    rw n at (drop-append_seam (take at l) (vs ++ drop m (drop at l))) ∙ ap (◌++◌ vs) (drop-drop m at l)

module _ (s : Program) (c at : ℕ) (types : List ℕ) where
  pub read_end : length types ≤ at → {types' : List ℕ} → ReadsByte s c at types types' None
  unfolding read_byte
  read_end h = record { says = λ o. rw (drop_of_length-le types {i = at} h); inside = tt }

  module _ (long : length types ≡ 256) (l : at < 256) where
    next : drop at types ≡ get_or types at 0 ∷ drop (at + 1) types
    next = let h : at < length types = omega arith in rw (add-one, drop-cons types at 0)

    pub read_unknown : constructor s c ≡ None → {types' : List ℕ} → ReadsByte s c at types types' None
    unfolding read_byte
    read_unknown e = record { says = λ o. rw (next, e); inside = tt }

    module _ (k : Constructor) (e : constructor s c ≡ Some k) where
      room : (length (k.arguments ++ drop (at + 1) types) ≡ length k.arguments + (255 - at))
      room = length-append k.arguments (drop (at + 1) types) ∙ omega (arith, length-drop (at + 1) types)

      pub read_type : (k.result ≡ get_or types at 0 → ⊥) → {types' : List ℕ} → ReadsByte s c at types types' None
      unfolding read_byte
      read_type n = record { says = λ o. rw (next, e) (simp (ne_eqb k.result (get_or types at 0) n)); inside = tt }

      pub read_many : k.result ≡ get_or types at 0 → at + 1 < length k.arguments → {types' : List ℕ} → ReadsByte s c at types types' None
      unfolding read_byte
      read_many q h = record {
        says =
            λ o. rw (next, e) (simp (
              eq-eqb k.result (get_or types at 0) q,
              lt-leb
                  (length (k.arguments ++ drop (at + 1) types)) 256 (omega (arith, room)),
            ));
        inside = tt;
      }

      read_right : k.result ≡ get_or types at 0 → (to m : ℕ) → to + m ≡ at + 1 → m ≡ length k.arguments
          → ReadsByte s c at types (take to types ++ (k.arguments ++ drop m (drop to types))) (Some to)
      unfolding read_byte
      read_right q to m b h = record {
        says = λ o.
            let d = rw b at (put_on types to m k.arguments (omega arith)) in
            rw (next, e) (simp (
              eq-eqb k.result (get_or types at 0) q,
              le-leb (length (k.arguments ++ drop (at + 1) types)) 256
                  (omega (arith, room)),
            ) (ap found d));
        inside = omega arith;
      }

---- The constructors of a parsed file, in the code's words

module _ {file : List ℕ} (parsed : Parsed file) where
  there : RecordsThere (payload file)
  there = records_there (payload file) parsed.records

  module _ (c known : ℕ) (ek : known ≡ byte_at (payload file) 2) where
    pub byte_unknown : known ≤ c → constructor (program_in file) c ≡ None
    unfolding program_of
    byte_unknown h =
        numbered_past (λ k. constructor_of (constructor_at (payload file) (constructor_offset k))) (byte_at (payload file) 2) 0 c
        (omega arith)

    pub declaration_there : c < known → Verified file × (constructor_offset c + 6 ≤ length (payload file))
    declaration_there h = (parsed.verified, omega (arith, (there.constructor c (omega arith)).0))

    module _ (h : c < known) (d : Declaration) (ed : d ≡ declaration_at (payload file) (constructor_offset c)) where
      pub declared_arity : (length (arguments_of d) ≡ d.arity) × (d.arity ≤ 4)
      declared_arity =
          let few = (there.constructor c (omega arith)).1 in
          rw ed (arguments_length (payload file) (constructor_offset c) few, few)

      pub declared : constructor (program_in file) c
          ≡ Some (record { result = d.result; arguments = arguments_of d; weight = byte_at (payload file) (constructor_offset c + 6) })
      unfolding constructor_of
      declared = constructor_is (payload file) c (omega arith) ∙ rw ed

      pub byte_right : (at : ℕ) (types : List ℕ) → length types ≡ 256 → at < 256 → d.result ≡ get_or types at 0 → {l part : List ℕ}
          → l ≡ arguments_of d → part ≡ l → (to m : ℕ) → to + m ≡ at + 1 → m ≡ length l
          → ReadsByte (program_in file) c at types (take to types ++ (part ++ drop m (drop to types))) (Some to)
      byte_right at types long l q e p to m b n = rw (p, e) (read_right (program_in file) c at types long l _ declared q to m b (rw e at n))

---- The whole check

-- what is left of the check after i bytes, with the types from a place on still to be read
pub record Reading (s : Program) (bytes parameters : List ℕ) (i : ℕ) (types : List ℕ) (at : ℕ) : Type 0 where
  pub left : read_bytes s 0 bytes parameters ≡ read_bytes s i (drop i bytes) (drop at types)
  pub low : at ≤ 256
  pub long : length types ≡ 256

reading_start : (s : Program) (bytes parameters types : List ℕ) → length types ≡ 256 → (at m : ℕ) → at + m ≡ 256 → m ≡ length parameters
    → Reading s bytes parameters 0 (take at types ++ (parameters ++ drop m (drop at types))) at
reading_start s bytes parameters types long at m b n = record {
  left =
      let d = rw b at (put_on types at m parameters (omega arith)) in
      sym (ap (read_bytes s 0 bytes) (d ∙ ap (λ (l : List ℕ). parameters ++ l) (drop_of_length-le types {i = 256} (omega arith))
      ∙ append-nil parameters));
  low = omega arith;
  long = simp (length-append, length-drop, length-take) (omega arith);
}

module _ (s : Program) (bytes parameters : List ℕ) (i : ℕ) (types : List ℕ) (at : ℕ) (x : Reading s bytes parameters i types at) where
  module _ (l : i < length bytes) (types' : List ℕ) (c : ℕ) (ec : c ≡ get_or bytes i 0) where
    first : drop i bytes ≡ c ∷ drop (i + 1) bytes
    first = rw (add-one, drop-cons bytes i 0, ec)

    pub reading_next : {next : ℕ} → ReadsByte s c at types types' (Some next) → length types' ≡ 256
        → Reading s bytes parameters (i + 1) types' next
    unfolding read_bytes
    reading_next b long = record { left = x.left ∙ rw (first, ← b.says i, add-one); low = b.inside; long = long }

    pub reading_stop : ReadsByte s c at types types' None → read_bytes s 0 bytes parameters ≡ refused (refusal 12 i 0)
    unfolding read_bytes
    reading_stop b = x.left ∙ rw (first, ← b.says i)

  module _ (l : i ≡ length bytes) where
    last : drop i bytes ≡ []
    last = drop_of_length-le bytes {i = i} (omega arith)

    pub reading_short : at < 256 → read_bytes s 0 bytes parameters ≡ refused (refusal 12 (length bytes) 0)
    unfolding read_bytes
    reading_short h =
        let m : at < length types = omega (arith, x.long) in
        x.left ∙ rw (last, drop-cons types at 0, l)

    pub reading_whole : 256 ≤ at → read_bytes s 0 bytes parameters ≡ passed
    unfolding read_bytes
    reading_whole h = x.left ∙ rw (last, drop_of_length-le types {i = at} (omega (arith, x.long)))

-- in the code's words
module _ (p : List ℕ) (head : ℕ) (there : HeadThere p head) (d : Declaration) (ed : d ≡ declaration_at p head) where
  pub head_arity : (length (arguments_of d) ≡ d.arity) × (d.arity ≤ 4)
  head_arity = rw ed (arguments_length p head there.few, there.few)

  pub parameters_put : (s : Program) (bytes types : List ℕ) → length types ≡ 256 → {l part : List ℕ} → l ≡ arguments_of d → part ≡ l
      → (at m : ℕ) → at + m ≡ 256 → m ≡ length l
      → Reading s bytes (arguments_of (declaration_at p head)) 0 (take at types ++ (part ++ drop m (drop at types))) at
  parameters_put s bytes types long e q at m b n =
      rw (q, e, ed) (reading_start s bytes (arguments_of (declaration_at p head)) types long at m b (rw (e, ed) at n))

module _ (s : Program) (p : List ℕ) (head : ℕ) (bytes : List ℕ) where
  pub arguments_long : 65535 < length bytes → refused (refusal 12 65535 0) ≡ arguments_right s (function_of p head) bytes
  unfolding arguments_right
  arguments_long h = simp (lt-leb (length bytes) 65535 h)

  pub arguments_read : length bytes ≤ 65535 → {t : Check} → read_bytes s 0 bytes (arguments_of (declaration_at p head)) ≡ t
      → t ≡ arguments_right s (function_of p head) bytes
  unfolding arguments_right function_of
  arguments_read h e = simp (le-leb (length bytes) 65535 h) (sym e)
