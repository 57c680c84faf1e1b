-- What is written of a survey passes the argument check and is the list of the lines' codes.
use Rattle.std.specs.Prelude.{if◌then◌else◌}
use mathlib.Core.Path.{◌≡◌, refl, subst, ◌∙◌}
use mathlib.Core.List.{List, [], ◌∷◌, ◌++◌}
use Rattle.std.specs.Prelude.{None, Some}
use mathlib.Core.Bool.{Bool, true, false, not, ◌&&◌}
use Prim.Native.Nat.{ℕ, suc, ◌+◌, ◌≤◌, ◌<◌}
use native.Mathlib.Omega.{arith}
use lib.ListN.{length}
use lib.Dec.{leb, eqb}
use borrow.Author.Tests.{le-leb, eq-eqb, ne_eqb}
use Rattle.rules.specs.Answers.{length_of, length_words}
use Rattle.rules.specs.Base.{Refusal, refusal, Tried, found, refused, passed, ◌>>=◌, require, byte_at}
use Rattle.rules.specs.Lines.{entries, table_right, same_letters, lookup, leading, text_lines, line_right, code, codes, list_of, in_room}
use Rattle.rules.specs.Lines.{lines_of}
use Rattle.rules.specs.Lists.{All, l[], ◌l∷◌, All2, a[], ◌a∷◌}
use Rattle.rules.specs.Prefix.{read_byte, read_bytes, arguments_right, arity_of, values}
use Rattle.rules.specs.Program.{Program}
use Rattle.rules.specs.WordRules.{Words}
use Rattle.rules.proofs.ListLaws.{none_some, some_inj}
use Rattle.rules.proofs.TriedLaws.{found_inj, bind_found, after_some, after_required, Refuses, refuses_some, refuses_bind}
use Rattle.lines.specs.Argument.{Declared, HasLists, list_value, LinesArgument, EmptyText, LinesWordsSmall}
use Rattle.lines.proofs.TextLaws.{text_long}
use Rattle.lines.proofs.WrittenLaws.{list_length}

---- Codes from the table

-- what holds of every entry's constructor holds of what is looked up
looked_up : (P : ℕ → Type 0) (es : List (List ℕ)) (line : List ℕ) {c : ℕ} → All (λ e. P (byte_at e 3)) es → lookup es line ≡ Some c → P c
unfolding lookup
looked_up P [] line l[] e = none_some e
looked_up P (x ∷ es) line {c} (p l∷ ps) e = one (same_letters x line) e (looked_up P es line ps)
  where
    one : (t : Bool) → (if t then Some (byte_at x 3) else lookup es line) ≡ Some c → (lookup es line ≡ Some c → P c) → P c
    one true q more = rw (some_inj q) at p
    one false q more = more q

-- a line with a code is looked up
code_looked : (es : List (List ℕ)) (line : List ℕ) {c : ℕ} → code es line ≡ Some c → lookup es line ≡ Some c
unfolding code
code_looked es line {c} e = one (line_right line) e
  where
    one : (t : Bool) → (if t then lookup es line else None) ≡ Some c → lookup es line ≡ Some c
    one true q = q
    one false q = none_some q

codes_looked : (es : List (List ℕ)) (n : ℕ) (lines : List (List ℕ)) (cs : List ℕ) → codes es n lines ≡ found cs
    → All2 (λ line c. lookup es line ≡ Some c) lines cs
unfolding codes
codes_looked es n [] cs e = rw (← found_inj e) a[]
codes_looked es n (line ∷ more) cs e =
    let k = after_some (code es line) (refusal 20 n 0) _ e in
    let r = bind_found (codes es (suc n) more) _ k.2 in
    rw (← found_inj r.2) (code_looked es line k.1 a∷ codes_looked es (suc n) more r.0 r.1)

looked_all : (P : ℕ → Type 0) (es : List (List ℕ)) {lines : List (List ℕ)} {cs : List ℕ} → All (λ e. P (byte_at e 3)) es
    → All2 (λ line c. lookup es line ≡ Some c) lines cs → All P cs
looked_all P es ps a[] = l[]
looked_all P es ps (◌a∷◌ {x} q qs) = looked_up P es x ps q l∷ looked_all P es ps qs

---- The argument check

module _ (s : Program) where
  -- one byte of a constructor that is declared so
  reads : (c : ℕ) (ts : List ℕ) (t offset : ℕ) (bytes pending : List ℕ) → Declared s c ts t → length (ts ++ pending) ≤ 256
      → read_bytes s offset (c ∷ bytes) (t ∷ pending) ≡ read_bytes s (suc offset) bytes (ts ++ pending)
  unfolding read_bytes read_byte
  reads c ts t offset bytes pending (k, is, takes, gives) few =
      rw (is, takes, eq-eqb k.result t gives, le-leb (length (ts ++ pending)) 256 few)

module _ (s : Program) (table : List ℕ) (cons nil code list : ℕ) (h : HasLists s table cons nil code list) where
  reads_list : (cs : List ℕ) (offset : ℕ) → All (λ c. Declared s c [] code) cs
      → read_bytes s offset (list_of cons nil cs) (list ∷ []) ≡ passed
  unfolding list_of read_bytes
  reads_list [] offset l[] = reads s nil [] list offset [] [] h.of_nil (omega arith)
  reads_list (c ∷ cs) offset (p l∷ ps) =
      reads s cons (code ∷ list ∷ []) list offset (c ∷ list_of cons nil cs) [] h.of_cons (omega arith)
      ∙ reads s c [] code (suc offset) (list_of cons nil cs) (list ∷ []) p (omega arith)
      ∙ reads_list cs (suc (suc offset)) ps

  of_values : (cs : List ℕ) → All (λ c. Declared s c [] code) cs → values s (list_of cons nil cs) ≡ list_value cons nil cs ∷ []
  unfolding list_of values arity_of
  of_values [] l[] = rw (h.of_nil.1, h.of_nil.2)
  of_values (c ∷ cs) (p l∷ ps) = rw (of_values cs ps, p.1, p.2, h.of_cons.1, h.of_cons.2)

pub lines_argument : LinesArgument
unfolding lines_of in_room arguments_right
lines_argument s f text table bytes cons nil code list room h one_list e =
    let r = after_required (table_right table && not (eqb cons nil)) (refusal 19 0 0) _ e in
    let b = bind_found (codes (entries table) 1 (text_lines text)) _ r.1 in
    let cs = b.0 in
    let w = after_required (leb (length (list_of cons nil cs)) room) _ _ b.2 in
    let is : list_of cons nil cs ≡ bytes = found_inj w.1 in
    let looked = codes_looked (entries table) 1 (text_lines text) cs b.1 in
    let all = looked_all (λ c. Declared s c [] code) (entries table) h.of_table looked in
    rw (← is) (record {
      codes = cs;
      of_lines = looked;
      long = list_length cons nil cs;
      right = rw (one_list, reads_list s table cons nil code list h cs 0 all) (last (leb (length (list_of cons nil cs)) 65535));
      value = of_values s table cons nil code list h cs all;
    })
  where
    last : (t : Bool) → (require t (refusal 12 65535 0) >>= (λ _. passed)) ≡ require t (refusal 12 65535 0)
    last true = refl
    last false = refl

pub empty_text : EmptyText
unfolding lines_of in_room text_lines codes list_of
empty_text table cons nil room right apart h = rw (right, ne_eqb cons nil apart, le-leb 1 room h)

---- Words of 32 bits

-- a line has a byte at least
few_lines : (text : List ℕ) → length (text_lines text) ≤ length text
unfolding text_lines
few_lines [] = omega arith
few_lines (b ∷ text) = one (eqb b 10) (text_lines text) (few_lines text)
  where
    one : (t : Bool) (lines : List (List ℕ)) → length lines ≤ length text
        → length (if t then (b ∷ []) ∷ lines else leading b lines) ≤ suc (length text)
    one true lines h = omega arith
    one false [] h = omega arith
    one false (line ∷ more) h = omega arith

-- a refusal's number and its two places fit
abbrev Fits : Refusal → Type 0
Fits r = (r.number < 4294967296) × (r.first < 4294967296) × (r.second < 4294967296)

-- 20 names one of the lines
codes_fit : (es : List (List ℕ)) (n : ℕ) (lines : List (List ℕ)) → n + length lines ≤ 4294967296 → Refuses Fits (codes es n lines)
unfolding codes
codes_fit es n [] h = tt
codes_fit es n (line ∷ more) h =
    refuses_some Fits (code es line) (refusal 20 n 0) _ (omega arith, omega arith, omega arith)
    (λ c. refuses_bind Fits (codes es (suc n) more) _ (codes_fit es (suc n) more (omega arith)) (λ cs. tt))

-- 13 names the bytes of the list, and so does the answer
module _ (text : List ℕ) (few : length text < 4294967296) (table : List ℕ) (cons nil room : ℕ) where
  list_few : (cs : List ℕ) → codes (entries table) 1 (text_lines text) ≡ found cs → length (list_of cons nil cs) < 4294967296
  list_few cs e = let l = list_length cons nil cs in let t = text_long (entries table) 1 text cs e in omega (arith, l, t)

  z : 0 < 4294967296
  z = omega arith

  words : (t : Tried (List ℕ)) → codes (entries table) 1 (text_lines text) ≡ t
      → Words (length_words (length_of (t >>= (λ cs. in_room (list_of cons nil cs) room))))
  unfolding in_room
  words (found cs) e = one (leb (length (list_of cons nil cs)) room)
    where
      one : (b : Bool) → Words (length_words (length_of (require b (refusal 13 (length (list_of cons nil cs)) 0)
          >>= (λ _. found (list_of cons nil cs)))))
      one true = z l∷ z l∷ z l∷ list_few cs e l∷ l[]
      one false = (let n : 13 < 4294967296 = omega arith in n) l∷ list_few cs e l∷ z l∷ z l∷ l[]
  words (refused r) e =
      let lines = few_lines text in
      let f : Fits r = subst (Refuses Fits) e (codes_fit (entries table) 1 (text_lines text) (omega (arith, lines))) in
      f.0 l∷ f.1 l∷ f.2 l∷ z l∷ l[]

pub lines_words_small : LinesWordsSmall
unfolding lines_of
lines_words_small text few table cons nil room =
    one (table_right table && not (eqb cons nil))
  where
    one : (b : Bool) → Words (length_words (length_of (require b (refusal 19 0 0)
        >>= (λ _. codes (entries table) 1 (text_lines text) >>= (λ cs. in_room (list_of cons nil cs) room)))))
    one true = words text few table cons nil room (codes (entries table) 1 (text_lines text)) refl
    one false =
        let n : 19 < 4294967296 = omega arith in
        let z : 0 < 4294967296 = omega arith in
        n l∷ z l∷ z l∷ z l∷ l[]
