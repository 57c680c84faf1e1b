-- The list of codes in the output: cons and a code for each line, then nil.
use mathlib.Core.Path.{◌≡◌, refl, sym, ◌∙◌}
use mathlib.Core.List.{List, [], ◌∷◌}
use mathlib.Core.Bool.{Bool, true, false, not, ◌&&◌}
use Prim.Native.Nat.{ℕ, zero, suc, ◌+◌, ◌*◌, ◌/◌, ◌≤◌, ◌<◌}
use native.Mathlib.Omega.{arith}
use lib.ListN.{length, take, drop, get_or, set}
use lib.Dec.{eqb}
use borrow.Author.Tests.{le-leb, lt-leb, ne_eqb}
use Rattle.rules.specs.Base.{Refusal, refusal, found, refused, ◌>>=◌, require}
use Rattle.rules.specs.Lines.{entries, table_right, text_lines, code, codes, list_of, in_room, lines_of}
use Rattle.std.specs.Prelude.{Some}
use Rattle.rules.proofs.ListLaws.{eqb_iff, some_inj}
use Rattle.rules.specs.Memory.{front_written}
use Rattle.rules.proofs.WriteLaws.{Pasted, pasted_start, pasted_next, pasted_end, front_start}
use Rattle.lines.specs.Marks.{listed}
use Rattle.lines.proofs.ScanLaws.{Scanned, scanned}

module _ (cons nil : ℕ) where
  pub list_length : (cs : List ℕ) → length (list_of cons nil cs) ≡ 2 * length cs + 1
  unfolding list_of
  list_length [] = refl
  list_length (c ∷ cs) = let e = list_length cs in omega (arith, e)

  -- what stands at each place of the list
  list_cons : (cs : List ℕ) (i : ℕ) → i < length cs → get_or (list_of cons nil cs) (2 * i) 0 ≡ cons
  unfolding list_of
  list_cons [] i h = absurd (omega arith)
  list_cons (c ∷ cs) zero h = refl
  list_cons (c ∷ cs) (suc i) h = let e : 2 * suc i ≡ suc (suc (2 * i)) = omega arith in rw e (list_cons cs i (omega arith))

  list_code : (cs : List ℕ) (i : ℕ) → i < length cs → get_or (list_of cons nil cs) (2 * i + 1) 0 ≡ get_or cs i 0
  unfolding list_of
  list_code [] i h = absurd (omega arith)
  list_code (c ∷ cs) zero h = refl
  list_code (c ∷ cs) (suc i) h = let e : 2 * suc i + 1 ≡ suc (suc (2 * i + 1)) = omega arith in rw e (list_code cs i (omega arith))

  list_nil : (cs : List ℕ) → get_or (list_of cons nil cs) (2 * length cs) 0 ≡ nil
  unfolding list_of
  list_nil [] = refl
  list_nil (c ∷ cs) = let e : 2 * suc (length cs) ≡ suc (suc (2 * length cs)) = omega arith in rw e (list_nil cs)

  -- a line more in the output, and nil behind the last
  module _ {out₀ : List ℕ} (cs : List ℕ) where
    list_next : (i : ℕ) {out : List ℕ} {v : ℕ} → i < length cs → v ≡ get_or cs i 0 → Pasted out₀ 0 (list_of cons nil cs) (2 * i) out
        → Pasted out₀ 0 (list_of cons nil cs) (2 * (i + 1)) (set (set out (2 * i) cons) (2 * i + 1) v)
    list_next i h e p =
        let long = list_length cs in
        pasted_next (pasted_next p (omega (arith, long)) refl (omega arith) (sym (list_cons cs i h))) (omega (arith, long)) (omega arith)
        (omega arith) (e ∙ sym (list_code cs i h))

    list_end : (i : ℕ) {out : List ℕ} → i ≡ length cs → Pasted out₀ 0 (list_of cons nil cs) (2 * i) out
        → set out (2 * i) nil ≡ front_written (list_of cons nil cs) out₀
    list_end i e p =
        let long = list_length cs in
        let last : nil ≡ get_or (list_of cons nil cs) (2 * i) 0 = rw e (sym (list_nil cs)) in
        pasted_end (pasted_next p (omega (arith, long, e)) refl (omega arith) last) (omega (arith, long, e))
        ∙ front_start (list_of cons nil cs) out₀

---- The loop that writes them

-- of the lines i are written, whatever their codes are
abbrev pub Writing : List (List ℕ) → List ℕ → ℕ → ℕ → List ℕ → ℕ → List ℕ → Type 0
Writing es text cons nil out₀ i out = (cs : List ℕ) → codes es 1 (text_lines text) ≡ found cs → Pasted out₀ 0 (list_of cons nil cs)
    (2 * i) out

module _ (es : List (List ℕ)) (text : List ℕ) (cons nil : ℕ) (out₀ : List ℕ) where
  pub writing_start : 2 * (length text / 4) + 1 ≤ length out₀ → Writing es text cons nil out₀ 0 out₀
  writing_start room cs e = pasted_start refl (let l = list_length cons nil cs in omega (arith, l, (scanned es text e).long, room))

  module _ {i : ℕ} {out : List ℕ} (w : Writing es text cons nil out₀ i out) where
    pub writing_next : {v : ℕ} → i < length text / 4 → code es (take 4 (drop (4 * i) text)) ≡ Some v
        → Writing es text cons nil out₀ (i + 1) (set (set out (2 * i) cons) (2 * i + 1) v)
    writing_next h is cs e =
        let s = scanned es text e in
        let there : i < length cs = omega (arith, s.long) in
        list_next cons nil cs i there (some_inj (sym is ∙ s.coded i there)) (w cs e)

    pub writing_end : i ≡ length text / 4 → (cs : List ℕ) → codes es 1 (text_lines text) ≡ found cs
        → set out (2 * i) nil ≡ front_written (list_of cons nil cs) out₀
    writing_end h cs e = list_end cons nil cs i (omega (arith, (scanned es text e).long)) (w cs e)

---- The answer

module _ {es : List (List ℕ)} {text : List ℕ} (cons nil : ℕ) {cs : List ℕ} (s : Scanned es text cs) where
  pub list_needed : length (list_of cons nil cs) ≡ 2 * (length text / 4) + 1
  list_needed = let e = list_length cons nil cs in omega (arith, e, s.long)

  pub list_short : (room : ℕ) → room < 2 * (length text / 4) + 1
      → in_room (list_of cons nil cs) room ≡ refused (refusal 13 (2 * (length text / 4) + 1) 0)
  unfolding in_room
  list_short room h = rw (list_needed, lt-leb (2 * (length text / 4) + 1) room h)

  pub list_fits : (room : ℕ) → 2 * (length text / 4) + 1 ≤ room → in_room (list_of cons nil cs) room ≡ found (list_of cons nil cs)
  unfolding in_room
  list_fits room h = rw (list_needed, le-leb (2 * (length text / 4) + 1) room h)

---- The order of the refusals

module _ (text table : List ℕ) (cons nil room : ℕ) where
  pub lines_alike : cons ≡ nil → lines_of text table cons nil room ≡ refused (refusal 19 0 0)
  unfolding lines_of
  lines_alike e = one (table_right table)
    where
      one : (t : Bool) → (require (t && not (eqb cons nil)) (refusal 19 0 0)
          >>= (λ _. codes (entries table) 1 (text_lines text) >>= (λ cs. in_room (list_of cons nil cs) room))) ≡ refused (refusal 19 0 0)
      one true = rw ((eqb_iff cons nil).1 e)
      one false = refl

  pub lines_table : table_right table ≡ false → lines_of text table cons nil room ≡ refused (refusal 19 0 0)
  unfolding lines_of
  lines_table h = rw h

  module _ (right : table_right table ≡ true) (apart : cons ≡ nil → ⊥) where
    pub lines_refused : {r : Refusal} → codes (entries table) 1 (text_lines text) ≡ refused r
        → lines_of text table cons nil room ≡ refused r
    unfolding lines_of
    lines_refused h = rw (right, ne_eqb cons nil apart, h)

    pub lines_listed : lines_of text table cons nil room ≡ listed (entries table) text cons nil room
    unfolding lines_of
    lines_listed = rw (right, ne_eqb cons nil apart)

    pub lines_found : {cs : List ℕ} → codes (entries table) 1 (text_lines text) ≡ found cs
        → lines_of text table cons nil room ≡ in_room (list_of cons nil cs) room
    lines_found h = lines_listed ∙ rw h
