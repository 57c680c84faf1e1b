-- The text: a line that is right has four bytes, so the lines are read four bytes at a time.
use Rattle.std.specs.Prelude.{if◌then◌else◌}
use mathlib.Core.Path.{◌≡◌, refl, sym, ap, ◌∙◌}
use mathlib.Core.List.{List, [], ◌∷◌, ◌++◌}
use Rattle.std.specs.Prelude.{Option, None, Some}
use mathlib.Core.Bool.{Bool, true, false, ◌&&◌}
use Prim.Native.Nat.{ℕ, suc, ◌*◌, ◌<◌}
use native.Mathlib.Omega.{arith}
use lib.ListN.{length, take, drop, length-take, length-drop}
use lib.Seq.{take_at}
use lib.Dec.{eqb}
use borrow.Author.Tests.{ne_eqb}
use Rattle.rules.specs.Base.{refusal, Tried, found, refused, ◌>>=◌, only, byte_at}
use Rattle.rules.specs.Lines.{letters_right, lookup, leading, text_lines, line_right, code, codes}
use Rattle.rules.proofs.ListLaws.{none_some, and_left, and_right, eqb_iff, false_true}
use Rattle.rules.proofs.TriedLaws.{refused_found, found_inj, bind_found}
use Rattle.lines.specs.LineRules.{Capital}
use Rattle.lines.proofs.LetterLaws.{capitals}

---- What a right line is

pub record Line (line : List ℕ) : Type 0 where
  pub four : length line ≡ 4
  pub letters : letters_right line ≡ true
  pub end : byte_at line 3 ≡ 10

line_is : (line : List ℕ) → line_right line ≡ true → Line line
unfolding line_right
line_is line h =
    let four = eqb (length line) 4 in
    let end = eqb (byte_at line 3) 10 in
    let fl = and_left (four && letters_right line) end h in record {
      four = (eqb_iff (length line) 4).0 (and_left four (letters_right line) fl);
      letters = and_right four (letters_right line) fl;
      end = (eqb_iff (byte_at line 3) 10).0 (and_right (four && letters_right line) end h);
    }

is_line : (line : List ℕ) → Line line → line_right line ≡ true
unfolding line_right
is_line line l = rw ((eqb_iff (length line) 4).1 l.four, l.letters, (eqb_iff (byte_at line 3) 10).1 l.end)

-- what is not one
pub is_false : (t : Bool) → (t ≡ true → ⊥) → t ≡ false
is_false true h = absurd (h refl)
is_false false h = refl

not_line : (line : List ℕ) → (Line line → ⊥) → line_right line ≡ false
not_line line h = is_false (line_right line) (λ w. h (line_is line w))

---- Lines of a text

-- a capital is no line's end
not_end : (b : ℕ) → Capital b → eqb b 10 ≡ false
not_end b h = ne_eqb b 10 (λ e. omega (arith, e, h.0))

-- four bytes that are a right line are the text's first
first_line : (text : List ℕ) → Line (take 4 text) → text_lines text ≡ take 4 text ∷ text_lines (drop 4 text)
unfolding text_lines
first_line [] l = absurd (let e = l.four in omega (arith, e))
first_line (a ∷ []) l = absurd (let e = l.four in omega (arith, e))
first_line (a ∷ b ∷ []) l = absurd (let e = l.four in omega (arith, e))
first_line (a ∷ b ∷ c ∷ []) l = absurd (let e = l.four in omega (arith, e))
first_line (a ∷ b ∷ c ∷ d ∷ text) l =
    let k = capitals (a ∷ b ∷ c ∷ d ∷ []) l.letters in
    rw (not_end a k.first, not_end b k.second, not_end c k.third, (eqb_iff d 10).1 l.end)

-- a text that is not empty has a first line, which stands at its front
record First (text : List ℕ) : Type 0 where
  line : List ℕ
  rest : List ℕ
  more : List (List ℕ)
  lines : text_lines text ≡ line ∷ more
  front : text ≡ line ++ rest

first : (text : List ℕ) (b : ℕ) → First (b ∷ text)
unfolding text_lines
first [] b = record { line = b ∷ []; rest = []; more = []; lines = one (eqb b 10); front = refl }
  where
    one : (t : Bool) → (if t then (b ∷ []) ∷ [] else leading b []) ≡ (b ∷ []) ∷ []
    one true = refl
    one false = refl
first (c ∷ text) b = one (eqb b 10) refl (first text c)
  where
    one : (t : Bool) → eqb b 10 ≡ t → First (c ∷ text) → First (b ∷ c ∷ text)
    one true w f = record { line = b ∷ []; rest = c ∷ text; more = text_lines (c ∷ text); lines = rw w; front = refl }
    one false w f =
        record { line = b ∷ f.line; rest = f.rest; more = f.more; lines = rw (w, f.lines); front = ap (◌∷◌ b) f.front }

---- Codes

-- a line with a code is right
pub coded_line : (es : List (List ℕ)) (line : List ℕ) {c : ℕ} → code es line ≡ Some c → Line line
unfolding code
coded_line es line {c} e = one (line_right line) refl
  where
    one : (t : Bool) → line_right line ≡ t → Line line
    one true w = line_is line w
    one false w = none_some (rw w at e)

pub code_none : (es : List (List ℕ)) (line : List ℕ) → (Line line → ⊥) → code es line ≡ None
unfolding code
code_none es line h = rw (not_line line h)

pub code_is : (es : List (List ℕ)) (line : List ℕ) → Line line → code es line ≡ lookup es line
unfolding code
code_is es line l = rw (is_line line l)

-- a first line that is right is the text's first four bytes
first_code : (es : List (List ℕ)) (text : List ℕ) (f : First text) → code es (take 4 text) ≡ None → code es f.line ≡ None
first_code es text f e = one (line_right f.line) refl
  where
    one : (t : Bool) → line_right f.line ≡ t → code es f.line ≡ None
    one true w =
        let same : take 4 text ≡ f.line = rw f.front (take_at f.line f.rest 4 (line_is f.line w).four) in
        rw same at e
    one false w = code_none es f.line (λ l. false_true (sym w ∙ is_line f.line l))

-- so the codes of a text are found four bytes at a time, and the first four that have none are refused
pub codes_wrong : (es : List (List ℕ)) (n : ℕ) (text : List ℕ) → 0 < length text → code es (take 4 text) ≡ None
    → codes es n (text_lines text) ≡ refused (refusal 20 n 0)
unfolding codes
codes_wrong es n [] h e = absurd (omega arith)
codes_wrong es n (b ∷ text) h e = let f = first text b in rw (f.lines, first_code es (b ∷ text) f e)

pub codes_right : (es : List (List ℕ)) (n : ℕ) (text : List ℕ) {c : ℕ} → code es (take 4 text) ≡ Some c
    → codes es n (text_lines text) ≡ (codes es (suc n) (text_lines (drop 4 text)) >>= (λ cs. found (c ∷ cs)))
unfolding codes
codes_right es n text e = rw (first_line text (coded_line es (take 4 text) e), e)

-- whether one code more is found does not depend on it
pub only_more : (c : ℕ) (t : Tried (List ℕ)) → only (t >>= (λ cs. found (c ∷ cs))) ≡ only t
only_more c (found cs) = refl
only_more c (refused r) = refl

---- All lines have codes

module _ (es : List (List ℕ)) where
  -- the first code is that of the first four bytes
  pub record Next (n : ℕ) (text : List ℕ) (c : ℕ) (cs : List ℕ) : Type 0 where
    pub coded : code es (take 4 text) ≡ Some c
    pub others : codes es (suc n) (text_lines (drop 4 text)) ≡ found cs

  pub next : (n : ℕ) (text : List ℕ) (c : ℕ) (cs : List ℕ) → codes es n (text_lines text) ≡ found (c ∷ cs) → Next n text c cs
  unfolding text_lines codes
  next n [] c cs e = absurd (let z : ◌≡◌ {A = ℕ} 0 1 = cc in omega arith)
  next n (b ∷ text) c cs e = one (code es (take 4 (b ∷ text))) refl
    where
      one : (o : Option ℕ) → code es (take 4 (b ∷ text)) ≡ o → Next n (b ∷ text) c cs
      one None w = absurd (refused_found (sym (codes_wrong es n (b ∷ text) (omega arith) w) ∙ e))
      one (Some d) w =
          let t = codes es (suc n) (text_lines (drop 4 (b ∷ text))) in
          let f = bind_found t (λ ds. found (d ∷ ds)) (sym (codes_right es n (b ∷ text) w) ∙ e) in
          let same : d ∷ f.0 ≡ c ∷ cs = found_inj f.2 in
          let head : d ≡ c = cc in
          let tail : f.0 ≡ cs = cc in
          record { coded = w ∙ ap Some head; others = f.1 ∙ ap found tail }

  -- no code, no text
  none_left : (n : ℕ) (text : List ℕ) → codes es n (text_lines text) ≡ found [] → length text ≡ 0
  unfolding text_lines codes
  none_left n [] e = refl
  none_left n (b ∷ text) e = one (code es (take 4 (b ∷ text))) refl
    where
      one : (o : Option ℕ) → code es (take 4 (b ∷ text)) ≡ o → length (b ∷ text) ≡ 0
      one None w = absurd (refused_found (sym (codes_wrong es n (b ∷ text) (omega arith) w) ∙ e))
      one (Some d) w =
          let t = codes es (suc n) (text_lines (drop 4 (b ∷ text))) in
          let f = bind_found t (λ ds. found (d ∷ ds)) (sym (codes_right es n (b ∷ text) w) ∙ e) in
          absurd (let q : d ∷ f.0 ≡ [] = found_inj f.2 in let z : ◌≡◌ {A = ℕ} 0 1 = cc in omega arith)

  -- every line of such a text has four bytes
  pub text_long : (n : ℕ) (text cs : List ℕ) → codes es n (text_lines text) ≡ found cs → length text ≡ 4 * length cs
  text_long n text [] e = none_left n text e
  text_long n text (c ∷ cs) e =
      let x = next n text c cs e in
      let four = rw (length-take 4 text) at (coded_line es (take 4 text) x.coded).four in
      let rest = rw (length-drop 4 text) at (text_long (suc n) (drop 4 text) cs x.others) in
      omega (arith, four, rest)
