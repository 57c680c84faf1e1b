-- Words written one after the other at the front of a buffer.
use mathlib.Core.Path.{◌≡◌, refl, sym, ap, ◌∙◌}
use mathlib.Core.List.{List, [], ◌∷◌, ◌++◌, append_assoc}
use Prim.Native.Nat.{ℕ, zero, suc, ◌+◌, ◌*◌, ◌≤◌, ◌<◌, min}
use native.Mathlib.Omega.{arith}
use native.Mathlib.Nat.{not-suc-le-zero, le_of_suc-le-suc}
use native.Mathlib.Numerals.{add-one}
use lib.ListN.{length, take, get_or, length-take}
use borrow.Author.Tests.{le-leb, lt-leb}
use Rattle.rules.specs.Answers.{code_of, word_bytes, words_into}
use Rattle.rules.specs.Container.{bytes4}
use Rattle.rules.specs.Memory.{front_written, overwritten}
use Rattle.rules.proofs.WriteLaws.{front_grown}

-- four bytes a word
words_length : (ws : List ℕ) → length (word_bytes ws) ≡ 4 * length ws
unfolding word_bytes
words_length [] = refl
words_length (w ∷ ws) = omega (arith, words_length ws)

-- one word more
words_grown : (ws : List ℕ) (i : ℕ) → i < length ws → word_bytes (take (suc i) ws) ≡ word_bytes (take i ws) ++ bytes4 (get_or ws i 0)
unfolding word_bytes
words_grown [] i h = absurd (not-suc-le-zero h)
words_grown (w ∷ ws) zero h = refl
words_grown (w ∷ ws) (suc i) h =
    ap (λ (l : List ℕ). bytes4 w ++ l) (words_grown ws i (le_of_suc-le-suc h))
    ∙ sym (append_assoc (bytes4 w) (word_bytes (take i ws)) (bytes4 (get_or ws i 0)))

module _ (ws out₀ : List ℕ) where
  -- i words stand at the front
  abbrev pub Fronted : ℕ → List ℕ → Type 0
  Fronted i out = out ≡ front_written (word_bytes (take i ws)) out₀

  pub fronted_none : Fronted 0 out₀
  unfolding word_bytes
  fronted_none = refl

  taken : (i : ℕ) → i ≤ length ws → length (word_bytes (take i ws)) ≡ 4 * i
  taken i h = let e : min i (length ws) ≡ i = omega arith in words_length (take i ws) ∙ ap (λ (n : ℕ). 4 * n) (length-take i ws ∙ e)

  pub fronted_next : {i : ℕ} {out out' : List ℕ} → Fronted i out → i < length ws → out' ≡ overwritten out (4 * i) (bytes4 (get_or ws i 0))
      → Fronted (i + 1) out'
  fronted_next {i} f h e =
      let w = word_bytes (take i ws) in
      rw (e, f, front_grown w (bytes4 (get_or ws i 0)) out₀ (4 * i) (sym (taken i (omega arith))), add-one i, words_grown ws i h)

  pub all_fronted : (n : ℕ) {out : List ℕ} → Fronted n out → n ≤ length ws → 4 * n ≤ length out₀ → out ≡ words_into (take n ws) out₀
  unfolding words_into
  all_fronted n f h room = f ∙ rw (le-leb (length (word_bytes (take n ws))) (length out₀) (omega (arith, taken n h)))

  pub none_fronted : (n : ℕ) → n ≤ length ws → length out₀ < 4 * n → out₀ ≡ words_into (take n ws) out₀
  unfolding words_into
  none_fronted n h short = rw (lt-leb (length (word_bytes (take n ws))) (length out₀) (omega (arith, taken n h)))

-- the first word of some words is their first
first_taken : (w : List ℕ) (n : ℕ) → 0 < n → get_or w 0 0 ≡ get_or (take n w) 0 0
first_taken w zero h = absurd (not-suc-le-zero h)
first_taken [] (suc n) h = refl
first_taken (x ∷ w) (suc n) h = refl

-- what is told are these words
pub told_words : (w out₀ : List ℕ) {words out : List ℕ} {r : ℕ} (n : ℕ) → 0 < n → take n w ≡ words
    → (r ≡ get_or w 0 0) × (out ≡ words_into (take n w) out₀) → (r ≡ code_of words) × (out ≡ words_into words out₀)
told_words w out₀ n some e (code, told) =
    (code ∙ first_taken w n some ∙ ap code_of e, told ∙ ap (λ (l : List ℕ). words_into l out₀) e)
