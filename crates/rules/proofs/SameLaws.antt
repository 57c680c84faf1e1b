-- Bytes that stand in two lists: where they are the same, so is each record that they make.
use mathlib.Core.Path.{◌≡◌}
use mathlib.Core.List.{List}
use Prim.Native.Nat.{ℕ, ◌+◌, ◌≤◌, ◌<◌}
use native.Mathlib.Omega.{arith}
use native.Mathlib.Nat.{add-zero, add_assoc}
use Rattle.rules.specs.Base.{byte_at, word_at, long_at}
use Rattle.rules.specs.Records.{four_at, header_at, declaration_at, constructor_at, head_at, alternative_at, instruction_at}

-- n bytes from p on in the one list are those from q on in the other
pub record Same (a : List ℕ) (p : ℕ) (b : List ℕ) (q n : ℕ) : Type 0 where
  pub at : (j : ℕ) → j < n → byte_at a (p + j) ≡ byte_at b (q + j)

module _ {a : List ℕ} {p : ℕ} {b : List ℕ} {q n : ℕ} (s : Same a p b q n) where
  -- m of them, from the k-th on
  pub same_part : (k m : ℕ) → k + m ≤ n → Same a (p + k) b (q + k) m
  same_part k m h = record { at = λ j l. rw (add_assoc p k j, add_assoc q k j) (s.at (k + j) (omega arith)) }

  pub same_less : (m : ℕ) → m ≤ n → Same a p b q m
  same_less m h = record { at = λ j l. s.at j (omega arith) }

  pub same_first : 1 ≤ n → byte_at a p ≡ byte_at b q
  same_first h = rw (add-zero p, add-zero q) at (s.at 0 (omega arith))

module _ {a : List ℕ} {p : ℕ} {b : List ℕ} {q : ℕ} where
  pub word_same : Same a p b q 2 → word_at a p ≡ word_at b q
  word_same s = rw (same_first s (omega arith), s.at 1 (omega arith))

  pub four_same : Same a p b q 4 → four_at a p ≡ four_at b q
  four_same s = rw (same_first s (omega arith), s.at 1 (omega arith), s.at 2 (omega arith), s.at 3 (omega arith))

module _ {a : List ℕ} {p : ℕ} {b : List ℕ} {q : ℕ} where
  pub long_same : Same a p b q 4 → long_at a p ≡ long_at b q
  long_same s = rw (word_same (same_less s 2 (omega arith)), word_same (same_part s 2 2 (omega arith)))

  pub header_same : Same a p b q 4 → header_at a p ≡ header_at b q
  header_same s = rw (same_first s (omega arith), s.at 1 (omega arith), s.at 2 (omega arith), s.at 3 (omega arith))

  pub declaration_same : Same a p b q 6 → declaration_at a p ≡ declaration_at b q
  declaration_same s = rw (same_first s (omega arith), s.at 1 (omega arith), four_same (same_part s 2 4 (omega arith)))

  pub alternative_same : Same a p b q 6 → alternative_at a p ≡ alternative_at b q
  alternative_same s = rw (four_same (same_less s 4 (omega arith)), word_same (same_part s 4 2 (omega arith)))

  pub instruction_same : Same a p b q 4 → instruction_at a p ≡ instruction_at b q
  instruction_same s = rw (same_first s (omega arith), s.at 1 (omega arith), word_same (same_part s 2 2 (omega arith)))

module _ {a : List ℕ} {p : ℕ} {b : List ℕ} {q : ℕ} where
  pub constructor_same : Same a p b q 8 → constructor_at a p ≡ constructor_at b q
  constructor_same s = rw (declaration_same (same_less s 6 (omega arith)), s.at 6 (omega arith), s.at 7 (omega arith))

  pub head_same : Same a p b q 10 → head_at a p ≡ head_at b q
  head_same s =
      let w = word_same (same_part s 8 2 (omega arith)) in
      rw (declaration_same (same_less s 6 (omega arith)), s.at 6 (omega arith), s.at 7 (omega arith), w)
