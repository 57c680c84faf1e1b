-- A number in decimal is what the kit spells of it, and a line as it grows.
use mathlib.Core.Path.{◌≡◌, refl, sym, ap, ◌∙◌}
use mathlib.Core.List.{List, [], ◌∷◌, ◌++◌}
use Prim.Native.Nat.{ℕ, zero, suc, ◌+◌, ◌-◌, ◌/◌, ◌%◌, ◌≤◌, ◌<◌}
use native.Mathlib.Omega.{arith}
use native.Mathlib.Nat.{zero-add, pow-suc, one-le-pow, pow-le-pow_right, mod-eq_of_lt}
use native.Mathlib.Decide.{dec_le}
use lib.ListN.{length, length-append}
use borrow.Author.Tests.{lt-ltb, le-ltb}
use Rattle.io.specs.Digits.{hex_digit_ascii, last_digits, IsDigitCount}
use Rattle.rules.specs.Memory.{front_written, overwritten}
use Rattle.rules.proofs.WriteLaws.{overwritten_more, front_start, front_grown}
use Rattle.report.specs.Line.{decimal_within, decimal, spaced}

---- A number

glyph_digit : (d : ℕ) → d < 10 → hex_digit_ascii d ≡ 48 + d
glyph_digit d h = rw (lt-ltb d 10 h)

less_one : (k : ℕ) → suc k - 1 ≡ k
less_one k = omega arith

-- the fewest digits are those with no zero in front
decimal_is : (places r n : ℕ) → IsDigitCount 10 1 n r → r ≤ places → last_digits 10 r n ≡ decimal_within places n
unfolding decimal_within
decimal_is places zero n f h = absurd (omega (arith, f.0))
decimal_is zero (suc r) n f h = absurd (omega arith)
decimal_is (suc places) (suc zero) n f h =
    let small : n < 10 = f.1 in
    rw (mod-eq_of_lt small, glyph_digit n small, lt-ltb n 10 small)
decimal_is (suc places) (suc (suc r)) n f h =
    let e = pow-suc 10 r in
    let large = rw (less_one (suc r)) at (f.2 (omega arith)) in
    let some : 10 ≤ n = omega (arith, e, large, one-le-pow r 10 (omega arith)) in
    let fewest : IsDigitCount 10 1 (n / 10) (suc r) =
    (omega arith, omega (arith, f.1, pow-suc 10 (suc r)), λ _. rw (less_one r) (omega (arith, e, large))) in
    rw (le-ltb n 10 some, glyph_digit (n % 10) (omega arith), decimal_is places (suc r) (n / 10) fewest (omega arith))

-- 64 bits take at most 20 digits
pub few_digits : (n r : ℕ) → IsDigitCount 10 1 n r → n < 18446744073709551616 → r ≤ 20
few_digits n r f h =
    elim (dec_le r 20) [
      | yes p ↦ p
      | no q ↦ absurd (omega (arith, q, h, f.2 (omega arith), pow-le-pow_right {n = 10} (omega arith) {i = 20} {j = r - 1} (omega arith)))
    ]

---- The line

-- what is put is a space and the number
pub number_long : (at n count : ℕ) {text : List ℕ} {behind r : ℕ} → IsDigitCount 10 1 n count → count ≤ 20 → count ≡ length text
    → text ≡ last_digits 10 count n → behind ≡ at + 1 → r ≡ behind + length text
    → (r ≡ at + length (spaced n)) × (r ≤ at + 21)
number_long at n count f few l t b e =
    let same = ap length (t ∙ decimal_is 20 count n f few) in
    (omega (arith, same, b, e), omega (arith, b, e, l, few))

-- a space, and then the digits
pub number_put : (out : List ℕ) (at n count : ℕ) {out₁ out₂ text : List ℕ} {behind : ℕ} → IsDigitCount 10 1 n count → count ≤ 20
    → text ≡ last_digits 10 count n → at + 21 ≤ length out
    → behind ≡ at + 1 → out₁ ≡ overwritten out at (32 ∷ []) → out₂ ≡ overwritten out₁ behind text → out₂ ≡ overwritten out at (spaced n)
number_put out at n count f few t h b e₁ e₂ =
    let e = t ∙ decimal_is 20 count n f few in
    rw (e₂, e₁, b, e) (overwritten_more out (32 ∷ []) (decimal n) at (omega arith))

-- a line's front, and the place behind it
pub record Front (w out : List ℕ) (out' : List ℕ) (at : ℕ) : Type 0 where
  pub written : out' ≡ front_written w out
  pub place : at ≡ length w

pub front_first : (w out : List ℕ) {out₁ : List ℕ} {at : ℕ} → at ≡ 0 + length w → out₁ ≡ overwritten out 0 w → Front w out out₁ at
front_first w out l e = record { written = e ∙ front_start w out; place = l ∙ zero-add (length w) }

-- more behind it
pub front_next : (w part out : List ℕ) {out₁ out₂ : List ℕ} {at at' : ℕ} → Front w out out₁ at → at' ≡ at + length part
    → out₂ ≡ overwritten out₁ at part → Front (w ++ part) out out₂ at'
front_next w part out f l e =
    record {
      written = rw (e, f.written, f.place) (front_grown w part out (length w) refl);
      place = rw (l, f.place) (sym (length-append w part));
    }
