-- Three capital letters: their ranges, and that their number tells them apart.
use mathlib.Core.Path.{◌≡◌}
use mathlib.Core.List.{List}
use mathlib.Core.Bool.{true, ◌&&◌}
use Prim.Native.Nat.{ℕ, ◌+◌, ◌*◌, ◌-◌, ◌<◌}
use native.Mathlib.Omega.{arith}
use native.Mathlib.Nat.{add-zero}
use lib.ListN.{take, drop, get_or}
use lib.Seq.{get_or-take, get_or-drop}
use lib.Dec.{eqb}
use Rattle.rules.specs.Base.{byte_at}
use Rattle.rules.specs.Lines.{capital, letters_right, same_letters}
use Rattle.rules.proofs.ListLaws.{and_left, and_right, eqb_iff}
use Rattle.rules.proofs.BlocksExact.{within_iff}
use Rattle.lines.specs.LineRules.{Capital}
use Rattle.lines.specs.Marks.{number}

-- what begins with three capitals
pub record Lettered (bytes : List ℕ) : Type 0 where
  pub first : Capital (byte_at bytes 0)
  pub second : Capital (byte_at bytes 1)
  pub third : Capital (byte_at bytes 2)

pub capitals : (bytes : List ℕ) → letters_right bytes ≡ true → Lettered bytes
capitals bytes h =
    let a = capital (byte_at bytes 0) in
    let b = capital (byte_at bytes 1) in
    let c = capital (byte_at bytes 2) in
    let ab = and_left (a && b) c h in record {
      first = (within_iff 65 90 (byte_at bytes 0)).0 (and_left a b ab);
      second = (within_iff 65 90 (byte_at bytes 1)).0 (and_right a b ab);
      third = (within_iff 65 90 (byte_at bytes 2)).0 (and_right (a && b) c h);
    }

pub number_less : (bytes : List ℕ) → letters_right bytes ≡ true → number bytes < 17576
number_less bytes h =
    let k = capitals bytes h in
    omega (arith, k.first.0, k.first.1, k.second.0, k.second.1, k.third.0, k.third.1)

-- the same three letters
pub record Same (a b : List ℕ) : Type 0 where
  pub first : byte_at a 0 ≡ byte_at b 0
  pub second : byte_at a 1 ≡ byte_at b 1
  pub third : byte_at a 2 ≡ byte_at b 2

pub same_letters_lem : (a b : List ℕ) → same_letters a b ≡ true → Same a b
same_letters_lem a b h =
    let x = eqb (byte_at a 0) (byte_at b 0) in
    let y = eqb (byte_at a 1) (byte_at b 1) in
    let z = eqb (byte_at a 2) (byte_at b 2) in
    let xy = and_left (x && y) z h in record {
      first = (eqb_iff (byte_at a 0) (byte_at b 0)).0 (and_left x y xy);
      second = (eqb_iff (byte_at a 1) (byte_at b 1)).0 (and_right x y xy);
      third = (eqb_iff (byte_at a 2) (byte_at b 2)).0 (and_right (x && y) z h);
    }

pub letters_same : (a b : List ℕ) → Same a b → same_letters a b ≡ true
letters_same a b s =
    rw (
      (eqb_iff (byte_at a 0) (byte_at b 0)).1 s.first,
      (eqb_iff (byte_at a 1) (byte_at b 1)).1 s.second,
      (eqb_iff (byte_at a 2) (byte_at b 2)).1 s.third,
    )

pub same_number : (a b : List ℕ) → Same a b → number a ≡ number b
same_number a b s = rw (s.first, s.second, s.third)

pub number_same : (a b : List ℕ) → letters_right a ≡ true → letters_right b ≡ true → number a ≡ number b → Same a b
number_same a b ha hb e =
    let k = capitals a ha in
    let l = capitals b hb in
    let x : byte_at a 0 ≡ byte_at b 0 = omega (arith, e, k.first.0, k.second.1, k.third.1, l.first.0, l.second.1, l.third.1) in
    let y : byte_at a 1 ≡ byte_at b 1 = omega (arith, e, x, k.second.0, k.third.1, l.second.0, l.third.1) in
    record { first = x; second = y; third = omega (arith, e, x, y, k.third.0, l.third.0) }

-- the first four bytes have the letters of all
pub front_letters : (bytes : List ℕ) → letters_right (take 4 bytes) ≡ letters_right bytes
front_letters bytes =
    rw (get_or-take 4 bytes 0 0 (omega arith), get_or-take 4 bytes 1 0 (omega arith), get_or-take 4 bytes 2 0 (omega arith))

pub front_number : (bytes : List ℕ) → number (take 4 bytes) ≡ number bytes
front_number bytes =
    rw (get_or-take 4 bytes 0 0 (omega arith), get_or-take 4 bytes 1 0 (omega arith), get_or-take 4 bytes 2 0 (omega arith))

---- Letters at a place

module _ (bytes : List ℕ) (at : ℕ) where
  pub byte_at_lem : (j : ℕ) → byte_at (drop at bytes) j ≡ get_or bytes (at + j) 0
  byte_at_lem j = get_or-drop at bytes j 0

  first_at : byte_at (drop at bytes) 0 ≡ get_or bytes at 0
  first_at = rw (add-zero at) at (byte_at_lem 0)

  pub letters_at : letters_right (drop at bytes)
      ≡ (capital (get_or bytes at 0) && capital (get_or bytes (at + 1) 0) && capital (get_or bytes (at + 2) 0))
  letters_at = rw (first_at, byte_at_lem 1, byte_at_lem 2)

  pub number_at : number (drop at bytes)
      ≡ 676 * (get_or bytes at 0 - 65) + 26 * (get_or bytes (at + 1) 0 - 65) + (get_or bytes (at + 2) 0 - 65)
  number_at = rw (first_at, byte_at_lem 1, byte_at_lem 2)

  -- the ranges of three capitals there
  pub first_high : letters_right (drop at bytes) ≡ true → Capital (get_or bytes at 0)
  first_high h = rw first_at at (capitals (drop at bytes) h).first

  pub second_high : letters_right (drop at bytes) ≡ true → Capital (get_or bytes (at + 1) 0)
  second_high h = rw (byte_at_lem 1) at (capitals (drop at bytes) h).second

  pub third_high : letters_right (drop at bytes) ≡ true → Capital (get_or bytes (at + 2) 0)
  third_high h = rw (byte_at_lem 2) at (capitals (drop at bytes) h).third
