-- Where the bytes of a record stand: in its block from its place on, behind the block's end eight bytes further.
use mathlib.Core.Path.{◌≡◌, refl, sym, ap, ◌∙◌}
use mathlib.Core.List.{List, ◌++◌}
use mathlib.Core.Bool.{Bool, true, false}
use Prim.Native.Nat.{ℕ, ◌+◌, ◌-◌, ◌%◌, ◌≤◌, ◌<◌}
use native.Mathlib.Omega.{arith}
use native.Mathlib.Nat.{zero-add}
use lib.ListN.{length, get_or, take, drop, length-take, length-drop, get_or-append}
use lib.Seq.{get_or-take, get_or-drop, get_or-append-add, length-take-le}
use lib.Dec.{ltb}
use borrow.Author.Tests.{ltb-true, ltb-false}
use Rattle.rules.specs.Base.{byte_at}
use Rattle.rules.specs.Container.{place_of}
use Rattle.rules.proofs.SameLaws.{Same}
use Rattle.fields.specs.Onward.{onward, Reaches, Placed}

module _ {file : List ℕ} {place left n : ℕ} (r : Reaches file place left n) where
  pub onward_near : (j : ℕ) → j < n → j < left → byte_at file (place + j) ≡ byte_at (onward file place left) j
  unfolding onward
  onward_near j h l =
      let inside : j < length (take left (drop place file)) = simp (length-take, length-drop) (omega (arith, r.near)) in
      sym (get_or-append (take left (drop place file)) (drop (place + left + 8) file) 0 j inside
      ∙ get_or-take left (drop place file) j 0 l ∙ get_or-drop place file j 0)

  pub onward_far : (j : ℕ) → j < n → left ≤ j → byte_at file (place + j + 8) ≡ byte_at (onward file place left) j
  unfolding onward
  onward_far j h l =
      let long : length (take left (drop place file)) ≡ left =
      length-take-le left (drop place file) (simp length-drop (omega (arith, r.near))) in
      let at : j ≡ length (take left (drop place file)) + (j - left) = omega (arith, long) in
      let e : place + left + 8 + (j - left) ≡ place + j + 8 = omega arith in
      sym (ap (λ (i : ℕ). get_or (take left (drop place file) ++ drop (place + left + 8) file) i 0) at
      ∙ get_or-append-add (take left (drop place file)) (drop (place + left + 8) file) (j - left) 0
      ∙ get_or-drop (place + left + 8) file (j - left) 0 ∙ ap (λ (i : ℕ). get_or file i 0) e)

---- A record of a payload

-- of n bytes at an offset: the block has at least as many left as are said, and just so many where the record goes on behind its end
module _ {file bytes : List ℕ} {m : ℕ} (p : Placed file bytes m) (at left n : ℕ) (there : at + n ≤ m) (some : 1 ≤ n) (short : n ≤ 504)
    (room : left ≤ 504 - at % 504) (all : left < n → left ≡ 504 - at % 504) where
  near_place : (j : ℕ) → j < n → j < left → place_of (at + j) ≡ place_of at + j
  near_place j h l = omega arith

  far_place : (j : ℕ) → j < n → left ≤ j → place_of (at + j) ≡ place_of at + j + 8
  far_place j h l = let e = all (omega arith) in omega arith

  -- the last byte of the record is in the file
  abbrev end : ℕ
  end = n - 1

  inside : place_of (at + end) < length file
  inside = p.inside (at + end) (omega arith)

  goes_on_lem : left < n → place_of at + n + 8 ≤ length file
  goes_on_lem l = omega (arith, inside, far_place end (omega arith) (omega arith))

  pub record_reaches : Reaches file (place_of at) left n
  record_reaches = record { near = go (ltb left n) refl; far = goes_on_lem }
    where
      go : (t : Bool) → ltb left n ≡ t → place_of at + n ≤ length file
      go true e = omega (arith, goes_on_lem (ltb-true left n e))
      go false e = omega (arith, inside, near_place end (omega arith) (omega (arith, ltb-false left n e)))

  pub record_same : Same (onward file (place_of at) left) 0 bytes at n
  record_same = record { at = λ j l. go j l (ltb j left) refl }
    where
      go : (j : ℕ) → j < n → (t : Bool) → ltb j left ≡ t → byte_at (onward file (place_of at) left) (0 + j) ≡ byte_at bytes (at + j)
      go j l true e =
          rw (zero-add j) (sym (onward_near record_reaches j l (ltb-true j left e))
          ∙ ap (byte_at file) (sym (near_place j l (ltb-true j left e))) ∙ p.same (at + j) (omega arith))
      go j l false e =
          rw (zero-add j) (sym (onward_far record_reaches j l (ltb-false j left e))
          ∙ ap (byte_at file) (sym (far_place j l (ltb-false j left e))) ∙ p.same (at + j) (omega arith))
