-- The numbers of a program whose file is bytes: weights up to 255, constants up to 65,535, coefficients up to 15.
use mathlib.Core.Path.{◌≡◌, refl}
use mathlib.Core.List.{List}
use Rattle.std.specs.Prelude.{Some}
use mathlib.Core.Bool.{Bool, true, false, ◌&&◌, ◌||◌}
use Prim.Native.Nat.{ℕ, zero, suc, ◌+◌, ◌*◌, ◌/◌, ◌≤◌, ◌<◌, zero-le}
use native.Mathlib.Omega.{arith}
use lib.ListN.{length}
use lib.Dec.{ltb, eqb}
use borrow.Author.Tests.{eqb-true}
use Rattle.rules.specs.Base.{byte_at, word_at}
use Rattle.rules.specs.Container.{payload, payload_of}
use Rattle.rules.specs.Program.{Constructor, Function, Program, constructor, function}
use Rattle.rules.specs.Declarations.{weight_right}
use Rattle.rules.specs.Lists.{All, l[]}
use Rattle.rules.proofs.ListLaws.{false_true, all_append, all_take, all_drop, all_get_d, all_map}
use Rattle.rules.proofs.Accepted.{Passed, light, weight_right_lem, decoded_function, decoded_constructor}

payload_bytes : {P : ℕ → Type 0} (n : ℕ) {s : List ℕ} → All P s → All P (payload_of n s)
unfolding payload_of
payload_bytes zero h = l[]
payload_bytes (suc n) {s} h = all_append (all_take (word_at s 2) (all_drop 4 h)) (payload_bytes n (all_drop 512 h))

module _ {bytes : List ℕ} {s : Program} (P : Passed bytes s) (small : All (λ b. b < 256) bytes) where
  payload_small : (i : ℕ) → byte_at (payload bytes) i < 256
  unfolding payload
  payload_small i = all_get_d i 0 (omega arith) (payload_bytes (length bytes / 512) small)

  pub weight_most : (c : ℕ) (k : Constructor) → constructor s c ≡ Some k → k.weight ≤ 255
  weight_most c k e = let d = decoded_constructor P c k e in omega (arith, d.weight, payload_small d.place)

  -- each argument counts at most 255 of the weight
  pub weight_heavy : (c : ℕ) (k : Constructor) → constructor s c ≡ Some k → k.weight ≤ 255 * length k.arguments
  weight_heavy c k e = one (length k.arguments) refl
    where
      one : (n : ℕ) → length k.arguments ≡ n → k.weight ≤ 255 * n
      one zero h = omega (arith, light P c k e h)
      one (suc n) h = omega (arith, weight_most c k e)

  -- and at most four go to each unit
  pub weight_least : (c : ℕ) (k : Constructor) → constructor s c ≡ Some k → length k.arguments ≤ 4 * k.weight
  unfolding weight_right
  weight_least c k e = least (length k.arguments) k.weight (decoded_constructor P c k e).few (weight_right_lem P c k e)
    where
      never : (n : ℕ) (a b : Bool) → eqb (suc n) 0 ≡ a → (a && true || b && false) ≡ true → ⊥
      never n true b w e = omega (arith, eqb-true (suc n) 0 w)
      never n false true w e = false_true e
      never n false false w e = false_true e

      least : (n w : ℕ) → n ≤ 4 → (eqb n 0 && eqb w 0 || ltb 0 n && ltb 0 w) ≡ true → n ≤ 4 * w
      least zero w h e = zero-le
      least (suc n) zero h e = absurd (never n (eqb (suc n) 0) (ltb 0 (suc n)) refl e)
      least (suc n) (suc w) h e = omega arith

  pub bound_numbers : (n : ℕ) (f : Function) → function s n ≡ Some f
      → All (λ a. All (λ c. c ≤ 15) a.coefficients × (a.constant ≤ 65535)) f.bound
  bound_numbers n f e =
      all_map (λ a d. (d.coefficients, omega (arith, d.constant, payload_small d.place, payload_small (d.place + 1))))
      (decoded_function P n f e).alternatives
