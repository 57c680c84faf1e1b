-- A result's length fits 32 bits: it is at most 1 and four times its size, which the size bound keeps small.
use mathlib.Core.Path.{◌≡◌, refl, sym, ap, ◌∙◌}
use mathlib.Core.List.{List, [], ◌∷◌, ◌++◌}
use Rattle.std.specs.Prelude.{Option, None, Some}
use Prim.Native.Nat.{ℕ, suc, ◌+◌, ◌*◌, ◌≤◌, ◌<◌, zero-le}
use native.Mathlib.Omega.{arith}
use native.Mathlib.Nat.{le_trans, max-le}
use lib.ListN.{length, take, drop, length-append, take-append-drop}
use Rattle.rules.specs.declared.records.Alternative.{Alternative}
use Rattle.rules.specs.Lists.{All, ◌l∷◌}
use Rattle.rules.specs.Program.{Constructor, Function, Program, constructor, function}
use Rattle.rules.specs.Tree.{Trees, node, nil, cons, from_list, made}
use Rattle.rules.specs.Machine.{Value, start}
use Rattle.rules.specs.Values.{weighted, size, size_of_all, sizes, Has, AllHave, value_at, bound_at}
use Rattle.rules.specs.Prefix.{arity_of, values, written, written_all}
use Rattle.rules.specs.Facts.{ResultFact}
use Rattle.rules.proofs.ListLaws.{all_map}
use Rattle.rules.proofs.FormLaws.{dot_most}
use Rattle.rules.proofs.Models.{to_from, size_total}
use Rattle.rules.proofs.PrefixLaws.{arguments_typed}
use Rattle.rules.proofs.Accepted.{Passed, checked_parts}
use Rattle.rules.proofs.ProgramLaws.{weight_most, weight_least, bound_numbers}
use Rattle.rules.proofs.Reachable.{begins, kept_after, result_kept}
use Rattle.rules.specs.Quasi.{total}
use Rattle.rules.proofs.MapLaws.{map-append}

---- Sizes

total_append : (xs ys : List ℕ) → total (xs ++ ys) ≡ total xs + total ys
total_append [] ys = omega arith
total_append (x ∷ xs) ys = omega (arith, total_append xs ys)

bound_small : (bound : List Alternative) (zs : List ℕ) (K : ℕ) → All (λ a. value_at zs a ≤ K) bound → bound_at bound zs ≤ K
bound_small [] zs K h = zero-le
bound_small (a ∷ bound) zs K (h l∷ hs) = max-le h (bound_small bound zs K hs)

module _ (s : Program) where
  -- the weights of a program: at most 255, and with arguments, which are at most four, at least 1
  record Weights : Type 0 where
    most : (c : ℕ) (k : Constructor) → constructor s c ≡ Some k → k.weight ≤ 255
    least : (c : ℕ) (k : Constructor) → constructor s c ≡ Some k → length k.arguments ≤ 4 * k.weight

  module _ (W : Weights) where
    size_most : (c : ℕ) (vs : Trees ℕ) → size s (node c vs) ≤ 255 + size_of_all s vs
    size_most c nil = zero-le
    size_most c (cons v vs) = one (constructor s c) refl
      where
        one : (o : Option Constructor) → constructor s c ≡ o
            → weighted o (cons v vs) (size s v + size_of_all s vs) ≤ 255 + (size s v + size_of_all s vs)
        one None e = omega arith
        one (Some k) e = omega (arith, W.most c k e)

    -- each byte weighs at most 255
    values_small : (bytes : List ℕ) → total (sizes s (values s bytes)) ≤ 255 * length bytes
    unfolding values
    values_small [] = zero-le
    values_small (c ∷ bytes) = one (arity_of (constructor s c)) (values s bytes) (values_small bytes)
      where
        one : (n : ℕ) (later : List Value) → total (sizes s later) ≤ 255 * length bytes
            → size s (made c (take n later)) + total (sizes s (drop n later)) ≤ 255 * suc (length bytes)
        one n later h =
            let front : size_of_all s (from_list (take n later)) ≡ total (sizes s (take n later)) = size_total s (from_list (take n later))
            ∙ ap (λ (l : List Value). total (sizes s l)) (to_from (take n later)) in
            let whole : total (sizes s (take n later)) + total (sizes s (drop n later)) ≡ total (sizes s later) =
            sym (total_append (sizes s (take n later)) (sizes s (drop n later)))
            ∙ ap total (sym (map-append (size s) (take n later) (drop n later)))
            ∙ ap (λ (l : List Value). total (sizes s l)) (take-append-drop n later) in
            omega (arith, size_most c (from_list (take n later)))

    -- what is written of a typed value
    node_small : (c : ℕ) (vs : Trees ℕ) (k : Constructor) → constructor s c ≡ Some k
        → length (written_all vs) ≤ length k.arguments + 4 * size_of_all s vs → length (written (node c vs)) ≤ 1 + 4 * size s (node c vs)
    unfolding written
    node_small c nil k e h = omega arith
    node_small c (cons v vs) k e h = rw e (omega (arith, W.least c k e))

    mutual
      unfolding written

      written_small : (v : Value) (t : ℕ) → Has s v t → length (written v) ≤ 1 + 4 * size s v
      written_small (node c vs) t h = node_small c vs h.0 h.1 (written_all_small vs h.0.arguments h.3)

      written_all_small : (vs : Trees ℕ) (ts : List ℕ) → AllHave s vs ts → length (written_all vs) ≤ length ts + 4 * size_of_all s vs
      written_all_small nil [] h = omega arith
      written_all_small nil (t ∷ ts) h = absurd h
      written_all_small (cons v vs) [] h = absurd h
      written_all_small (cons v vs) (t ∷ ts) h =
          rw (length-append (written v) (written_all vs)) (omega (arith, written_small v t h.0, written_all_small vs ts h.1))

---- The program

module _ {bytes : List ℕ} {s : Program} (P : Passed bytes s) (small : All (λ b. b < 256) bytes) where
  weights : Weights s
  weights = record { most = weight_most P small; least = weight_least P small }

  alternative_small : (zs : List ℕ) (a : Alternative) → All (λ c. c ≤ 15) a.coefficients × (a.constant ≤ 65535)
      → value_at zs a ≤ 65535 + 15 * total zs
  alternative_small zs a d = omega (arith, dot_most a.coefficients zs d.0, d.1)

  limit_small : (n : ℕ) (f : Function) → function s n ≡ Some f → (args : List ℕ) → length args ≤ 65535
      → bound_at f.bound (sizes s (values s args)) ≤ 250736910
  limit_small n f e args h =
      le_trans (bound_small f.bound (sizes s (values s args)) (65535 + 15 * total (sizes s (values s args)))
      (all_map (alternative_small (sizes s (values s args))) (bound_numbers P small n f e)))
      (omega (arith, values_small s weights args))

pub result_fact : ResultFact
result_fact file s small e entry f at_f args right k st v r w =
    let P = checked_parts file s e in
    let a = arguments_typed s f args right in
    let good = kept_after P entry f at_f (values s args) a.1 k (start entry (values s args)) st
    (begins P entry f at_f (values s args) a.1) r in
    let kept = result_kept P entry f at_f (values s args) a.1 st v good w in
    omega (arith, written_small s (weights P small) v f.result kept.0, kept.1, limit_small P small entry f at_f args a.0)
