-- Making forms: laws of appending, of every choice, and of how many they are.
use mathlib.Core.Path.{◌≡◌, refl, sym, ap, ◌∙◌}
use mathlib.Core.List.{List, [], ◌∷◌, ◌++◌, map, append_assoc, append-nil}
use mathlib.Core.Bool.{Bool, true, false}
use Prim.Native.Nat.{ℕ, zero, suc, ◌+◌, ◌*◌, ◌≤◌, ◌<◌}
use native.Mathlib.Omega.{arith}
use native.Mathlib.Numerals.{add-one}
use native.Mathlib.Nat.{mul-le-mul, le_trans, mul-le-mul_left, suc-mul}
use lib.ListN.{length, get_or, set, take, length-append, length-map, length-set, get_or-eq_default}
use lib.Seq.{take-suc, get_or-set_same, get_or-set_other}
use lib.Dec.{eqb, ltb}
use borrow.Author.Tests.{eqb-true, eqb-false, ltb-true, ltb-false}
use Rattle.rules.specs.declared.records.Alternative.{Alternative}
use Rattle.rules.specs.Forms.{Form, added, flat_map}
use Rattle.sizing.specs.Put.{coefficient, Wide, AllWide, Bounded, AllBounded, no_alternative}
use Rattle.sizing.specs.Forms.{choices}
use Rattle.sizing.proofs.PutLaws.{alternative_ext, added_wide, added_at, added_constant}
use Rattle.rules.proofs.ListLaws.{all_at, all_map, all_mapped}
use Rattle.rules.proofs.FormLaws.{all_flat_map}
use Rattle.sizing.proofs.ListLaws.{element_at}

---- a and m times b, as the code has it

pub record Plus (m : ℕ) (b a : Alternative) (i : ℕ) (r : Alternative) : Type 0 where
  pub wide : Wide r
  pub done : (k : ℕ) → k < i → coefficient r k ≡ coefficient a k + m * coefficient b k
  pub left : (k : ℕ) → i ≤ k → coefficient r k ≡ coefficient a k
  pub constant : r.constant ≡ a.constant

abbrev stored : ℕ → ℕ → Alternative → Alternative
stored i x r = record { coefficients = set r.coefficients i x; constant = r.constant }

pub plus_next : (m : ℕ) (b a : Alternative) (i : ℕ) (r : Alternative) → i < 16 → Plus m b a i r
    → Plus m b a (i + 1) (stored i (coefficient a i + m * coefficient b i) r)
plus_next m b a i r h p =
    record {
      wide = length-set r.coefficients i (coefficient a i + m * coefficient b i) ∙ p.wide;
      done = λ k l. go k l (eqb k i) refl;
      left =
          λ k l. get_or-set_other r.coefficients i k (coefficient a i + m * coefficient b i) 0 (λ e. omega arith)
          ∙ p.left k (omega arith);
      constant = p.constant;
    }
  where
    go : (k : ℕ) → k < i + 1 → (t : Bool) → eqb k i ≡ t
        → coefficient (stored i (coefficient a i + m * coefficient b i) r) k ≡ coefficient a k + m * coefficient b k
    go k l true e =
        let w = p.wide in
        rw (eqb-true k i e) (get_or-set_same r.coefficients i (coefficient a i + m * coefficient b i) 0 (omega arith))
    go k l false e =
        get_or-set_other r.coefficients i k (coefficient a i + m * coefficient b i) 0 (eqb-false k i e)
        ∙ p.done k (omega (arith, eqb-false k i e))

pub plus_end : (m : ℕ) (b a : Alternative) (i : ℕ) (r : Alternative) → i ≡ 16 → Wide a → Wide b → Plus m b a i r
    → record { coefficients = r.coefficients; constant = a.constant + m * b.constant } ≡ added m b a
plus_end m b a i r e wa wb p =
    alternative_ext (record { coefficients = r.coefficients; constant = a.constant + m * b.constant }) (added m b a) p.wide
    (added_wide m b a wb wa)
    (λ k. go k (ltb k 16) refl ∙ sym (added_at m b a k wa wb)) (sym (added_constant m b a))
  where
    go : (k : ℕ) (t : Bool) → ltb k 16 ≡ t → coefficient r k ≡ coefficient a k + m * coefficient b k
    go k true g = p.done k (omega (arith, ltb-true k 16 g))
    go k false g =
        let h : i ≤ k = omega (arith, ltb-false k 16 g) in
        let z : coefficient b k ≡ 0 = get_or-eq_default b.coefficients 0 (omega arith) in
        p.left k h ∙ rw z (omega arith)

---- Appending

module _ {A : Type 0} (d : A) where
  pub flat_append : {B : Type 0} (f : A → List B) (xs ys : List A) → flat_map f (xs ++ ys) ≡ flat_map f xs ++ flat_map f ys
  unfolding flat_map
  flat_append f [] ys = refl
  flat_append f (x ∷ xs) ys = ap (λ (z : List _). f x ++ z) (flat_append f xs ys) ∙ sym (append_assoc (f x) (flat_map f xs) (flat_map f ys))

  flat_one : {B : Type 0} (f : A → List B) (x : A) → flat_map f (x ∷ []) ≡ f x
  unfolding flat_map
  flat_one f x = append-nil (f x)

  pub flat_next : {B : Type 0} (f : A → List B) (l : List A) (i : ℕ) → i < length l → flat_map f (take (i + 1) l) ≡ flat_map f (take i l)
      ++ f (get_or l i d)
  flat_next f l i h =
      rw (add-one i, take-suc l i d h) (flat_append f (take i l) (get_or l i d ∷ [])
      ∙ ap (λ (z : List _). flat_map f (take i l) ++ z) (one (get_or l i d)))
    where
      one : (x : A) → flat_map f (x ∷ []) ≡ f x
      one x = flat_one f x

---- How many, and how large

pub flat_length : (f : Alternative → Alternative → Alternative) (rest xs : Form)
    → length (flat_map (λ c. map (f c) rest) xs) ≡ length xs * length rest
unfolding flat_map
flat_length f rest [] = omega arith
flat_length f rest (x ∷ xs) =
    length-append (map (f x) rest) (flat_map (λ c. map (f c) rest) xs)
    ∙ rw (length-map rest (f x), flat_length f rest xs) (omega (arith, suc-mul (length xs) (length rest)))

pub below_get : (m k : ℕ) (form : Form) (i : ℕ) → AllBounded m k form → i < length form → Bounded m k (get_or form i no_alternative)
below_get m k form i w h = all_at i w (element_at no_alternative form i h)

added_below : (c m₁ k₁ m₂ k₂ : ℕ) (b a : Alternative) → Bounded m₁ k₁ b → Bounded m₂ k₂ a
    → Bounded (m₂ + c * m₁) (k₂ + c * k₁) (added c b a)
added_below c m₁ k₁ m₂ k₂ b a p q = (
  added_wide c b a p.0 q.0,
  λ i. rw (added_at c b a i q.0 p.0) (omega (arith, q.1 i, mul-le-mul_left c (p.1 i))),
  rw (added_constant c b a) (omega (arith, q.2, mul-le-mul_left c p.2)),
)

pub flat_below : (c m₁ k₁ m₂ k₂ : ℕ) (rest xs : Form) → AllBounded m₁ k₁ xs → AllBounded m₂ k₂ rest
    → AllBounded (m₂ + c * m₁) (k₂ + c * k₁) (flat_map (λ choice. map (added c choice) rest) xs)
flat_below c m₁ k₁ m₂ k₂ rest xs p q =
    all_flat_map (λ choice. map (added c choice) rest) (λ b h. all_mapped (added c b) (λ a. added_below c m₁ k₁ m₂ k₂ b a h) q) p

pub below_more : (m k m' k' : ℕ) (xs : Form) → m ≤ m' → k ≤ k' → AllBounded m k xs → AllBounded m' k' xs
below_more m k m' k' xs a b p = all_map (λ x h. (h.0, λ i. le_trans (h.1 i) a, le_trans h.2 b)) p

pub below_wide : (m k : ℕ) (xs : Form) → AllBounded m k xs → AllWide xs
below_wide m k xs p = all_map (λ x h. h.0) p

---- Every choice

pub choices_none : (m : ℕ) (form rest : Form) → m ≡ 0 → choices m form rest ≡ rest
unfolding choices
choices_none m form rest e = rw e

pub choices_some : (m : ℕ) (form rest : Form) → (m ≡ 0 → ⊥) → choices m form rest ≡ flat_map (λ choice. map (added m choice) rest) form
unfolding choices
choices_some zero form rest n = absurd (n refl)
choices_some (suc m) form rest n = refl

pub some_made : (n k : ℕ) → 0 < n → 0 < k → n * k ≡ 0 → ⊥
some_made n k h g e = let z : 1 * 1 ≤ n * k = mul-le-mul h g in omega arith
