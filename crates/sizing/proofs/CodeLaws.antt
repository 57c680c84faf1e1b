-- What the code's tests and loops use: a match, one split, and all splits, one after the other.
use mathlib.Core.Path.{◌≡◌, refl, sym, ap, ◌∙◌}
use mathlib.Core.List.{List}
use mathlib.Core.Bool.{Bool, true, false}
use mathlib.Core.Logic.{inl, inr}
use Prim.Native.Nat.{ℕ, zero, suc, ◌+◌, ◌*◌, ◌-◌, ◌≤◌, ◌<◌, zero-le}
use native.Mathlib.Omega.{arith}
use native.Mathlib.Numerals.{add-one}
use native.Mathlib.Nat.{mul-le-mul, le_trans}
use lib.ListN.{length, get_or, set, take, drop, drop_of_length-le, length-set}
use lib.Seq.{drop-cons, get_or-set_same, get_or-set_other, get_or-take, length-take-le}
use lib.Dec.{eqb, ltb}
use borrow.Author.Tests.{le-leb, lt-leb, eqb-true, eqb-false, ltb-true, ltb-false}
use Rattle.rules.specs.declared.records.Alternative.{Alternative}
use Rattle.rules.specs.Program.{Program}
use Rattle.rules.specs.Records.{program_in}
use Rattle.rules.specs.Forms.{at_most, matches, added, constant_only, variable_only}
use Rattle.sizing.specs.declared.splits.Split.{Split}
use Rattle.sizing.specs.Put.{coefficient, cleared, put, Wide, Bounded}
use Rattle.sizing.specs.Splits.{spanned, weight_in, split_a, carried, Tidy, Loose, Numbered, SplitAsks, Carrying, no_split}
use Rattle.sizing.proofs.PutLaws.{cleared_below, alternative_ext, added_wide, added_at, added_constant, constant_wide, constant_at}
use Rattle.sizing.proofs.PutLaws.{variable_wide, variable_same, variable_other, variable_constant, put_other_variable, put_at}
use Rattle.sizing.proofs.PutLaws.{put_wide, put_constant}
use Rattle.sizing.proofs.SplitLaws.{spanned_wide, split_wide, spanned_low, spanned_in, spanned_high, numbered_le}

---- Matching

pub matches_low : (a b : Alternative) → a.constant ≤ b.constant → matches a b ≡ at_most a.coefficients b.coefficients
unfolding matches
matches_low a b l = rw (le-leb _ _ l)

pub matches_high : (a b : Alternative) → b.constant < a.constant → matches a b ≡ false
unfolding matches
matches_high a b l = rw (lt-leb _ _ l)

---- One split

abbrev bumped : ℕ → ℕ → Alternative → Alternative
bumped i c r = record { coefficients = set r.coefficients i (coefficient r i + c); constant = r.constant }

pub bumped_wide : (i c : ℕ) (r : Alternative) → Wide r → Wide (bumped i c r)
bumped_wide i c r w = length-set r.coefficients i (coefficient r i + c) ∙ w

bumped_same : (i c : ℕ) (r : Alternative) → Wide r → i < 16 → coefficient (bumped i c r) i ≡ coefficient r i + c
bumped_same i c r w h = get_or-set_same r.coefficients i (coefficient r i + c) 0 (omega arith)

pub bumped_other : (i c : ℕ) (r : Alternative) (j : ℕ) → (j ≡ i → ⊥) → coefficient (bumped i c r) j ≡ coefficient r j
bumped_other i c r j n = get_or-set_other r.coefficients i j (coefficient r i + c) 0 n

constant_same : (i n w : ℕ) → (spanned i (suc n) w).constant ≡ (spanned (suc i) n w).constant
unfolding spanned added variable_only
constant_same i n w = omega arith

spanned_suc : (i n w j : ℕ) → coefficient (spanned i (suc n) w) j ≡ coefficient (spanned (suc i) n w) j + 1 * coefficient
    (variable_only i) j
unfolding spanned
spanned_suc i n w j = added_at 1 (variable_only i) (spanned (suc i) n w) j (spanned_wide (suc i) n w) (variable_wide i)

first_same : (i n w : ℕ) → i < 16 → coefficient (spanned i (suc n) w) i ≡ 1
first_same i n w h = spanned_suc i n w i ∙ rw (spanned_low (suc i) n w i (omega arith), variable_same i h)

first_other : (i n w j : ℕ) → (j ≡ i → ⊥) → coefficient (spanned i (suc n) w) j ≡ coefficient (spanned (suc i) n w) j
first_other i n w j g = spanned_suc i n w j ∙ rw (variable_other i j g) (omega arith)

constant_constant : (w : ℕ) → (constant_only w).constant ≡ w
unfolding constant_only
constant_constant w = refl

-- the code's next part, from the whole that is left
spanned_next : (c i n w : ℕ) (r : Alternative) → Wide r → i < 16
    → added c (spanned i (suc n) w) r ≡ added c (spanned (suc i) n w) (bumped i c r)
spanned_next c i n w r p h =
    alternative_ext (added c (spanned i (suc n) w) r) (added c (spanned (suc i) n w) (bumped i c r))
    (added_wide c (spanned i (suc n) w) r (spanned_wide i (suc n) w) p)
    (added_wide c (spanned (suc i) n w) (bumped i c r) (spanned_wide (suc i) n w) (bumped_wide i c r p))
    (λ j. added_at c (spanned i (suc n) w) r j p (spanned_wide i (suc n) w) ∙ go j (eqb j i) refl
    ∙ sym (added_at c (spanned (suc i) n w) (bumped i c r) j (bumped_wide i c r p) (spanned_wide (suc i) n w)))
    (added_constant c (spanned i (suc n) w) r ∙ ap (λ (x : ℕ). r.constant + c * x) (more i n)
    ∙ sym (added_constant c (spanned (suc i) n w) (bumped i c r)))
  where
    more : (i n : ℕ) → (spanned i (suc n) w).constant ≡ (spanned (suc i) n w).constant
    more i n = constant_same i n w

    go : (j : ℕ) (t : Bool) → eqb j i ≡ t → coefficient r j + c * coefficient (spanned i (suc n) w) j
        ≡ coefficient (bumped i c r) j + c * coefficient (spanned (suc i) n w) j
    go j true e = rw (eqb-true j i e, bumped_same i c r p h, first_same i n w h, spanned_low (suc i) n w i (omega arith)) (omega arith)
    go j false e = rw (bumped_other i c r j (eqb-false j i e), first_other i n w j (eqb-false j i e))

pub spanned_step : (c first j parts w : ℕ) (r : Alternative) → Wide r → first + parts ≤ 16 → j < parts
    → added c (spanned (first + j) (parts - j) w) r ≡ added c (spanned (first + (j + 1)) (parts - (j + 1)) w) (bumped (first + j) c r)
spanned_step c first j parts w r p h l =
    let e : parts - j ≡ suc (parts - (j + 1)) = omega arith in
    let f : first + (j + 1) ≡ suc (first + j) = omega arith in
    rw (e, f) (spanned_next c (first + j) (parts - (j + 1)) w r p (omega arith))

pub spanned_end : (c i n w : ℕ) (r : Alternative) → Wide r → n ≡ 0
    → added c (spanned i n w) r ≡ record { coefficients = r.coefficients; constant = r.constant + c * w }
unfolding spanned
spanned_end c i n w r p z =
    rw z
    (alternative_ext (added c (constant_only w) r) (record { coefficients = r.coefficients; constant = r.constant + c * w })
    (added_wide c (constant_only w) r (constant_wide w) p) p
    (λ j. added_at c (constant_only w) r j p (constant_wide w) ∙ rw (constant_at w j) (omega arith))
    (added_constant c (constant_only w) r ∙ rw (constant_constant w)))

---- Tidy

spanned_constant : (k n w : ℕ) → (spanned k n w).constant ≡ w
unfolding spanned added variable_only constant_only
spanned_constant k zero w = refl
spanned_constant k (suc n) w = omega (arith, spanned_constant (suc k) n w)

put_tidy : (s : Program) (n k : ℕ) (a : Alternative) (p : Split) → Tidy n k a → p.variable < n → p.first ≡ n → n + p.parts ≤ 16
    → weight_in s p ≤ 255
    → Tidy (n + p.parts) (k + 3825) (put p.variable (split_a s p) a)
put_tidy s n k a p h v f l w =
    record {
      wide = put_wide p.variable (split_a s p) a sw h.wide;
      most = λ i. rw (put_at p.variable (split_a s p) a i sw h.wide) (go i (ltb i n) refl (ltb i (n + p.parts)) refl);
      none =
          λ i g. rw (put_at p.variable (split_a s p) a i sw h.wide, spanned_high p.first p.parts (weight_in s p) i (omega arith))
          (omega (arith, cleared_below p.variable a i, h.none i (omega arith)));
      constant = rw (put_constant p.variable (split_a s p) a) (omega (arith, h.constant, cost));
    }
  where
    sw : Wide (split_a s p)
    sw = split_wide s p

    cost : coefficient a p.variable * (split_a s p).constant ≤ 3825
    cost = rw (spanned_constant p.first p.parts (weight_in s p)) (mul-le-mul {n₂ = 15} {m₂ = 255} (h.most p.variable) w)

    go : (i : ℕ) (t : Bool) → ltb i n ≡ t → (u : Bool) → ltb i (n + p.parts) ≡ u
        → coefficient (cleared p.variable a) i + coefficient a p.variable * coefficient (split_a s p) i ≤ 15
    go i true e u g =
        rw (spanned_low p.first p.parts (weight_in s p) i (omega (arith, ltb-true i n e)))
        (omega (arith, cleared_below p.variable a i, h.most i))
    go i false e true g =
        rw (spanned_in p.first p.parts (weight_in s p) i (omega arith) (omega (arith, ltb-false i n e))
        (omega (arith, ltb-true i (n + p.parts) g)))
        (omega (arith, cleared_below p.variable a i, h.none i (ltb-false i n e), h.most p.variable))
    go i false e false g =
        rw (spanned_high p.first p.parts (weight_in s p) i (omega (arith, ltb-false i (n + p.parts) g)))
        (omega (arith, cleared_below p.variable a i, h.most i))

unit_tidy : (n k v : ℕ) → v < n → v < 16 → Tidy n k (variable_only v)
unit_tidy n k v h g =
    record {
      wide = variable_wide v;
      most = λ i. go i (eqb i v) refl;
      none = λ i l. variable_other v i (λ e. omega arith);
      constant = rw (variable_constant v) zero-le;
    }
  where
    go : (i : ℕ) (t : Bool) → eqb i v ≡ t → coefficient (variable_only v) i ≤ 15
    go i true e = rw (eqb-true i v e, variable_same v g) (omega arith)
    go i false e = rw (variable_other v i (eqb-false i v e)) zero-le

pub loose_unit : (n k v : ℕ) → v < 16 → Loose n k (variable_only v)
loose_unit n k v h = go (ltb v n) refl
  where
    go : (t : Bool) → ltb v n ≡ t → Loose n k (variable_only v)
    go true e = inl (unit_tidy n k v (ltb-true v n e) h)
    go false e = inr (v, refl, ltb-false v n e, h)

pub loose_below : (n k j : ℕ) (a : Alternative) → k ≤ j → Loose n k a → Bounded 15 j a
loose_below n k j a l (inl t) = (t.wide, t.most, le_trans t.constant l)
loose_below n k j a l (inr x) =
    let t = unit_tidy (suc x.0) k x.0 (omega arith) x.3 in
    rw x.1 (t.wide, t.most, le_trans t.constant l)

pub put_loose : (s : Program) (n k : ℕ) (a : Alternative) (p : Split) → Loose n k a → p.variable < n → p.first ≡ n → n + p.parts ≤ 16
    → weight_in s p ≤ 255
    → Loose (n + p.parts) (k + 3825) (put p.variable (split_a s p) a)
put_loose s n k a p (inl t) v f l w = inl (put_tidy s n k a p t v f l w)
put_loose s n k a p (inr x) v f l w =
    let u = x.0 in
    let ge = x.2 in
    let e : put p.variable (split_a s p) a ≡ variable_only u =
    ap (put p.variable (split_a s p)) x.1
    ∙ put_other_variable p.variable (split_a s p) u (split_wide s p) (λ z. omega arith) in
    rw e (loose_unit (n + p.parts) (k + 3825) u x.3)

---- All splits, one after the other

carried_next : (s : Program) (xs : List Split) (i : ℕ) (r : Alternative) → i < length xs
    → carried s (drop i xs) r ≡ carried s (drop (i + 1) xs) (put (get_or xs i no_split).variable (split_a s (get_or xs i no_split)) r)
unfolding carried
carried_next s xs i r h = rw (add-one i, drop-cons xs i no_split h)

pub carried_end : (s : Program) (xs : List Split) (i : ℕ) (r : Alternative) → length xs ≤ i → carried s (drop i xs) r ≡ r
unfolding carried
carried_end s xs i r h = rw (drop_of_length-le xs h)

numbered_next : (xs : List Split) (i m count : ℕ) → i < length xs → Numbered m (drop i xs) count
    → ((get_or xs i no_split).variable < m) × ((get_or xs i no_split).first ≡ m)
    × Numbered (m + (get_or xs i no_split).parts) (drop (i + 1) xs) count
numbered_next xs i m count h n = rw (add-one i) (rw (drop-cons xs i no_split h) at n)

module _ {file : List ℕ} {a r : Alternative} {t : ℕ} {ps : List Split} (h : Carrying file a t ps) {i m : ℕ} (l : i < t)
    (y : Loose m (65535 + 3825 * i) r) (n : Numbered m (drop i (take t ps)) h.count) where
  taken_length : length (take t ps) ≡ t
  taken_length = let a = h.long in let b = h.few in length-take-le t ps (omega arith)

  numbered_here : ((get_or ps i no_split).variable < m) × ((get_or ps i no_split).first ≡ m)
      × Numbered (m + (get_or ps i no_split).parts) (drop (i + 1) (take t ps)) h.count
  numbered_here = let e = taken_length in rw (get_or-take t ps i no_split l) at (numbered_next (take t ps) i m h.count (omega arith) n)

  carrying_fits : m + (get_or ps i no_split).parts ≤ 16
  carrying_fits = le_trans (numbered_le (drop (i + 1) (take t ps)) (m + (get_or ps i no_split).parts) h.count numbered_here.2) h.narrow

  pub carrying_asks : SplitAsks file r (get_or ps i no_split)
  carrying_asks =
      let f = carrying_fits in
      let q = numbered_here in
      let g = h.few in
      record {
        variable = omega (arith, q.0);
        parts = omega (arith, q.1);
        bounded = loose_below m (65535 + 3825 * i) 1048576 r (omega arith) y;
        weight = h.weights i l;
      }

  pub carrying_next : (m' : ℕ)
      × Loose m' (65535 + 3825 * (i + 1)) (put (get_or ps i no_split).variable (split_a (program_in file) (get_or ps i no_split)) r)
      × Numbered m' (drop (i + 1) (take t ps)) h.count
  carrying_next =
      let q = numbered_here in
      let e : 65535 + 3825 * (i + 1) ≡ 65535 + 3825 * i + 3825 = omega arith in (
        m + (get_or ps i no_split).parts,
        rw e (put_loose (program_in file) m (65535 + 3825 * i) r (get_or ps i no_split) y q.0 q.1 carrying_fits
            (h.weights i l).light),
        q.2,
      )

  pub carrying_left : carried (program_in file) (drop i (take t ps)) r
      ≡ carried (program_in file) (drop (i + 1) (take t ps))
      (put (get_or ps i no_split).variable (split_a (program_in file) (get_or ps i no_split)) r)
  carrying_left = let e = taken_length in rw (get_or-take t ps i no_split l) at
      (carried_next (program_in file) (take t ps) i r (omega arith))
