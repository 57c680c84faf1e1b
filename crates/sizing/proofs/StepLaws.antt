-- The rules on the code's saved states: a load and a branch.
use mathlib.Core.Path.{◌≡◌, sym, ap, ◌∙◌}
use mathlib.Core.List.{List, [], ◌∷◌, ◌++◌}
use Rattle.std.specs.Prelude.{Some, None}
use Prim.Native.Nat.{ℕ, zero, suc, ◌+◌, ◌-◌, ◌≤◌, ◌<◌}
use native.Mathlib.Omega.{arith}
use native.Mathlib.Nat.{le_refl, le_trans}
use lib.ListN.{length, get_or, take}
use lib.Seq.{take-suc, length-take-le}
use borrow.Author.Tests.{eq-eqb, ne_eqb}
use Rattle.rules.specs.declared.records.Instruction.TheVariants.{Load, Branch}
use Rattle.rules.specs.Base.{refusal, found, refused}
use Rattle.rules.specs.Program.{constructor, Constructor, Function, Program, arity}
use Rattle.rules.specs.Shapes.{Shape, shape_from}
use Rattle.sizing.specs.declared.splits.Split.{Split}
use Rattle.sizing.specs.declared.splits.Splits.{Splits}
use Rattle.sizing.specs.declared.paths.Saved.{Saved}
use Rattle.sizing.specs.Splits.{Numbered, Whole, shape_of}
use Rattle.sizing.specs.States.{stack_in, splits_in, split_of, up_from, SameSplits, SplitMore}
use Rattle.sizing.proofs.SplitLaws.{path_split, numbered_le}
use Rattle.sizing.proofs.OwnLaws.{own_wide}
use Rattle.sizing.specs.Right.{own_at, AllUnder, shape_in, SavedRight}
use Rattle.sizing.proofs.ShapeLaws.{Splitting, now_split, later_split, load_rule, branch_known, branch_large, branch_whole}
use Rattle.sizing.proofs.StateLaws.{found_none, found_some}

under_append : (n : ℕ) (xs ys : List ℕ) → AllUnder n xs → AllUnder n ys → AllUnder n (xs ++ ys)
under_append n [] ys p q = q
under_append n (x ∷ xs) ys p q = (p.0, under_append n xs ys p.1 q)

under_left : (n : ℕ) (xs ys : List ℕ) → AllUnder n (xs ++ ys) → AllUnder n xs
under_left n [] ys p = tt
under_left n (x ∷ xs) ys p = (p.0, under_left n xs ys p.1)

under_right : (n : ℕ) (xs ys : List ℕ) → AllUnder n (xs ++ ys) → AllUnder n ys
under_right n [] ys p = p
under_right n (x ∷ xs) ys p = under_right n xs ys p.1

under_more : (n m : ℕ) (xs : List ℕ) → n ≤ m → AllUnder n xs → AllUnder m xs
under_more n m [] h p = tt
under_more n m (x ∷ xs) h p = (le_trans p.0 h, under_more n m xs h p.1)

under_up : (n k m : ℕ) → k + m ≤ n → AllUnder n (up_from k m)
unfolding up_from
under_up n k zero h = tt
under_up n k (suc m) h = (omega arith, under_up n (suc k) m (omega arith))

pub under_get : (n : ℕ) (xs : List ℕ) (k : ℕ) → k < length xs → AllUnder n xs → get_or xs k 0 < n
under_get n [] k h p = absurd (omega arith)
under_get n (x ∷ xs) zero h p = p.0
under_get n (x ∷ xs) (suc k) h p = under_get n xs k (omega arith) p.1

pub splitting_last : {v : ℕ} {ps : List Split} {p : Split} (n count : ℕ) → Splitting v ps p → Numbered n ps count
    → p.first + p.parts ≤ count
splitting_last n count (now_split {p} {ps} e) h = let z = h.1 in let l = numbered_le ps (n + p.parts) count h.2 in omega arith
splitting_last n count (later_split {q} {p} {ps} d g) h = splitting_last (n + q.parts) count g h.2

module _ (s : Program) (n : ℕ) (f : Function) (st : Saved) (r : SavedRight s f st) where
  stack_length : length (stack_in st) ≡ st.height
  stack_length = let a = r.long in let b = r.high in length-take-le st.height st.stack (omega arith)

  splits_length : length (splits_in st) ≡ st.splits.taken
  splits_length = let a = r.list in let b = r.few in length-take-le st.splits.taken st.splits.list (omega arith)

  -- load
  pub load_saved : (i k : ℕ) (x : Saved) → k < st.height → st.height < 16 → SameSplits st x → x.height ≡ st.height + 1
      → stack_in x ≡ stack_in st ++ (get_or (stack_in st) k 0 ∷ [])
      → (shape_from s n f i (Load (suc k)) (shape_in f st) ≡ found ((suc i, shape_in f x) ∷ [])) × SavedRight s f x
  load_saved i k x h l q g e = (
    load_rule s n f (splits_in st) st.count (stack_in st) r.path r.under i k (let z = stack_length in omega arith)
        ∙ ap (λ (sh : Shape). found ((suc i, sh) ∷ [])) same,
    record {
      path = rw (q.splits, q.count) r.path;
      under =
          rw (q.count, e) (under_append st.count (stack_in st) (get_or (stack_in st) k 0 ∷ []) r.under
          (under_get st.count (stack_in st) k (let z = stack_length in omega arith) r.under, tt));
      high = omega arith;
      long = q.long;
      few = rw q.splits r.few;
      list = rw q.splits r.list;
    },
  )
    where
      same : shape_of f (splits_in st) st.count (stack_in st ++ (get_or (stack_in st) k 0 ∷ [])) ≡ shape_in f x
      same = rw (q.splits, q.count, e)

  -- the top
  module _ (h : 0 < st.height) where
    stack_top : stack_in st ≡ take (st.height - 1) st.stack ++ (get_or st.stack (st.height - 1) 0 ∷ [])
    stack_top =
        let e : st.height ≡ suc (st.height - 1) = omega arith in
        let a = r.long in let b = r.high in
        ap (λ (k : ℕ). take k st.stack) e ∙ take-suc st.stack (st.height - 1) 0 (omega arith)

    under_rest : AllUnder st.count (take (st.height - 1) st.stack)
    under_rest =
        under_left st.count (take (st.height - 1) st.stack) (get_or st.stack (st.height - 1) 0 ∷ []) (rw stack_top at r.under)

    pub under_top : get_or st.stack (st.height - 1) 0 < st.count
    under_top =
        (under_right st.count (take (st.height - 1) st.stack) (get_or st.stack (st.height - 1) 0 ∷ [])
        (rw stack_top at r.under)).0

    module _ (i b c : ℕ) (k : Constructor) (known : constructor s c ≡ Some k) where
      -- where the top is taken apart by p
      module _ (p : Split) (fd : split_of (get_or st.stack (st.height - 1) 0) (splits_in st) ≡ Some p) where
        splitting : Splitting (get_or st.stack (st.height - 1) 0) (splits_in st) p
        splitting = found_some (get_or st.stack (st.height - 1) 0) (splits_in st) p fd

        pub branch_other : (p.constructor ≡ c → ⊥) → shape_from s n f i (Branch c b) (shape_in f st) ≡ found ((b, shape_in f st) ∷ [])
        branch_other d =
            branch_known s n f (splits_in st) st.count (stack_in st) r.path r.under i b (take (st.height - 1) st.stack)
            (get_or st.stack (st.height - 1) 0) stack_top p splitting c k known
            ∙ rw (ne_eqb p.constructor c d)

        pub branch_taken : (x : Saved) → p.constructor ≡ c → SameSplits st x → x.height ≤ 16
            → stack_in x ≡ take (st.height - 1) st.stack ++ up_from p.first p.parts
            → (shape_from s n f i (Branch c b) (shape_in f st) ≡ found ((suc i, shape_in f x) ∷ [])) × SavedRight s f x
        branch_taken x e q g t = (
          branch_known s n f (splits_in st) st.count (stack_in st) r.path r.under i b (take (st.height - 1) st.stack)
              (get_or st.stack (st.height - 1) 0) stack_top p splitting c k known
              ∙ rw (eq-eqb p.constructor c e) (ap (λ (sh : Shape). found ((suc i, sh) ∷ [])) same),
          record {
            path = rw (q.splits, q.count) r.path;
            under = rw (q.count, t)
                (under_append st.count (take (st.height - 1) st.stack) (up_from p.first p.parts) under_rest
                (under_up st.count p.first p.parts (splitting_last (arity f) st.count splitting r.path.numbered)));
            high = g;
            long = q.long;
            few = rw q.splits r.few;
            list = rw q.splits r.list;
          },
        )
          where
            same : shape_of f (splits_in st) st.count (take (st.height - 1) st.stack ++ up_from p.first p.parts) ≡ shape_in f x
            same = rw (q.splits, q.count, t)

      -- where it is whole
      module _ (fd : split_of (get_or st.stack (st.height - 1) 0) (splits_in st) ≡ None) where
        whole : Whole (get_or st.stack (st.height - 1) 0) (splits_in st)
        whole = found_none (get_or st.stack (st.height - 1) 0) (splits_in st) fd

        pub branch_over : 16 < st.count + length k.arguments → shape_from s n f i (Branch c b) (shape_in f st) ≡ refused (refusal 9 n i)
        branch_over o =
            branch_large s n f (splits_in st) st.count (stack_in st) r.path r.under i b (take (st.height - 1) st.stack)
            (get_or st.stack (st.height - 1) 0) stack_top whole c k known o

        pub branch_split : (p : Split) (m x : Saved) → p.variable ≡ get_or st.stack (st.height - 1) 0 → p.constructor ≡ c
            → p.first ≡ st.count → p.parts ≡ length k.arguments
            → st.count + p.parts ≤ 16 → st.splits.taken < 16 → SplitMore st p m → SameSplits m x → x.height ≤ 16
            → stack_in x ≡ take (st.height - 1) st.stack ++ up_from st.count p.parts
            → (shape_from s n f i (Branch c b) (shape_in f st) ≡ found ((suc i, shape_in f x) ∷ (b, shape_in f st) ∷ []))
            × SavedRight s f x
        branch_split p m x pv pc pf pn o room sm q g t = (
          branch_whole s n f (splits_in st) st.count (stack_in st) r.path r.under i b (take (st.height - 1) st.stack)
              (get_or st.stack (st.height - 1) 0) stack_top whole c k known p pv pc pf pn under_top (let z = pn in omega arith)
              ∙ ap (λ (sh : Shape). found ((suc i, sh) ∷ (b, shape_in f st) ∷ [])) same,
          record {
            path = rw (splits_x, q.count, sm.count)
                (path_split s (own_at s f) (arity f) (splits_in st) st.count p (own_wide s f) r.path
                (record {
                  small = let z = under_top in let y = r.path.few in omega arith;
                  declared_as = k;
                  known = ap (constructor s) pc ∙ known;
                  arity = sym pn;
                })
                (let z = under_top in omega arith) (rw pv whole) pf o);
            under = rw (q.count, sm.count, t)
                (under_append (st.count + p.parts) (take (st.height - 1) st.stack) (up_from st.count p.parts)
                (under_more st.count (st.count + p.parts) (take (st.height - 1) st.stack) (omega arith) under_rest)
                (under_up (st.count + p.parts) st.count p.parts (le_refl (st.count + p.parts))));
            high = g;
            long = q.long;
            few = rw (q.splits, sm.taken) (omega arith);
            list = rw q.splits sm.long;
          },
        )
          where
            splits_x : splits_in x ≡ splits_in st ++ (p ∷ [])
            splits_x = ap (λ (y : Splits). take y.taken y.list) q.splits ∙ sm.splits

            same : shape_of f (splits_in st ++ (p ∷ [])) (st.count + length k.arguments)
                (take (st.height - 1) st.stack ++ up_from st.count (length k.arguments)) ≡ shape_in f x
            same = rw (← pn, splits_x, q.count, sm.count, t)
