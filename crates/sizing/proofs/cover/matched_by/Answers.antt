-- Pair by pair: `all` over the pairs gives what the definition does.
use Rattle.std.proofs.Common.{◌≡◌, ℕ, Bool, List, [], ◌∷◌, ◌&&◌, length, leb, refl, sym, ap, ◌∙◌, arith, rules, tests}
use Rattle.std.specs.List.{zip, list_all}
use Rattle.std.proofs.lemmas.Iterator.{YieldsList-from_slice, YieldsList-from_zip}
use Rattle.std.proofs.lemmas.Iterator.Search.{all_from_yields_List}
use Rattle.rules.specs.Forms.{at_most}
use Rattle.sizing.proofs.CodeLaws.{matches_low, matches_high}
use Rattle.sizing.proofs.cover.matched_by.Goals as goal

at_most_pairs : (xs ys : List ℕ) → length xs ≡ length ys → list_all (λ (p : ℕ × ℕ). leb p.0 p.1) (zip xs ys) ≡ at_most xs ys
unfolding at_most
at_most_pairs [] ys e = refl
at_most_pairs (x ∷ xs) [] e = absurd (omega arith)
at_most_pairs (x ∷ xs) (y ∷ ys) e = ap (λ (b : Bool). leb x y && b) (at_most_pairs xs ys (omega arith))

pub returns-then-a-b : goal.returns-then-a-b
returns-then-a-b c =
    let xs = c.args.a.coefficients in
    let ys = c.args.b.coefficients in
    all_from_yields_List (λ (p : ℕ × ℕ). leb p.0 p.1) c.all.new.self _ _ c.all.ensures.ran
    (YieldsList-from_zip {s = c.zip.result} (YieldsList-from_slice xs cc) (YieldsList-from_slice ys cc))
    (λ x b q k. search (rules, tests))
    ∙ at_most_pairs xs ys (omega arith) ∙ sym (matches_low _ _ c.if-a-b.true)

pub returns-else-a-b : goal.returns-else-a-b
returns-else-a-b c = search (rules, tests) ∙ sym (matches_high _ _ c.if-a-b.false)
