-- The index is filled entry by entry: what a store adds, and what it keeps.
use mathlib.Core.Path.{◌≡◌, ◌∙◌}
use mathlib.Core.List.{List}
use Prim.Native.Nat.{ℕ, ◌+◌, ◌≤◌, ◌<◌}
use native.Mathlib.Omega.{arith}
use borrow.Author.Count.{below_more}
use lib.ListN.{length, get_or, set, length-set}
use lib.Seq.{get_or-set_same, get_or-set_other}
use Rattle.rules.specs.declared.records.Header.{Header}
use Rattle.rules.specs.declared.records.HeadRecord.{HeadRecord}
use Rattle.rules.specs.Container.{payload, place_of}
use Rattle.rules.specs.Records.{alternative_offset, head_offset, code_offset, head_at}
use Rattle.rules.specs.Established.{LaidOut}
use Rattle.program.proofs.LayoutLaws.{functions_count, functions_few, head_placed, function_placed}
use Rattle.fetch.specs.declared.index.Index.{Index}
use Rattle.fetch.specs.Indexed.{Indexed}
use Rattle.fetch.specs.Indexing.{Functioned}

pub functioned_first : (file : List ℕ) {index : Index} → length index.arities ≡ 32 → length index.codes ≡ 32 → Functioned file 0 index
functioned_first file a b = record { arities = a; codes = b; function = λ f h. absurd (omega arith) }

-- a function more is indexed, by a store at its number in each array
functioned_next : (file : List ℕ) {f a b : ℕ} {index : Index} → Functioned file f index → f < 32
    → a ≡ place_of (head_offset (payload file) f + 1) → b ≡ place_of (code_offset (payload file) (head_offset (payload file) f))
    → Functioned file (f + 1) (record { arities = set index.arities f a; codes = set index.codes f b })
functioned_next file {f} {a} {b} {index} k l ea eb = record {
  arities = length-set index.arities f a ∙ k.arities;
  codes = length-set index.codes f b ∙ k.codes;
  function = below_more _ _
      (λ g h. let o = k.function g h in record {
        arity = get_or-set_other index.arities f g a 0 (λ z. omega arith) ∙ o.arity;
        code = get_or-set_other index.codes f g b 0 (λ z. omega arith) ∙ o.code;
      })
      (record {
        arity = get_or-set_same index.arities f a 0 (omega (arith, k.arities)) ∙ ea;
        code = get_or-set_same index.codes f b 0 (omega (arith, k.codes)) ∙ eb;
      });
}

---- Of a parsed file

module _ {file : List ℕ} {h : Header} {heads : List ℕ} (o : LaidOut file h heads) where
  -- the head of function f is all there, at a small offset, and its number is small
  pub head_there : (f : ℕ) → f < h.functions → (f < 32) × (get_or heads f 0 + 10 ≤ length (payload file)) × (length (payload file) ≤ 32256)
  head_there f l = (omega (arith, l, functions_few o.headed), (function_placed o f l).head, o.headed.parsed.verified.small)

  -- function f, with its head as it was read where the table says
  pub functioned_on : {f n at a b : ℕ} {r : HeadRecord} {index : Index} → Functioned file f index → f < h.functions
      → a ≡ place_of (get_or heads f 0 + 1) → r ≡ head_at (payload file) (get_or heads f 0) → n ≡ r.alternatives
      → at ≡ alternative_offset (get_or heads f 0) n → b ≡ place_of at
      → Functioned file (f + 1) (record { arities = set index.arities f a; codes = set index.codes f b })
  functioned_on {f} k l ea er en et eb =
      let e = head_placed o f l in
      functioned_next file k (head_there f l).0 (rw e at ea) (rw (et, en, er, e) at eb)

  pub indexed : {f : ℕ} {index : Index} → Functioned file f index → h.functions ≤ f → Indexed file index
  indexed k all = record {
    parsed = o.headed.parsed;
    function = λ g l. k.function g (omega (arith, functions_count o.headed));
  }
