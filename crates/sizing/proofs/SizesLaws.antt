-- What the walk over a function asks, of a file that has passed 1 to 8 and where its heads stand.
use mathlib.Core.List.{List}
use Prim.Native.Nat.{ℕ, ◌<◌}
use native.Mathlib.Omega.{arith}
use lib.ListN.{get_or}
use Rattle.rules.specs.declared.records.Header.{Header}
use Rattle.rules.specs.Established.{Typechecked, LaidOut}
use Rattle.program.proofs.LayoutLaws.{headed_records, functions_count, functions_few}
use Rattle.sizing.specs.Moves.{FunctionAsks}

module _ {file heads : List ℕ} {header : Header} (t : Typechecked file) (o : LaidOut file header heads)
    (bytes : (k : ℕ) → get_or file k 0 < 256) where
  pub sizes_asks : (g : ℕ) → g < header.functions → FunctionAsks file heads g
  sizes_asks g h =
      let n = functions_count o.headed in
      record {
        walking = record {
          records = record {
            verified = o.headed.parsed.verified;
            bytes = bytes;
            there = headed_records o.headed;
            few = omega (arith, functions_few o.headed);
            placed = o.placed;
          };
          typechecked = t;
        };
        there = omega arith;
      }
