-- The check pass by pass: the first refusal counts, and where none is made the program is the one that the payload says.
use mathlib.Core.Path.{◌≡◌}
use mathlib.Core.List.{List}
use Prim.Native.Nat.{ℕ}
use Rattle.rules.specs.Base.{Refusal, found, refused, passed}
use Rattle.rules.specs.Container.{verify, payload}
use Rattle.rules.specs.Program.{Program}
use Rattle.rules.specs.Records.{records_right, decode, program_in}
use Rattle.rules.specs.Declarations.{declarations_right, bounds_right}
use Rattle.rules.specs.Flow.{flow_right}
use Rattle.rules.specs.Types.{types_right}
use Rattle.rules.specs.Shapes.{sizes_right}
use Rattle.rules.specs.Check.{checked, counts_of, verdict_of}
use Rattle.rules.specs.Established.{Verified, Parsed, Declared, Flowing, Typechecked, Accepted}

pub refused_blocks : (file : List ℕ) {r : Refusal} → verify file ≡ refused r → checked file ≡ refused r
unfolding checked
refused_blocks file e = rw e

module _ {file : List ℕ} {r : Refusal} where
  pub refused_records : Verified file → records_right (payload file) ≡ refused r → checked file ≡ refused r
  unfolding checked decode
  refused_records v e = rw (v.blocks, e)

  pub refused_declarations : Parsed file → declarations_right (program_in file) ≡ refused r → checked file ≡ refused r
  unfolding checked decode
  refused_declarations p e = rw (p.verified.blocks, p.records, e)

  pub refused_bounds : Parsed file → declarations_right (program_in file) ≡ passed → bounds_right (program_in file) ≡ refused r
      → checked file ≡ refused r
  unfolding checked decode
  refused_bounds p d e = rw (p.verified.blocks, p.records, d, e)

  pub refused_flow : Declared file → flow_right (program_in file) ≡ refused r → checked file ≡ refused r
  unfolding checked decode
  refused_flow d e = let p = d.parsed in rw (p.verified.blocks, p.records, d.declarations, d.bounds, e)

  pub refused_types : Flowing file → types_right (program_in file) ≡ refused r → checked file ≡ refused r
  unfolding checked decode
  refused_types f e =
      let d = f.declared in
      let p = d.parsed in
      rw (p.verified.blocks, p.records, d.declarations, d.bounds, f.flow, e)

  pub refused_sizes : Typechecked file → sizes_right (program_in file) ≡ refused r → checked file ≡ refused r
  unfolding checked decode
  refused_sizes t e =
      let d = t.flowing.declared in
      let p = d.parsed in
      rw (p.verified.blocks, p.records, d.declarations, d.bounds, t.flowing.flow, t.types, e)

pub accepted_checked : {file : List ℕ} → Accepted file → checked file ≡ found (program_in file)
unfolding checked decode
accepted_checked a =
    let t = a.typechecked in
    let d = t.flowing.declared in
    let p = d.parsed in
    rw (p.verified.blocks, p.records, d.declarations, d.bounds, t.flowing.flow, t.types, a.sizes)

pub verdict_refused : (file : List ℕ) {r : Refusal} → checked file ≡ refused r → verdict_of file ≡ refused r
unfolding verdict_of
verdict_refused file e = rw e

pub verdict_accepted : (file : List ℕ) {s : Program} → checked file ≡ found s → verdict_of file ≡ found (counts_of s)
unfolding verdict_of
verdict_accepted file e = rw e
