-- The check pass by pass, in the words of the code's answers.
use mathlib.Core.Path.{◌≡◌, sym, ap, ◌∙◌}
use mathlib.Core.List.{List}
use Prim.Native.Nat.{ℕ}
use native.Mathlib.Omega.{arith}
use Rattle.std.specs.Prelude.{Result, Ok}
use Rattle.std.specs.Result.{IsErrAnd}
use Rattle.std.proofs.lemmas.Result.{err_from_is_err_and}
use Rattle.rules.specs.declared.answers.Reason.{Reason}
use Rattle.rules.specs.Base.{Refusal, ◌>>=◌, found, refused, passed, Check, byte_at}
use Rattle.rules.specs.Container.{verify, verified, payload}
use Rattle.rules.specs.Records.{constructor_of, constructor_at, constructor_offset, program_of, program_in, function_in}
use Rattle.rules.specs.Established.{LaidOut, Declared, Flowing, Typechecked, Accepted}
use Rattle.rules.specs.Declarations.{declarations_right, bounds_right}
use Rattle.rules.specs.Flow.{flow_right}
use Rattle.rules.specs.Types.{types_right}
use Rattle.rules.specs.Shapes.{sizes_right}
use Rattle.rules.specs.Check.{checked, counts_of}
use Rattle.rules.specs.Answers.{refusal_of}
use Rattle.rules.proofs.NumberedLaws.{numbered_length}
use Rattle.rules.proofs.CheckLaws.{refused_blocks, accepted_checked, verdict_refused, verdict_accepted}
use Rattle.program.specs.declared.Layout.{Layout}
use Rattle.program.proofs.LayoutLaws.{types_count, constructors_count, functions_count}
use Rattle.verifier.specs.Examined.{counts_in, ExaminedRight}

-- blocks that are not verified refuse the file
pub not_verified : (file : List ℕ) {q : Refusal} → verified file ≡ refused q → checked file ≡ refused q
unfolding verified
not_verified file {q} e = refused_blocks file (one (verify file) e)
  where
    one : (t : Check) → (t >>= (λ _. found (payload file))) ≡ refused q → t ≡ refused q
    one (found u) w = let z : ◌≡◌ {A = ℕ} 0 1 = cc in absurd (omega arith)
    one (refused x) w = cc

---- What has passed, pass by pass

module _ {file : List ℕ} {layout : Layout} (l : LaidOut file layout.header layout.heads)
    (declarations : passed ≡ declarations_right (program_in file)) (bounds : passed ≡ bounds_right (program_in file)) where
  pub declared_passed : Declared file
  declared_passed = record { parsed = l.headed.parsed; declarations = sym declarations; bounds = sym bounds }

  module _ (flow : passed ≡ flow_right (program_in file)) where
    pub flow_passed : Flowing file
    flow_passed = record { declared = declared_passed; flow = sym flow }

    module _ (types : passed ≡ types_right (program_in file)) where
      pub types_passed : Typechecked file
      types_passed = record { flowing = flow_passed; types = sym types }

      pub sizes_passed : passed ≡ sizes_right (program_in file) → Accepted file
      sizes_passed sizes = record { typechecked = types_passed; sizes = sym sizes }

---- The verdict

-- what the exit of a `?` returns
pub refused_examined : {file : List ℕ} {r : Result Layout Reason} (e : Reason) → IsErrAnd r (λ e'. e' ≡ e)
    → checked file ≡ refused (refusal_of e) → ExaminedRight file r
refused_examined {file} {r} e h w =
    let p = err_from_is_err_and r h in
    rw (p.1, p.2) (record { says = sym (verdict_refused file w); refuses = w; accepted = tt })

pub accepted_examined : {file : List ℕ} {layout : Layout} → LaidOut file layout.header layout.heads → Accepted file
    → ExaminedRight file (Ok layout)
unfolding program_of
accepted_examined {file} {layout} l a = record {
  says = ap found counts ∙ sym (verdict_accepted file (accepted_checked a));
  refuses = tt;
  accepted = (a, l);
}
  where
    counts : counts_in layout.header ≡ counts_of (program_in file)
    counts =
        let t = types_count l.headed in
        let k =
        constructors_count l.headed
        ∙ sym (numbered_length (λ c. constructor_of (constructor_at (payload file) (constructor_offset c))) (byte_at (payload file) 2) 0) in
        let f = functions_count l.headed ∙ sym (numbered_length (function_in file) (byte_at (payload file) 3) 0) in
        λ i. record { types = t i; constructors = k i; functions = f i }
