-- The slot stands behind the stack.
use mathlib.Core.Path.{refl, sym, ap, ◌∙◌}
use mathlib.Core.List.{[], ◌∷◌, ◌++◌}
use Prim.Native.Nat.{ℕ}
use native.Mathlib.Omega.{arith}
use lib.ListN.{get_or, length-set}
use lib.Seq.{get_or-take}
use Rattle.sizing.specs.States.{stack_in}
use Rattle.sizing.proofs.ListLaws.{take_stored}
use Rattle.sizing.proofs.paths.load_variable.Goals as goal

pub returns : goal.returns
returns c =
    let l = c.requires.2 in
    let st = c.args.st.now in
    let x = get_or st.stack c.args.k 0 in (
      record { count = refl; splits = refl; long = length-set st.stack st.height x ∙ l },
      refl,
      take_stored st.stack (stack_in st) st.height x (omega arith) refl
          ∙ ap (λ (v : ℕ). stack_in st ++ (v ∷ [])) (sym (get_or-take st.height st.stack c.args.k 0 c.requires.1)),
    )
