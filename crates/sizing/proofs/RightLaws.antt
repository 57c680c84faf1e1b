-- What the code's forms have.
use mathlib.Core.Path.{◌≡◌}
use Prim.Native.Nat.{ℕ, ◌<◌}
use native.Mathlib.Omega.{arith}
use lib.ListN.{length, get_or}
use lib.Seq.{get_or-take, length-take-le}
use Rattle.sizing.specs.declared.forms.Form.{Form}
use Rattle.sizing.specs.Put.{no_alternative}
use Rattle.sizing.specs.Forms.{form_in, FormRight}

pub form_length : (f : Form) → FormRight f → length (form_in f) ≡ f.count
form_length f r = let l = r.long in let m = r.few in length-take-le f.count f.alternatives (omega arith)

pub form_at : (f : Form) → FormRight f → (i : ℕ) → i < f.count
    → get_or (form_in f) i no_alternative ≡ get_or f.alternatives i no_alternative
form_at f r i h = get_or-take f.count f.alternatives i no_alternative h
